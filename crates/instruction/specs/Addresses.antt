-- The order of addresses, and where an instruction stands.
use Rattle.std.specs.Prelude.{ℕ, Bool, true, ◌&&◌, ◌||◌, List, [], ◌∷◌, Some, None, Option, ◌==◌, nat_lt, find, position}
use Rattle.std.specs.List.{list_any}
use Rattle.answer.specs.declared.standings.Address.{Address}
use Rattle.instruction.specs.declared.tables.Instruction.{Instruction}

-- by place, and within a place by number
abbrev pub before : Address → Address → Bool
before a b = nat_lt a.place b.place || (a.place == b.place && nat_lt a.number b.number)

abbrev pub same_address : Address → Address → Bool
same_address a b = a.place == b.place && a.number == b.number

-- an address above the one before, where there is one
abbrev pub above : Option Address → Address → Bool
above None a = true
above (Some p) a = before p a

-- every address is above the one before
abbrev pub rising_from : Option Address → List Instruction → Bool
rising_from p [] = true
rising_from p (x ∷ xs) = above p x.address && rising_from (Some x.address) xs

abbrev pub rising : List Instruction → Bool
rising xs = rising_from None xs

-- some instruction stands at the address
abbrev pub known : List Instruction → Address → Bool
known xs a = list_any (λ x. same_address x.address a) xs

-- the index of the first instruction at the address
abbrev pub found : List Instruction → Address → Option ℕ
found xs a = position (λ x. same_address x.address a) xs

-- the first instruction at the address
abbrev pub standing_at : List Instruction → Address → Option Instruction
standing_at xs a = find (λ x. same_address x.address a) xs
