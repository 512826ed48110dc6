-- In a table whose addresses rise, each is before every later one.
use Rattle.std.proofs.Common.{◌≡◌, ℕ, zero, suc, ◌<◌, true, List, [], ◌∷◌, length, get_or, Some, Option, arith}
use Rattle.std.proofs.lemmas.Bool.{and_parts}
use Rattle.std.proofs.lemmas.Bool.Decides.{nat_tests}
use Rattle.answer.specs.declared.standings.Address.{Address}
use Rattle.instruction.specs.declared.tables.Instruction.{Instruction}
use Rattle.instruction.specs.Addresses.{before, above, rising_from}

before_trans : (a b c : Address) → before a b ≡ true → before b c ≡ true → before a c ≡ true
before_trans a b c h k = grind (arith, nat_tests)

rising_rest : (p : Option Address) (x : Instruction) (xs : List Instruction) → rising_from p (x ∷ xs) ≡ true → rising_from (Some x.address) xs ≡ true
rising_rest p x xs h = (and_parts (above p x.address) (rising_from (Some x.address) xs) h).1

-- an address is before all that rise from it
rises_from : (a : Address) (xs : List Instruction) (j : ℕ) (d : Instruction) → rising_from (Some a) xs ≡ true → j < length xs → before a (get_or xs j d).address ≡ true
rises_from a [] j d h lt = absurd (omega arith)
rises_from a (x ∷ xs) zero d h lt = (and_parts (before a x.address) _ h).0
rises_from a (x ∷ xs) (suc j) d h lt =
    before_trans a x.address _ (and_parts (before a x.address) _ h).0 (rises_from x.address xs j d (rising_rest (Some a) x xs h) (omega arith))

pub rises : (p : Option Address) (xs : List Instruction) (i j : ℕ) (d e : Instruction) → rising_from p xs ≡ true → i < j → j < length xs → before (get_or xs i d).address (get_or xs j e).address ≡ true
rises p [] i j d e h l lt = absurd (omega arith)
rises p (x ∷ xs) i zero d e h l lt = absurd (omega arith)
rises p (x ∷ xs) zero (suc j) d e h l lt = rises_from x.address xs j e (rising_rest p x xs h) (omega arith)
rises p (x ∷ xs) (suc i) (suc j) d e h l lt = rises (Some x.address) xs i j d e (rising_rest p x xs h) (omega arith) (omega arith)
