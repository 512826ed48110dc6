-- What a search by halves keeps, and what it finds.
use Rattle.std.proofs.Common.{◌≡◌, ℕ, ◌+◌, ◌<◌, ◌≤◌, Bool, true, false, List, length, get_or, Some, None, arith}
use Rattle.std.specs.List.{position_or_len}
use Rattle.std.proofs.lemmas.List.{get_or_default}
use Rattle.std.proofs.lemmas.List.Sums.{position_or_len_is}
use Rattle.std.proofs.lemmas.Bool.{cases_order}
use Rattle.std.proofs.lemmas.Bool.Decides.{nat_tests}
use Rattle.answer.specs.declared.standings.Address.{Address}
use Rattle.instruction.specs.declared.tables.Action.TheVariants.{Stop}
use Rattle.instruction.specs.declared.tables.Instruction.{Instruction}
use Rattle.instruction.specs.Addresses.{before, same_address, rising, found}
use Rattle.instruction.proofs.Risings.{rises}

-- where a table rises, the address stands nowhere but from low on and below high
abbrev pub Between : List Instruction → Address → ℕ → ℕ → Type 0
Between xs a low high =
    rising xs ≡ true → (k : ℕ) (d : Instruction) → k < length xs → same_address (get_or xs k d).address a ≡ true → (low ≤ k) × (k < high)

pub upper : (xs : List Instruction) (a : Address) (low high m : ℕ) (e : Instruction) → m < length xs → before (get_or xs m e).address a ≡ true → Between xs a low high → Between xs a (m + 1) high
upper xs a low high m e lt b f h k d l s =
    (grind (arith, nat_tests, cases_order k m, rises None xs k m d e h, get_or_default xs m d e lt), (f h k d l s).1)

pub lower : (xs : List Instruction) (a : Address) (low high m : ℕ) (e : Instruction) → m < length xs → before (get_or xs m e).address a ≡ false → same_address (get_or xs m e).address a ≡ false → Between xs a low high → Between xs a low m
lower xs a low high m e lt b n f h k d l s =
    ((f h k d l s).0, grind (arith, nat_tests, cases_order k m, rises None xs m k e d h, get_or_default xs m d e lt))

module _ (xs : List Instruction) (a : Address) where
  abbrev here : Instruction → Bool
  here x = same_address x.address a

  -- what a read past the end has
  abbrev past : Instruction
  past = record { address = a; action = Stop }

  pub found_none : ((k : ℕ) (d : Instruction) → k < length xs → same_address (get_or xs k d).address a ≡ true → ⊥) → found xs a ≡ None
  found_none h =
      let none : position_or_len here xs ≡ length xs =
      position_or_len_is here xs (length xs) past (omega arith)
      (λ k below. grind (arith, nat_tests, h k past below))
      (λ lt. absurd (omega arith)) in
      grind (arith, nat_tests)

  -- where a table rises, the first instruction at an address is the only one
  pub found_at : (m : ℕ) (d : Instruction) → rising xs ≡ true → m < length xs → same_address (get_or xs m d).address a ≡ true → found xs a ≡ Some m
  found_at m d up lt s =
      let first : position_or_len here xs ≡ m =
      position_or_len_is here xs m past (omega arith)
      (λ k below. grind (arith, nat_tests, rises None xs k m past past up, get_or_default xs m d past lt))
      (λ _. grind (arith, nat_tests, get_or_default xs m d past lt)) in
      grind (arith, nat_tests)
