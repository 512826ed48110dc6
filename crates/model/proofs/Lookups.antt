-- What is found in a passed model.
use Rattle.std.proofs.Common.{◌≡◌, ℕ, true, List, length, is_some, inl, inr, arith}
use Rattle.std.specs.List.{position_or_len}
use Rattle.std.proofs.lemmas.List.Sums.{passes_at_first, fails_before_first}
use Rattle.std.proofs.lemmas.List.Folds.{list_any_at, list_any_none}
use Rattle.std.proofs.lemmas.Bool.{cases_lt}
use Rattle.std.proofs.lemmas.Bool.Decides.{nat_tests}
use Rattle.answer.specs.declared.standings.Address.{Address}
use Rattle.expression.specs.declared.nodes.Node.{Node}
use Rattle.instruction.specs.declared.tables.Action.TheVariants.{Stop}
use Rattle.instruction.specs.declared.tables.Instruction.{Instruction}
use Rattle.instruction.specs.Addresses.{same_address, rising, known, found}
use Rattle.model.specs.Judge.{passes}
use Rattle.model.proofs.Exactly.{decides_rising, exact}

pub rising_passed : (ws : List ℕ) (ns : List Node) (is : List Instruction) (e : Address) → passes ws ns is e ≡ true → rising is ≡ true
rising_passed ws ns is e h = (decides_rising is).1 ((exact ws ns is e).0 h).rises

-- an address is known where its index is found
pub known_found : (xs : List Instruction) (a : Address) → is_some (found xs a) ≡ known xs a
known_found xs a =
    let here = λ (x : Instruction). same_address x.address a in
    let past : Instruction = record { address = a; action = Stop } in
    elim (cases_lt (position_or_len here xs) (length xs)) [
      | inl lt ↦ grind (arith, nat_tests, list_any_at here xs (position_or_len here xs) past lt (passes_at_first here xs past lt))
      | inr le ↦ grind (arith, nat_tests, list_any_none here xs (λ k d lt. fails_before_first here xs k d (omega arith)))
    ]
