-- The magnitude of a number, and when it reaches a setting.
use Rattle.std.proofs.Common.{◌≡◌, suc, ◌+◌, ◌-◌, ◌%◌, ◌^◌, ◌≤◌, Bool, true, false, not, ltb, [], pos, negsuc, ◌-ℤ◌, nat_abs, Ok, Result, sym, refl, ap, ◌∙◌, inl, inr, mod-eq_of_lt, arith, pow_pos}
use lib.Signed.{lt_z}
use Rattle.std.proofs.lemmas.Bool.{cases_lt}
use Rattle.std.proofs.lemmas.Bool.Decides.{nat_tests}
use Rattle.answer.specs.declared.faults.Fault.{Fault}
use Rattle.answer.specs.First.{◌gives◌else◌, and_then}
use Rattle.value.specs.declared.rows.Region.TheVariants.{Cst}
use Rattle.value.specs.declared.rows.Row.{Row}
use Rattle.value.specs.Rows.{Outcome, width, plain}
use Rattle.operator.specs.declared.ops.BinaryOp.TheVariants.{Sub, Compare}
use Rattle.operator.specs.declared.ops.Comparison.TheVariants.{Ordered}
use Rattle.operator.specs.declared.ops.Reading.TheVariants.{Unsigned, Signed}
use Rattle.operator.specs.declared.ops.Order.TheVariants.{Less, GreaterOrEqual}
use Rattle.operator.specs.Words.{signed, wrap}
use Rattle.operator.specs.Rules.{applied, by_rules, within, bit}
use Rattle.law.specs.Pointers.{Number}
use Rattle.law.specs.Orders.{Comparable}
use Rattle.law.proofs.Facts.{is_cst, rowwise, in_cst}
use Rattle.law.proofs.Offsets.{wrap_down}
use Rattle.law.proofs.Quotes.{read_clear, read_set}
use Rattle.law.proofs.Totals.{compared}
use Rattle.pickup.specs.Samples.{decision, zero_of, is_negative, turned, magnitude_of, Measures, Reaches}

-- a bit decides by itself
bit_decides : (t : Bool) → decision (bit t) ≡ Ok t
bit_decides true = refl
bit_decides false = refl

comparable : (a b : Row) → Number a → Number b → width a ≡ width b → Comparable a b
comparable a b h k e = ((h.0, h.2, grind (arith, nat_tests)), (k.0, k.2, grind (arith, nat_tests)), e, grind (arith, nat_tests))

pub reaches : Reaches
reaches m s h k e =
    ap (λ o. and_then o decision) (compared [] (Ordered Unsigned GreaterOrEqual) m s (comparable m s h k e))
    ∙ bit_decides (not (ltb m.number s.number))
    ∙ grind (arith, nat_tests)

module _ (r : Row) (h : Number r) where
  at_most : width r ≤ 64
  at_most = let f = in_cst r h.0 h.1 in omega arith

  number_is : r ≡ plain Cst (width r) r.number
  number_is =
      let f = in_cst r h.0 h.1 in
      rowwise r (plain Cst (width r) r.number) refl (is_cst r.region h.1) h.2 f.starts (omega arith)

  zero_is : zero_of r ≡ Ok (plain Cst (width r) 0)
  zero_is =
      let l = at_most in
      let z : 0 % 2 ^ width r ≡ 0 = mod-eq_of_lt (pow_pos (width r)) in
      let e : zero_of r ≡ Ok (plain Cst (width r) (0 % 2 ^ width r)) = grind (arith, nat_tests) in
      e ∙ ap (λ n. Ok (plain Cst (width r) n)) z

  zero_number : Number (plain Cst (width r) 0)
  zero_number = let l = at_most in let p = pow_pos (width r - 1 + 1) in (grind (arith, nat_tests), refl, refl)

  negative_is : (t : Bool) → lt_z (signed (width r) r.number) (pos 0) ≡ t → is_negative r ≡ Ok t
  negative_is t e =
      ap (λ o. and_then (and_then o (λ zero. applied [] (Compare (Ordered Signed Less)) r zero)) decision) zero_is
      ∙ ap (λ o. and_then o decision) (compared [] (Ordered Signed Less) r (plain Cst (width r) 0) (comparable r (plain Cst (width r) 0) h zero_number (omega arith)))
      ∙ ap (λ x. decision (bit (lt_z (signed (width r) r.number) x))) (read_clear (width r) 0 (pow_pos (width r - 1)))
      ∙ bit_decides (lt_z (signed (width r) r.number) (pos 0))
      ∙ ap Ok e

  turned_rules : by_rules Sub (plain Cst (width r) 0) r ≡ Ok (plain Cst (width r) (wrap (width r) (pos 0 -ℤ pos r.number)))
  turned_rules = let e : width r - 1 - 0 + 1 ≡ width r = omega arith in grind (arith, nat_tests)

  turned_is : turned r ≡ Ok (plain Cst (width r) (wrap (width r) (pos 0 -ℤ pos r.number)))
  turned_is = ap (λ o. and_then o (λ zero. applied [] Sub zero r)) zero_is ∙ ap (within []) turned_rules

  abbrev magnitude_by : Result Bool Fault → Outcome
  magnitude_by o = and_then o (λ negative. negative gives turned r else Ok r)

  measured : magnitude_of r ≡ Ok (plain Cst (width r) (nat_abs (signed (width r) r.number)))
  measured =
      let w = width r in
      let n = r.number in
      let z = pow_pos (w - 1) in
      elim (cases_lt n (2 ^ (w - 1))) [
        | inl a ↦
            let e : signed w n ≡ pos n = read_clear w n a in
            ap magnitude_by (negative_is false (ap (λ x. lt_z x (pos 0)) e ∙ grind (arith, nat_tests)))
            ∙ ap Ok number_is
            ∙ ap (λ x. Ok (plain Cst w (nat_abs x))) (sym e)
        | inr a ↦
            let l = (in_cst r h.0 h.1).fits in
            let b = 2 ^ w - suc n in
            let e : signed w n ≡ negsuc b = read_set w n b a (omega arith) in
            let f : 2 ^ w + 0 - n ≡ suc b = omega arith in
            ap magnitude_by (negative_is true (ap (λ x. lt_z x (pos 0)) e))
            ∙ turned_is
            ∙ ap (λ x. Ok (plain Cst w x)) (wrap_down w 0 n (omega arith) (omega arith) ∙ f)
            ∙ ap (λ x. Ok (plain Cst w (nat_abs x))) (sym e)
      ]

pub measures : Measures
measures r h = measured r h
