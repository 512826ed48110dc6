-- The items of the arithmetics of values have the widths that the rules give.
use Rattle.std.proofs.Common.{◌≡◌, ℕ, ◌+◌, ◌-◌, Bool, true, false, cond, ◌&&◌, ltb, leb, Ok, Err, refl, arith}
use Rattle.std.proofs.lemmas.Bool.Decides.{nat_tests}
use Rattle.answer.specs.declared.faults.Fault.TheVariants.{NoExactValue}
use Rattle.value.specs.Rows.{Outcome, sound, width}
use Rattle.operator.specs.Bits.{extended, restricted}
use Rattle.operator.specs.declared.ops.UnaryOp.TheVariants.{Not, Extend, Restrict}
use Rattle.expression.specs.Widths.{Fit, by_rule}
use Rattle.evaluation.specs.Values.{unary_row, UnaryFits}

-- a row, where there is one, has the width w
abbrev Wide : ℕ → Outcome → Type 0
Wide w (Ok x) = width x ≡ w
Wide w (Err f) = Unit {0}

-- by a rule that holds, a value's row of the stated width
fit_rule : (holds : Bool) (w : ℕ) (o : Outcome) → (holds ≡ true → Wide w o) → Fit width (by_rule holds w) o
fit_rule true w (Ok x) h = h refl
fit_rule true w (Err f) h = tt
fit_rule false w (Ok x) h = tt
fit_rule false w (Err f) h = tt

-- of a value, a row of the width w
of_sound : (holds : Bool) (w : ℕ) (o : Outcome) → (holds ≡ true → Wide w o) → Wide w (cond holds o (Err NoExactValue))
of_sound true w o h = h refl
of_sound false w o h = tt

pub wide_unary : UnaryFits
wide_unary Not x = grind (arith, nat_tests)
wide_unary (Extend reading k) x = fit_rule (ltb (width x) k && leb k 64) k (unary_row (Extend reading k) x) (λ h. of_sound (sound x) k (extended reading x k) (λ s. grind (arith, nat_tests)))
wide_unary (Restrict i j) x = fit_rule (leb i j && ltb j (width x)) (j - i + 1) (unary_row (Restrict i j) x) (λ h. of_sound (sound x) (j - i + 1) (restricted x i j) (λ s. grind (arith, nat_tests)))
