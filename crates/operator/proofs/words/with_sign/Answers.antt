use Rattle.std.proofs.Common.{◌≡◌, ◌+◌, ◌-◌, ◌%◌, ◌^◌, cond, pos, neg_ℤ, sym, ap, ◌∙◌, arith}
use Rattle.operator.specs.Words.{wrap}
use Rattle.operator.proofs.Widths.{cut_negative}
use Rattle.operator.proofs.words.with_sign.Goals as goal

pub returns-then-negative : goal.returns-then-negative
returns-then-negative c k h =
    let n = c.args.n in
    let e : (0 + (2 ^ 64 - n)) % 2 ^ 64 ≡ c.wrapping_neg.result = omega arith in
    ap (λ x. x % 2 ^ k) (sym e)
    ∙ cut_negative n k h (omega arith)
    ∙ ap (λ b. wrap k (cond b (neg_ℤ (pos n)) (pos n))) (sym c.if-negative.true)
