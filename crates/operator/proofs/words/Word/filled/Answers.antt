use Rattle.std.proofs.Common.{◌+◌, ◌-◌, ◌%◌, ◌^◌, sym, ap, ◌∙◌, arith}
use Rattle.std.proofs.lemmas.Nat.{one_shl, pow_below}
use Rattle.operator.specs.Words.{wrap}
use Rattle.operator.proofs.Widths.{cut_difference, meant_negative}
use Rattle.operator.proofs.words.Word.filled.Goals as goal

pub returns-then-is_negative : goal.returns-then-is_negative
returns-then-is_negative c k h =
    let n = c.args.self.number in
    let w = c.args.self.width in
    let b = pow_below w 64 c.requires in
    ap (λ x. (n + (2 ^ 64 - x)) % 2 ^ 64 % 2 ^ k) (one_shl w 64 c.requires)
    ∙ cut_difference n (2 ^ w) k h (omega arith)
    ∙ ap (wrap k) (sym (meant_negative c.args.reading w n (cc)))
