use Rattle.std.proofs.Common.{arith}
use Rattle.value.proofs.Masks.{mask_is}
use Rattle.operator.proofs.Widths.{magnitude_negative}
use Rattle.operator.proofs.words.Word.magnitude.Goals as goal

pub overflow_sub-result-then-is_negative : goal.overflow_sub-result-then-is_negative
overflow_sub-result-then-is_negative c = omega (arith, mask_is c.args.self.width c.args.self.fits)

pub returns-then-is_negative : goal.returns-then-is_negative
returns-then-is_negative c =
    omega (
      arith,
      mask_is c.args.self.width c.args.self.fits,
      magnitude_negative c.args.reading c.args.self.width c.args.self.number c.args.self.below (cc),
    )
