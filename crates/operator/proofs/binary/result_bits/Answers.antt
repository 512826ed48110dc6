use Rattle.std.proofs.Common.{◌*◌, arith}
use Rattle.operator.proofs.Widths.{cut, cut_difference, at_op}
use Rattle.operator.proofs.binary.result_bits.Goals as goal

pub returns-in-Sub : goal.returns-in-Sub
returns-in-Sub c = at_op _ _ _ _ _ _ c.in-Sub.is (cut_difference c.args.operands.left.number c.args.operands.right.number c.args.operands.left.width c.args.operands.left.fits (omega arith))

pub returns-in-Mul : goal.returns-in-Mul
returns-in-Mul c = at_op _ _ _ _ _ _ c.in-Mul.is (cut (c.args.operands.left.number * c.args.operands.right.number) c.args.operands.left.width c.args.operands.left.fits)
