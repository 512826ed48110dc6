use Rattle.std.proofs.Common.{sym, arith}
use Rattle.instruction.proofs.Bisection.{upper, lower}
use Rattle.instruction.proofs.lookup.find.Goals as goal

pub loop-low-preserved-then-precedes : goal.loop-low-preserved-then-precedes
loop-low-preserved-then-precedes c =
    (omega arith, upper c.args.instructions.now c.args.address _ _ _ _ (omega arith) (sym c.if-precedes.ensures) c.loop-low.invariant.1)

pub loop-low-preserved : goal.loop-low-preserved
loop-low-preserved c = (
  omega arith,
  lower c.args.instructions.now c.args.address _ _ _ _ (omega arith) (sym c.if-precedes.ensures) (sym c.if-eq.ensures) c.loop-low.invariant.1,
)
