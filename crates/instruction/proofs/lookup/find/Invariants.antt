use Rattle.std.proofs.Common.{◌-◌, ◌≤◌, length}
use Rattle.instruction.proofs.Bisection.{Between}
use Rattle.instruction.proofs.lookup.find.Given as goal

abbrev pub invariant-loop-low : goal.invariant-loop-low
invariant-loop-low l = (l.high ≤ length l.instructions) × Between l.instructions l.address l.low l.high

abbrev pub decreases-loop-low : goal.decreases-loop-low
decreases-loop-low l = l.high - l.low
