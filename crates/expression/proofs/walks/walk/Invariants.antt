use Rattle.std.proofs.Common.{◌≡◌, ◌+◌, [], drop}
use Rattle.expression.specs.Walk.{runs}
use Rattle.expression.proofs.walks.walk.Given as goal

abbrev pub invariant-loop-i : goal.invariant-loop-i
invariant-loop-i g l =
    let a = g.A.Arithmetic.gives l.arithmetic in
    runs a (l.span.first + l.i) (drop l.i l.part) l.held ≡ runs a l.span.first l.part []
