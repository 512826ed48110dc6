use Rattle.std.proofs.Common.{◌≡◌, ◌≤◌, max, drop}
use Rattle.expression.specs.Heights.{peak}
use Rattle.expression.proofs.heights.most_held.Given as goal

abbrev pub invariant-loop-node : goal.invariant-loop-node
invariant-loop-node l = (l.held ≤ l.node-index) × (l.held ≤ l.most) × (max l.most (peak l.held (drop l.node-index l.nodes)) ≡ peak 0 l.nodes)
