use Rattle.std.proofs.Common.{◌≡◌, drop, None}
use Rattle.model.specs.Judge.{judged}
use Rattle.model.proofs.judging.judge_instructions.Given as goal

abbrev pub invariant-loop-i : goal.invariant-loop-i
invariant-loop-i l =
    let t = l.tables in
    judged t.widths.now t.nodes.now t.instructions.now l.i-counter l.previous (drop l.i-counter t.instructions.now) ≡ judged t.widths.now t.nodes.now t.instructions.now 0 None t.instructions.now
