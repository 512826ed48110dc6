use Rattle.std.proofs.Common.{sym, ◌∙◌}
use Rattle.model.proofs.Depth.{deep_enough}
use Rattle.model.proofs.models.check.Goals as goal

pub returns-clause-deep : goal.returns-clause-deep
returns-clause-deep c =
    let t = c.args.tables in
    deep_enough t.widths.now t.nodes.now t.instructions.now t.entry _ (sym c.judge.ensures ∙ c.in_ok-depth.was)
