use Rattle.std.proofs.Common.{unwrap_or, rules, ap, ◌∙◌}
use Rattle.std.specs.Ordering.{nat_cmp, max_by_ordering}
use Rattle.std.proofs.lemmas.Iterator.{YieldsList-from_slice, YieldsList-from_map}
use Rattle.std.proofs.lemmas.Iterator.Consumers.{YieldsList-at, reduce_from_yields_List}
use Rattle.std.proofs.lemmas.List.Folds.{max_of_map}
use Rattle.instruction.specs.declared.tables.Instruction.{Instruction}
use Rattle.model.specs.Judge.{action_peak}
use Rattle.model.proofs.depths.deepest_of.Goals as goal

pub returns : goal.returns
returns c =
    let peak = λ (x : Instruction). action_peak c.args.nodes.now x.action in
    c.unwrap_or.ensures
    ∙ ap (λ r. unwrap_or r 0) (reduce_from_yields_List (λ p z. max_by_ordering (nat_cmp p z) p z) _ _ c.max.ensures.ran (YieldsList-from_map _ peak (YieldsList-at c.map.ensures.source (YieldsList-from_slice c.args.instructions.now cc)) c.map.ensures.closure (λ x r q k. search rules)))
    ∙ max_of_map peak c.args.instructions.now
