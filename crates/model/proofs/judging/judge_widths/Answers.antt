use Rattle.std.proofs.Common.{Err, rules, tests, ap, ◌∙◌}
use Rattle.std.proofs.lemmas.Iterator.{YieldsList-from_slice}
use Rattle.std.proofs.lemmas.Iterator.Search.{position_from_yields_List}
use Rattle.value.specs.Rows.{no_width}
use Rattle.model.specs.Judge.{width_refused}
use Rattle.model.proofs.judging.judge_widths.Goals as goal

pub returns-in-None : goal.returns-in-None
returns-in-None c =
    ap width_refused (position_from_yields_List no_width _ _ _ c.in-None.ensures.ran (YieldsList-from_slice c.args.widths.now cc) (λ x b q k. search (rules, tests)))

pub returns-in-Some : goal.returns-in-Some
returns-in-Some c =
    ap Err c.refusal.ensures
    ∙ ap width_refused (position_from_yields_List no_width _ _ _ c.in-Some.ensures.ran (YieldsList-from_slice c.args.widths.now cc) (λ x b q k. search (rules, tests)))
