use Rattle.std.proofs.lemmas.Option.{MatchOption-at_some}
use Rattle.notation.proofs.reading.try_one.Goals as goal

pub returns : goal.returns
returns c = (
  c.in_ok-v.v,
  MatchOption-at_some _ _ _ c.in_ok-v.ensures.ok_part c.value.ensures,
  MatchOption-at_some _ _ _ c.in_ok-case.ensures.ok_part c.case_of_one.ensures,
  MatchOption-at_some _ _ _ c.in_ok-expected.ensures.ok_part c.result.ensures,
)
