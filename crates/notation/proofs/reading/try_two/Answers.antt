use Rattle.std.proofs.lemmas.Option.{MatchOption-at_some}
use Rattle.notation.proofs.reading.try_two.Goals as goal

pub returns : goal.returns
returns c = (
  c.in_ok-left.left,
  c.in_ok-right.right,
  MatchOption-at_some _ _ _ c.in_ok-left.ensures.ok_part c.value.ensures,
  MatchOption-at_some _ _ _ c.in_ok-right.ensures.ok_part c.value-2.ensures,
  MatchOption-at_some _ _ _ c.in_ok-case.ensures.ok_part c.case_of_two.ensures,
  MatchOption-at_some _ _ _ c.in_ok-expected.ensures.ok_part c.result.ensures,
)
