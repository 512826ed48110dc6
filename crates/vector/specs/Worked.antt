-- What a case answers.
use Rattle.std.specs.Prelude.{List}
use Rattle.value.specs.declared.rows.RegionRecord.{RegionRecord}
use Rattle.value.specs.Rows.{Outcome}
use Rattle.operator.specs.Rules.{applied}
use Rattle.operator.specs.Bits.{changed, concatenated}
use Rattle.vector.specs.declared.working.Case.{Case}
use Rattle.vector.specs.declared.working.Case.TheVariants.{Binary, Concatenate, Unary}

-- by the rules of its operator, with the malloc regions of the run
abbrev pub worked : List RegionRecord → Case → Outcome
worked rs (Binary op a b) = applied rs op a.row b.row
worked rs (Concatenate a b) = concatenated a.row b.row
worked rs (Unary op a) = changed op a.row
