-- The row of what a call answered.
use Rattle.std.specs.Prelude.{Ok, Err, Result}
use Rattle.answer.specs.declared.faults.Fault.{Fault}
use Rattle.value.specs.declared.values.Value.{Value}
use Rattle.value.specs.Rows.{Outcome}

abbrev pub outcome : Result Value Fault → Outcome
outcome (Ok v) = Ok v.row
outcome (Err e) = Err e
