-- What is wrong with an instruction, and where.
use Rattle.std.specs.Prelude.{ℕ, Some, None, Ok, Err, Option, Result}
use Rattle.answer.specs.declared.refusals.Reason.{Reason}
use Rattle.answer.specs.declared.refusals.Reason.TheVariants.{Unresolved, ItemCount, RuleBroken}
use Rattle.answer.specs.declared.refusals.Place.{Place}
use Rattle.answer.specs.declared.refusals.Place.TheVariants.{Instruction}
use Rattle.answer.specs.declared.refusals.Refusal.{Refusal}
use Rattle.expression.specs.declared.stops.Cause.{Cause}
use Rattle.expression.specs.declared.stops.Cause.TheVariants.{Outside, Missing, Full, NotOne, Fault}
use Rattle.expression.specs.declared.stops.Defect.{Defect}
use Rattle.expression.specs.declared.stops.Defect.TheVariants as defects
use Rattle.expression.specs.declared.stops.Stopped.{Stopped}
use Rattle.model.specs.declared.objections.Objection.{Objection}

abbrev pub defect_reason : Defect → Reason
defect_reason defects.Unresolved = Unresolved
defect_reason defects.RuleBroken = RuleBroken

-- a span that is not there is unresolved; an item missing, too many held, or not one left is a matter of items
abbrev pub reason_of : Cause Defect → Reason
reason_of Outside = Unresolved
reason_of Missing = ItemCount
reason_of Full = ItemCount
reason_of NotOne = ItemCount
reason_of (Fault layer d) = defect_reason d

-- what is wrong with an instruction, and at which node, where one is concerned
abbrev pub objection : Reason → Option ℕ → Objection
objection reason node = record { reason = reason; node = node }

abbrev pub objection_of : Stopped Defect → Objection
objection_of s = objection (reason_of s.cause) s.node

abbrev pub refusal : Reason → Option Place → Option ℕ → Refusal
refusal reason place node = record { reason = reason; place = place; node = node }

-- a rule that concerns no node
abbrev pub at_no_node : Reason → Objection
at_no_node reason = objection reason None

-- an objection with the place of its instruction, counted from 1
abbrev pub placed : ℕ → Objection → Refusal
placed i o = refusal o.reason (Some (Instruction i)) o.node

abbrev pub at_instruction : ℕ → Result (Unit {0}) Objection → Result (Unit {0}) Refusal
at_instruction i (Ok u) = Ok u
at_instruction i (Err o) = Err (placed i o)
