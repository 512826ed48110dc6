-- The number of each answer, case by case.
use Rattle.std.specs.Prelude.{◌≡◌, ℕ, Some, None, Option, Result, MatchResult, ◌≢◌}
use Rattle.answer.specs.declared.faults.Fault.{Fault}
use Rattle.answer.specs.declared.faults.Fault.TheVariants.{UndefinedUsed, NoExactValue, ZeroDivisor, OutsideRegion, RegionFreed, ReadDenied, WriteDenied, ExecutionDenied, NoInstruction, AssertFalse, InvalidFree, ChoicesSpent, NoRoom}
use Rattle.answer.specs.declared.faults.NoSuchFault.{NoSuchFault}
use Rattle.answer.specs.declared.faults.Layer.{Layer}
use Rattle.answer.specs.declared.faults.Layer.TheVariants.{Arithmetic, Memory, Control}
use Rattle.answer.specs.declared.refusals.Reason.{Reason}
use Rattle.answer.specs.declared.refusals.Reason.TheVariants.{TableSize, DeclaredWidth, AddressOrder, Unresolved, ItemCount, RuleBroken, BadTarget, BadPresets, TargetDenied, NoSuchVariable, NotLoaded, AlreadyLoaded, OtherModel, Halted, PeekDenied, PeekOutside}
use Rattle.answer.specs.declared.refusals.Place.{Place}
use Rattle.answer.specs.declared.refusals.Place.TheVariants.{Instruction, Condition, Variable, Preset}
use Rattle.answer.specs.declared.standings.Standing.{Standing}
use Rattle.answer.specs.declared.standings.Standing.TheVariants.{Running, Ended, Blocked, Failed}

-- faults of a run
abbrev pub fault_number : Fault → ℕ
fault_number UndefinedUsed = 1
fault_number NoExactValue = 2
fault_number ZeroDivisor = 3
fault_number OutsideRegion = 4
fault_number RegionFreed = 5
fault_number ReadDenied = 6
fault_number WriteDenied = 7
fault_number ExecutionDenied = 8
fault_number NoInstruction = 9
fault_number AssertFalse = 10
fault_number InvalidFree = 11
fault_number ChoicesSpent = 12
fault_number NoRoom = 13

-- the fault of a number, or a number that no fault has
abbrev pub FaultOf : ℕ → Result Fault NoSuchFault → Type 0
FaultOf n r = MatchResult r (λ f. fault_number f ≡ n) (λ e. (e.0 ≡ n) × ((f : Fault) → fault_number f ≢ n))

-- refusals of what a call is handed, and from 11 on of the state that it finds
abbrev pub reason_number : Reason → ℕ
reason_number TableSize = 1
reason_number DeclaredWidth = 2
reason_number AddressOrder = 3
reason_number Unresolved = 4
reason_number ItemCount = 5
reason_number RuleBroken = 6
reason_number BadTarget = 7
reason_number BadPresets = 8
reason_number TargetDenied = 9
reason_number NoSuchVariable = 10
reason_number NotLoaded = 11
reason_number AlreadyLoaded = 12
reason_number OtherModel = 13
reason_number Halted = 14
reason_number PeekDenied = 15
reason_number PeekOutside = 16

-- where a refusal lies: each kind counts from 1
abbrev pub place_number : Place → ℕ
place_number (Instruction n) = n
place_number (Condition n) = n
place_number (Variable n) = n
place_number (Preset n) = n

-- 0 where there is no place, and 0 where there is no node
abbrev pub placed_number : Option Place → ℕ
placed_number None = 0
placed_number (Some p) = place_number p

abbrev pub node_number : Option ℕ → ℕ
node_number None = 0
node_number (Some n) = n

-- the part of a step in which a fault arose
abbrev pub layer_number : Layer → ℕ
layer_number Arithmetic = 1
layer_number Memory = 2
layer_number Control = 3

-- 0 while the machine runs, and the three ways to halt
abbrev pub standing_number : Standing → ℕ
standing_number (Running a) = 0
standing_number Ended = 1
standing_number Blocked = 2
standing_number (Failed f) = 3
