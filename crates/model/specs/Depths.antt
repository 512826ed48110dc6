-- The depth that a pass reports.
use Rattle.std.specs.Prelude.{◌≡◌, ℕ, ◌≤◌, List, Some, Ok}
use Rattle.std.specs.List.{All}
use Rattle.answer.specs.declared.standings.Address.{Address}
use Rattle.expression.specs.declared.nodes.Node.{Node}
use Rattle.expression.specs.declared.nodes.Span.{Span}
use Rattle.expression.specs.Walk.{most_items, spanned}
use Rattle.expression.specs.Heights.{peak}
use Rattle.instruction.specs.declared.tables.Action.{Action}
use Rattle.instruction.specs.declared.tables.Instruction.{Instruction}
use Rattle.instruction.specs.Parts.{right_of, left_of, address_in}
use Rattle.model.specs.declared.judging.Depth.{Depth}
use Rattle.model.specs.Judge.{verdict}

-- a walk of either expression of an action holds at most d items
pub record Holds (ns : List Node) (d : ℕ) (a : Action) : Type 0 where
  pub right : (s : Span) → right_of a ≡ Some s → peak 0 (spanned ns s) ≤ d
  pub address : (s : Span) → address_in (left_of a) ≡ Some s → peak 0 (spanned ns s) ≤ d

-- at most 32 items, and no walk of the model holds more
pub record Enough (ns : List Node) (is : List Instruction) (d : ℕ) : Type 0 where
  pub few : d ≤ most_items
  pub all : All (λ x. Holds ns d x.action) is

abbrev pub DeepEnough : Type 0
DeepEnough = (ws : List ℕ) (ns : List Node) (is : List Instruction) (e : Address) (d : Depth) → verdict ws ns is e ≡ Ok d → Enough ns is d.items
