-- Well-formed tables, rule by rule: no order, no place, no walk.
use Rattle.std.specs.Prelude.{◌≡◌, ℕ, ◌+◌, ◌*◌, ◌<◌, ◌≤◌, true, ◌⊎◌, List, length, Decides, ◌≢◌, slice_index_or}
use Rattle.std.specs.List.{HoldsAt, All}
use Rattle.answer.specs.declared.standings.Address.{Address}
use Rattle.value.specs.Rows.{address_width, widest}
use Rattle.expression.specs.declared.nodes.FixedRegion.TheVariants.{Cst, Stack}
use Rattle.expression.specs.declared.nodes.Node.{Node}
use Rattle.expression.specs.declared.nodes.Span.{Span}
use Rattle.expression.specs.Walk.{most_nodes}
use Rattle.expression.specs.Widths.{most_bytes, declared_width}
use Rattle.tree.specs.Trees.{Expresses}
use Rattle.instruction.specs.declared.tables.Left.{Left}
use Rattle.instruction.specs.declared.tables.Left.TheVariants.{Variable, Bytes}
use Rattle.instruction.specs.declared.tables.Action.{Action}
use Rattle.instruction.specs.declared.tables.Action.TheVariants.{Assign, Nondet, Undef, Malloc, Free, Jump, Goto, Ite, Assert, Assume, Stop}
use Rattle.instruction.specs.declared.tables.Instruction.{Instruction}
use Rattle.model.specs.Judge.{most_instructions, most_variables, most_region, passes}

-- addresses go up by place, and within a place by number
abbrev pub Before : Address → Address → Type 0
Before a b = (a.place < b.place) ⊎ ((a.place ≡ b.place) × (a.number < b.number))

-- some instruction of the table stands at the address
abbrev pub Stands : List Instruction → Address → Type 0
Stands is a = (k : ℕ) × (k < length is) × HoldsAt (λ x. x.address ≡ a) is k

-- a target stands in the table; one in another block has the number 0
abbrev pub Reaches : List Instruction → Address → Address → Type 0
Reaches is from t = Stands is t × ((t.place ≢ from.place) → t.number ≡ 0)

module _ (ws : List ℕ) (ns : List Node) where
  -- an expression of width w
  abbrev pub Expression : Span → ℕ → Type 0
  Expression s w = Expresses true ws ns s w

  -- a left side of width w: a declared variable, or 1 to 8 bytes at an address
  abbrev pub LeftSide : Left → ℕ → Type 0
  LeftSide (Variable v) w = (1 ≤ v) × (v ≤ length ws) × (w ≡ declared_width ws v)
  LeftSide (Bytes k a) w = Expression a address_width × (1 ≤ k.bytes) × (k.bytes ≤ most_bytes) × (w ≡ 8 * k.bytes)

  -- Both sides of an assignment have equal widths. The left side of malloc and of a choice in Stack, what is freed and a
  -- computed target have width 32, a condition has width 1. A malloc region has 1 to 65,535 bytes.
  abbrev pub Typed : Action → Type 0
  Typed (Assign l r n) = (w : ℕ) × Expression r w × LeftSide l w
  Typed (Nondet Cst l n) = (w : ℕ) × LeftSide l w
  Typed (Nondet Stack l n) = LeftSide l address_width
  Typed (Undef l n) = (w : ℕ) × LeftSide l w
  Typed (Malloc l z n) = LeftSide l address_width × (1 ≤ z) × (z ≤ most_region)
  Typed (Free p n) = Expression p address_width
  Typed (Jump t) = Expression t address_width
  Typed (Goto n) = Unit {0}
  Typed (Ite c t o) = Expression c 1
  Typed (Assert c n) = Expression c 1
  Typed (Assume c n) = Expression c 1
  Typed Stop = Unit {0}

-- every fixed target of an instruction at `from`
abbrev pub Aims : List Instruction → Address → Action → Type 0
Aims is from (Assign l r n) = Reaches is from n
Aims is from (Nondet g l n) = Reaches is from n
Aims is from (Undef l n) = Reaches is from n
Aims is from (Malloc l z n) = Reaches is from n
Aims is from (Free p n) = Reaches is from n
Aims is from (Jump t) = Unit {0}
Aims is from (Goto n) = Reaches is from n
Aims is from (Ite c t o) = Reaches is from t × Reaches is from o
Aims is from (Assert c n) = Reaches is from n
Aims is from (Assume c n) = Reaches is from n
Aims is from Stop = Unit {0}

pub record Well (ws : List ℕ) (ns : List Node) (is : List Instruction) (e : Address) : Type 0 where
  pub some : 1 ≤ length is
  pub few_instructions : length is ≤ most_instructions
  pub few_nodes : length ns ≤ most_nodes
  pub few_variables : length ws ≤ most_variables
  pub widths : All (λ w. (1 ≤ w) × (w ≤ widest)) ws
  pub rises : (i : ℕ) (d : Instruction) → i + 1 < length is → Before (slice_index_or is i d).address (slice_index_or is (i + 1) d).address
  pub typed : All (λ x. Typed ws ns x.action) is
  pub aims : All (λ x. Aims is x.address x.action) is
  pub entry : (e.number ≡ 0) × Stands is e

-- the check passes exactly the well-formed tables
abbrev pub Exact : Type 0
Exact = (ws : List ℕ) (ns : List Node) (is : List Instruction) (e : Address) → Decides (passes ws ns is e) (Well ws ns is e)
