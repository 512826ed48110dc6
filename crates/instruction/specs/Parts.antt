-- The parts of an action: its expression on the right, its left side, and where it goes on.
use Rattle.std.specs.Prelude.{Some, None, Option}
use Rattle.answer.specs.declared.standings.Address.{Address}
use Rattle.expression.specs.declared.nodes.Span.{Span}
use Rattle.instruction.specs.declared.tables.Left.{Left}
use Rattle.instruction.specs.declared.tables.Left.TheVariants.{Variable, Bytes}
use Rattle.instruction.specs.declared.tables.Action.{Action}
use Rattle.instruction.specs.declared.tables.Action.TheVariants.{Assign, Nondet, Undef, Malloc, Free, Jump, Goto, Ite, Assert, Assume, Stop}

-- the expression that is worked out first
abbrev pub right_of : Action → Option Span
right_of (Assign l r n) = Some r
right_of (Nondet g l n) = None
right_of (Undef l n) = None
right_of (Malloc l z n) = None
right_of (Free p n) = Some p
right_of (Jump t) = Some t
right_of (Goto n) = None
right_of (Ite c t o) = Some c
right_of (Assert c n) = Some c
right_of (Assume c n) = Some c
right_of Stop = None

-- where a result goes
abbrev pub left_of : Action → Option Left
left_of (Assign l r n) = Some l
left_of (Nondet g l n) = Some l
left_of (Undef l n) = Some l
left_of (Malloc l z n) = Some l
left_of (Free p n) = None
left_of (Jump t) = None
left_of (Goto n) = None
left_of (Ite c t o) = None
left_of (Assert c n) = None
left_of (Assume c n) = None
left_of Stop = None

-- the address expression of a left side
abbrev pub address_in : Option Left → Option Span
address_in None = None
address_in (Some (Variable v)) = None
address_in (Some (Bytes k a)) = Some a

-- the fixed successor, which all have but a computed jump and stop; a choice has a second
abbrev pub next_of : Action → Option Address
next_of (Assign l r n) = Some n
next_of (Nondet g l n) = Some n
next_of (Undef l n) = Some n
next_of (Malloc l z n) = Some n
next_of (Free p n) = Some n
next_of (Jump t) = None
next_of (Goto n) = Some n
next_of (Ite c t o) = Some t
next_of (Assert c n) = Some n
next_of (Assume c n) = Some n
next_of Stop = None

abbrev pub otherwise_of : Action → Option Address
otherwise_of (Assign l r n) = None
otherwise_of (Nondet g l n) = None
otherwise_of (Undef l n) = None
otherwise_of (Malloc l z n) = None
otherwise_of (Free p n) = None
otherwise_of (Jump t) = None
otherwise_of (Goto n) = None
otherwise_of (Ite c t o) = Some o
otherwise_of (Assert c n) = None
otherwise_of (Assume c n) = None
otherwise_of Stop = None
