-- The check: the first broken rule, by number and place.
use Rattle.std.specs.Prelude.{ℕ, ◌+◌, ◌*◌, max, Bool, true, ◌&&◌, ◌||◌, List, [], ◌∷◌, length, Some, None, Ok, Err, Option, Result, ◌==◌, nat_eq, nat_le, nat_lt, is_ok, position, fold}
use Rattle.std.specs.Option.{option_eq}
use Rattle.answer.specs.First.{◌gives◌else◌, and_then, required}
use Rattle.answer.specs.declared.refusals.Reason.TheVariants.{TableSize, DeclaredWidth, AddressOrder, Unresolved, RuleBroken, BadTarget}
use Rattle.answer.specs.declared.refusals.Place.TheVariants as places
use Rattle.answer.specs.declared.refusals.Refusal.{Refusal}
use Rattle.answer.specs.declared.standings.Address.{Address}
use Rattle.value.specs.Rows.{address_width, no_width}
use Rattle.expression.specs.declared.nodes.FixedRegion.TheVariants.{Cst, Stack}
use Rattle.expression.specs.declared.nodes.Node.{Node}
use Rattle.expression.specs.declared.nodes.Span.{Span}
use Rattle.expression.specs.declared.stops.Defect.{Defect}
use Rattle.expression.specs.declared.stops.Stopped.{Stopped}
use Rattle.expression.specs.Walk.{most_nodes, spanned, walked}
use Rattle.expression.specs.Widths.{bytes_fit, declares, declared_width, width_arith}
use Rattle.expression.specs.Heights.{peak}
use Rattle.instruction.specs.declared.tables.Left.{Left}
use Rattle.instruction.specs.declared.tables.Left.TheVariants.{Variable, Bytes}
use Rattle.instruction.specs.declared.tables.Action.{Action}
use Rattle.instruction.specs.declared.tables.Action.TheVariants.{Assign, Nondet, Undef, Malloc, Free, Jump, Goto, Ite, Assert, Assume, Stop}
use Rattle.instruction.specs.declared.tables.Instruction.{Instruction}
use Rattle.instruction.specs.Addresses.{above, known}
use Rattle.instruction.specs.Parts.{right_of, left_of, address_in, next_of, otherwise_of}
use Rattle.model.specs.declared.objections.Objection.{Objection}
use Rattle.model.specs.declared.judging.Depth.{Depth}
use Rattle.model.specs.Objections.{objection_of, refusal, at_no_node, at_instruction}

-- the most of each table, and the most bytes of a malloc region
abbrev pub most_instructions : ℕ
most_instructions = 128

abbrev pub most_variables : ℕ
most_variables = 64

abbrev pub most_region : ℕ
most_region = 65535

-- an expression: its width, or what is wrong with it
abbrev pub objected : Result ℕ (Stopped Defect) → Result ℕ Objection
objected (Ok w) = Ok w
objected (Err s) = Err (objection_of s)

abbrev pub expressed : List ℕ → List Node → Span → Result ℕ Objection
expressed ws ns s = objected (walked (width_arith true ws) ns s)

-- the width of the expression on the right, where there is one
abbrev pub right_width : List ℕ → List Node → Option Span → Result (Option ℕ) Objection
right_width ws ns None = Ok None
right_width ws ns (Some s) = and_then (expressed ws ns s) (λ w. Ok (Some w))

-- the width of the left side, where there is one: a declared variable, or 1 to 8 bytes at an address
abbrev pub left_width : List ℕ → List Node → Option Left → Result (Option ℕ) Objection
left_width ws ns None = Ok None
left_width ws ns (Some (Variable v)) =
    declares ws v gives Ok (Some (declared_width ws v)) else
    Err (at_no_node Unresolved)
left_width ws ns (Some (Bytes k a)) =
    and_then (expressed ws ns a) (λ w.
    and_then (required (bytes_fit k.bytes && w == address_width) (at_no_node RuleBroken)) (λ _.
    Ok (Some (8 * k.bytes))))

abbrev pub same_width : Option ℕ → Option ℕ → Bool
same_width = option_eq nat_eq

-- an action's own rules, of the widths on its right and on its left
abbrev pub own_rules : Action → Option ℕ → Option ℕ → Bool
own_rules (Assign l r n) right left = same_width left right
own_rules (Nondet Cst l n) right left = true
own_rules (Nondet Stack l n) right left = same_width left (Some address_width)
own_rules (Undef l n) right left = true
own_rules (Malloc l z n) right left = same_width left (Some address_width) && (nat_le 1 z && nat_le z most_region)
own_rules (Free p n) right left = same_width right (Some address_width)
own_rules (Jump t) right left = same_width right (Some address_width)
own_rules (Goto n) right left = true
own_rules (Ite c t o) right left = same_width right (Some 1)
own_rules (Assert c n) right left = same_width right (Some 1)
own_rules (Assume c n) right left = same_width right (Some 1)
own_rules Stop right left = true

-- a target stands in the table, and one in another block has the number 0
abbrev pub reached : List Instruction → Address → Option Address → Bool
reached is from None = true
reached is from (Some t) = known is t && (t.place == from.place || t.number == 0)

-- One instruction: its order, the expression on its right, its left side, its own rules, its targets.
abbrev pub judged_one : List ℕ → List Node → List Instruction → Option Address → Instruction → Result (Unit {0}) Objection
judged_one ws ns is previous x =
    and_then (required (above previous x.address) (at_no_node AddressOrder)) (λ _.
    and_then (right_width ws ns (right_of x.action)) (λ right.
    and_then (left_width ws ns (left_of x.action)) (λ left.
    and_then (required (own_rules x.action right left) (at_no_node RuleBroken)) (λ _.
    required (reached is x.address (next_of x.action) && reached is x.address (otherwise_of x.action)) (at_no_node BadTarget)))))

-- the instructions xs of the table is in order, the first of which has the index i
abbrev pub judged : List ℕ → List Node → List Instruction → ℕ → Option Address → List Instruction → Result (Unit {0}) Refusal
judged ws ns is i previous [] = Ok tt
judged ws ns is i previous (x ∷ xs) =
    and_then (at_instruction (i + 1) (judged_one ws ns is previous x)) (λ _. judged ws ns is (i + 1) (Some x.address) xs)

-- the variable at an index has a width that no value has; variables count from 1
abbrev pub width_refused : Option ℕ → Result (Unit {0}) Refusal
width_refused None = Ok tt
width_refused (Some i) = Err (refusal DeclaredWidth (Some (places.Variable (i + 1))) None)

-- the declared widths: the first that no value has
abbrev pub widths_judged : List ℕ → Result (Unit {0}) Refusal
widths_judged ws = width_refused (position no_width ws)

-- no instruction, or a table over its limit
abbrev pub sizes_bad : ℕ → ℕ → ℕ → Bool
sizes_bad variables nodes instructions =
    (instructions == 0) || (nat_lt most_instructions instructions || (nat_lt most_nodes nodes || nat_lt most_variables variables))

-- the entry stands in the table, at number 0 of its block
abbrev pub entered : List Instruction → Address → Bool
entered is e = e.number == 0 && known is e

-- the most items that a walk of any expression of the instructions holds
abbrev pub expression_peak : List Node → Option Span → ℕ
expression_peak ns None = 0
expression_peak ns (Some s) = peak 0 (spanned ns s)

abbrev pub action_peak : List Node → Action → ℕ
action_peak ns a = max (expression_peak ns (right_of a)) (expression_peak ns (address_in (left_of a)))

abbrev pub deepest : List Node → List Instruction → ℕ
deepest ns is = fold (λ most x. max most (action_peak ns x.action)) 0 is

abbrev pub depth : ℕ → Depth
depth n = record { items = n }

-- the first broken rule of the tables, or the depth
abbrev pub verdict : List ℕ → List Node → List Instruction → Address → Result Depth Refusal
verdict ws ns is e =
    sizes_bad (length ws) (length ns) (length is) gives Err (refusal TableSize None None) else
    and_then (widths_judged ws) (λ _.
    and_then (judged ws ns is 0 None is) (λ _.
    entered is e gives Ok (depth (deepest ns is)) else
    Err (refusal BadTarget None None)))

-- no rule is broken
abbrev pub passes : List ℕ → List Node → List Instruction → Address → Bool
passes ws ns is e = is_ok (verdict ws ns is e)
