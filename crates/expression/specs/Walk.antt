-- What a walk over an expression gives, for any arithmetic.
use Rattle.std.specs.Prelude.{ℕ, ◌+◌, min, Bool, cond, ◌&&◌, List, [], ◌∷◌, length, take, drop, Some, None, Option, Ok, Err, Result, nat_le, nat_lt}
use Rattle.answer.specs.First.{◌gives◌else◌}
use Rattle.answer.specs.declared.faults.Layer.{Layer}
use Rattle.answer.specs.declared.faults.Layer.TheVariants.{Arithmetic, Memory}
use Rattle.operator.specs.declared.ops.BinaryOp.{BinaryOp}
use Rattle.expression.specs.declared.nodes.Literal.{Literal}
use Rattle.expression.specs.declared.nodes.Access.{Access}
use Rattle.operator.specs.declared.ops.UnaryOp.{UnaryOp}
use Rattle.expression.specs.declared.nodes.Node.{Node}
use Rattle.expression.specs.declared.nodes.Node.TheVariants.{Constant, Variable, Read, Unary, Binary, Concatenate}
use Rattle.expression.specs.declared.nodes.Span.{Span}
use Rattle.expression.specs.declared.stops.Cause.{Cause}
use Rattle.expression.specs.declared.stops.Cause.TheVariants.{Outside, Missing, Full, NotOne, Fault}
use Rattle.expression.specs.declared.stops.Stopped.{Stopped}

-- the most items that a walk holds, and the most nodes of a table
abbrev pub most_items : ℕ
most_items = 32

abbrev pub most_nodes : ℕ
most_nodes = 512

-- What an arithmetic gives for a node and its operands: an item or a fault. `memory` is asked before a read's operand.
pub record Arith (I F : Type 0) : Type 0 where
  pub constant : Literal → Result I F
  pub variable : ℕ → Result I F
  pub memory : Result (Unit {0}) F
  pub read : Access → I → Result I F
  pub unary : UnaryOp → I → Result I F
  pub binary : BinaryOp → I → I → Result I F
  pub concatenation : I → I → Result I F

-- one more item, where there is room
abbrev pub pushed : {I F : Type 0} → Layer → Result I F → List I → Result (List I) (Cause F)
pushed layer (Ok x) s = cond (nat_lt (length s) most_items) (Ok (x ∷ s)) (Err Full)
pushed layer (Err f) s = Err (Fault layer f)

-- what a node leaves: the items after it, or the cause
abbrev pub leaves : {I F : Type 0} → List I → Result (Unit {0}) (Cause F) → Result (List I) (Cause F)
leaves s (Ok u) = Ok s
leaves s (Err c) = Err c

-- a node that takes one operand, and one that takes two, of which the right one is on top
abbrev pub on_one : {I F : Type 0} → Layer → (I → Result I F) → List I → Result (List I) (Cause F)
on_one layer f [] = Err Missing
on_one layer f (x ∷ s) = pushed layer (f x) s

abbrev pub on_two : {I F : Type 0} → (I → I → Result I F) → List I → Result (List I) (Cause F)
on_two f [] = Err Missing
on_two f (y ∷ []) = Err Missing
on_two f (y ∷ (x ∷ s)) = pushed Arithmetic (f x y) s

-- no read where there is no memory
abbrev pub with_memory : {X F : Type 0} → Result (Unit {0}) F → Result X (Cause F) → Result X (Cause F)
with_memory (Ok u) r = r
with_memory (Err f) r = Err (Fault Memory f)

-- one node, over the items held, the last of which stands first
abbrev pub stepped : {I F : Type 0} → Arith I F → Node → List I → Result (List I) (Cause F)
stepped a (Constant c) s = cond (nat_lt (length s) most_items) (pushed Arithmetic (a.constant c) s) (Err Full)
stepped a (Variable v) s = pushed Arithmetic (a.variable v) s
stepped a (Read r) s = with_memory a.memory (on_one Memory (a.read r) s)
stepped a (Unary o) s = on_one Arithmetic (a.unary o) s
stepped a (Binary o) s = on_two (a.binary o) s
stepped a Concatenate s = on_two a.concatenation s

-- a walk that stops at a node, or at none where its span is not there
abbrev pub stop : {F : Type 0} → Option ℕ → Cause F → Stopped F
stop node cause = record { node = node; cause = cause }

-- go on with what a node left, or stop at it
abbrev pub at_node : {X Y F : Type 0} → ℕ → Result X (Cause F) → (X → Result Y (Stopped F)) → Result Y (Stopped F)
at_node node (Ok x) rest = rest x
at_node node (Err c) rest = Err (stop (Some node) c)

-- the nodes ns in order up to the first fault; the first has the index i, and so the place i + 1
abbrev pub runs : {I F : Type 0} → Arith I F → ℕ → List Node → List I → Result (List I) (Stopped F)
runs a i [] s = Ok s
runs a i (n ∷ ns) s = at_node (i + 1) (stepped a n s) (λ t. runs a (i + 1) ns t)

-- exactly one item is left; else the last node is the place
abbrev pub only : {I F : Type 0} → ℕ → List I → Result I (Stopped F)
only node [] = Err (stop (Some node) NotOne)
only node (x ∷ []) = Ok x
only node (x ∷ (y ∷ s)) = Err (stop (Some node) NotOne)

abbrev pub ended : {I F : Type 0} → ℕ → Result (List I) (Stopped F) → Result I (Stopped F)
ended node (Ok s) = only node s
ended node (Err e) = Err e

-- a span has a node, and lies in the table
abbrev pub spans : ℕ → Span → Bool
spans n s = nat_lt 0 s.count && nat_le (s.first + s.count) (min n most_nodes)

-- the nodes of a span
abbrev pub spanned : List Node → Span → List Node
spanned nodes s = take s.count (drop s.first nodes)

abbrev pub walked_inside : {I F : Type 0} → Arith I F → List Node → Span → Result I (Stopped F)
walked_inside a nodes s = ended (s.first + s.count) (runs a s.first (spanned nodes s) [])

-- the walk of an expression
abbrev pub walked : {I F : Type 0} → Arith I F → List Node → Span → Result I (Stopped F)
walked a nodes s =
    spans (length nodes) s gives walked_inside a nodes s else
    Err (stop None Outside)
