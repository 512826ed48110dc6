-- Expressions as trees, by the rules of widths and without a walk.
use Rattle.std.specs.Prelude.{◌≡◌, ℕ, ◌+◌, ◌-◌, ◌*◌, ◌^◌, ◌<◌, ◌≤◌, max, Bool, true, List, [], ◌∷◌, ◌++◌, length, Ok}
use Rattle.value.specs.Rows.{address_width, widest}
use Rattle.operator.specs.declared.ops.BinaryOp.{BinaryOp}
use Rattle.operator.specs.Rules.{result_width}
use Rattle.expression.specs.declared.nodes.FixedRegion.{FixedRegion}
use Rattle.expression.specs.declared.nodes.FixedRegion.TheVariants.{Cst, Stack}
use Rattle.expression.specs.declared.nodes.Literal.{Literal}
use Rattle.expression.specs.declared.nodes.Access.{Access}
use Rattle.operator.specs.declared.ops.UnaryOp.{UnaryOp}
use Rattle.operator.specs.declared.ops.UnaryOp.TheVariants.{Not, Extend, Restrict}
use Rattle.expression.specs.declared.nodes.Node.{Node}
use Rattle.expression.specs.declared.nodes.Node.TheVariants.{Constant, Variable, Read, Unary, Binary, Concatenate}
use Rattle.expression.specs.declared.nodes.Span.{Span}
use Rattle.expression.specs.Walk.{most_items, most_nodes, spanned, walked}
use Rattle.expression.specs.Widths.{most_bytes, declared_width, width_arith}

-- an expression: a node over the expressions that it takes
pub data Tree : Type 0 where
  constant_leaf : Literal → Tree
  variable_leaf : ℕ → Tree
  read_at : Access → Tree → Tree
  unary_of : UnaryOp → Tree → Tree
  binary_of : BinaryOp → Tree → Tree → Tree
  joined : Tree → Tree → Tree

-- its nodes in postfix order
abbrev pub postfix : Tree → List Node
postfix (constant_leaf c) = Constant c ∷ []
postfix (variable_leaf v) = Variable v ∷ []
postfix (read_at r t) = postfix t ++ (Read r ∷ [])
postfix (unary_of o t) = postfix t ++ (Unary o ∷ [])
postfix (binary_of o t u) = postfix t ++ (postfix u ++ (Binary o ∷ []))
postfix (joined t u) = postfix t ++ (postfix u ++ (Concatenate ∷ []))

-- the items that are held at once to work it out: the right operand is worked out while the left one waits
abbrev pub needs : Tree → ℕ
needs (constant_leaf c) = 1
needs (variable_leaf v) = 1
needs (read_at r t) = needs t
needs (unary_of o t) = needs t
needs (binary_of o t u) = max (needs t) (needs u + 1)
needs (joined t u) = max (needs t) (needs u + 1)

-- a Stack constant has width 32
abbrev pub RegionFits : FixedRegion → ℕ → Type 0
RegionFits Cst w = Unit {0}
RegionFits Stack w = w ≡ address_width

-- a constant has a width of 1 to 64, and a number that fits it
pub record Fits (c : Literal) : Type 0 where
  pub some : 1 ≤ c.width
  pub wide : c.width ≤ widest
  pub number : c.number < 2 ^ c.width
  pub region : RegionFits c.region c.width

-- an extension grows the width, and no width passes 64; a restriction {i,j} has 0 ≤ i ≤ j < width
abbrev pub UnaryWidth : UnaryOp → ℕ → ℕ → Type 0
UnaryWidth Not x w = w ≡ x
UnaryWidth (Extend reading k) x w = (x < k) × (k ≤ widest) × (w ≡ k)
UnaryWidth (Restrict i j) x w = (i ≤ j) × (j < x) × (w ≡ j - i + 1)

-- Every node of the tree meets its rule, and the tree has the width w: of declared widths ws, where variables count from
-- 1, and with reads or without.
abbrev pub HasWidth : Bool → List ℕ → Tree → ℕ → Type 0
HasWidth reads ws (constant_leaf c) w = Fits c × (w ≡ c.width)
HasWidth reads ws (variable_leaf v) w = (1 ≤ v) × (v ≤ length ws) × (w ≡ declared_width ws v)
HasWidth reads ws (read_at r t) w = (reads ≡ true) × HasWidth reads ws t address_width × (1 ≤ r.bytes) × (r.bytes ≤ most_bytes) × (w ≡ 8 * r.bytes)
HasWidth reads ws (unary_of o t) w = (x : ℕ) × HasWidth reads ws t x × UnaryWidth o x w
HasWidth reads ws (binary_of o t u) w = (x : ℕ) × HasWidth reads ws t x × HasWidth reads ws u x × (w ≡ result_width o x)
HasWidth reads ws (joined t u) w = (x : ℕ) × (y : ℕ) × HasWidth reads ws t x × HasWidth reads ws u y × (x + y ≤ widest) × (w ≡ x + y)

-- the nodes of a span are an expression of width w that needs at most 32 items
pub record Expresses (reads : Bool) (ws : List ℕ) (nodes : List Node) (s : Span) (w : ℕ) : Type 0 where
  pub some : 1 ≤ s.count
  pub inside : s.first + s.count ≤ length nodes
  pub few : s.first + s.count ≤ most_nodes
  pub tree : Tree
  pub nodes_are : postfix tree ≡ spanned nodes s
  pub rules : HasWidth reads ws tree w
  pub room : needs tree ≤ most_items

-- the walk in bare widths gives a width exactly where the nodes are an expression of that width
pub record PassesExactly : Type 0 where
  pub only_expressions : (reads : Bool) (ws : List ℕ) (nodes : List Node) (s : Span) (w : ℕ) → walked (width_arith reads ws) nodes s ≡ Ok w → Expresses reads ws nodes s w
  pub every_expression : (reads : Bool) (ws : List ℕ) (nodes : List Node) (s : Span) (w : ℕ) → Expresses reads ws nodes s w → walked (width_arith reads ws) nodes s ≡ Ok w
