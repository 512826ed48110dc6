-- One arithmetic follows another: the two walks go side by side.
use Rattle.std.specs.Prelude.{◌≡◌, ℕ, Bool, true, List, Ok, Err, Result}
use Rattle.operator.specs.declared.ops.BinaryOp.{BinaryOp}
use Rattle.expression.specs.declared.nodes.Literal.{Literal}
use Rattle.expression.specs.declared.nodes.Access.{Access}
use Rattle.operator.specs.declared.ops.UnaryOp.{UnaryOp}
use Rattle.expression.specs.declared.nodes.Node.{Node}
use Rattle.expression.specs.declared.nodes.Span.{Span}
use Rattle.expression.specs.declared.stops.Cause.{Cause}
use Rattle.expression.specs.declared.stops.Cause.TheVariants.{Outside, Missing, Full, NotOne, Fault}
use Rattle.expression.specs.declared.stops.Stopped.{Stopped}
use Rattle.expression.specs.Walk.{Arith, walked}
use Rattle.expression.specs.Widths.{width_arith}

-- the arithmetic's own fault
abbrev pub Own : {F : Type 0} → Cause F → Type 0
Own Outside = ⊥
Own Missing = ⊥
Own Full = ⊥
Own NotOne = ⊥
Own (Fault layer f) = Unit {0}

-- where both give an item, the items are related
abbrev pub Both : {I J F G : Type 0} → (I → J → Type 0) → Result I F → Result J G → Type 0
Both R (Ok x) (Ok y) = R x y
Both R (Ok x) (Err g) = Unit {0}
Both R (Err f) (Ok y) = Unit {0}
Both R (Err f) (Err g) = Unit {0}

-- a follows b along R: related operands give related items
pub record Follows {I J F G : Type 0} (R : I → J → Type 0) (a : Arith I F) (b : Arith J G) : Type 0 where
  pub constant_on : (c : Literal) → Both R (a.constant c) (b.constant c)
  pub variable_on : (v : ℕ) → Both R (a.variable v) (b.variable v)
  pub read_on : (r : Access) (x : I) (y : J) → R x y → Both R (a.read r x) (b.read r y)
  pub unary_on : (o : UnaryOp) (x : I) (y : J) → R x y → Both R (a.unary o x) (b.unary o y)
  pub binary_on : (o : BinaryOp) (x x' : I) (y y' : J) → R x y → R x' y' → Both R (a.binary o x x') (b.binary o y y')
  pub concatenation_on : (x x' : I) (y y' : J) → R x y → R x' y' → Both R (a.concatenation x x') (b.concatenation y y')

-- an item related to y, or the arithmetic's own fault
abbrev pub Passed : {I J F : Type 0} → (I → J → Type 0) → J → Result I (Stopped F) → Type 0
Passed R y (Ok x) = R x y
Passed R y (Err s) = Own s.cause

-- where the walk of b gives an item, the walk of a gives a related one or a's own fault: it never stops for its span, a
-- missing item, too many held or not one left
abbrev pub Stays : {I J F G : Type 0} → (I → J → Type 0) → Arith I F → Arith J G → Type 0
Stays {J} R a b = (nodes : List Node) (s : Span) (y : J) → walked b nodes s ≡ Ok y → Passed R y (walked a nodes s)

-- that simulation, for every relation that a test decides
abbrev pub Simulates : {I J F G : Type 0} → Arith I F → Arith J G → Type 0
Simulates {I} {J} a b = (related : I → J → Bool) → Follows (λ x y. related x y ≡ true) a b → Stays (λ x y. related x y ≡ true) a b

-- where the walk in bare widths gives a width, the walk of a gives an item of that width or a's own fault
abbrev pub Keeps : {I F : Type 0} → List ℕ → (I → ℕ) → Arith I F → Type 0
Keeps ws width a = (reads : Bool) → Stays (λ x w. width x ≡ w) a (width_arith reads ws)
