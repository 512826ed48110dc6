-- The rules of widths, as an arithmetic whose items are bare widths.
use Rattle.std.specs.Prelude.{◌≡◌, ℕ, ◌+◌, ◌-◌, ◌*◌, ◌^◌, Bool, true, cond, not, ◌&&◌, List, length, Some, None, Option, Ok, Err, Result, ◌==◌, nat_le, nat_lt, slice_index, refl}
use Rattle.answer.specs.First.{required}
use Rattle.value.specs.Rows.{address_width, widest, no_width}
use Rattle.operator.specs.declared.ops.BinaryOp.{BinaryOp}
use Rattle.operator.specs.Rules.{result_width}
use Rattle.expression.specs.declared.nodes.FixedRegion.{FixedRegion}
use Rattle.expression.specs.declared.nodes.FixedRegion.TheVariants.{Cst, Stack}
use Rattle.expression.specs.declared.nodes.Literal.{Literal}
use Rattle.expression.specs.declared.nodes.Access.{Access}
use Rattle.operator.specs.declared.ops.UnaryOp.{UnaryOp}
use Rattle.operator.specs.declared.ops.UnaryOp.TheVariants.{Not, Extend, Restrict}
use Rattle.expression.specs.declared.stops.Defect.{Defect}
use Rattle.expression.specs.declared.stops.Defect.TheVariants.{Unresolved, RuleBroken}
use Rattle.expression.specs.Walk.{Arith}

-- a Stack constant has the width of an address
abbrev pub region_fits : FixedRegion → ℕ → Bool
region_fits Cst w = true
region_fits Stack w = w == address_width

-- a constant has a width of 1 to 64 and a number that fits it
abbrev pub literal_fits : Literal → Bool
literal_fits c = not (no_width c.width) && (nat_lt c.number (2 ^ c.width) && region_fits c.region c.width)

-- memory is read and written 1 to 8 bytes at a time
abbrev pub most_bytes : ℕ
most_bytes = 8

abbrev pub bytes_fit : ℕ → Bool
bytes_fit k = nat_le 1 k && nat_le k most_bytes

-- variables count from 1
abbrev pub declares : List ℕ → ℕ → Bool
declares ws v = nat_le 1 v && nat_le v (length ws)

abbrev pub declared_width : List ℕ → ℕ → ℕ
declared_width ws v = slice_index ws (v - 1)

-- the width of a variable, where it is declared
abbrev pub width_declared : List ℕ → ℕ → Option ℕ
width_declared ws v = cond (declares ws v) (Some (declared_width ws v)) None

-- the width of so many bytes, where an address of width w may be accessed so
abbrev pub width_accessed : Access → ℕ → Option ℕ
width_accessed r w = cond (bytes_fit r.bytes && w == address_width) (Some (8 * r.bytes)) None

-- the width that a rule gives, where it holds
abbrev pub by_rule : Bool → ℕ → Result ℕ Defect
by_rule holds w = cond holds (Ok w) (Err RuleBroken)

-- An extension grows the width, and no width passes 64. A restriction {i,j} has 0 ≤ i ≤ j < width.
abbrev pub width_unary : UnaryOp → ℕ → Result ℕ Defect
width_unary Not x = Ok x
width_unary (Extend reading k) x = by_rule (nat_lt x k && nat_le k widest) k
width_unary (Restrict i j) x = by_rule (nat_le i j && nat_lt j x) (j - i + 1)

-- Declared widths ws; memory may be read or not. A read has an address of width 32, and two operands, save those of
-- concatenation, have equal widths.
abbrev pub width_arith : Bool → List ℕ → Arith ℕ Defect
width_arith reads ws = record {
  constant = λ c. by_rule (literal_fits c) c.width;
  variable = λ v. cond (declares ws v) (Ok (declared_width ws v)) (Err Unresolved);
  memory = required reads Unresolved;
  read = λ r x. by_rule (bytes_fit r.bytes && x == address_width) (8 * r.bytes);
  unary = width_unary;
  binary = λ op x y. by_rule (x == y) (result_width op x);
  concatenation = λ x y. by_rule (nat_le (x + y) widest) (x + y);
}

-- where the rules give a width and the arithmetic an item, the item has that width
abbrev pub Fit : {I F : Type 0} → (I → ℕ) → Result ℕ Defect → Result I F → Type 0
Fit width (Ok w) (Ok x) = width x ≡ w
Fit width (Ok w) (Err f) = Unit {0}
Fit width (Err e) (Ok x) = Unit {0}
Fit width (Err e) (Err f) = Unit {0}

-- the law of every arithmetic: an item for operands whose widths meet the rule has the stated width
pub record Sound {I F : Type 0} (ws : List ℕ) (width : I → ℕ) (a : Arith I F) : Type 0 where
  pub constant_fits : (c : Literal) → Fit width ((width_arith true ws).constant c) (a.constant c)
  pub variable_fits : (v : ℕ) → Fit width ((width_arith true ws).variable v) (a.variable v)
  pub read_fits : (r : Access) (x : I) → Fit width ((width_arith true ws).read r (width x)) (a.read r x)
  pub unary_fits : (o : UnaryOp) (x : I) → Fit width (width_unary o (width x)) (a.unary o x)
  pub binary_fits : (o : BinaryOp) (x y : I) → Fit width ((width_arith true ws).binary o (width x) (width y)) (a.binary o x y)
  pub concatenation_fits : (x y : I) → Fit width ((width_arith true ws).concatenation (width x) (width y)) (a.concatenation x y)

fit_self : (r : Result ℕ Defect) → Fit (λ w. w) r r
fit_self (Ok w) = refl
fit_self (Err e) = tt

-- the widths themselves
pub widths_sound : (reads : Bool) (ws : List ℕ) → Sound ws (λ w. w) (width_arith reads ws)
widths_sound reads ws = record {
  constant_fits = λ c. fit_self ((width_arith true ws).constant c);
  variable_fits = λ v. fit_self ((width_arith true ws).variable v);
  read_fits = λ r x. fit_self ((width_arith true ws).read r x);
  unary_fits = λ o x. fit_self (width_unary o x);
  binary_fits = λ o x y. fit_self ((width_arith true ws).binary o x y);
  concatenation_fits = λ x y. fit_self ((width_arith true ws).concatenation x y);
}
