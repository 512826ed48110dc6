-- What each rule of widths says of one node.
use Rattle.std.proofs.Common.{◌≡◌, ℕ, ◌+◌, ◌*◌, ◌≤◌, Bool, List, length, Ok, Decides, Result, refl, arith}
use Rattle.std.proofs.lemmas.Bool.Decides.{nat_tests, Decides-eqb}
use Rattle.value.specs.Rows.{address_width, widest}
use Rattle.operator.specs.declared.ops.BinaryOp.{BinaryOp}
use Rattle.operator.specs.Rules.{result_width}
use Rattle.expression.specs.declared.nodes.FixedRegion.{FixedRegion}
use Rattle.expression.specs.declared.nodes.FixedRegion.TheVariants.{Cst, Stack}
use Rattle.expression.specs.declared.nodes.Literal.{Literal}
use Rattle.expression.specs.declared.nodes.Access.{Access}
use Rattle.operator.specs.declared.ops.UnaryOp.{UnaryOp}
use Rattle.operator.specs.declared.ops.UnaryOp.TheVariants.{Not, Extend, Restrict}
use Rattle.expression.specs.declared.stops.Defect.{Defect}
use Rattle.expression.specs.Widths.{most_bytes, region_fits, literal_fits, by_rule, declared_width, width_unary, width_arith}
use Rattle.tree.specs.Trees.{Fits, RegionFits, UnaryWidth}

-- the rule gives the width w exactly where P
abbrev pub Gives : Result ℕ Defect → ℕ → Type 0 → Type 0
Gives r w P = (r ≡ Ok w → P) × (P → r ≡ Ok w)

pub constant_rule : (c : Literal) (w : ℕ) → Gives (by_rule (literal_fits c) c.width) w (Fits c × (w ≡ c.width))
constant_rule c w = grind (arith, nat_tests, region_is c.region c.width)
  where
    region_is : (g : FixedRegion) (v : ℕ) → Decides (region_fits g v) (RegionFits g v)
    region_is Cst v = (λ e. tt, λ p. refl)
    region_is Stack v = Decides-eqb v address_width

module _ (reads : Bool) (ws : List ℕ) where
  pub variable_rule : (v w : ℕ) → Gives ((width_arith reads ws).variable v) w ((1 ≤ v) × (v ≤ length ws) × (w ≡ declared_width ws v))
  variable_rule v w = grind (arith, nat_tests)

  pub read_rule : (r : Access) (x w : ℕ) → Gives ((width_arith reads ws).read r x) w ((x ≡ address_width) × (1 ≤ r.bytes) × (r.bytes ≤ most_bytes) × (w ≡ 8 * r.bytes))
  read_rule r x w = grind (arith, nat_tests)

  pub binary_rule : (o : BinaryOp) (x y w : ℕ) → Gives ((width_arith reads ws).binary o x y) w ((x ≡ y) × (w ≡ result_width o x))
  binary_rule o x y w = grind (arith, nat_tests)

  pub concatenation_rule : (x y w : ℕ) → Gives ((width_arith reads ws).concatenation x y) w ((x + y ≤ widest) × (w ≡ x + y))
  concatenation_rule x y w = grind (arith, nat_tests)

pub unary_rule : (o : UnaryOp) (x w : ℕ) → Gives (width_unary o x) w (UnaryWidth o x w)
unary_rule Not x w = grind (arith, nat_tests)
unary_rule (Extend reading k) x w = grind (arith, nat_tests)
unary_rule (Restrict i j) x w = grind (arith, nat_tests)
