-- The comparisons as orders.
use Rattle.std.specs.Prelude.{◌≡◌, Bool, true, false, not, ◌⊎◌, List, Ok}
use Rattle.value.specs.declared.rows.Row.{Row}
use Rattle.value.specs.declared.rows.RegionRecord.{RegionRecord}
use Rattle.value.specs.Rows.{sound, same, part, width}
use Rattle.operator.specs.declared.ops.BinaryOp.TheVariants.{Compare}
use Rattle.operator.specs.declared.ops.Comparison.{Comparison}
use Rattle.operator.specs.declared.ops.Comparison.TheVariants.{Equal, NotEqual, Ordered}
use Rattle.operator.specs.declared.ops.Order.{Order}
use Rattle.operator.specs.declared.ops.Order.TheVariants.{Less, LessOrEqual, GreaterOrEqual, Greater}
use Rattle.operator.specs.Rules.{applied, bit}
use Rattle.operator.specs.declared.ops.Reading.{Reading}

-- a number or a whole pointer
abbrev pub Whole : Row → Type 0
Whole r = (sound r ≡ true) × (r.defined ≡ true) × (part r ≡ false)

-- two numbers of one width, or two pointers into one region
abbrev pub Comparable : Row → Row → Type 0
Comparable a b = Whole a × Whole b × (width a ≡ width b) × (same a.region b.region ≡ true)

abbrev pub Says : List RegionRecord → Comparison → Row → Row → Bool → Type 0
Says rs k a b t = applied rs (Compare k) a b ≡ Ok (bit t)

-- the four orders of one reading
pub record TotalOrder (reading : Reading) (rs : List RegionRecord) : Type 0 where
  pub decided : (o : Order) (a b : Row) → Comparable a b → Says rs (Ordered reading o) a b true ⊎ Says rs (Ordered reading o) a b false
  pub reflexive : (a : Row) → Whole a → Says rs (Ordered reading LessOrEqual) a a true
  pub antisymmetric : (a b : Row) → Comparable a b → Says rs (Ordered reading LessOrEqual) a b true → Says rs (Ordered reading LessOrEqual) b a true → a ≡ b
  pub transitive : (a b c : Row) → Comparable a b → Comparable b c → Says rs (Ordered reading LessOrEqual) a b true → Says rs (Ordered reading LessOrEqual) b c true → Says rs (Ordered reading LessOrEqual) a c true
  pub total : (a b : Row) → Comparable a b → Says rs (Ordered reading LessOrEqual) a b true ⊎ Says rs (Ordered reading LessOrEqual) b a true
  -- less is not at least
  pub less : (a b : Row) (t : Bool) → Comparable a b → Says rs (Ordered reading LessOrEqual) b a t → Says rs (Ordered reading Less) a b (not t)
  -- greater is less the other way round
  pub greater : (a b : Row) → Comparable a b → applied rs (Compare (Ordered reading Greater)) a b ≡ applied rs (Compare (Ordered reading Less)) b a
  pub at_least : (a b : Row) → Comparable a b → applied rs (Compare (Ordered reading GreaterOrEqual)) a b ≡ applied rs (Compare (Ordered reading LessOrEqual)) b a

pub record Orders : Type 0 where
  pub total_order : (reading : Reading) (rs : List RegionRecord) → TotalOrder reading rs
  -- equal rows, and no others, are equal
  pub equal : (rs : List RegionRecord) (a b : Row) → Comparable a b → (Says rs Equal a b true → a ≡ b) × (a ≡ b → Says rs Equal a b true)
  pub unequal : (rs : List RegionRecord) (a b : Row) (t : Bool) → Comparable a b → Says rs Equal a b t → Says rs NotEqual a b (not t)
