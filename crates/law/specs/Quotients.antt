-- Quotient and remainder.
use Rattle.std.specs.Prelude.{◌≡◌, ℕ, ◌+◌, ◌*◌, ◌%◌, ◌^◌, ◌<◌, ◌⊎◌, List, Ok, unsigned_abs}
use Rattle.std.specs.Int.Signed.{non_neg}
use Rattle.value.specs.declared.rows.Row.{Row}
use Rattle.value.specs.declared.rows.RegionRecord.{RegionRecord}
use Rattle.value.specs.Rows.{width}
use Rattle.operator.specs.declared.ops.BinaryOp.TheVariants.{Divide}
use Rattle.operator.specs.declared.ops.Division.TheVariants.{Quotient, Remainder}
use Rattle.operator.specs.Rules.{applied}
use Rattle.operator.specs.Words.{meant}
use Rattle.operator.specs.declared.ops.Reading.{Reading}
use Rattle.law.specs.Pointers.{Number}

-- Quotient q and remainder r of m by n, all of w bits: q times n plus r is m modulo 2 to the w; r is smaller than n in
-- size, and has the sign of m or is 0.
pub record Divided (reading : Reading) (w m n q r : ℕ) : Type 0 where
  pub recombines : (q * n + r) % 2 ^ w ≡ m
  pub smaller : unsigned_abs (meant reading w r) < unsigned_abs (meant reading w n)
  pub sign : (r ≡ 0) ⊎ (non_neg (meant reading w r) ≡ non_neg (meant reading w m))

-- two numbers of one width have both, where the divisor is not 0
abbrev pub Divides : Type 0
Divides = (reading : Reading) (rs : List RegionRecord) (a b : Row) → Number a → Number b → width a ≡ width b → 0 < b.number →
    (q : Row) × (r : Row) × (applied rs (Divide (Quotient reading)) a b ≡ Ok q) × (applied rs (Divide (Remainder reading)) a b ≡ Ok r)
    × Divided reading (width a) a.number b.number q.number r.number
