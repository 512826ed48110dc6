-- Not, extension, restriction and concatenation.
use Rattle.std.specs.Prelude.{ℕ, ◌+◌, ◌-◌, ◌*◌, ◌/◌, ◌%◌, ◌^◌, Bool, true, not, ◌&&◌, ◌||◌, Ok, Err, ◌==◌, nat_le, nat_lt}
use Rattle.answer.specs.declared.faults.Fault.TheVariants.{NoExactValue}
use Rattle.answer.specs.First.{◌gives◌else◌}
use Rattle.value.specs.declared.rows.Region.TheVariants.{Cst}
use Rattle.value.specs.declared.rows.Row.{Row}
use Rattle.value.specs.Rows.{Outcome, widest, cst, same, width, undefined, plain, undefined_row, no_width}
use Rattle.operator.specs.declared.ops.Reading.{Reading}
use Rattle.operator.specs.declared.ops.UnaryOp.{UnaryOp}
use Rattle.operator.specs.declared.ops.UnaryOp.TheVariants.{Not, Extend, Restrict}
use Rattle.operator.specs.Words.{meant, wrap}

-- every bit turned
abbrev pub inverted : Row → Outcome
inverted r =
    undefined r gives Ok (undefined_row (width r)) else
    not (cst r.region) gives Err NoExactValue else
    Ok (plain Cst (width r) (2 ^ width r - 1 - r.number))

-- the same number in k bits
abbrev pub extended : Reading → Row → ℕ → Outcome
extended reading r k =
    no_width k gives Err NoExactValue else
    undefined r gives Ok (undefined_row k) else
    not (cst r.region) gives Err NoExactValue else
    nat_le k (width r) gives Err NoExactValue else
    Ok (plain Cst k (wrap k (meant reading (width r) r.number)))

-- bits l to h of the pointer of r
abbrev pub piece : Row → ℕ → ℕ → Row
piece r l h = record { number = r.number; region = r.region; defined = true; low = l; high = h }

-- bits i to j, counted from the lowest bit of r; all bits of a pointer are the pointer
abbrev pub restricted : Row → ℕ → ℕ → Outcome
restricted r i j =
    nat_lt j i || nat_le widest (j - i) gives Err NoExactValue else
    undefined r gives Ok (undefined_row (j - i + 1)) else
    nat_le (width r) j gives Err NoExactValue else
    cst r.region gives Ok (plain Cst (j - i + 1) (r.number / 2 ^ i % 2 ^ (j - i + 1))) else
    Ok (piece r (r.low + i) (r.low + j))

-- an operator of one operand
abbrev pub changed : UnaryOp → Row → Outcome
changed Not r = inverted r
changed (Extend reading k) r = extended reading r k
changed (Restrict i j) r = restricted r i j

-- two pieces of one pointer, of which b begins just above a
abbrev pub continues : Row → Row → Bool
continues a b = same a.region b.region && (a.number == b.number && b.low == a.high + 1)

-- a in the lowest bits, and b above it
abbrev pub concatenated : Row → Row → Outcome
concatenated a b =
    nat_lt widest (width a + width b) gives Err NoExactValue else
    undefined a || undefined b gives Ok (undefined_row (width a + width b)) else
    cst a.region && cst b.region gives Ok (plain Cst (width a + width b) (a.number + b.number * 2 ^ width a)) else
    continues a b gives Ok (piece a a.low b.high) else
    Err NoExactValue
