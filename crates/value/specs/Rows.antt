-- What a row says, and which rows are the row of a value.
use Rattle.std.specs.Prelude.{ℕ, ◌+◌, ◌-◌, ◌%◌, ◌^◌, Bool, true, false, cond, not, ◌&&◌, ◌||◌, Ok, Err, Result, ◌==◌, nat_le, nat_lt}
use Rattle.answer.specs.declared.faults.Fault.{Fault}
use Rattle.answer.specs.declared.faults.Fault.TheVariants.{NoExactValue}
use Rattle.answer.specs.First.{◌gives◌else◌}
use Rattle.value.specs.declared.rows.Region.{Region}
use Rattle.value.specs.declared.rows.Region.TheVariants.{Cst, Stack, Malloc}
use Rattle.value.specs.declared.rows.Row.{Row}

-- the bits of a value outside Cst, and the most bits of any value
abbrev pub address_width : ℕ
address_width = 32

abbrev pub widest : ℕ
widest = 64

-- regions by number: two are one where their numbers are
abbrev pub rank : Region → ℕ
rank Cst = 0
rank Stack = 1
rank (Malloc n) = n + 2

abbrev pub cst : Region → Bool
cst g = rank g == 0

abbrev pub same : Region → Region → Bool
same g h = rank g == rank h

abbrev pub width : Row → ℕ
width r = r.high - r.low + 1

abbrev pub undefined : Row → Bool
undefined r = not r.defined

-- some of the bits of a pointer, and not all
abbrev pub part : Row → Bool
part r = not (cst r.region) && not (r.low == 0 && r.high == address_width - 1)

-- a number that its width holds, or an undefined value, which has only a width
abbrev pub sound_number : Row → Bool
sound_number r = r.low == 0 && (nat_lt r.high widest && (nat_lt r.number (2 ^ (r.high + 1)) && (r.defined || r.number == 0)))

-- bits low to high of a pointer whose offset fits an address
abbrev pub sound_pointer : Row → Bool
sound_pointer r = r.defined && (nat_le r.low r.high && (nat_lt r.high address_width && nat_lt r.number (2 ^ address_width)))

abbrev pub sound : Row → Bool
sound r = cond (cst r.region) (sound_number r) (sound_pointer r)

-- what an operator answers
abbrev pub Outcome : Type 0
Outcome = Result Row Fault

-- the row of a value is that value; no other row is one
abbrev pub value_of : Row → Outcome
value_of r =
    sound r gives Ok r else
    Err NoExactValue

abbrev pub plain : Region → ℕ → ℕ → Row
plain g w n = record { number = n; region = g; defined = true; low = 0; high = w - 1 }

abbrev pub undefined_row : ℕ → Row
undefined_row w = record { number = 0; region = Cst; defined = false; low = 0; high = w - 1 }

-- no value has the width
abbrev pub no_width : ℕ → Bool
no_width w = w == 0 || nat_lt widest w

abbrev pub undefined_of : ℕ → Outcome
undefined_of w =
    no_width w gives Err NoExactValue else
    Ok (undefined_row w)

-- the low w bits of x, as a number
abbrev pub number_of : ℕ → ℕ → Outcome
number_of w x =
    no_width w gives Err NoExactValue else
    Ok (plain Cst w (x % 2 ^ w))

-- the low bits of x, as an offset into a region
abbrev pub offset_in : Region → ℕ → Row
offset_in g x = plain g address_width (x % 2 ^ address_width)
