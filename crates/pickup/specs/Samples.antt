-- What a relay makes of one sample word.
use Rattle.std.specs.Prelude.{◌≡◌, Bool, not, List, [], Ok, Err, Result, ◌==◌, nat_le, unsigned_abs}
use Rattle.answer.specs.declared.faults.Fault.{Fault}
use Rattle.answer.specs.declared.faults.Fault.TheVariants.{UndefinedUsed, NoExactValue}
use Rattle.answer.specs.First.{◌gives◌else◌, and_then}
use Rattle.value.specs.declared.rows.Region.TheVariants.{Cst}
use Rattle.value.specs.declared.rows.Row.{Row}
use Rattle.value.specs.declared.rows.RegionRecord.{RegionRecord}
use Rattle.value.specs.Rows.{Outcome, cst, undefined, width, number_of, plain}
use Rattle.operator.specs.declared.ops.BinaryOp.TheVariants.{Add, Sub, Compare}
use Rattle.operator.specs.declared.ops.Comparison.TheVariants.{Ordered}
use Rattle.operator.specs.declared.ops.Order.TheVariants.{Less, GreaterOrEqual}
use Rattle.operator.specs.declared.ops.Reading.TheVariants.{Unsigned, Signed}
use Rattle.operator.specs.Words.{signed}
use Rattle.operator.specs.Rules.{applied}
use Rattle.operator.specs.Bits.{extended, restricted}
use Rattle.law.specs.Pointers.{Number}

-- a condition holds where it is 1; an undefined one decides nothing, and one outside Cst has no exact value
abbrev pub decision : Row → Result Bool Fault
decision r =
    undefined r gives Err UndefinedUsed else
    not (cst r.region) gives Err NoExactValue else
    Ok (r.number == 1)

-- the low 12 bits of a sample word, with their sign, in 32 bits
abbrev pub sample_in : Row → Outcome
sample_in word = and_then (restricted word 0 11) (λ bits. extended Signed bits 32)

-- zero in the bits of a sample
abbrev pub zero_of : Row → Outcome
zero_of sample = number_of (width sample) 0

abbrev pub is_negative : Row → Result Bool Fault
is_negative sample = and_then (and_then (zero_of sample) (λ zero. applied [] (Compare (Ordered Signed Less)) sample zero)) decision

-- 0 minus a sample
abbrev pub turned : Row → Outcome
turned sample = and_then (zero_of sample) (λ zero. applied [] Sub zero sample)

-- 0 minus a negative sample, and any other as it is
abbrev pub magnitude_of : Row → Outcome
magnitude_of sample =
    and_then (is_negative sample) (λ negative.
    negative gives turned sample else
    Ok sample)

abbrev pub is_picked_up : Row → Row → Result Bool Fault
is_picked_up magnitude setting = and_then (applied [] (Compare (Ordered Unsigned GreaterOrEqual)) magnitude setting) decision

-- the magnitude of a number is the size of the integer that its bits mean in two's complement
abbrev pub Measures : Type 0
Measures = (sample : Row) → Number sample → magnitude_of sample ≡ Ok (plain Cst (width sample) (unsigned_abs (signed (width sample) sample.number)))

-- a number is picked up exactly where it is not below the setting
abbrev pub Reaches : Type 0
Reaches = (magnitude setting : Row) → Number magnitude → Number setting → width magnitude ≡ width setting →
    is_picked_up magnitude setting ≡ Ok (nat_le setting.number magnitude.number)

-- the pointer to the next sample word
abbrev pub next_word : List RegionRecord → Row → Outcome
next_word rs pointer = and_then (number_of 32 2) (λ step. applied rs Add pointer step)
