-- Worked cases, of the definitions.
use Rattle.std.specs.Prelude.{◌≡◌, ℕ, false, List, [], ◌∷◌, Ok, Err}
use Rattle.answer.specs.declared.faults.Fault.TheVariants.{NoExactValue, OutsideRegion}
use Rattle.answer.specs.First.{and_then}
use Rattle.value.specs.declared.rows.Region.TheVariants.{Cst, Stack, Malloc}
use Rattle.value.specs.declared.rows.Row.{Row}
use Rattle.value.specs.declared.rows.RegionRecord.{RegionRecord}
use Rattle.value.specs.Rows.{plain, undefined_row}
use Rattle.operator.specs.declared.ops.BinaryOp.TheVariants.{Add, Sub, Divide}
use Rattle.operator.specs.declared.ops.Division.TheVariants.{Quotient}
use Rattle.operator.specs.declared.ops.Reading.TheVariants.{Unsigned, Signed}
use Rattle.operator.specs.Rules.{applied}
use Rattle.operator.specs.Bits.{piece, restricted, concatenated}

-- a number with its width, and a pointer
abbrev number : ℕ → ℕ → Row
number n w = plain Cst w n

abbrev stack : ℕ → Row
stack n = plain Stack 32 n

abbrev heap : ℕ → Row
heap n = plain (Malloc 1) 32 n

-- one region, of 12 bytes
abbrev twelve : List RegionRecord
twelve = record { size = 12; freed = false } ∷ []

pub record WorkedCases : Type 0 where
  pub pointer_plus_pointer : applied [] Add (stack 5) (stack 8) ≡ Err NoExactValue
  pub pointer_minus_pointer : applied [] Sub (stack 5) (stack 8) ≡ Ok (number 4294967293 32)
  pub quotient_wraps : applied [] (Divide (Quotient Signed)) (number 128 8) (number 255 8) ≡ Ok (number 128 8)
  pub undefined_before_zero : applied [] (Divide (Quotient Unsigned)) (undefined_row 8) (number 0 8) ≡ Ok (undefined_row 8)
  pub last_offset : applied twelve Add (heap 0) (number 11 32) ≡ Ok (heap 11)
  pub past_the_end : applied twelve Add (heap 0) (number 12 32) ≡ Err OutsideRegion
  pub joined_again : concatenated (piece (stack 8) 0 7) (piece (stack 8) 8 31) ≡ Ok (stack 8)
  pub cut_low : restricted (stack 8) 0 7 ≡ Ok (piece (stack 8) 0 7)
  pub cut_high : restricted (stack 8) 8 31 ≡ Ok (piece (stack 8) 8 31)
  pub other_order : concatenated (piece (stack 8) 8 31) (piece (stack 8) 0 7) ≡ Err NoExactValue
  pub part_of_part : and_then (restricted (stack 8) 8 23) (λ r. restricted r 0 7) ≡ restricted (stack 8) 8 15
