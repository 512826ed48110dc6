-- The operators of two operands: rules tried from the top, of which the first that fits answers.
use Rattle.std.specs.Prelude.{ℕ, ◌+◌, ◌-◌, ◌*◌, Bool, true, false, cond, not, ◌&&◌, ◌||◌, List, length, ℤ, pos, ◌-ℤ◌, Ok, Err, ◌==◌, bit_and, bit_or, int_div, int_lt, int_rem, nat_eq, nat_lt, slice_index_or}
use Rattle.answer.specs.declared.faults.Fault.TheVariants.{NoExactValue, ZeroDivisor, OutsideRegion}
use Rattle.answer.specs.First.{◌gives◌else◌}
use Rattle.value.specs.declared.rows.Region.{Region}
use Rattle.value.specs.declared.rows.Region.TheVariants.{Cst, Stack, Malloc}
use Rattle.value.specs.declared.rows.Row.{Row}
use Rattle.value.specs.declared.rows.RegionRecord.{RegionRecord}
use Rattle.value.specs.Rows.{Outcome, cst, same, width, undefined, part, plain, undefined_row}
use Rattle.operator.specs.declared.ops.BinaryOp.{BinaryOp}
use Rattle.operator.specs.declared.ops.BinaryOp.TheVariants.{Add, Sub, Mul, And, Or, Divide, Compare}
use Rattle.operator.specs.declared.ops.Division.{Division}
use Rattle.operator.specs.declared.ops.Division.TheVariants.{Quotient, Remainder}
use Rattle.operator.specs.declared.ops.Comparison.{Comparison}
use Rattle.operator.specs.declared.ops.Comparison.TheVariants.{Equal, NotEqual, Ordered}
use Rattle.operator.specs.declared.ops.Order.{Order}
use Rattle.operator.specs.declared.ops.Order.TheVariants.{Less, LessOrEqual, GreaterOrEqual, Greater}
use Rattle.operator.specs.Words.{meant, wrap}

-- by what is less: whether the first is, and whether the second is
abbrev pub ordered : Order → Bool → Bool → Bool
ordered Less less more = less
ordered LessOrEqual less more = not more
ordered GreaterOrEqual less more = not less
ordered Greater less more = more

abbrev pub holds : Comparison → ℕ → ℕ → ℕ → Bool
holds Equal w m n = m == n
holds NotEqual w m n = not (m == n)
holds (Ordered reading o) w m n = ordered o (int_lt (meant reading w m) (meant reading w n)) (int_lt (meant reading w n) (meant reading w m))

-- quotient and remainder of numbers of w bits; a quotient is rounded toward zero
abbrev pub divided : Division → ℕ → ℕ → ℕ → ℤ
divided (Quotient reading) w m n = int_div (meant reading w m) (meant reading w n)
divided (Remainder reading) w m n = int_rem (meant reading w m) (meant reading w n)

-- the exact result of two numbers of w bits
abbrev pub exact : BinaryOp → ℕ → ℕ → ℕ → ℤ
exact Add w m n = pos (m + n)
exact Sub w m n = pos m -ℤ pos n
exact Mul w m n = pos (m * n)
exact And w m n = pos (bit_and m n)
exact Or w m n = pos (bit_or m n)
exact (Divide d) w m n = divided d w m n
exact (Compare k) w m n = pos (cond (holds k w m n) 1 0)

abbrev pub is_sum : BinaryOp → Bool
is_sum Add = true
is_sum Sub = false
is_sum Mul = false
is_sum And = false
is_sum Or = false
is_sum (Divide d) = false
is_sum (Compare k) = false

abbrev pub is_difference : BinaryOp → Bool
is_difference Add = false
is_difference Sub = true
is_difference Mul = false
is_difference And = false
is_difference Or = false
is_difference (Divide d) = false
is_difference (Compare k) = false

abbrev pub divides : BinaryOp → Bool
divides Add = false
divides Sub = false
divides Mul = false
divides And = false
divides Or = false
divides (Divide d) = true
divides (Compare k) = false

abbrev pub compares : BinaryOp → Bool
compares Add = false
compares Sub = false
compares Mul = false
compares And = false
compares Or = false
compares (Divide d) = false
compares (Compare k) = true

abbrev pub comparison_is_equal : Comparison → Bool
comparison_is_equal Equal = true
comparison_is_equal NotEqual = false
comparison_is_equal (Ordered reading o) = false

abbrev pub comparison_is_unequal : Comparison → Bool
comparison_is_unequal Equal = false
comparison_is_unequal NotEqual = true
comparison_is_unequal (Ordered reading o) = false

abbrev pub is_equal : BinaryOp → Bool
is_equal Add = false
is_equal Sub = false
is_equal Mul = false
is_equal And = false
is_equal Or = false
is_equal (Divide d) = false
is_equal (Compare k) = comparison_is_equal k

abbrev pub is_unequal : BinaryOp → Bool
is_unequal Add = false
is_unequal Sub = false
is_unequal Mul = false
is_unequal And = false
is_unequal Or = false
is_unequal (Divide d) = false
is_unequal (Compare k) = comparison_is_unequal k

-- a comparison gives one bit; the rest keep the width
abbrev pub result_width : BinaryOp → ℕ → ℕ
result_width op w = cond (compares op) 1 w

-- the exact result, modulo 2 to its width
abbrev pub result_of : BinaryOp → ℕ → ℕ → ℕ → ℕ
result_of op w m n = wrap (result_width op w) (exact op w m n)

abbrev pub bit : Bool → Row
bit b = plain Cst 1 (cond b 1 0)

-- the result as a plain value of a region
abbrev pub result_in : Region → BinaryOp → ℕ → ℕ → ℕ → Row
result_in g op w m n = plain g (result_width op w) (result_of op w m n)

-- Rules 3 to 8, of two plain values of width w: m in region g, and n in region h. Rules 3, 5, 6 and 7 have two lines
-- each.
abbrev pub by_regions : BinaryOp → ℕ → Region → ℕ → Region → ℕ → Outcome
by_regions op w g m h n =
    cst g && cst h && divides op && nat_eq n 0 gives Err ZeroDivisor else
    cst g && cst h gives Ok (result_in Cst op w m n) else
    compares op && same g h gives Ok (result_in Cst op w m n) else
    is_sum op && cst h gives Ok (result_in g op w m n) else
    is_sum op && cst g gives Ok (result_in h op w m n) else
    is_difference op && cst h gives Ok (result_in g op w m n) else
    is_difference op && same g h gives Ok (result_in Cst op w m n) else
    is_equal op gives Ok (bit false) else
    is_unequal op gives Ok (bit true) else
    Err NoExactValue

-- the eight rules; operands of two widths have no exact value either
abbrev pub by_rules : BinaryOp → Row → Row → Outcome
by_rules op a b =
    undefined a || undefined b gives Ok (undefined_row (result_width op (width a))) else
    part a || part b gives Err NoExactValue else
    not (width a == width b) gives Err NoExactValue else
    by_regions op (width a) a.region a.number b.region b.number

-- the size of region k; a region that was not made has none
abbrev pub size_of : List RegionRecord → ℕ → ℕ
size_of rs k = cond (k == 0 || nat_lt (length rs) k) 0 (slice_index_or rs (k - 1) (record { size = 0; freed = false })).size

-- an offset of a malloc region lies below its size
abbrev pub inside : List RegionRecord → Region → ℕ → Bool
inside rs Cst n = true
inside rs Stack n = true
inside rs (Malloc k) n = nat_lt n (size_of rs k)

abbrev pub within : List RegionRecord → Outcome → Outcome
within rs (Err e) = Err e
within rs (Ok r) =
    not (inside rs r.region r.number) gives Err OutsideRegion else
    Ok r

-- what an operator answers: the eight rules, then the bound of the result's region
abbrev pub applied : List RegionRecord → BinaryOp → Row → Row → Outcome
applied rs op a b = within rs (by_rules op a b)
