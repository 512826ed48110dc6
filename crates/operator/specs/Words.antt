-- Numbers of w bits, and what they mean in two's complement.
use Rattle.std.specs.Prelude.{ℕ, ◌-◌, ◌%◌, ◌^◌, cond, ℤ, pos, negsuc, ◌-ℤ◌, nat_lt}
use Rattle.operator.specs.declared.ops.Reading.{Reading}
use Rattle.operator.specs.declared.ops.Reading.TheVariants.{Unsigned, Signed}

-- the integer that w bits mean in two's complement
abbrev pub signed : ℕ → ℕ → ℤ
signed w n = cond (nat_lt n (2 ^ (w - 1))) (pos n) (pos n -ℤ pos (2 ^ w))

-- the integer that w bits mean, read as they stand or in two's complement
abbrev pub meant : Reading → ℕ → ℕ → ℤ
meant Unsigned w n = pos n
meant Signed w n = signed w n

-- an integer modulo 2 to the w
abbrev pub wrap : ℕ → ℤ → ℕ
wrap w (pos n) = n % 2 ^ w
wrap w (negsuc n) = 2 ^ w - 1 - n % 2 ^ w
