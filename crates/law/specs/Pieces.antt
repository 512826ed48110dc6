-- Cutting a value into pieces, and joining them.
use Rattle.std.specs.Prelude.{◌≡◌, ℕ, ◌+◌, ◌-◌, ◌<◌, ◌≤◌, true, Ok}
use Rattle.answer.specs.First.{and_then}
use Rattle.value.specs.declared.rows.Row.{Row}
use Rattle.value.specs.Rows.{Outcome, sound, width}
use Rattle.operator.specs.Bits.{restricted, concatenated}

-- the k lowest bits of r joined with the bits above them
abbrev pub rejoined : Row → ℕ → Outcome
rejoined r k = and_then (restricted r 0 (k - 1)) (λ low. and_then (restricted r k (width r - 1)) (λ high. concatenated low high))

-- a value that is cut anywhere inside and joined is the value: a number, a pointer, a part or undefined
abbrev pub Rejoins : Type 0
Rejoins = (r : Row) (k : ℕ) → sound r ≡ true → 0 < k → k < width r → rejoined r k ≡ Ok r

-- a restriction of a restriction is the one restriction
abbrev pub Narrows : Type 0
Narrows = (r : Row) (i j p q : ℕ) → sound r ≡ true → i ≤ j → j < width r → p ≤ q → q ≤ j - i →
    and_then (restricted r i j) (λ s. restricted s p q) ≡ restricted r (i + p) (i + q)
