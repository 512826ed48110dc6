-- Values by their description, and the one row that each has.
use Rattle.std.specs.Prelude.{◌≡◌, ℕ, ◌^◌, ◌<◌, ◌≤◌, true, false, ◌≢◌}
use Rattle.value.specs.declared.rows.Region.{Region}
use Rattle.value.specs.declared.rows.Row.{Row}
use Rattle.value.specs.Rows.{address_width, widest, cst, sound, plain, undefined_row}

-- a number or offset in a region, with a width; bits i to j of such an offset; or only a width
pub data Described : Type 0 where
  number_in : Region → ℕ → ℕ → Described
  bits_of : Region → ℕ → ℕ → ℕ → Described
  nothing_of : ℕ → Described

-- No value exists whose number reaches 2 to its width; of a part this is asked of the value it was cut from. A width is
-- 1 to 64, and 32 outside Cst. A part lies outside Cst, and is never all 32 bits.
abbrev pub Exists : Described → Type 0
Exists (number_in g w n) = (1 ≤ w) × (w ≤ widest) × (n < 2 ^ w) × (cst g ≡ false → w ≡ address_width)
Exists (bits_of g n i j) = (cst g ≡ false) × (n < 2 ^ address_width) × (i ≤ j) × (j < address_width) × (i ≡ 0 → j ≢ 31)
Exists (nothing_of w) = (1 ≤ w) × (w ≤ widest)

abbrev pub row_of : Described → Row
row_of (number_in g w n) = plain g w n
row_of (bits_of g n i j) = record { number = n; region = g; defined = true; low = i; high = j }
row_of (nothing_of w) = undefined_row w

-- the sound rows are the rows of the values that exist, and two values have two rows
pub record OneRow : Type 0 where
  pub of_value : (d : Described) → Exists d → sound (row_of d) ≡ true
  pub of_row : (r : Row) → sound r ≡ true → (d : Described) × Exists d × (row_of d ≡ r)
  pub apart : (d e : Described) → Exists d → Exists e → row_of d ≡ row_of e → d ≡ e
