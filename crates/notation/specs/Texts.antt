-- How values and results are written.
use Rattle.std.specs.Prelude.{◌≡◌, ℕ, ◌-◌, ◌<◌, ◌≤◌, true, ◌⊎◌, List, ◌++◌, Ok, Err, codes, Result, ◌≢◌}
use Rattle.std.specs.Str.Parse.{IsNumeral, digits_value}
use Rattle.answer.specs.declared.faults.Fault.{Fault}
use Rattle.answer.specs.Numbers.{fault_number}
use Rattle.value.specs.declared.rows.Region.{Region}
use Rattle.value.specs.declared.rows.Region.TheVariants.{Cst, Stack, Malloc}
use Rattle.value.specs.declared.rows.Row.{Row}
use Rattle.value.specs.declared.values.Value.{Value}
use Rattle.value.specs.Rows.{plain, undefined_row, address_width}

-- digits, at least one
abbrev pub Writes : List ℕ → ℕ → Type 0
Writes ds n = IsNumeral 10 ds × (n ≡ digits_value 10 ds)

-- digits, at least one, of a number below a limit
abbrev pub NumeralBelow : ℕ → List ℕ → Type 0
NumeralBelow limit ds = IsNumeral 10 ds × (digits_value 10 ds < limit)

-- `I,J}`
abbrev pub Span : List ℕ → ℕ → ℕ → Type 0
Span t i j = (a : List ℕ) × (b : List ℕ) × (t ≡ a ++ (codes "," ++ (b ++ codes "}"))) × Writes a i × Writes b j

-- `W:N`
abbrev pub NumberText : List ℕ → Row → Type 0
NumberText t r = (a : List ℕ) × (b : List ℕ) × (w : ℕ) × (n : ℕ) × (t ≡ a ++ (codes ":" ++ b)) × Writes a w × Writes b n × (1 ≤ w) × (r ≡ plain Cst w n)

-- `W`
abbrev pub UndefinedText : List ℕ → Row → Type 0
UndefinedText t r = (w : ℕ) × Writes t w × (1 ≤ w) × (r ≡ undefined_row w)

-- `N`
abbrev pub OffsetText : Region → List ℕ → Row → Type 0
OffsetText g t r = (n : ℕ) × Writes t n × (r ≡ plain g address_width n)

-- `N{I,J}`, some of the bits of a pointer, and not all
abbrev pub PartText : Region → List ℕ → Row → Type 0
PartText g t r = (a : List ℕ) × (b : List ℕ) × (t ≡ a ++ (codes "{" ++ b)) × Writes a r.number × Span b r.low r.high × (r.low ≡ 0 → r.high ≢ address_width - 1) × (r.region ≡ g) × (r.defined ≡ true)

abbrev pub PointerText : Region → List ℕ → Row → Type 0
PointerText g t r = OffsetText g t r ⊎ PartText g t r

-- `C:`, `U:`, `S:` or `Mk:` and what belongs to it
abbrev pub RowText : List ℕ → Row → Type 0
RowText t r =
    ((rest : List ℕ) × (t ≡ codes "C:" ++ rest) × NumberText rest r)
    ⊎ (((rest : List ℕ) × (t ≡ codes "U:" ++ rest) × UndefinedText rest r)
    ⊎ (((rest : List ℕ) × (t ≡ codes "S:" ++ rest) × PointerText Stack rest r)
    ⊎ ((k : List ℕ) × (rest : List ℕ) × (n : ℕ) × (t ≡ codes "M" ++ (k ++ (codes ":" ++ rest))) × Writes k n × PointerText (Malloc n) rest r)))

-- a value, or `!F`
abbrev pub ResultText : List ℕ → Result Value Fault → Type 0
ResultText t (Ok v) = RowText t v.row
ResultText t (Err e) = (ds : List ℕ) × (t ≡ codes "!" ++ ds) × Writes ds (fault_number e)
