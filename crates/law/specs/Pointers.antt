-- Going from pointer to pointer.
use Rattle.std.specs.Prelude.{◌≡◌, true, false, List, Ok}
use Rattle.value.specs.declared.rows.Row.{Row}
use Rattle.value.specs.declared.rows.RegionRecord.{RegionRecord}
use Rattle.value.specs.Rows.{sound, cst, same, part, width}
use Rattle.operator.specs.declared.ops.BinaryOp.TheVariants.{Add, Sub}
use Rattle.operator.specs.Rules.{applied, inside}

-- the row of a number
abbrev pub Number : Row → Type 0
Number r = (sound r ≡ true) × (cst r.region ≡ true) × (r.defined ≡ true)

-- the row of a pointer, whole
abbrev pub Pointer : Row → Type 0
Pointer r = (sound r ≡ true) × (cst r.region ≡ false) × (part r ≡ false)

-- a pointer plus a number, minus that number, is the pointer, where both results exist
abbrev pub Returns : Type 0
Returns = (rs : List RegionRecord) (p n s t : Row) → Pointer p → Number n →
    applied rs Add p n ≡ Ok s → applied rs Sub s n ≡ Ok t → t ≡ p

-- Within a region, pointer minus pointer is a number of 32 bits that leads from the right one to the left one: the sum
-- of both is the left pointer where it exists, and it exists where the left pointer lies inside its region.
abbrev pub Leads : Type 0
Leads = (rs : List RegionRecord) (p q : Row) → Pointer p → Pointer q → same p.region q.region ≡ true →
    (d : Row) × (applied rs Sub p q ≡ Ok d) × Number d × (width d ≡ 32)
    × ((s : Row) → applied rs Add q d ≡ Ok s → s ≡ p)
    × (inside rs p.region p.number ≡ true → applied rs Add q d ≡ Ok p)
