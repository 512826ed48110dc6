-- Values with one row are equal, since their proofs of the invariant are.
use Rattle.std.proofs.Common.{◌≡◌, true}
use mathlib.Core.Bool.{Bool-set}
use mathlib.Core.HLevel.{is_prop→PathP}
use Rattle.value.specs.Rows.{sound}
use Rattle.value.specs.declared.values.Value.{Value}

pub same : (u v : Value) → u.row ≡ v.row → u ≡ v
same u v e = λ i. record { row = e i; ok = is_prop→PathP (λ j. sound (e j) ≡ true) (λ j. Bool-set _ _) u.ok v.ok i }
