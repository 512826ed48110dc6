use Rattle.std.proofs.Common.{◌≡◌, true, Some, None, Option, IfSome, MatchOption, sym, subst}
use Rattle.value.specs.declared.rows.Row.{Row}
use Rattle.value.specs.declared.values.Value.{Value}
use Rattle.value.specs.Rows.{sound}
use Rattle.notation.specs.Texts.{RowText}
use Rattle.notation.proofs.reading.value.Goals as goal

-- what holds of a row holds of the row of its value
of_value : (P : Row → Type 0) (o : Option Value) (r : Row) (Q : Type 0) → MatchOption o Q (λ v. (sound r ≡ true) × (v.row ≡ r)) → P r → IfSome o (λ v. P v.row)
of_value P None r Q h p = tt
of_value P (Some v) r Q h p = subst P (sym h.1) p

pub returns : goal.returns
returns c = of_value (RowText c.args.text.now) c.from_row.result c.in_ok-row.field-0 _ c.from_row.ensures.value c.in_ok-row.ensures
