-- Two values are one where their rows are.
use Rattle.std.proofs.Common.{◌≡◌, Ok, Err, Result, Decides, ap, rules}
use Rattle.std.specs.Result.{result_eq}
use Rattle.answer.specs.declared.faults.Fault.{Fault}
use Rattle.answer.specs.contracts.faults.FaultPartialEq.TheImpl as Faults
use Rattle.value.specs.declared.rows.Row.{Row}
use Rattle.value.specs.contracts.rows.RowPartialEq.TheImpl as Rows
use Rattle.value.specs.declared.values.Value.{Value}
use Rattle.value.specs.contracts.values.ValuePartialEq.TheImpl as Values
use Rattle.value.specs.Outcome.{outcome}

rows : (r s : Row) → Decides (Rows.eq-value.it r s) (r ≡ s)
rows r s = search rules

pub alike : (a b : Result Value Fault) → Decides (result_eq Values.eq-value.it Faults.eq-value.it a b) (outcome a ≡ outcome b)
alike (Ok v) (Ok w) = let h = rows v.row w.row in (λ e. ap Ok (h.0 e), λ e. h.1 (cc))
alike (Ok v) (Err f) = search rules
alike (Err e) (Ok w) = search rules
alike (Err e) (Err f) = search rules
