use Rattle.std.proofs.Common.{Some, sym, ap}
use Rattle.value.proofs.Same.{same}
use Rattle.value.proofs.values.Value.from_row.Goals as goal

pub returns-then-is_sound-clause-back : goal.returns-then-is_sound-clause-back
returns-then-is_sound-clause-back c = λ v e. ap Some (same _ v (sym e))
