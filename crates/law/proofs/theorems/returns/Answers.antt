use Rattle.law.proofs.Offsets.{returns_law}
use Rattle.law.proofs.theorems.returns.Goals as goal

pub returns : goal.returns
returns c = returns_law
