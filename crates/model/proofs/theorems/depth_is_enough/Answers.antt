use Rattle.model.proofs.Depth.{deep_enough}
use Rattle.model.proofs.theorems.depth_is_enough.Goals as goal

pub returns : goal.returns
returns c = deep_enough
