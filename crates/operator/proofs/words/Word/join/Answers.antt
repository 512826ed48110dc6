use Rattle.operator.proofs.Widths.{joined}
use Rattle.operator.proofs.words.Word.join.Goals as goal

pub returns : goal.returns
returns c = joined c.args.self.width c.args.above.width c.args.self.number c.args.above.number c.requires c.args.self.below c.args.above.below
