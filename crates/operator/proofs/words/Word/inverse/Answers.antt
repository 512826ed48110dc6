use Rattle.operator.proofs.Widths.{cut_inverse}
use Rattle.operator.proofs.words.Word.inverse.Goals as goal

pub returns : goal.returns
returns c = cut_inverse c.args.self.number c.args.self.width c.args.self.fits c.args.self.below
