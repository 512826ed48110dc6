use Rattle.std.proofs.Common.{lit<, rules}
use Rattle.notation.proofs.Cuts.{cut}
use Rattle.notation.proofs.reading.number.Goals as goal

pub returns : goal.returns
returns c =
    let parted = cut 58 _ c.in_ok-digits.digits c.in_ok-digits.number c.in_ok-digits.ensures.cases (lit< tt) in
    search rules
