use Rattle.std.proofs.Common.{Some, append_assoc, rules, lit<}
use Rattle.std.proofs.lemmas.Str.Pattern.{strip_suffix_char}
use Rattle.notation.proofs.Cuts.{cut}
use Rattle.notation.proofs.reading.range.Goals as goal

pub returns : goal.returns
returns c =
    let closed = strip_suffix_char 125 c.args.text.now (Some c.in_ok-strip_suffix.field-0) c.in_ok-strip_suffix.ensures.cases (lit< tt) in
    let parted = cut 44 _ c.in_ok-low.low c.in_ok-low.high c.in_ok-low.ensures.cases (lit< tt) in
    let whole = simp append_assoc at (rw parted at closed) in
    search rules
