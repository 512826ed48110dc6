use Rattle.std.proofs.Common.{Some, inr, lit<, rules}
use Rattle.std.proofs.lemmas.Option.{IfSome_then}
use Rattle.std.proofs.lemmas.Str.Pattern.{strip_prefix_char}
use Rattle.notation.proofs.Cuts.{cut}
use Rattle.notation.proofs.reading.row.Goals as goal

pub returns-in_ok-byte-in_default : goal.returns-in_ok-byte-in_default
returns-in_ok-byte-in_default c =
    let parted = cut 58 _ c.in_ok-kind.kind c.in_ok-kind.rest c.in_ok-kind.ensures.cases (lit< tt) in
    let headed = strip_prefix_char 77 _ (Some c.in_ok-strip_prefix-in_default.field-0) c.in_ok-strip_prefix-in_default.ensures.cases (lit< tt) in
    let whole = rw headed at parted in
    IfSome_then c.pointer-in_default.result c.pointer-in_default.ensures (λ r said. inr (inr (inr (c.in_ok-strip_prefix-in_default.field-0.now, c.in_ok-kind.rest.now, c.in_ok-byte-in_default.field-0, whole, search rules, said))))
