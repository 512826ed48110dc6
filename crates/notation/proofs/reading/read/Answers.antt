use Rattle.std.proofs.Common.{◌≡◌, IfOk, map, refl, ap, subst, ◌∙◌, lit<, rules}
use Rattle.std.proofs.lemmas.Str.Pattern.{strip_suffix_char}
use Rattle.notation.specs.Lines.{without_last, words_of, line_text}
use Rattle.notation.specs.Words.{OfWords}
use Rattle.notation.proofs.Ends.{without}
use Rattle.notation.proofs.reading.read.Goals as goal

pub returns-clause-words : goal.returns-clause-words
returns-clause-words c =
    let whole : c.in_ok-text.text.now ≡ c.args.line.now = search rules in
    let first : c.unwrap_or-text.result.now ≡ without_last 10 c.in_ok-text.text.now =
    rw c.unwrap_or-text.ensures (without 10 _ c.strip_suffix.result c.in_ok-text.text (lit< tt) refl (strip_suffix_char 10 _ c.strip_suffix.result c.strip_suffix.ensures.cases (lit< tt))) in
    let second : c.unwrap_or-text-2.result.now ≡ without_last 13 c.unwrap_or-text.result.now =
    rw c.unwrap_or-text-2.ensures (without 13 _ c.strip_suffix-2.result c.unwrap_or-text.result (lit< tt) refl (strip_suffix_char 13 _ c.strip_suffix-2.result c.strip_suffix-2.ensures.cases (lit< tt))) in
    let text : c.unwrap_or-text-2.result.now ≡ line_text c.args.line.now = second ∙ ap (without_last 13) (first ∙ ap (without_last 10) whole) in
    let said : map (λ w. w.now) c.as_slice.result.now ≡ words_of (line_text c.args.line.now) = ap (map (λ w. w.now)) c.as_slice.ensures.value ∙ (c.in_ok-words.ensures ∙ ap words_of text) in
    subst (λ ws. IfOk c.read_words.result (OfWords ws)) said c.read_words.ensures
