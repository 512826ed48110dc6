use Rattle.std.proofs.Common.{◌≡◌, ℕ, ◌<◌, true, [], ◌∷◌, length, not, ◌==◌, arith, rules}
use Rattle.std.specs.Char.{char_set_contains}
use Rattle.std.proofs.lemmas.Bool.Decides.{nat_tests}
use Rattle.std.proofs.lemmas.Iterator.Consumers.{map_from_collect, YieldsList-from_filter}
use Rattle.notation.specs.Lines.{blank}
use Rattle.notation.proofs.Blanks.{pieces}
use Rattle.notation.proofs.reading.words.Goals as goal

low : (k : ℕ) → blank k ≡ true → k < 128
low k h = grind (arith, nat_tests)

same : (k : ℕ) → char_set_contains (32 ∷ 9 ∷ []) k ≡ blank k
same k = grind (arith, nat_tests)

pub returns : goal.returns
returns c =
    map_from_collect _ c.collect.ensures.ran (
    YieldsList-from_filter _ (λ w. not (length w == 0))
    (pieces blank low c.filter.result.iter c.args.text.now (rw c.filter.ensures.source c.split.ensures.text) (rw c.filter.ensures.source c.split.ensures.has_more) (λ k. rw (c.filter.ensures.source, c.split.ensures.pattern) (same k)))
    c.filter.ensures.closure
    (λ x b q k. search rules)
    )
