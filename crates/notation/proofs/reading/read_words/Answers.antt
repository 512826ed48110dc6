use Rattle.std.proofs.Common.{◌≡◌, ℕ, List, [], ◌∷◌, length, map, get_or, codes, refl, inr, arith, Bor, rules}
use Rattle.notation.specs.declared.reading.Entry.{Entry}
use Rattle.notation.specs.declared.reading.Entry.TheVariants.{Nothing, Sizes, Try}
use Rattle.notation.specs.Words.{TriesTwo, OfWords}
use Rattle.notation.proofs.reading.read_words.Goals as goal

of_two : (ws : List (Bor (List ℕ))) (d : Bor (List ℕ)) (e : Entry) → length ws ≡ 5 → (get_or ws 3 d).now ≡ codes "=" → TriesTwo (get_or ws 0 d).now (get_or ws 1 d).now (get_or ws 2 d).now (get_or ws 4 d).now e → OfWords (map (λ w. w.now) ws) e
of_two [] d e n mark h = absurd (omega arith)
of_two (op ∷ []) d e n mark h = absurd (omega arith)
of_two (op ∷ v ∷ []) d e n mark h = absurd (omega arith)
of_two (op ∷ v ∷ w ∷ []) d e n mark h = absurd (omega arith)
of_two (op ∷ v ∷ w ∷ m ∷ []) d e n mark h = absurd (omega arith)
of_two (op ∷ v ∷ w ∷ m ∷ x ∷ []) d Nothing n mark h = absurd h
of_two (op ∷ v ∷ w ∷ m ∷ x ∷ []) d (Sizes t) n mark h = absurd h
of_two (op ∷ v ∷ w ∷ m ∷ x ∷ []) d (Try c e) n mark h = inr (op.now, v.now, w.now, x.now, rw mark refl, h)
of_two (op ∷ v ∷ w ∷ m ∷ x ∷ y ∷ ws) d e n mark h = absurd (omega arith)

pub returns-in_ok-try_two-in-text-2 : goal.returns-in_ok-try_two-in-text-2
returns-in_ok-try_two-in-text-2 c = of_two c.args.words.now _ c.in_ok-try_two-in-text-2.field-0 (search rules) c.in-text-2.is-text c.in_ok-try_two-in-text-2.ensures
