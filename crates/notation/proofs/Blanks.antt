-- The pieces of a text that is cut at each of some characters of one byte.
use Rattle.std.proofs.Common.{◌≡◌, ℕ, ◌<◌, Bool, true, false, cond, List, [], ◌∷◌, ◌++◌, length, get_or, take, drop, Some, None, Option, MatchOption, Bor, refl, sym, ap, subst, ◌∙◌, arith, length-drop, take-append-drop}
use Rattle.std.specs.List.{All, slice_split}
use Rattle.std.specs.Char.{char_set_contains}
use Rattle.std.specs.declared.str.Split.{Split}
use Rattle.std.specs.Str.{NoCharPasses}
use Rattle.std.specs.Str.Iter.{split_steps, split_text, split_has_more, split_pattern}
use Rattle.std.specs.Str.Pattern.{FindsBy}
use Rattle.std.proofs.lemmas.Grind.{get_or_default_zero}
use Rattle.std.proofs.lemmas.Iterator.{YieldsList}
use Rattle.std.proofs.lemmas.Iterator.Splits.{YieldsList-from_shown_while}
use Rattle.std.proofs.lemmas.List.Splits.{slice_split_none, slice_split_at}
use Rattle.std.proofs.lemmas.Str.{NoCharPasses-byte}
use Rattle.std.proofs.lemmas.Str.Pattern.{drop_at_char}

module _ (t : ℕ → Bool) (low : (c : ℕ) → t c ≡ true → c < 128) where
  fails : (b : ℕ) (v : Bool) → t b ≡ v → (b < 128 → t b ≡ false) → t b ≡ false
  fails b true e f = f (low b e)
  fails b false e f = e

  none_passes : (bs : List ℕ) → NoCharPasses t bs → All (λ b. t b ≡ false) bs
  none_passes bs h k d l =
      subst (λ b. t b ≡ false) (sym (get_or_default_zero bs k d l)) (fails (get_or bs k 0) (t (get_or bs k 0)) refl (NoCharPasses-byte t bs k h l))

  piece : (w x rest : List ℕ) (live : Bool) (o : Option (ℕ × ℕ)) → FindsBy t w o → MatchOption o ((x ≡ w) × (live ≡ false)) (λ q. 0 < q.1 → (x ≡ take q.0 w) × (live ≡ true) × (rest ≡ drop q.1 w)) → slice_split t w ≡ x ∷ cond live (slice_split t rest) []
  piece w x rest live None f h = rw (h.1, h.0) (slice_split_none t w (none_passes w f))
  piece w x rest live (Some (i, j)) f h =
      let c = f.1.0 in
      let at : drop i w ≡ c ∷ drop j w = drop_at_char c w i j f.1.2 (low c f.1.1) in
      let some : 0 < j = omega (arith, ap length at, length-drop i w, length-drop j w) in
      let whole : take i w ++ (c ∷ drop j w) ≡ w = rw (← at) (take-append-drop i w) in
      let k = h some in
      rw (k.0, k.1, k.2) (subst (λ v. slice_split t v ≡ take i w ∷ slice_split t (drop j w)) whole (slice_split_at t (take i w) c (drop j w) (none_passes (take i w) f.0) f.1.1))

  abbrev steps : Split (List ℕ) → Option (Bor (List ℕ)) → Split (List ℕ) → Type 0
  steps = split_steps (λ p w o. (k : ℕ → Bool) → ((c : ℕ) → char_set_contains p c ≡ k c) → FindsBy k w o) (λ p q. (k : ℕ → Bool) → ((c : ℕ) → char_set_contains p c ≡ k c) → (c : ℕ) → char_set_contains q c ≡ k c)

  abbrev left : Split (List ℕ) → List (List ℕ)
  left s = cond (split_has_more s) (slice_split t (split_text s)) []

  pub pieces : (s : Split (List ℕ)) (bs : List ℕ) → split_text s ≡ bs → split_has_more s ≡ true → ((c : ℕ) → char_set_contains (split_pattern s) c ≡ t c) → YieldsList steps (λ x. x.now) s (slice_split t bs)
  pieces s bs text more pattern =
      let shown : left s ≡ slice_split t bs = rw (more, text) refl in
      subst (YieldsList steps (λ x. x.now) s) shown
      (YieldsList-from_shown_while steps (λ x. x.now) left (λ u. (c : ℕ) → char_set_contains (split_pattern u) c ≡ t c)
      (λ u v h k. ap (λ b. length (cond b (slice_split t (split_text u)) [])) (sym k.0))
      (λ u x v h k.
      let cut = k.1.1.1 in
      (k.1.0 t h, ap (λ b. cond b (slice_split t (split_text u)) []) (sym k.0) ∙ piece (split_text u) x.now (split_text v) (split_has_more v) cut.0 (cut.1 t h) cut.2))
      s pattern)
