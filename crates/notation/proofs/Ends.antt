-- A text without the character at its end.
use Rattle.std.proofs.Common.{◌≡◌, ℕ, ◌<◌, List, [], ◌∷◌, ◌++◌, Some, None, Option, MatchOption, Bor, ◌∙◌, arith, ◌≢◌}
use Rattle.std.specs.Option.{unwrap_or}
use Rattle.std.proofs.lemmas.Grind.{common_steps}
use Rattle.std.proofs.lemmas.Bool.Decides.{nat_tests}
use Rattle.notation.specs.Lines.{without_last}

some_last : (k : ℕ) (t x : List ℕ) → t ≡ x ++ (k ∷ []) → x ≡ without_last k t
some_last k t x e = grind (arith, common_steps, nat_tests)

no_last : (k : ℕ) (t : List ℕ) → 0 < k → ((front : List ℕ) → t ≢ front ++ (k ∷ [])) → t ≡ without_last k t
no_last k t some none = grind (arith, common_steps, nat_tests)

pub without : (k : ℕ) (t : List ℕ) (o : Option (Bor (List ℕ))) (d : Bor (List ℕ)) → 0 < k → d.now ≡ t → MatchOption o ((front : List ℕ) → t ≢ front ++ (k ∷ [])) (λ x. t ≡ x.now ++ (k ∷ [])) → (unwrap_or o d).now ≡ without_last k t
without k t None d some e h = e ∙ no_last k t some h
without k t (Some x) d some e h = some_last k t x.now h
