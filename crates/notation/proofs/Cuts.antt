-- What a text is, by the pieces that it was cut into.
use Rattle.std.proofs.Common.{◌≡◌, ℕ, ◌<◌, List, ◌∷◌, ◌++◌, Some, Bor}
use Rattle.std.proofs.lemmas.Str.Pattern.{IsSplitOnceResult, split_parts}

-- `split_once` at an ASCII character
pub cut : (k : ℕ) (t : List ℕ) (a b : Bor (List ℕ)) → IsSplitOnceResult k t (Some (a, b)) → k < 128 → t ≡ a.now ++ (k ∷ b.now)
cut k t a b h small = (split_parts k t (Some (a, b)) h small).0
