-- The words of a line.
use Rattle.std.specs.Prelude.{ℕ, ◌-◌, Bool, cond, not, ◌||◌, List, length, take, slice_index, ◌==◌}
use Rattle.std.specs.List.{slice_split, filter}

-- a text without the code k at its end, if it stands there
abbrev pub without_last : ℕ → List ℕ → List ℕ
without_last k t = cond (slice_index t (length t - 1) == k) (take (length t - 1) t) t

-- a line without its end
abbrev pub line_text : List ℕ → List ℕ
line_text l = without_last 13 (without_last 10 l)

-- a space or a tab
abbrev pub blank : ℕ → Bool
blank k = k == 32 || k == 9

-- the pieces between blanks that are not empty
abbrev pub words_of : List ℕ → List (List ℕ)
words_of t = filter (λ w. not (length w == 0)) (slice_split blank t)
