-- What a line adds to a tally. A count that is full stays full.
use Rattle.std.specs.Prelude.{◌≡◌, ℕ, ◌+◌, ◌-◌, ◌^◌, min, Bool, cond, ◌⊎◌}
use Rattle.vector.specs.declared.tally.Tally.{Tally}

abbrev pub next : ℕ → ℕ
next n = min (n + 1) (2 ^ 64 - 1)

-- a case, and whether it agreed
abbrev pub with_case : Bool → Tally → Tally
with_case agreed t = record t { tried = next t.tried; differ = cond agreed t.differ (next t.differ) }

abbrev pub with_malformed : Tally → Tally
with_malformed t = record t { malformed = next t.malformed }

-- a line counts once, as a case or as malformed, or not at all
abbrev pub Counted : Tally → Tally → Type 0
Counted t u = (u ≡ t) ⊎ ((u ≡ with_malformed t) ⊎ ((agreed : Bool) × (u ≡ with_case agreed t)))
