-- The mask of w ones in a word of 64.
use Rattle.std.proofs.Common.{◌≡◌, ℕ, ◌+◌, ◌-◌, ◌*◌, ◌/◌, ◌^◌, ◌≤◌, sym, ap, ◌∙◌, arith}
use lib.Pow.{ones_split, ones_lt, high}

pub mask_is : (w : ℕ) → w ≤ 64 → (2 ^ 64 - 1) / 2 ^ (64 - w) ≡ 2 ^ w - 1
mask_is w h =
    let e : w + (64 - w) ≡ 64 = omega arith in
    let s : 2 ^ 64 - 1 ≡ (2 ^ w - 1) * 2 ^ (64 - w) + (2 ^ (64 - w) - 1) = ap (λ k. 2 ^ k - 1) (sym e) ∙ ones_split w (64 - w) in
    ap (λ x. x / 2 ^ (64 - w)) s ∙ high (2 ^ w - 1) (64 - w) (ones_lt (64 - w))
