-- Words of 64 bits, of which the lowest w count.
use Rattle.std.proofs.Common.{◌≡◌, ℕ, suc, ◌+◌, ◌-◌, ◌*◌, ◌/◌, ◌%◌, ◌^◌, ◌<◌, ◌≤◌, Bool, true, false, cond, not, ltb, ℤ, pos, negsuc, ◌-ℤ◌, neg_ℤ, nat_abs, sym, refl, ap, ◌∙◌, subst, inl, inr, mod-eq_of_lt, add-mul, add_comm, one-mul, arith, pow_pos, pow-add}
use native.Mathlib.Nat.{add-mul-mod_self_right}
use lib.Arith.{digits_lt}
use lib.Bits.{bit_or}
use lib.Pow.{mod-mod-pow, not_mod}
use lib.Signed.{non_neg}
use Rattle.std.proofs.lemmas.Nat.{div-add-mod', mod_below, or_shifted, shl_whole}
use Rattle.std.proofs.lemmas.Int.{ints}
use Rattle.std.proofs.lemmas.Bool.{cases_lt, false≢true}
use Rattle.operator.specs.Words.{meant, wrap}
use Rattle.operator.specs.Rules.{result_width, result_of}
use Rattle.operator.specs.declared.ops.BinaryOp.{BinaryOp}
use Rattle.operator.specs.declared.ops.Reading.{Reading}
use Rattle.operator.specs.declared.ops.Reading.TheVariants.{Unsigned, Signed}

pub cut : (n w : ℕ) → w ≤ 64 → n % 2 ^ 64 % 2 ^ w ≡ n % 2 ^ w
cut n w h =
    let e : 64 - w + w ≡ 64 = omega arith in
    ap (λ k. n % 2 ^ k % 2 ^ w) (sym e) ∙ mod-mod-pow n (64 - w) w

-- 2 to the 64 as a multiple of 2 to the w
whole : (w : ℕ) → w ≤ 64 → 2 ^ (64 - w) * 2 ^ w ≡ 2 ^ 64
whole w h =
    let e : 64 - w + w ≡ 64 = omega arith in
    sym (pow-add 2 (64 - w) w) ∙ ap (λ k. 2 ^ k) e

-- P * W less one more than k, modulo W
below_multiple : (k P W : ℕ) → 0 < W → k < P * W → (P * W - suc k) % W ≡ W - 1 - k % W
below_multiple k P W z h =
    let q = k / W in
    let r = k % W in
    let s : q * W + r ≡ k = div-add-mod' k W in
    let b : r < W = mod_below k W z in
    elim (cases_lt q P) [
      | inl l ↦
          let d = P - suc q in
          let e : P ≡ d + suc q = omega arith in
          let f : P * W ≡ d * W + suc q * W = ap (λ x. x * W) e ∙ add-mul d (suc q) W in
          let g : suc q * W ≡ W + q * W = ap (λ x. x * W) {x = suc q} {y = 1 + q} (omega arith) ∙ add-mul 1 q W ∙ ap (λ x. x + q * W) (one-mul W) in
          let t : P * W - suc k ≡ (W - suc r) + d * W = omega arith in
          let u : W - suc r < W = omega arith in
          let v : W - suc r ≡ W - 1 - r = omega arith in
          ap (λ x. x % W) t ∙ add-mul-mod_self_right (W - suc r) d W ∙ mod-eq_of_lt u ∙ v
      | inr l ↦
          let d = q - P in
          let e : q ≡ d + P = omega arith in
          let f : q * W ≡ d * W + P * W = ap (λ x. x * W) e ∙ add-mul d P W in
          absurd (omega arith)
    ]

-- a difference that wrapped at 64 bits
pub cut_difference : (m n w : ℕ) → w ≤ 64 → n ≤ 2 ^ 64 → (m + (2 ^ 64 - n)) % 2 ^ 64 % 2 ^ w ≡ wrap w (pos m -ℤ pos n)
cut_difference m n w h l =
    let p : 2 ^ (64 - w) * 2 ^ w ≡ 2 ^ 64 = whole w h in
    elim (cases_lt m n) [
      | inl a ↦
          let k = n - suc m in
          let e : m + (2 ^ 64 - n) ≡ 2 ^ (64 - w) * 2 ^ w - suc k = omega arith in
          let i : pos m -ℤ pos n ≡ negsuc k = omega (arith, ints) in
          cut (m + (2 ^ 64 - n)) w h
          ∙ ap (λ x. x % 2 ^ w) e
          ∙ below_multiple k (2 ^ (64 - w)) (2 ^ w) (pow_pos w) (omega arith)
          ∙ ap (wrap w) (sym i)
      | inr a ↦
          let k = m - n in
          let e : m + (2 ^ 64 - n) ≡ k + 2 ^ (64 - w) * 2 ^ w = omega arith in
          let i : pos m -ℤ pos n ≡ pos k = omega (arith, ints) in
          cut (m + (2 ^ 64 - n)) w h
          ∙ ap (λ x. x % 2 ^ w) e
          ∙ add-mul-mod_self_right k (2 ^ (64 - w)) (2 ^ w)
          ∙ ap (wrap w) (sym i)
    ]

pub cut_negative : (n w : ℕ) → w ≤ 64 → n ≤ 2 ^ 64 → (0 + (2 ^ 64 - n)) % 2 ^ 64 % 2 ^ w ≡ wrap w (neg_ℤ (pos n))
cut_negative n w h l =
    let i : pos 0 -ℤ pos n ≡ neg_ℤ (pos n) = omega (arith, ints) in
    cut_difference 0 n w h l ∙ ap (wrap w) i

pub cut_inverse : (n w : ℕ) → w ≤ 64 → n < 2 ^ w → (2 ^ 64 - 1 - n) % 2 ^ w ≡ 2 ^ w - 1 - n
cut_inverse n w h l =
    let e : 64 - w + w ≡ 64 = omega arith in
    ap (λ k. (2 ^ k - 1 - n) % 2 ^ w) (sym e) ∙ not_mod (64 - w) w l

-- where the sign bit is set
negative_is : (b : Bool) (n : ℕ) (z : ℤ) → not (non_neg (cond b (pos n) z)) ≡ true → cond b (pos n) z ≡ z
negative_is true n z h = absurd (false≢true h)
negative_is false n z h = refl

pub meant_negative : (reading : Reading) (w n : ℕ) → not (non_neg (meant reading w n)) ≡ true → meant reading w n ≡ pos n -ℤ pos (2 ^ w)
meant_negative Unsigned w n h = absurd (false≢true h)
meant_negative Signed w n h = negative_is (ltb n (2 ^ (w - 1))) n (pos n -ℤ pos (2 ^ w)) h

pub joined : (u v m n : ℕ) → u + v ≤ 64 → m < 2 ^ u → n < 2 ^ v → bit_or ((n * 2 ^ u) % 2 ^ 64) m % 2 ^ (u + v) ≡ m + n * 2 ^ u
joined u v m n h k l =
    let b : n * 2 ^ u + m < 2 ^ v * 2 ^ u = digits_lt l k in
    let p : 2 ^ v * 2 ^ u ≡ 2 ^ (u + v) = sym (pow-add 2 v u) ∙ ap (λ x. 2 ^ x) (add_comm v u) in
    let q : n * 2 ^ u + m < 2 ^ (u + v) = subst (λ t. n * 2 ^ u + m < t) p b in
    ap (λ x. bit_or x m % 2 ^ (u + v)) (shl_whole n v u 64 l (omega arith))
    ∙ ap (λ x. x % 2 ^ (u + v)) (or_shifted n u m k)
    ∙ mod-eq_of_lt q
    ∙ add_comm (n * 2 ^ u) m

pub magnitude_negative : (reading : Reading) (w n : ℕ) → n < 2 ^ w → not (non_neg (meant reading w n)) ≡ true → nat_abs (meant reading w n) ≡ 2 ^ w - n
magnitude_negative reading w n l h =
    let k = 2 ^ w - suc n in
    let i : pos n -ℤ pos (2 ^ w) ≡ negsuc k = omega (arith, ints) in
    ap nat_abs (meant_negative reading w n h ∙ i) ∙ omega arith

-- bits whose result is shown at the operator that was matched
pub at_op : (x w m n : ℕ) (op o : BinaryOp) → op ≡ o → x % 2 ^ result_width o w ≡ result_of o w m n → x % 2 ^ result_width op w ≡ result_of op w m n
at_op x w m n op o e h = subst (λ p. x % 2 ^ result_width p w ≡ result_of p w m n) (sym e) h
