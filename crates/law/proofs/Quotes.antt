-- Quotient and remainder of numbers of w bits.
use Rattle.std.proofs.Common.{◌≡◌, ℕ, zero, suc, ◌+◌, ◌-◌, ◌*◌, ◌/◌, ◌%◌, ◌^◌, ◌<◌, ◌≤◌, ◌⊎◌, ℤ, pos, negsuc, ◌-ℤ◌, neg_ℤ, nat_abs, Ok, sym, refl, ap, ◌∙◌, subst, inl, inr, mod-eq_of_lt, mul_assoc, mul_comm, add-mul, mul-add, div-le_self, arith, pow_pos, pow-add}
use native.Mathlib.Nat.{add-mul-mod_self_right, mod_self, mod-le, sub-zero}
use lib.Signed.{non_neg, quot_z, rem_z}
use Rattle.std.proofs.lemmas.Nat.{div-add-mod', mod_below}
use Rattle.std.proofs.lemmas.Int.{ints}
use Rattle.std.proofs.lemmas.Bool.{cases_lt, lt-ltb, le-ltb}
use Rattle.std.proofs.lemmas.Bool.Decides.{nat_tests}
use Rattle.value.specs.declared.rows.Region.TheVariants.{Cst}
use Rattle.value.specs.declared.rows.Row.{Row}
use Rattle.value.specs.Rows.{width, plain}
use Rattle.operator.specs.declared.ops.BinaryOp.TheVariants.{Divide}
use Rattle.operator.specs.declared.ops.Division.{Division}
use Rattle.operator.specs.declared.ops.Division.TheVariants.{Quotient, Remainder}
use Rattle.operator.specs.Words.{signed, wrap}
use Rattle.operator.specs.Rules.{divided, by_rules, within}
use Rattle.operator.specs.declared.ops.Reading.{Reading}
use Rattle.operator.specs.declared.ops.Reading.TheVariants.{Unsigned, Signed}
use Rattle.law.specs.Pointers.{Number}
use Rattle.law.specs.Quotients.{Divided, Divides}
use Rattle.law.proofs.Facts.{in_cst}
use Rattle.law.proofs.Offsets.{wrap_down}

-- m from m plus or minus multiples of W
lands : (x m j k W : ℕ) → m < W → x + j * W ≡ m + k * W → x % W ≡ m
lands x m j k W h e = sym (add-mul-mod_self_right x j W) ∙ ap (λ y. y % W) e ∙ add-mul-mod_self_right m k W ∙ mod-eq_of_lt h

-- q * n + r, of reduced parts
reduced : (q n r W : ℕ) → ((q % W) * n + r % W) % W ≡ (q * n + r) % W
reduced q n r W =
    let a : q * n ≡ (q / W * W) * n + (q % W) * n = ap (λ t. t * n) (sym (div-add-mod' q W)) ∙ add-mul (q / W * W) (q % W) n in
    let b : (q / W * W) * n ≡ (q / W * n) * W = mul_assoc (q / W) W n ∙ ap (λ t. q / W * t) (mul_comm W n) ∙ sym (mul_assoc (q / W) n W) in
    let d : r ≡ r / W * W + r % W = sym (div-add-mod' r W) in
    let f : (q / W * n + r / W) * W ≡ (q / W * n) * W + r / W * W = add-mul (q / W * n) (r / W) W in
    let e : (q % W) * n + r % W + (q / W * n + r / W) * W ≡ q * n + r = omega arith in
    sym (add-mul-mod_self_right ((q % W) * n + r % W) (q / W * n + r / W) W) ∙ ap (λ t. t % W) e

halves : (w : ℕ) → 1 ≤ w → 2 ^ w ≡ 2 ^ (w - 1) + 2 ^ (w - 1)
halves w h =
    let e : w - 1 + 1 ≡ w = omega arith in
    let p : 2 ^ (w - 1 + 1) ≡ 2 ^ (w - 1) * 2 = pow-add 2 (w - 1) 1 in
    ap (λ k. 2 ^ k) (sym e) ∙ p ∙ omega arith

-- the bits of -n
minus_zero : (w : ℕ) → wrap w (neg_ℤ (pos 0)) ≡ 0
minus_zero w = mod-eq_of_lt (pow_pos w)

minus_is : (w n : ℕ) → 0 < n → n ≤ 2 ^ w → wrap w (neg_ℤ (pos n)) ≡ 2 ^ w - n
minus_is w n h l = let i : neg_ℤ (pos n) ≡ pos 0 -ℤ pos n = omega (arith, ints) in ap (wrap w) i ∙ wrap_down w 0 n h l ∙ omega arith

minus_reduced : (w n : ℕ) → n ≤ 2 ^ w → wrap w (neg_ℤ (pos n)) ≡ (2 ^ w - n) % 2 ^ w
minus_reduced w zero l = minus_zero w ∙ sym (ap (λ x. x % 2 ^ w) (sub-zero (2 ^ w)) ∙ mod_self (2 ^ w))
minus_reduced w (suc n) l = minus_is w (suc n) (omega arith) l ∙ sym (mod-eq_of_lt (omega arith))

-- what bits mean, with the sign bit clear and set
pub read_clear : (w n : ℕ) → n < 2 ^ (w - 1) → signed w n ≡ pos n
read_clear w n h = simp (lt-ltb n (2 ^ (w - 1)) h)

pub read_set : (w n b : ℕ) → 2 ^ (w - 1) ≤ n → suc b + n ≡ 2 ^ w → signed w n ≡ negsuc b
read_set w n b h k = simp (le-ltb n (2 ^ (w - 1)) h) (omega (arith, ints))

-- a remainder is smaller in size than the divisor d, and has the dividend's sign or is 0
abbrev Smaller : ℕ → ℕ → ℕ → ℕ → Type 0
Smaller w m d r = (nat_abs (signed w r) < d) × ((r ≡ 0) ⊎ (non_neg (signed w r) ≡ non_neg (signed w m)))

smaller_clear : (w m d : ℕ) → 1 ≤ w → 0 < d → m < 2 ^ (w - 1) → Smaller w m d ((m % d) % 2 ^ w)
smaller_clear w m d a z h =
    let p = halves w a in
    let l : m % d ≤ m = mod-le m d in
    let b : m % d < d = mod_below m d z in
    let e : (m % d) % 2 ^ w ≡ m % d = mod-eq_of_lt (omega arith) in
    let f : signed w ((m % d) % 2 ^ w) ≡ pos (m % d) = ap (signed w) e ∙ read_clear w (m % d) (omega arith) in
    (subst (λ x. nat_abs x < d) (sym f) b, inr (ap non_neg f ∙ sym (ap non_neg (read_clear w m h))))

-- c is the size of a remainder of the size s of m
smaller_set : (w m d s c : ℕ) → 1 ≤ w → 0 < d → 2 ^ (w - 1) ≤ m → suc s + m ≡ 2 ^ w → c ≤ suc s → c < d → Smaller w m d (wrap w (neg_ℤ (pos c)))
smaller_set w m d s zero a z h k l b =
    let f : signed w (wrap w (neg_ℤ (pos 0))) ≡ pos 0 = ap (signed w) (minus_zero w) ∙ read_clear w 0 (pow_pos (w - 1)) in
    (subst (λ x. nat_abs x < d) (sym f) z, inl (minus_zero w))
smaller_set w m d s (suc c) a z h k l b =
    let p = halves w a in
    let e : wrap w (neg_ℤ (pos (suc c))) ≡ 2 ^ w - suc c = minus_is w (suc c) (omega arith) (omega arith) in
    let f : signed w (wrap w (neg_ℤ (pos (suc c)))) ≡ negsuc c = ap (signed w) e ∙ read_set w (2 ^ w - suc c) c (omega arith) (omega arith) in
    (subst (λ x. nat_abs x < d) (sym f) b, inr (ap non_neg f ∙ sym (ap non_neg (read_set w m s h k))))

-- q', n and r' with q, b and r less than W by them: the dividend from all four signs
divisor_set : (q' q n b r m W : ℕ) → q' + q ≡ W → n + b ≡ W → q * b + r ≡ m → m < W → (q' * n + r) % W ≡ m
divisor_set q' q n b r m W e f g h =
    let s : W * n ≡ q' * n + q * n = ap (λ t. t * n) (sym e) ∙ add-mul q' q n in
    let t : q * W ≡ q * n + q * b = ap (λ t. q * t) (sym f) ∙ mul-add q n b in
    let c : W * n ≡ n * W = mul_comm W n in
    lands (q' * n + r) m q n W h (omega arith)

dividend_set : (q' q n r' r m W : ℕ) → q' + q ≡ W → r' + r ≡ W → q * n + r + m ≡ W → m < W → (q' * n + r') % W ≡ m
dividend_set q' q n r' r m W e f g h =
    let s : W * n ≡ q' * n + q * n = ap (λ t. t * n) (sym e) ∙ add-mul q' q n in
    let c : W * n ≡ n * W = mul_comm W n in
    lands (q' * n + r') m 0 n W h (omega arith)

both_set : (q n b r' r m W : ℕ) → n + b ≡ W → r' + r ≡ W → q * b + r + m ≡ W → m < W → (q * n + r') % W ≡ m
both_set q n b r' r m W e f g h =
    let t : q * W ≡ q * n + q * b = ap (λ t. q * t) (sym e) ∙ mul-add q n b in
    lands (q * n + r') m 0 q W h (omega arith)

abbrev Back : ℕ → ℕ → ℕ → ℕ → ℕ → Type 0
Back w m n q r = (q * n + r) % 2 ^ w ≡ m

-- reduced quotient and remainder give the dividend where the whole ones do
reduce : (w m n q r q' r' : ℕ) → q' ≡ q % 2 ^ w → r' ≡ r % 2 ^ w → (q * n + r) % 2 ^ w ≡ m → Back w m n q' r'
reduce w m n q r q' r' e f h = ap (λ x. (x * n + r') % 2 ^ w) e ∙ ap (λ x. ((q % 2 ^ w) * n + x) % 2 ^ w) f ∙ reduced q n r (2 ^ w) ∙ h

clear_clear : (w m n : ℕ) → m < 2 ^ w → Back w m n ((m / n) % 2 ^ w) ((m % n) % 2 ^ w)
clear_clear w m n k = reduce w m n (m / n) (m % n) _ _ refl refl (ap (λ t. t % 2 ^ w) (div-add-mod' m n) ∙ mod-eq_of_lt k)

clear_set : (w m n b : ℕ) → m < 2 ^ w → n + b ≡ 2 ^ w → Back w m n (wrap w (neg_ℤ (pos (m / b)))) ((m % b) % 2 ^ w)
clear_set w m n b k e =
    let q : m / b ≤ m = div-le_self m b in
    reduce w m n (2 ^ w - m / b) (m % b) _ _ (minus_reduced w (m / b) (omega arith)) refl
    (divisor_set (2 ^ w - m / b) (m / b) n b (m % b) m (2 ^ w) (omega arith) e (div-add-mod' m b) k)

set_clear : (w m n c : ℕ) → m < 2 ^ w → c + m ≡ 2 ^ w → Back w m n (wrap w (neg_ℤ (pos (c / n)))) (wrap w (neg_ℤ (pos (c % n))))
set_clear w m n c k e =
    let q : c / n ≤ c = div-le_self c n in
    let r : c % n ≤ c = mod-le c n in
    let s = div-add-mod' c n in
    reduce w m n (2 ^ w - c / n) (2 ^ w - c % n) _ _ (minus_reduced w (c / n) (omega arith)) (minus_reduced w (c % n) (omega arith))
    (dividend_set (2 ^ w - c / n) (c / n) n (2 ^ w - c % n) (c % n) m (2 ^ w) (omega arith) (omega arith) (omega arith) k)

set_set : (w m n c b : ℕ) → m < 2 ^ w → c + m ≡ 2 ^ w → n + b ≡ 2 ^ w → Back w m n ((c / b) % 2 ^ w) (wrap w (neg_ℤ (pos (c % b))))
set_set w m n c b k e f =
    let r : c % b ≤ c = mod-le c b in
    let s = div-add-mod' c b in
    reduce w m n (c / b) (2 ^ w - c % b) _ _ refl (minus_reduced w (c % b) (omega arith))
    (both_set (c / b) n b (2 ^ w - c % b) (c % b) m (2 ^ w) f (omega arith) (omega arith) k)

abbrev QuotientAndRemainder : ℕ → ℕ → ℕ → ℤ → ℤ → Type 0
QuotientAndRemainder w m n x y = Back w m n (wrap w (quot_z x y)) (wrap w (rem_z x y)) × Smaller w m (nat_abs y) (wrap w (rem_z x y))

-- x and y are what the bits of m and n mean
meant_by : (w m n : ℕ) (x y : ℤ) → signed w m ≡ x → signed w n ≡ y → QuotientAndRemainder w m n x y → QuotientAndRemainder w m n (signed w m) (signed w n)
meant_by w m n x y e f h =
    subst (λ t. QuotientAndRemainder w m n t (signed w n)) (sym e) (subst (λ t. QuotientAndRemainder w m n x t) (sym f) h)

in_complement : (w m n : ℕ) → 1 ≤ w → m < 2 ^ w → n < 2 ^ w → 0 < n → QuotientAndRemainder w m n (signed w m) (signed w n)
in_complement w m n a h k z =
    let b = 2 ^ w - suc n in
    let s = 2 ^ w - suc m in
    elim (cases_lt m (2 ^ (w - 1))) [
      | inl p ↦ elim (cases_lt n (2 ^ (w - 1))) [
        | inl q ↦ meant_by w m n (pos m) (pos n) (read_clear w m p) (read_clear w n q) (clear_clear w m n h, smaller_clear w m n a z p)
        | inr q ↦ meant_by w m n (pos m) (negsuc b) (read_clear w m p) (read_set w n b q (omega arith)) (clear_set w m n (suc b) h (omega arith), smaller_clear w m (suc b) a (omega arith) p)
      ]
      | inr p ↦ elim (cases_lt n (2 ^ (w - 1))) [
        | inl q ↦
            meant_by w m n (negsuc s) (pos n) (read_set w m s p (omega arith)) (read_clear w n q)
            (set_clear w m n (suc s) h (omega arith), smaller_set w m n s (suc s % n) a z p (omega arith) (mod-le (suc s) n) (mod_below (suc s) n z))
        | inr q ↦
            meant_by w m n (negsuc s) (negsuc b) (read_set w m s p (omega arith)) (read_set w n b q (omega arith))
            (set_set w m n (suc s) (suc b) h (omega arith) (omega arith), smaller_set w m (suc b) s (suc s % suc b) a (omega arith) p (omega arith) (mod-le (suc s) (suc b)) (mod_below (suc s) (suc b) (omega arith)))
      ]
    ]

numbers : (reading : Reading) (w m n : ℕ) → 1 ≤ w → m < 2 ^ w → n < 2 ^ w → 0 < n → Divided reading w m n (wrap w (divided (Quotient reading) w m n)) (wrap w (divided (Remainder reading) w m n))
numbers Unsigned w m n a h k z =
    let b : m % n < n = mod_below m n z in
    let e : (m % n) % 2 ^ w ≡ m % n = mod-eq_of_lt (omega arith) in
    record { recombines = clear_clear w m n h; smaller = subst (λ x. x < n) (sym e) b; sign = inr refl }
numbers Signed w m n a h k z =
    let d = in_complement w m n a h k z in
    record { recombines = d.0; smaller = d.1.0; sign = d.1.1 }

-- what a division answers
divided_rules : (d : Division) (a b : Row) → Number a → Number b → width a ≡ width b → 0 < b.number → by_rules (Divide d) a b ≡ Ok (plain Cst (width a) (wrap (width a) (divided d (width a) a.number b.number)))
divided_rules d a b p q e z = grind (arith, nat_tests)

pub divides : Divides
divides reading rs a b p q e z =
    let k : b.number < 2 ^ width a = subst (λ v. b.number < 2 ^ v) (sym e) (in_cst b q.0 q.1).fits in (
      plain Cst (width a) (wrap (width a) (divided (Quotient reading) (width a) a.number b.number)),
      plain Cst (width a) (wrap (width a) (divided (Remainder reading) (width a) a.number b.number)),
      ap (within rs) (divided_rules (Quotient reading) a b p q e z),
      ap (within rs) (divided_rules (Remainder reading) a b p q e z),
      numbers reading (width a) a.number b.number (omega arith) (in_cst a p.0 p.1).fits k z,
    )
