-- Pointers plus and minus numbers and pointers.
use Rattle.std.proofs.Common.{◌≡◌, ℕ, suc, ◌+◌, ◌-◌, ◌%◌, ◌^◌, ◌<◌, ◌≤◌, true, false, not, eqb, List, pos, negsuc, ◌-ℤ◌, Ok, Err, sym, refl, ap, ◌∙◌, subst, inl, inr, mod-eq_of_lt, one-mul, arith}
use native.Mathlib.Nat.{add-mul-mod_self_right}
use Rattle.std.proofs.lemmas.Int.{ints}
use Rattle.std.proofs.lemmas.Bool.{cases_Bool, cases_lt, cond-false, not_from_true}
use Rattle.std.proofs.lemmas.Bool.Decides.{nat_tests}
use Rattle.answer.specs.declared.faults.Fault.TheVariants.{NoExactValue}
use Rattle.value.specs.declared.rows.Region.{Region}
use Rattle.value.specs.declared.rows.Region.TheVariants.{Cst}
use Rattle.value.specs.declared.rows.Row.{Row}
use Rattle.value.specs.declared.rows.RegionRecord.{RegionRecord}
use Rattle.value.specs.Rows.{Outcome, cst, same, width, sound, plain}
use Rattle.operator.specs.declared.ops.BinaryOp.{BinaryOp}
use Rattle.operator.specs.declared.ops.BinaryOp.TheVariants.{Add, Sub}
use Rattle.operator.specs.Words.{wrap}
use Rattle.operator.specs.Rules.{by_rules, within, inside}
use Rattle.law.specs.Pointers.{Number, Pointer, Returns, Leads}
use Rattle.law.proofs.Facts.{is_same, rowwise, in_region, in_cst}

-- a sum that passes the top once
back_once : (x W : ℕ) → x < W → (x + W) % W ≡ x
back_once x W h = ap (λ t. (x + t) % W) (sym (one-mul W)) ∙ add-mul-mod_self_right x 1 W ∙ mod-eq_of_lt h

-- a difference, up and down
wrap_up : (w m n : ℕ) → m < 2 ^ w → n ≤ m → wrap w (pos m -ℤ pos n) ≡ m - n
wrap_up w m n h l =
    let i : pos m -ℤ pos n ≡ pos (m - n) = omega (arith, ints) in
    ap (wrap w) i ∙ mod-eq_of_lt (omega arith)

pub wrap_down : (w m n : ℕ) → m < n → n ≤ 2 ^ w → wrap w (pos m -ℤ pos n) ≡ 2 ^ w + m - n
wrap_down w m n h l =
    let k = n - suc m in
    let i : pos m -ℤ pos n ≡ negsuc k = omega (arith, ints) in
    let e : k % 2 ^ w ≡ k = mod-eq_of_lt (omega arith) in
    ap (wrap w) i ∙ ap (λ x. 2 ^ w - 1 - x) e ∙ omega arith

wrap_below : (w m n : ℕ) → m < 2 ^ w → n < 2 ^ w → wrap w (pos m -ℤ pos n) < 2 ^ w
wrap_below w m n h l =
    elim (cases_lt m n) [
      | inl a ↦ let e = wrap_down w m n a (omega arith) in omega arith
      | inr a ↦ let e = wrap_up w m n h a in omega arith
    ]

-- there and back, and from one to the other
sum_back : (w m n : ℕ) → m < 2 ^ w → n < 2 ^ w → wrap w (pos ((m + n) % 2 ^ w) -ℤ pos n) ≡ m
sum_back w m n h l =
    elim (cases_lt (m + n) (2 ^ w)) [
      | inl a ↦ ap (λ x. wrap w (pos x -ℤ pos n)) (mod-eq_of_lt a) ∙ wrap_up w (m + n) n a (omega arith) ∙ omega arith
      | inr a ↦
          let x = m + n - 2 ^ w in
          let e : m + n ≡ x + 2 ^ w = omega arith in
          ap (λ t. wrap w (pos (t % 2 ^ w) -ℤ pos n)) e
          ∙ ap (λ t. wrap w (pos t -ℤ pos n)) (back_once x (2 ^ w) (omega arith))
          ∙ wrap_down w x n (omega arith) (omega arith)
          ∙ omega arith
    ]

sum_onward : (w m n : ℕ) → m < 2 ^ w → n < 2 ^ w → (n + wrap w (pos m -ℤ pos n)) % 2 ^ w ≡ m
sum_onward w m n h l =
    elim (cases_lt m n) [
      | inl a ↦
          let e : n + (2 ^ w + m - n) ≡ m + 2 ^ w = omega arith in
          ap (λ x. (n + x) % 2 ^ w) (wrap_down w m n a (omega arith)) ∙ ap (λ x. x % 2 ^ w) e ∙ back_once m (2 ^ w) h
      | inr a ↦
          let e : n + (m - n) ≡ m = omega arith in
          ap (λ x. (n + x) % 2 ^ w) (wrap_up w m n h a) ∙ ap (λ x. x % 2 ^ w) e ∙ mod-eq_of_lt h
    ]

-- a result that stays within its region is the rules' own
within_ok : (rs : List RegionRecord) (o : Outcome) (s : Row) → within rs o ≡ Ok s → o ≡ Ok s
within_ok rs (Err e) s h = h
within_ok rs (Ok r) s h =
    elim (cases_Bool (inside rs r.region r.number)) [
      | inl t ↦ sym (cond-false (not (inside rs r.region r.number)) _ (Ok r) (not_from_true _ t)) ∙ h
      | inr f ↦ grind (arith, nat_tests)
    ]

unequal_widths : (op : BinaryOp) (a b : Row) → a.defined ≡ true → b.defined ≡ true → eqb (width a) (width b) ≡ false → by_rules op a b ≡ Err NoExactValue
unequal_widths op a b d e h = grind (arith, nat_tests)

one_width : (op : BinaryOp) (a b s : Row) → a.defined ≡ true → b.defined ≡ true → by_rules op a b ≡ Ok s → width a ≡ width b
one_width op a b s d e h =
    elim (cases_Bool (eqb (width a) (width b))) [
      | inl t ↦ grind (arith, nat_tests)
      | inr f ↦ let u = unequal_widths op a b d e f in grind (arith, nat_tests)
    ]

-- a whole pointer by its region and offset
pointer_is : (p : Row) → Pointer p → p ≡ plain p.region 32 p.number
pointer_is p h =
    let f = in_region p h.0 h.1 in
    let l : p.low ≡ 0 = grind (arith, nat_tests) in
    let e : p.high ≡ 31 = grind (arith, nat_tests) in
    rowwise p (plain p.region 32 p.number) refl refl f.defined l e

module _ (g : Region) (m : ℕ) (b : Row) (o : cst g ≡ false) (k : Number b) (w : width b ≡ 32) where
  plus_number : by_rules Add (plain g 32 m) b ≡ Ok (plain g 32 ((m + b.number) % 2 ^ 32))
  plus_number = grind (arith, nat_tests)

  minus_number : by_rules Sub (plain g 32 m) b ≡ Ok (plain g 32 (wrap 32 (pos m -ℤ pos b.number)))
  minus_number = grind (arith, nat_tests)

minus_pointer : (g h : Region) (m n : ℕ) → cst g ≡ false → cst h ≡ false → same g h ≡ true → by_rules Sub (plain g 32 m) (plain h 32 n) ≡ Ok (plain Cst 32 (wrap 32 (pos m -ℤ pos n)))
minus_pointer g h m n o p e = grind (arith, nat_tests)

number_fits : (n : Row) → Number n → width n ≡ 32 → n.number < 2 ^ 32
number_fits n h w = subst (λ x. n.number < 2 ^ x) w (in_cst n h.0 h.1).fits

pub returns_law : Returns
returns_law rs p n s t hp hn hs ht =
    let g = p.region in
    let m = p.number in
    let k = n.number in
    let f = in_region p hp.0 hp.1 in
    let i = pointer_is p hp in
    let a : by_rules Add p n ≡ Ok s = within_ok rs (by_rules Add p n) s hs in
    let w : width n ≡ 32 = sym (one_width Add p n s f.defined hn.2 a) ∙ ap width i in
    let x = plain g 32 ((m + k) % 2 ^ 32) in
    let b : s ≡ x = cc (plus_number g m n hp.1 hn w) in
    let c = within_ok rs (by_rules Sub s n) t ht in
    let d : t ≡ plain g 32 (wrap 32 (pos ((m + k) % 2 ^ 32) -ℤ pos k)) = cc (minus_number g ((m + k) % 2 ^ 32) n hp.1 hn w) in
    d ∙ ap (plain g 32) (sum_back 32 m k f.fits (number_fits n hn w)) ∙ sym i

pub leads : Leads
leads rs p q hp hq e =
    let m = p.number in
    let k = q.number in
    let f = in_region p hp.0 hp.1 in
    let h = in_region q hq.0 hq.1 in
    let i = pointer_is p hp in
    let j = pointer_is q hq in
    let n = wrap 32 (pos m -ℤ pos k) in
    let d = plain Cst 32 n in
    let l : n < 2 ^ 32 = wrap_below 32 m k f.fits h.fits in
    let z : sound d ≡ true = grind (arith, nat_tests) in
    let y : by_rules Sub p q ≡ Ok d = ap (λ r. by_rules Sub r q) i ∙ ap (by_rules Sub (plain p.region 32 m)) j ∙ minus_pointer p.region q.region m k hp.1 hq.1 e in
    let u : by_rules Add q d ≡ Ok p =
    ap (λ r. by_rules Add r d) j
    ∙ plus_number q.region k d hq.1 (z, refl, refl) refl
    ∙ ap (λ x. Ok (plain q.region 32 x)) (sum_onward 32 m k f.fits h.fits)
    ∙ ap (λ g. Ok (plain g 32 m)) (sym (is_same p.region q.region e))
    ∙ ap Ok (sym i) in (
      d,
      ap (within rs) y,
      (z, refl, refl),
      refl,
      λ s hs. let v = within_ok rs (by_rules Add q d) s hs in cc,
      λ t. ap (within rs) u ∙ cond-false (not (inside rs p.region p.number)) _ (Ok p) (not_from_true _ t),
    )
