-- The comparisons are total orders.
use Rattle.std.proofs.Common.{◌≡◌, ℕ, ◌-◌, ◌%◌, ◌^◌, ◌<◌, Bool, true, false, cond, not, ◌⊎◌, List, ℤ, pos, ◌-ℤ◌, Ok, sym, refl, ap, ◌∙◌, subst, inl, inr, mod-eq_of_lt, arith}
use lib.Signed.{lt_z}
use Rattle.std.proofs.lemmas.Int.{ints}
use Rattle.std.proofs.lemmas.Bool.{cases_Bool, cases_lt, le-ltb, eqb-true, eq-eqb}
use Rattle.std.proofs.lemmas.Bool.Decides.{nat_tests}
use Rattle.value.specs.declared.rows.Row.{Row}
use Rattle.value.specs.declared.rows.RegionRecord.{RegionRecord}
use Rattle.value.specs.Rows.{Outcome, rank, cst, width}
use Rattle.operator.specs.declared.ops.BinaryOp.TheVariants.{Compare}
use Rattle.operator.specs.declared.ops.Comparison.{Comparison}
use Rattle.operator.specs.declared.ops.Comparison.TheVariants.{Equal, NotEqual, Ordered}
use Rattle.operator.specs.declared.ops.Order.{Order}
use Rattle.operator.specs.declared.ops.Order.TheVariants.{Less, LessOrEqual, GreaterOrEqual, Greater}
use Rattle.operator.specs.Words.{signed, meant, wrap}
use Rattle.operator.specs.Rules.{ordered, holds, by_rules, within, applied, bit}
use Rattle.operator.specs.declared.ops.Reading.{Reading}
use Rattle.operator.specs.declared.ops.Reading.TheVariants.{Unsigned, Signed}
use Rattle.law.specs.Orders.{Whole, Comparable, Says, TotalOrder, Orders}
use Rattle.law.proofs.Facts.{is_same, rowwise, in_region, in_cst}
use Rattle.law.proofs.Offsets.{wrap_down}
use Rattle.law.proofs.Quotes.{read_clear}

one_bit : (b : Bool) → cond b 1 0 % 2 ^ 1 ≡ cond b 1 0
one_bit true = refl
one_bit false = refl

-- what a comparison answers
compared_rules : (k : Comparison) (a b : Row) → Comparable a b → by_rules (Compare k) a b ≡ Ok (bit (holds k (width a) a.number b.number))
compared_rules k a b h =
    let e = one_bit (holds k (width a) a.number b.number) in
    grind (arith, nat_tests)

pub compared : (rs : List RegionRecord) (k : Comparison) (a b : Row) → Comparable a b → applied rs (Compare k) a b ≡ Ok (bit (holds k (width a) a.number b.number))
compared rs k a b h = ap (within rs) (compared_rules k a b h)

-- two bits that are one
same_bit : (x y : Bool) → ◌≡◌ {A = Outcome} (Ok (bit x)) (Ok (bit y)) → x ≡ y
same_bit true true e = refl
same_bit false false e = refl
same_bit true false e = let z : bit true ≡ bit false = cc in absurd (omega (arith, ap (λ (r : Row). r.number) z))
same_bit false true e = let z : bit false ≡ bit true = cc in absurd (omega (arith, ap (λ (r : Row). r.number) z))

-- the bits of what bits mean
bits_back : (reading : Reading) (w n : ℕ) → n < 2 ^ w → wrap w (meant reading w n) ≡ n
bits_back Unsigned w n h = mod-eq_of_lt h
bits_back Signed w n h =
    elim (cases_lt n (2 ^ (w - 1))) [
      | inl a ↦ ap (wrap w) (read_clear w n a) ∙ mod-eq_of_lt h
      | inr a ↦
          let e : signed w n ≡ pos n -ℤ pos (2 ^ w) = simp (le-ltb n (2 ^ (w - 1)) a) in
          ap (wrap w) e ∙ wrap_down w n (2 ^ w) h (omega arith) ∙ omega arith
    ]

apart : (reading : Reading) (w m n : ℕ) → m < 2 ^ w → n < 2 ^ w → meant reading w m ≡ meant reading w n → m ≡ n
apart reading w m n h k e = sym (bits_back reading w m h) ∙ ap (wrap w) e ∙ bits_back reading w n k

fits : (a : Row) → Whole a → a.number < 2 ^ width a
fits a h =
    elim (cases_Bool (cst a.region)) [
      | inl g ↦ (in_cst a h.0 g).fits
      | inr g ↦
          let f = in_region a h.0 g in
          let e : 32 ≡ width a = grind (arith, nat_tests) in
          subst (λ k. a.number < 2 ^ k) e f.fits
    ]

from_zero : (a : Row) → Whole a → a.low ≡ 0
from_zero a h =
    elim (cases_Bool (cst a.region)) [
      | inl g ↦ (in_cst a h.0 g).starts
      | inr g ↦ grind (arith, nat_tests)
    ]

same_rows : (a b : Row) → Comparable a b → a.number ≡ b.number → a ≡ b
same_rows a b h e =
    let l = from_zero a h.0 in
    let m = from_zero b h.1 in
    let w = h.2 in
    rowwise a b e (is_same a.region b.region h.3) (h.0.1 ∙ sym h.1.1) (l ∙ sym m) (omega arith)

turned : (a b : Row) → Comparable a b → Comparable b a
turned a b h = (h.1, h.0, sym h.2, grind (arith, nat_tests))

through : (a b c : Row) → Comparable a b → Comparable b c → Comparable a c
through a b c h k = (h.0, k.1, h.2 ∙ k.2, grind (arith, nat_tests))

with_itself : (a : Row) → Whole a → Comparable a a
with_itself a h = (h, h, refl, eq-eqb (rank a.region) (rank a.region) refl)

-- the order of the integers, by `lt_z`
not_less_itself : (x : ℤ) → not (lt_z x x) ≡ true
not_less_itself x = grind (arith, ints)

one_of_two : (x y : ℤ) → not (lt_z y x) ≡ true → not (lt_z x y) ≡ true → x ≡ y
one_of_two x y h k = grind (arith, ints)

at_most_through : (x y z : ℤ) → not (lt_z y x) ≡ true → not (lt_z z y) ≡ true → not (lt_z z x) ≡ true
at_most_through x y z h k = grind (arith, ints)

one_way : (x y : ℤ) → (not (lt_z y x) ≡ true) ⊎ (not (lt_z x y) ≡ true)
one_way x y =
    elim (cases_Bool (lt_z y x)) [
      | inl h ↦ inr (grind (arith, ints))
      | inr h ↦ inl (grind (arith, ints))
    ]

not_twice : (b t : Bool) → not b ≡ t → b ≡ not t
not_twice true t e = ap not e
not_twice false t e = ap not e

module _ (reading : Reading) (rs : List RegionRecord) where
  abbrev says : Order → ℤ → ℤ → Bool
  says o x y = ordered o (lt_z x y) (lt_z y x)

  -- the integer of a row, at the width w
  abbrev at : ℕ → Row → ℤ
  at w r = meant reading w r.number

  -- what an order answers at the width w that both have
  answer : (o : Order) (a b : Row) (w : ℕ) → Comparable a b → width a ≡ w → applied rs (Compare (Ordered reading o)) a b ≡ Ok (bit (says o (at w a) (at w b)))
  answer o a b w h e =
      compared rs (Ordered reading o) a b h
      ∙ ap (λ k. Ok (bit (says o (at k a) (at k b)))) e

  told : (o : Order) (a b : Row) (w : ℕ) (t : Bool) → Comparable a b → width a ≡ w → Says rs (Ordered reading o) a b t → says o (at w a) (at w b) ≡ t
  told o a b w t h e s = same_bit _ t (sym (answer o a b w h e) ∙ s)

  tell : (o : Order) (a b : Row) (w : ℕ) (t : Bool) → Comparable a b → width a ≡ w → says o (at w a) (at w b) ≡ t → Says rs (Ordered reading o) a b t
  tell o a b w t h e s = answer o a b w h e ∙ ap (λ x. Ok (bit x)) s

  module _ (a b : Row) (h : Comparable a b) where
    decided : (o : Order) → Says rs (Ordered reading o) a b true ⊎ Says rs (Ordered reading o) a b false
    decided o =
        elim (cases_Bool (says o (at (width a) a) (at (width a) b))) [
          | inl t ↦ inl (tell o a b (width a) true h refl t)
          | inr t ↦ inr (tell o a b (width a) false h refl t)
        ]

    -- what the same order says the other way round
    back : (o : Order) (t : Bool) → Says rs (Ordered reading o) b a t → says o (at (width a) b) (at (width a) a) ≡ t
    back o t s = told o b a (width a) t (turned a b h) (sym h.2) s

    antisymmetric : Says rs (Ordered reading LessOrEqual) a b true → Says rs (Ordered reading LessOrEqual) b a true → a ≡ b
    antisymmetric p q =
        let e = one_of_two (at (width a) a) (at (width a) b) (told LessOrEqual a b (width a) true h refl p) (back LessOrEqual true q) in
        let k = subst (λ w. b.number < 2 ^ w) (sym h.2) (fits b h.1) in
        same_rows a b h (apart reading (width a) a.number b.number (fits a h.0) k e)

    total : Says rs (Ordered reading LessOrEqual) a b true ⊎ Says rs (Ordered reading LessOrEqual) b a true
    total =
        elim (one_way (at (width a) a) (at (width a) b)) [
          | inl t ↦ inl (tell LessOrEqual a b (width a) true h refl t)
          | inr t ↦ inr (tell LessOrEqual b a (width a) true (turned a b h) (sym h.2) t)
        ]

  transitive : (a b c : Row) → Comparable a b → Comparable b c → Says rs (Ordered reading LessOrEqual) a b true → Says rs (Ordered reading LessOrEqual) b c true → Says rs (Ordered reading LessOrEqual) a c true
  transitive a b c h k p q =
      let x = told LessOrEqual a b (width a) true h refl p in
      let y = told LessOrEqual b c (width a) true k (sym h.2) q in
      tell LessOrEqual a c (width a) true (through a b c h k) refl (at_most_through (at (width a) a) (at (width a) b) (at (width a) c) x y)

  total_order : TotalOrder reading rs
  total_order =
      record {
        decided = λ o a b h. decided a b h o;
        reflexive = λ a h. tell LessOrEqual a a (width a) true (with_itself a h) refl (not_less_itself (at (width a) a));
        antisymmetric = antisymmetric;
        transitive = transitive;
        total = total;
        less = λ a b t h p. tell Less a b (width a) (not t) h refl (not_twice _ t (back a b h LessOrEqual t p));
        greater = λ a b h. answer Greater a b (width a) h refl ∙ sym (answer Less b a (width a) (turned a b h) (sym h.2));
        at_least = λ a b h. answer GreaterOrEqual a b (width a) h refl ∙ sym (answer LessOrEqual b a (width a) (turned a b h) (sym h.2));
      }

pub orders : Orders
orders =
    record {
      total_order = total_order;
      equal = λ rs a b h. (
        λ p. same_rows a b h (eqb-true _ _ (same_bit _ true (sym (compared rs Equal a b h) ∙ p))),
        λ e. compared rs Equal a b h ∙ ap (λ t. Ok (bit t)) (eq-eqb _ _ (ap (λ (r : Row). r.number) e)),
      );
      unequal = λ rs a b t h p. compared rs NotEqual a b h ∙ ap (λ x. Ok (bit (not x))) (same_bit _ t (sym (compared rs Equal a b h) ∙ p));
    }
