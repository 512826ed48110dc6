-- Pieces of a value: cut out, cut again, and joined.
use Rattle.std.proofs.Common.{◌≡◌, ℕ, ◌+◌, ◌-◌, ◌*◌, ◌/◌, ◌%◌, ◌^◌, ◌<◌, ◌≤◌, true, false, Ok, sym, refl, ap, ◌∙◌, inl, inr, add_comm, div-one, arith}
use lib.Pow.{mod-mod-pow, recompose}
use Rattle.std.proofs.lemmas.Nat.{field_of, shr-shr}
use Rattle.std.proofs.lemmas.Bool.{cases_Bool}
use Rattle.std.proofs.lemmas.Bool.Decides.{nat_tests}
use Rattle.value.specs.declared.rows.Region.TheVariants.{Cst}
use Rattle.value.specs.declared.rows.Row.{Row}
use Rattle.value.specs.Rows.{Outcome, cst, width, sound, plain, undefined_row}
use Rattle.operator.specs.Bits.{piece, restricted, concatenated}
use Rattle.answer.specs.First.{and_then}
use Rattle.law.specs.Pieces.{rejoined, Rejoins, Narrows}
use Rattle.law.proofs.Facts.{is_cst, rowwise, in_region, in_cst, undefined_cst, undefined_zero}

-- what a restriction gives of each kind of value
cut_piece : (r : Row) (i j : ℕ) → cst r.region ≡ false → r.defined ≡ true → r.high < 32 → i ≤ j → j < width r → restricted r i j ≡ Ok (piece r (r.low + i) (r.low + j))
cut_piece r i j g d e h k = grind (arith, nat_tests)

cut_number : (r : Row) (i j w : ℕ) → cst r.region ≡ true → r.defined ≡ true → r.high < 64 → i ≤ j → j < width r → j - i + 1 ≡ w → restricted r i j ≡ Ok (plain Cst w (r.number / 2 ^ i % 2 ^ w))
cut_number r i j w g d e h k f = grind (arith, nat_tests)

cut_undefined : (r : Row) (i j w : ℕ) → r.defined ≡ false → i ≤ j → j - i < 64 → j - i + 1 ≡ w → restricted r i j ≡ Ok (undefined_row w)
cut_undefined r i j w d h k f = grind (arith, nat_tests)

-- what a concatenation gives of each
join_pieces : (r : Row) (l k m h : ℕ) → cst r.region ≡ false → l ≤ k → m ≡ k + 1 → m ≤ h → h < 32 → concatenated (piece r l k) (piece r m h) ≡ Ok (piece r l h)
join_pieces r l k m h g p e q s = grind (arith, nat_tests)

join_numbers : (u v m n : ℕ) → 1 ≤ u → 1 ≤ v → u + v ≤ 64 → concatenated (plain Cst u m) (plain Cst v n) ≡ Ok (plain Cst (u + v) (m + n * 2 ^ u))
join_numbers u v m n p q h =
    let e : u - 1 - 0 + 1 ≡ u = omega arith in
    let f : v - 1 - 0 + 1 ≡ v = omega arith in
    grind (arith, nat_tests)

join_undefined : (u v : ℕ) → 1 ≤ u → 1 ≤ v → u + v ≤ 64 → concatenated (undefined_row u) (undefined_row v) ≡ Ok (undefined_row (u + v))
join_undefined u v p q h =
    let e : u - 1 - 0 + 1 ≡ u = omega arith in
    let f : v - 1 - 0 + 1 ≡ v = omega arith in
    grind (arith, nat_tests)

-- cut at k and joined, from what the three operations give
rejoin : (r x y : Row) (k : ℕ) (o : Outcome) → restricted r 0 (k - 1) ≡ Ok x → restricted r k (width r - 1) ≡ Ok y → concatenated x y ≡ o → rejoined r k ≡ o
rejoin r x y k o a b c =
    ap (λ t. and_then t (λ low. and_then (restricted r k (width r - 1)) (λ high. concatenated low high))) a
    ∙ ap (λ t. and_then t (λ high. concatenated x high)) b
    ∙ c

-- the bits below k and those above it
recombined : (n k w : ℕ) → k < w → n < 2 ^ w → n / 2 ^ 0 % 2 ^ k + (n / 2 ^ k % 2 ^ (w - k)) * 2 ^ k ≡ n
recombined n k w h l =
    let e : w - k + k ≡ w = omega arith in
    let b : n < 2 ^ (w - k + k) = rw e l in
    ap (λ x. x % 2 ^ k + (n / 2 ^ k % 2 ^ (w - k)) * 2 ^ k) (div-one n)
    ∙ add_comm (n % 2 ^ k) ((n / 2 ^ k % 2 ^ (w - k)) * 2 ^ k)
    ∙ recompose (w - k) k b

module _ (r : Row) (k : ℕ) (s : sound r ≡ true) (p : 0 < k) (q : k < width r) where
  pieces : cst r.region ≡ false → rejoined r k ≡ Ok r
  pieces g =
      let f = in_region r s g in
      rejoin r _ _ k _
      (cut_piece r 0 (k - 1) g f.defined f.ends (omega arith) (omega arith))
      (cut_piece r k (width r - 1) g f.defined f.ends (omega arith) (omega arith))
      (join_pieces r (r.low + 0) (r.low + (k - 1)) (r.low + k) (r.low + (width r - 1)) g (omega arith) (omega arith) (omega arith) (omega arith))
      ∙ ap Ok (rowwise (piece r (r.low + 0) (r.low + (width r - 1))) r refl refl (sym f.defined) (omega arith) (omega arith))

  numbers : cst r.region ≡ true → r.defined ≡ true → rejoined r k ≡ Ok r
  numbers g d =
      let f = in_cst r s g in
      rejoin r _ _ k _
      (cut_number r 0 (k - 1) k g d f.ends (omega arith) (omega arith) (omega arith))
      (cut_number r k (width r - 1) (width r - k) g d f.ends (omega arith) (omega arith) (omega arith))
      (join_numbers k (width r - k) _ _ (omega arith) (omega arith) (omega arith))
      ∙ ap Ok (rowwise _ r (recombined r.number k (width r) q f.fits) (sym (is_cst r.region g)) (sym d) (sym f.starts) (omega arith))

  undefineds : r.defined ≡ false → rejoined r k ≡ Ok r
  undefineds d =
      let g = undefined_cst r s d in
      let f = in_cst r s g in
      rejoin r _ _ k _
      (cut_undefined r 0 (k - 1) k d (omega arith) (omega arith) (omega arith))
      (cut_undefined r k (width r - 1) (width r - k) d (omega arith) (omega arith) (omega arith))
      (join_undefined k (width r - k) (omega arith) (omega arith) (omega arith))
      ∙ ap Ok (rowwise _ r (sym (undefined_zero r s d)) (sym (is_cst r.region g)) (sym d) (sym f.starts) (omega arith))

pub rejoins : Rejoins
rejoins r k s p q =
    elim (cases_Bool r.defined) [
      | inr d ↦ undefineds r k s p q d
      | inl d ↦ elim (cases_Bool (cst r.region)) [ inl g ↦ numbers r k s p q g d | inr g ↦ pieces r k s p q g ]
    ]

-- bits p to q of the bits i to j of a number
cut_twice : (n i p w v : ℕ) → p + v ≤ w → n / 2 ^ i % 2 ^ w / 2 ^ p % 2 ^ v ≡ n / 2 ^ (i + p) % 2 ^ v
cut_twice n i p w v h =
    let e : w - p + p ≡ w = omega arith in
    let f : w - p - v + v ≡ w - p = omega arith in
    ap (λ k. n / 2 ^ i % 2 ^ k / 2 ^ p % 2 ^ v) (sym e)
    ∙ ap (λ x. x % 2 ^ v) (field_of (n / 2 ^ i) (w - p) p)
    ∙ ap (λ x. x % 2 ^ (w - p) % 2 ^ v) (shr-shr n i p)
    ∙ ap (λ k. n / 2 ^ (i + p) % 2 ^ k % 2 ^ v) (sym f)
    ∙ mod-mod-pow (n / 2 ^ (i + p)) (w - p - v) v

module _ (r : Row) (i j p q : ℕ) (s : sound r ≡ true) (a : i ≤ j) (b : j < width r) (c : p ≤ q) (e : q ≤ j - i) where
  abbrev twice : Type 0
  twice = and_then (restricted r i j) (λ t. restricted t p q) ≡ restricted r (i + p) (i + q)

  narrow : (x : Row) (o : Outcome) → restricted r i j ≡ Ok x → restricted x p q ≡ o → restricted r (i + p) (i + q) ≡ o → twice
  narrow x o f g h = ap (λ t. and_then t (λ y. restricted y p q)) f ∙ g ∙ sym h

  narrow_piece : cst r.region ≡ false → twice
  narrow_piece g =
      let f = in_region r s g in
      let x = piece r (r.low + i) (r.low + j) in
      narrow x (Ok (piece r (r.low + (i + p)) (r.low + (i + q))))
      (cut_piece r i j g f.defined f.ends a b)
      (cut_piece x p q g refl (omega arith) c (omega arith) ∙ ap Ok (rowwise (piece x (r.low + i + p) (r.low + i + q)) (piece r (r.low + (i + p)) (r.low + (i + q))) refl refl refl (omega arith) (omega arith)))
      (cut_piece r (i + p) (i + q) g f.defined f.ends (omega arith) (omega arith))

  narrow_number : cst r.region ≡ true → r.defined ≡ true → twice
  narrow_number g d =
      let f = in_cst r s g in
      let w = j - i + 1 in
      let v = q - p + 1 in
      let x = plain Cst w (r.number / 2 ^ i % 2 ^ w) in
      narrow x (Ok (plain Cst v (r.number / 2 ^ (i + p) % 2 ^ v)))
      (cut_number r i j w g d f.ends a b refl)
      (cut_number x p q v refl refl (omega arith) c (omega arith) refl ∙ ap (λ n. Ok (plain Cst v n)) (cut_twice r.number i p w v (omega arith)))
      (cut_number r (i + p) (i + q) v g d f.ends (omega arith) (omega arith) (omega arith))

  narrow_undefined : r.defined ≡ false → twice
  narrow_undefined d =
      let f = in_cst r s (undefined_cst r s d) in
      let w = j - i + 1 in
      let v = q - p + 1 in
      narrow (undefined_row w) (Ok (undefined_row v))
      (cut_undefined r i j w d a (omega arith) refl)
      (cut_undefined (undefined_row w) p q v refl c (omega arith) refl)
      (cut_undefined r (i + p) (i + q) v d (omega arith) (omega arith) (omega arith))

pub narrows : Narrows
narrows r i j p q s a b c e =
    elim (cases_Bool r.defined) [
      | inr d ↦ narrow_undefined r i j p q s a b c e d
      | inl d ↦ elim (cases_Bool (cst r.region)) [ inl g ↦ narrow_number r i j p q s a b c e g d | inr g ↦ narrow_piece r i j p q s a b c e g ]
    ]
