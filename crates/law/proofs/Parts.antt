-- Each value that exists has one sound row, and each sound row is that of a value.
use Rattle.std.proofs.Common.{◌≡◌, ◌+◌, ◌-◌, ◌^◌, ◌<◌, true, false, cond, sym, refl, ap, ◌∙◌, subst, inl, inr, arith}
use Rattle.std.proofs.lemmas.Nat.{pow_pos}
use Rattle.std.proofs.lemmas.Bool.{cases_Bool, both_ways, cond-true, cond-false}
use Rattle.std.proofs.lemmas.Bool.Decides.{nat_tests}
use Rattle.value.specs.declared.rows.Row.{Row}
use Rattle.value.specs.Rows.{cst, part, width, sound}
use Rattle.law.specs.Described.{Described, number_in, bits_of, nothing_of, Exists, row_of, OneRow}
use Rattle.law.proofs.Facts.{is_cst, rowwise, in_region, in_cst, undefined_cst, undefined_zero}

of_value : (d : Described) → Exists d → sound (row_of d) ≡ true
of_value (number_in g w n) h =
    let e : w - 1 + 1 ≡ w = omega arith in
    let b : n < 2 ^ (w - 1 + 1) = subst (λ k. n < 2 ^ k) (sym e) h.2 in
    elim (cases_Bool (cst g)) [
      | inl c ↦ grind (arith, nat_tests)
      | inr c ↦
          let f : w ≡ 32 = h.3 c in
          let k : n < 2 ^ 32 = subst (λ k. n < 2 ^ k) f h.2 in
          grind (arith, nat_tests)
    ]
of_value (bits_of g n i j) h = grind (arith, nat_tests)
of_value (nothing_of w) h = let z = pow_pos (w - 1 + 1) in grind (arith, nat_tests)

of_row : (r : Row) → sound r ≡ true → (d : Described) × Exists d × (row_of d ≡ r)
of_row r s =
    elim (cases_Bool r.defined) [
      | inr d ↦
          let g = undefined_cst r s d in
          let f = in_cst r s g in
          (nothing_of (width r), (omega arith, omega arith), rowwise _ r (sym (undefined_zero r s d)) (sym (is_cst r.region g)) (sym d) (sym f.starts) (omega arith))
      | inl d ↦ elim (cases_Bool (cst r.region)) [
        | inl g ↦
            let f = in_cst r s g in (
              number_in r.region (width r) r.number,
              (omega arith, omega arith, f.fits, λ c. absurd (both_ways (cst r.region) c g)),
              rowwise _ r refl refl (sym d) (sym f.starts) (omega arith),
            )
        | inr g ↦
            let f = in_region r s g in
            elim (cases_Bool (part r)) [
              | inl p ↦ (
                bits_of r.region r.number r.low r.high,
                (g, f.fits, f.rises, f.ends, λ x y. grind (arith, nat_tests)),
                rowwise _ r refl refl (sym d) refl refl,
              )
              | inr p ↦
                  let l : r.low ≡ 0 = grind (arith, nat_tests) in
                  let h : r.high ≡ 31 = grind (arith, nat_tests) in
                  (number_in r.region 32 r.number, (omega arith, omega arith, f.fits, λ _. refl), rowwise _ r refl refl (sym d) (sym l) (sym h))
            ]
      ]
    ]

-- the value that a row describes
described : Row → Described
described r = cond r.defined (cond (part r) (bits_of r.region r.number r.low r.high) (number_in r.region (width r) r.number)) (nothing_of (width r))

described_is : (d : Described) → Exists d → described (row_of d) ≡ d
unfolding described
described_is (number_in g w n) h =
    let e : w - 1 - 0 + 1 ≡ w = omega arith in
    let p : part (row_of (number_in g w n)) ≡ false = elim (cases_Bool (cst g)) [ inl c ↦ grind (arith, nat_tests) | inr c ↦ let f : w ≡ 32 = h.3 c in grind (arith, nat_tests) ] in
    cond-false (part (row_of (number_in g w n))) _ _ p ∙ ap (λ k. number_in g k n) e
described_is (bits_of g n i j) h =
    let p : part (row_of (bits_of g n i j)) ≡ true =
    elim (cases_Bool (part (row_of (bits_of g n i j)))) [
      | inl t ↦ t
      | inr f ↦
          let a : i ≡ 0 = grind (arith, nat_tests) in
          let b : j ≡ 31 = grind (arith, nat_tests) in
          absurd (h.4 a b)
    ] in
    cond-true (part (row_of (bits_of g n i j))) _ _ p
described_is (nothing_of w) h = let e : w - 1 - 0 + 1 ≡ w = omega arith in ap nothing_of e

apart : (d e : Described) → Exists d → Exists e → row_of d ≡ row_of e → d ≡ e
apart d e h k r = sym (described_is d h) ∙ ap described r ∙ described_is e k

pub one_row : OneRow
one_row = record { of_value = of_value; of_row = of_row; apart = apart }
