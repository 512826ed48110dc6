-- What a sound row says of its fields.
use Rattle.std.proofs.Common.{◌≡◌, ◌+◌, ◌^◌, ◌<◌, ◌≤◌, true, false, refl, ap, subst, arith}
use Rattle.std.proofs.lemmas.Bool.{eqb-true, false≢true}
use Rattle.std.proofs.lemmas.Bool.Decides.{nat_tests}
use Rattle.value.specs.declared.rows.Region.{Region}
use Rattle.value.specs.declared.rows.Region.TheVariants.{Cst, Stack, Malloc}
use Rattle.value.specs.declared.rows.Row.{Row}
use Rattle.value.specs.Rows.{rank, cst, same, sound, width}

pub is_cst : (g : Region) → cst g ≡ true → g ≡ Cst
is_cst Cst h = refl
is_cst Stack h = absurd (false≢true h)
is_cst (Malloc n) h = let e = eqb-true (n + 2) 0 h in absurd (omega arith)

by_rank : (g h : Region) → rank g ≡ rank h → g ≡ h
by_rank Cst Cst e = refl
by_rank Cst Stack e = absurd (omega arith)
by_rank Cst (Malloc n) e = absurd (omega arith)
by_rank Stack Cst e = absurd (omega arith)
by_rank Stack Stack e = refl
by_rank Stack (Malloc n) e = absurd (omega arith)
by_rank (Malloc m) Cst e = absurd (omega arith)
by_rank (Malloc m) Stack e = absurd (omega arith)
by_rank (Malloc m) (Malloc n) e = let f : m ≡ n = omega arith in ap Malloc f

pub is_same : (g h : Region) → same g h ≡ true → g ≡ h
is_same g h e = by_rank g h (eqb-true (rank g) (rank h) e)

-- rows by their fields
pub rowwise : (r s : Row) → r.number ≡ s.number → r.region ≡ s.region → r.defined ≡ s.defined → r.low ≡ s.low → r.high ≡ s.high → r ≡ s
rowwise r s n g d l h = λ i. record { number = n i; region = g i; defined = d i; low = l i; high = h i }

-- a pointer or a part
pub record InRegion (r : Row) : Type 0 where
  pub defined : r.defined ≡ true
  pub rises : r.low ≤ r.high
  pub ends : r.high < 32
  pub fits : r.number < 2 ^ 32

pub in_region : (r : Row) → sound r ≡ true → cst r.region ≡ false → InRegion r
in_region r s g =
    record {
      defined = grind (arith, nat_tests);
      rises = grind (arith, nat_tests);
      ends = grind (arith, nat_tests);
      fits = grind (arith, nat_tests);
    }

-- a number or an undefined value
pub record InCst (r : Row) : Type 0 where
  pub starts : r.low ≡ 0
  pub ends : r.high < 64
  pub fits : r.number < 2 ^ width r

pub in_cst : (r : Row) → sound r ≡ true → cst r.region ≡ true → InCst r
in_cst r s g =
    let l : r.low ≡ 0 = grind (arith, nat_tests) in
    let b : r.number < 2 ^ (r.high + 1) = grind (arith, nat_tests) in
    let e : r.high + 1 ≡ width r = omega arith in
    record { starts = l; ends = grind (arith, nat_tests); fits = subst (λ k. r.number < 2 ^ k) e b }

pub undefined_cst : (r : Row) → sound r ≡ true → r.defined ≡ false → cst r.region ≡ true
undefined_cst r s d = grind (arith, nat_tests)

pub undefined_zero : (r : Row) → sound r ≡ true → r.defined ≡ false → r.number ≡ 0
undefined_zero r s d = grind (arith, nat_tests)
