use Rattle.std.proofs.Common.{◌≡◌, true, false, Bool, List, ℕ, ◌∷◌, ◌++◌, IfSome, inr, arith, lit<, rules}
use Rattle.std.proofs.lemmas.Bool.Decides.{nat_tests}
use Rattle.std.specs.Bool.{then_some}
use Rattle.value.specs.declared.rows.Region.{Region}
use Rattle.value.specs.declared.rows.Row.{Row}
use Rattle.value.specs.Rows.{part}
use Rattle.notation.specs.Texts.{Writes, Span, PointerText}
use Rattle.notation.proofs.Cuts.{cut}
use Rattle.notation.proofs.reading.pointer.Goals as goal

some_bits : (g : Region) (t a b : List ℕ) (r : Row) (p : Bool) → t ≡ a ++ (123 ∷ b) → Writes a r.number → Span b r.low r.high → r.region ≡ g → r.defined ≡ true → p ≡ part r → IfSome (then_some p r) (PointerText g t)
some_bits g t a b r true parted digits bits where_ defined is_part = inr (a, b, parted, digits, bits, (λ l h. grind (arith, nat_tests)), where_, defined)
some_bits g t a b r false parted digits bits where_ defined is_part = tt

pub returns : goal.returns
returns c =
    let parted = cut 123 _ c.in-Some.offset c.in-Some.bits c.in-Some.ensures.cases (lit< tt) in
    rw c.then_some.ensures (some_bits _ _ _ _ _ _ parted (search rules) c.in_ok-low.ensures (search rules) (search rules) c.is_part.ensures)
