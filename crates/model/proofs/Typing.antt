-- What the check finds of an action, against the rules of widths.
use Rattle.std.proofs.Common.{◌≡◌, ℕ, ◌*◌, true, ◌&&◌, eqb, List, Some, None, Ok, Err, Option, Result, sym, refl, ap, subst, arith}
use Rattle.std.proofs.lemmas.Bool.{and_parts, eqb-true}
use Rattle.std.proofs.lemmas.Bool.Decides.{nat_tests}
use Rattle.value.specs.Rows.{address_width}
use Rattle.expression.specs.declared.nodes.FixedRegion.TheVariants.{Cst, Stack}
use Rattle.expression.specs.declared.nodes.Node.{Node}
use Rattle.expression.specs.declared.nodes.Span.{Span}
use Rattle.expression.specs.declared.stops.Defect.{Defect}
use Rattle.expression.specs.declared.stops.Stopped.{Stopped}
use Rattle.expression.specs.Walk.{walked}
use Rattle.expression.specs.Widths.{bytes_fit, declares, declared_width, width_arith}
use Rattle.tree.proofs.Expressions.{passes_exactly}
use Rattle.instruction.specs.declared.tables.Left.{Left}
use Rattle.instruction.specs.declared.tables.Left.TheVariants.{Variable, Bytes}
use Rattle.instruction.specs.declared.tables.Action.{Action}
use Rattle.instruction.specs.declared.tables.Action.TheVariants.{Assign, Nondet, Undef, Malloc, Free, Jump, Goto, Ite, Assert, Assume, Stop}
use Rattle.instruction.specs.Parts.{right_of, left_of}
use Rattle.answer.specs.declared.refusals.Reason.TheVariants.{RuleBroken}
use Rattle.answer.specs.First.{required}
use Rattle.model.specs.Objections.{at_no_node}
use Rattle.model.specs.Judge.{objected, expressed, right_width, left_width, same_width, own_rules}
use Rattle.model.specs.Well.{Expression, LeftSide, Typed}
use Rattle.model.proofs.Passing.{went_on, held_where}

-- a width that no objection stands against is that of the walk
pub unobjected : (r : Result ℕ (Stopped Defect)) (w : ℕ) → objected r ≡ Ok w → r ≡ Ok w
unobjected (Ok v) w e = cc
unobjected (Err s) w e = cc

module _ (ws : List ℕ) (ns : List Node) where
  only_expressed : (s : Span) (w : ℕ) → expressed ws ns s ≡ Ok w → Expression ws ns s w
  only_expressed s w e = passes_exactly.only_expressions true ws ns s w (unobjected (walked (width_arith true ws) ns s) w e)

  every_expressed : (s : Span) (w : ℕ) → Expression ws ns s w → expressed ws ns s ≡ Ok w
  every_expressed s w h = ap objected (passes_exactly.every_expression true ws ns s w h)

  -- what was found on the right is the width of an expression, and on the left that of a left side
  only_right : (s : Span) (o : Option ℕ) → right_width ws ns (Some s) ≡ Ok o → (w : ℕ) × (o ≡ Some w) × Expression ws ns s w
  only_right s o e = let (w, p, q) = went_on (expressed ws ns s) _ o e in (w, cc, only_expressed s w p)

  every_right : (s : Span) (w : ℕ) → Expression ws ns s w → right_width ws ns (Some s) ≡ Ok (Some w)
  every_right s w h = rw (every_expressed s w h)

  only_left : (l : Left) (o : Option ℕ) → left_width ws ns (Some l) ≡ Ok o → (w : ℕ) × (o ≡ Some w) × LeftSide ws ns l w
  only_left (Variable v) o e =
      let (holds, same) = held_where (declares ws v) _ o _ e in
      (declared_width ws v, sym same, (grind (arith, nat_tests), grind (arith, nat_tests), refl))
  only_left (Bytes k a) o e =
      let (w, p, r) = went_on (expressed ws ns a) _ o e in
      let (u, h, q) = went_on (required (bytes_fit k.bytes && eqb w address_width) (at_no_node RuleBroken)) _ o r in
      let (some, wide) = and_parts (bytes_fit k.bytes) (eqb w address_width) (held_where _ tt u _ h).0 in
      (8 * k.bytes, cc, (subst (Expression ws ns a) (eqb-true w address_width wide) (only_expressed a w p), grind (arith, nat_tests), grind (arith, nat_tests), refl))

  every_left : (l : Left) (w : ℕ) → LeftSide ws ns l w → left_width ws ns (Some l) ≡ Ok (Some w)
  every_left (Variable v) w (some, few, e) = grind (arith, nat_tests)
  every_left (Bytes k a) w (p, some, few, e) = rw (every_expressed a address_width p) (grind (arith, nat_tests))

  -- the widths of both sides, of which an action's own rules hold
  abbrev pub Found : Action → Type 0
  Found a =
      (right : Option ℕ) × (right_width ws ns (right_of a) ≡ Ok right) × (left : Option ℕ) × (left_width ws ns (left_of a) ≡ Ok left) × (own_rules a right left ≡ true)

  -- a side whose width has to be v
  right_at : (s : Span) (v : ℕ) (o : Option ℕ) → right_width ws ns (Some s) ≡ Ok o → same_width o (Some v) ≡ true → Expression ws ns s v
  right_at s v o p own = let (w, e, x) = only_right s o p in subst (Expression ws ns s) (grind (arith, nat_tests)) x

  left_at : (l : Left) (v : ℕ) (o : Option ℕ) → left_width ws ns (Some l) ≡ Ok o → same_width o (Some v) ≡ true → LeftSide ws ns l v
  left_at l v o q own = let (w, e, x) = only_left l o q in subst (LeftSide ws ns l) (grind (arith, nat_tests)) x

  pub typed : (a : Action) → Found a → Typed ws ns a
  typed (Assign l r n) (right, p, left, q, own) =
      let (w, e, x) = only_right r right p in
      (w, x, left_at l w left q (subst (λ o. same_width left o ≡ true) e own))
  typed (Nondet Cst l n) (right, p, left, q, own) = let (w, e, x) = only_left l left q in (w, x)
  typed (Nondet Stack l n) (right, p, left, q, own) = left_at l address_width left q own
  typed (Undef l n) (right, p, left, q, own) = let (w, e, x) = only_left l left q in (w, x)
  typed (Malloc l z n) (right, p, left, q, own) =
      let (wide, sized) = and_parts (same_width left (Some address_width)) _ own in
      (left_at l address_width left q wide, grind (arith, nat_tests), grind (arith, nat_tests))
  typed (Free a n) (right, p, left, q, own) = right_at a address_width right p own
  typed (Jump t) (right, p, left, q, own) = right_at t address_width right p own
  typed (Goto n) h = tt
  typed (Ite c t e) (right, p, left, q, own) = right_at c 1 right p own
  typed (Assert c n) (right, p, left, q, own) = right_at c 1 right p own
  typed (Assume c n) (right, p, left, q, own) = right_at c 1 right p own
  typed Stop h = tt

  pub found : (a : Action) → Typed ws ns a → Found a
  found (Assign l r n) (w, p, q) = (Some w, every_right r w p, Some w, every_left l w q, grind (arith, nat_tests))
  found (Nondet Cst l n) (w, q) = (None, refl, Some w, every_left l w q, refl)
  found (Nondet Stack l n) q = (None, refl, Some address_width, every_left l address_width q, refl)
  found (Undef l n) (w, q) = (None, refl, Some w, every_left l w q, refl)
  found (Malloc l z n) (q, some, few) = (None, refl, Some address_width, every_left l address_width q, grind (arith, nat_tests))
  found (Free a n) p = (Some address_width, every_right a address_width p, None, refl, refl)
  found (Jump t) p = (Some address_width, every_right t address_width p, None, refl, refl)
  found (Goto n) h = (None, refl, None, refl, refl)
  found (Ite c t e) p = (Some 1, every_right c 1 p, None, refl, refl)
  found (Assert c n) p = (Some 1, every_right c 1 p, None, refl, refl)
  found (Assume c n) p = (Some 1, every_right c 1 p, None, refl, refl)
  found Stop h = (None, refl, None, refl, refl)
