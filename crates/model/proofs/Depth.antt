-- The depth that a pass reports is enough for every walk.
use Rattle.std.proofs.Common.{◌≡◌, ℕ, ◌≤◌, true, List, [], ◌∷◌, length, Some, None, Ok, Option, is_ok, max, ap, subst, arith}
use Rattle.std.specs.List.{AllByRecursion, fold}
use Rattle.std.proofs.lemmas.List.Elements.{All-from_recursion, recursion_from_All}
use Rattle.expression.specs.declared.nodes.Node.{Node}
use Rattle.expression.specs.declared.nodes.Span.{Span}
use Rattle.expression.specs.Walk.{most_items, spanned, walked}
use Rattle.expression.specs.Widths.{width_arith}
use Rattle.expression.specs.Heights.{peak}
use Rattle.expression.proofs.Counts.{peaks}
use Rattle.instruction.specs.declared.tables.Left.{Left}
use Rattle.instruction.specs.declared.tables.Left.TheVariants.{Variable, Bytes}
use Rattle.instruction.specs.declared.tables.Action.{Action}
use Rattle.instruction.specs.declared.tables.Instruction.{Instruction}
use Rattle.instruction.specs.Parts.{right_of, left_of, address_in}
use Rattle.model.specs.Judge.{expressed, right_width, left_width, widths_judged, judged, sizes_bad, entered, expression_peak, action_peak, deepest}
use Rattle.model.specs.Well.{Typed}
use Rattle.model.specs.Depths.{Holds, DeepEnough}
use Rattle.model.proofs.Passing.{went_on, went_past, held_where}
use Rattle.model.proofs.Typing.{unobjected, found}
use Rattle.model.proofs.Exactly.{exact}

abbrev deeper : List Node → ℕ → Instruction → ℕ
deeper ns m x = max m (action_peak ns x.action)

-- what walks is in room
module _ (ws : List ℕ) (ns : List Node) where
  expressed_peak : (s : Span) (w : ℕ) → expressed ws ns s ≡ Ok w → peak 0 (spanned ns s) ≤ most_items
  expressed_peak s w e = (peaks (width_arith true ws)).in_room ns s w (unobjected (walked (width_arith true ws) ns s) w e)

  right_peak : (o : Option Span) (r : Option ℕ) → right_width ws ns o ≡ Ok r → expression_peak ns o ≤ most_items
  right_peak None r e = omega arith
  right_peak (Some s) r e = let (w, p, _) = went_on (expressed ws ns s) _ r e in expressed_peak s w p

  left_peak : (o : Option Left) (r : Option ℕ) → left_width ws ns o ≡ Ok r → expression_peak ns (address_in o) ≤ most_items
  left_peak None r e = omega arith
  left_peak (Some (Variable v)) r e = omega arith
  left_peak (Some (Bytes k a)) r e = let (w, p, _) = went_on (expressed ws ns a) _ r e in expressed_peak a w p

  typed_peak : (a : Action) → Typed ws ns a → action_peak ns a ≤ most_items
  typed_peak a t =
      let (w, p, s, q, _) = found ws ns a t in
      omega (arith, right_peak (right_of a) w p, left_peak (left_of a) s q)

  few : (m : ℕ) (is : List Instruction) → m ≤ most_items → AllByRecursion (λ x. Typed ws ns x.action) is → fold (deeper ns) m is ≤ most_items
  few m [] h t = h
  few m (x ∷ xs) h (t, ts) = few (deeper ns m x) xs (omega (arith, typed_peak x.action t)) ts

-- no walk is deeper than the deepest
module _ (ns : List Node) (d : ℕ) where
  holds_one : (o : Option Span) → expression_peak ns o ≤ d → (s : Span) → o ≡ Some s → peak 0 (spanned ns s) ≤ d
  holds_one o h s e = subst (λ o. expression_peak ns o ≤ d) e h

  holds : (a : Action) → action_peak ns a ≤ d → Holds ns d a
  holds a h = record { right = holds_one (right_of a) (omega arith); address = holds_one (address_in (left_of a)) (omega arith) }

  all_hold : (m : ℕ) (is : List Instruction) → fold (deeper ns) m is ≤ d → (m ≤ d) × AllByRecursion (λ x. Holds ns d x.action) is
  all_hold m [] h = (h, tt)
  all_hold m (x ∷ xs) h = let (most, all) = all_hold (deeper ns m x) xs h in (omega arith, (holds x.action (omega arith), all))

pub deep_enough : DeepEnough
deep_enough ws ns is e d h =
    let (_, _, p) = went_on (widths_judged ws) _ d (went_past (sizes_bad (length ws) (length ns) (length is)) _ d _ h) in
    let (_, _, q) = went_on (judged ws ns is 0 None is) _ d p in
    let n : deepest ns is ≡ d.items = ap (λ x. x.items) (held_where (entered is e) _ d _ q).1 in
    let t = ((exact ws ns is e).0 (ap is_ok h)).typed in
    record {
      few = omega (arith, few ws ns 0 is (omega arith) (recursion_from_All _ is t));
      all = All-from_recursion _ is (all_hold ns d.items 0 is (omega arith)).1;
    }
