-- The items that a walk holds are counted by its nodes.
use Rattle.std.proofs.Common.{◌≡◌, ℕ, ◌+◌, ◌-◌, ◌<◌, ◌≤◌, max, List, [], ◌∷◌, ◌++◌, length, get_or, drop, Ok, Err, Result, ap, subst, take-append-drop, arith}
use Rattle.std.proofs.lemmas.List.{at_drop_more}
use Rattle.std.proofs.lemmas.Bool.Decides.{nat_tests}
use Rattle.answer.specs.declared.faults.Layer.{Layer}
use Rattle.answer.specs.declared.faults.Layer.TheVariants.{Arithmetic}
use Rattle.expression.specs.declared.nodes.FixedRegion.TheVariants.{Cst}
use Rattle.expression.specs.declared.nodes.Node.{Node}
use Rattle.expression.specs.declared.nodes.Node.TheVariants.{Constant, Variable, Read, Unary, Binary, Concatenate}
use Rattle.expression.specs.declared.stops.Cause.{Cause}
use Rattle.expression.specs.Walk.{Arith, most_items, pushed, on_one, on_two, with_memory, stepped, spanned}
use Rattle.expression.specs.Heights.{after_node, peak, Peaks}
use Rattle.expression.proofs.Goes.{not_ok, Goes, done, next, from_runs, from_walked}

above_start : (h : ℕ) (ns : List Node) → h ≤ peak h ns
above_start h [] = omega arith
above_start h (n ∷ ns) = omega arith

pub one_more : (n : Node) (h : ℕ) → after_node n h ≤ h + 1
one_more (Constant c) h = omega arith
one_more (Variable v) h = omega arith
one_more (Read r) h = omega arith
one_more (Unary o) h = omega arith
one_more (Binary o) h = omega arith
one_more Concatenate h = omega arith

-- what the code's read of a node has past the end of the table
abbrev pub blank : Node
blank = Constant (record { number = 0; region = Cst; width = 0 })

-- a turn of the loop that counts
pub peak_more : (d : Node) (nodes : List Node) (i held most : ℕ) → i < length nodes → held ≤ most → max most (peak held (drop i nodes)) ≡ max (max most (after_node (get_or nodes i d) held)) (peak (after_node (get_or nodes i d) held) (drop (i + 1) nodes))
peak_more d nodes i held most h le =
    let e : peak held (drop i nodes) ≡ max held (peak (after_node (get_or nodes i d) held) (drop (i + 1) nodes)) = at_drop_more (peak held) nodes i d h in
    let a = above_start (after_node (get_or nodes i d) held) (drop (i + 1) nodes) in
    omega arith

module _ {I F : Type 0} (a : Arith I F) where
  -- what a node left: the items are counted, and there was room
  abbrev Left : ℕ → List I → Type 0
  Left h t = (length t ≡ h) × (length t ≤ most_items)

  push_left : (layer : Layer) (got : Result I F) (s t : List I) → pushed layer got s ≡ Ok t → Left (length s + 1) t
  push_left layer (Ok x) s t p = grind (arith, nat_tests)
  push_left layer (Err f) s t p = not_ok p

  one_left : (layer : Layer) (f : I → Result I F) (s t : List I) → on_one layer f s ≡ Ok t → Left (length s) t
  one_left layer f [] t p = not_ok p
  one_left layer f (x ∷ s) t p = let l = push_left layer (f x) s t p in (omega arith, l.1)

  two_left : (f : I → I → Result I F) (s t : List I) → on_two f s ≡ Ok t → Left (length s - 1) t
  two_left f [] t p = not_ok p
  two_left f (y ∷ []) t p = not_ok p
  two_left f (y ∷ (x ∷ s)) t p = let l = push_left Arithmetic (f x y) s t p in (omega arith, l.1)

  there : (m : Result (Unit {0}) F) (r : Result (List I) (Cause F)) (t : List I) → with_memory m r ≡ Ok t → r ≡ Ok t
  there (Ok u) r t p = p
  there (Err f) r t p = not_ok p

  step_left : (n : Node) (s t : List I) → stepped a n s ≡ Ok t → Left (after_node n (length s)) t
  step_left (Constant c) s t p = push_left Arithmetic (a.constant c) s t (grind (arith, nat_tests))
  step_left (Variable v) s t p = push_left Arithmetic (a.variable v) s t p
  step_left (Read r) s t p = one_left _ (a.read r) s t (there a.memory _ t p)
  step_left (Unary o) s t p = one_left _ (a.unary o) s t p
  step_left (Binary o) s t p = two_left (a.binary o) s t p
  step_left Concatenate s t p = two_left a.concatenation s t p

  no_more : {ns : List Node} {s t : List I} (rest : List Node) → Goes a ns s t → length t ≤ peak (length s) (ns ++ rest)
  no_more {s} rest done = above_start (length s) rest
  no_more {s} rest (next {n} {ns} {t = u} e g) =
      let l = step_left n s u e in
      let h = no_more rest g in
      let p : peak (length u) (ns ++ rest) ≡ peak (after_node n (length s)) (ns ++ rest) = ap (λ h. peak h (ns ++ rest)) l.0 in
      omega arith

  in_room : {ns : List Node} {s t : List I} → length s ≤ most_items → Goes a ns s t → peak (length s) ns ≤ most_items
  in_room b done = b
  in_room {s} b (next {n} {ns} {t = u} e g) =
      let l = step_left n s u e in
      let h = in_room l.1 g in
      let p : peak (length u) ns ≡ peak (after_node n (length s)) ns = ap (λ h. peak h ns) l.0 in
      omega arith

  pub peaks : Peaks a
  peaks = record {
    no_more = λ nodes s k held p. subst (λ ns. length held ≤ peak 0 ns) (take-append-drop k (spanned nodes s)) (no_more (drop k (spanned nodes s)) (from_runs _ s.first [] held p));
    in_room = λ nodes s x p. in_room (omega arith) (from_walked nodes s x p).1;
  }
