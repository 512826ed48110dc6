-- The walk in bare widths passes exactly the expressions.
use Rattle.std.proofs.Common.{◌≡◌, ℕ, ◌+◌, ◌<◌, ◌≤◌, Bool, true, false, List, [], ◌∷◌, ◌++◌, length, Ok, Err, Result, sym, refl, subst, append_assoc, append-nil, arith}
use Rattle.std.proofs.lemmas.Bool.Decides.{nat_tests}
use Rattle.answer.specs.declared.faults.Layer.{Layer}
use Rattle.answer.specs.declared.faults.Layer.TheVariants.{Arithmetic, Memory}
use Rattle.value.specs.Rows.{address_width}
use Rattle.expression.specs.declared.nodes.Node.{Node}
use Rattle.expression.specs.declared.nodes.Node.TheVariants.{Constant, Variable, Read, Unary, Binary, Concatenate}
use Rattle.expression.specs.declared.nodes.Span.{Span}
use Rattle.expression.specs.declared.stops.Cause.{Cause}
use Rattle.expression.specs.declared.stops.Cause.TheVariants.{Missing}
use Rattle.expression.specs.declared.stops.Defect.{Defect}
use Rattle.expression.specs.Walk.{most_items, pushed, with_memory, stepped, walked}
use Rattle.expression.specs.Widths.{width_arith}
use Rattle.tree.specs.Trees.{Tree, constant_leaf, variable_leaf, read_at, unary_of, binary_of, joined, postfix, needs, HasWidth, Expresses, PassesExactly}
use Rattle.tree.proofs.Rules.{constant_rule, variable_rule, read_rule, unary_rule, binary_rule, concatenation_rule}
use Rattle.expression.proofs.Goes.{not_ok, Goes, done, next, goes_on, from_walked, to_walked}

-- a width that a rule gives is put on the stack, where there is room
pushes : {r : Result ℕ Defect} {w : ℕ} (layer : Layer) (s : List ℕ) → r ≡ Ok w → length s < most_items → pushed layer r s ≡ Ok (w ∷ s)
pushes layer s e h = rw e (grind (arith, nat_tests))

needs_some : (t : Tree) → 1 ≤ needs t
needs_some (constant_leaf c) = omega arith
needs_some (variable_leaf v) = omega arith
needs_some (read_at r t) = needs_some t
needs_some (unary_of o t) = needs_some t
needs_some (binary_of o t u) = omega arith
needs_some (joined t u) = omega arith

-- From a tree to the walk: its nodes put its width on the stack.
module _ (reads : Bool) (ws : List ℕ) where
  walks : (t : Tree) (w : ℕ) (s : List ℕ) → HasWidth reads ws t w → length s + needs t ≤ most_items → Goes (width_arith reads ws) (postfix t) s (w ∷ s)
  walks (constant_leaf c) w s h room = next (let p = pushes Arithmetic s ((constant_rule c w).1 h) (omega arith) in grind (arith, nat_tests)) done
  walks (variable_leaf v) w s h room = next (pushes Arithmetic s ((variable_rule reads ws v w).1 h) (omega arith)) done
  walks (read_at r t) w s h room =
      goes_on (walks t address_width s h.1 room)
      (next (rw h.0 (pushes Memory s ((read_rule reads ws r address_width w).1 (refl, h.2, h.3, h.4)) (omega (arith, needs_some t)))) done)
  walks (unary_of o t) w s h room =
      goes_on (walks t h.0 s h.1 room)
      (next (pushes Arithmetic s ((unary_rule o h.0 w).1 h.2) (omega (arith, needs_some t))) done)
  walks (binary_of o t u) w s h room =
      goes_on (walks t h.0 s h.1 (omega arith))
      (goes_on (walks u h.0 (h.0 ∷ s) h.2 (omega arith))
      (next (pushes Arithmetic s ((binary_rule reads ws o h.0 h.0 w).1 (refl, h.3)) (omega arith)) done))
  walks (joined t u) w s h room =
      goes_on (walks t h.0 s h.2 (omega arith))
      (goes_on (walks u h.1 (h.0 ∷ s) h.3 (omega arith))
      (next (pushes Arithmetic s ((concatenation_rule reads ws h.0 h.1 w).1 (h.4, h.5)) (omega arith)) done))

  every_expression : (nodes : List Node) (s : Span) (w : ℕ) → Expresses reads ws nodes s w → walked (width_arith reads ws) nodes s ≡ Ok w
  every_expression nodes s w x =
      to_walked nodes s w (grind (arith, nat_tests)) (rw x.nodes_are at (walks x.tree w [] x.rules (omega arith)))

-- The nodes are the postfix orders of trees, one after another, that have the widths on the stack; each had room over
-- those below it.
data Built (reads : Bool) (ws : List ℕ) : List Node → List ℕ → Type 0 where
  none : Built reads ws [] []
  more : {ns : List Node} {s : List ℕ} {w : ℕ} → Built reads ws ns s → (t : Tree) → HasWidth reads ws t w → length s + needs t ≤ most_items → Built reads ws (ns ++ postfix t) (w ∷ s)

-- a read that goes on has its memory
has_memory : {u : List ℕ} (reads : Bool) (ws : List ℕ) (r : Result (List ℕ) (Cause Defect)) → with_memory (width_arith reads ws).memory r ≡ Ok u → (reads ≡ true) × (r ≡ Ok u)
has_memory true ws r e = (refl, e)
has_memory false ws r e = not_ok e

-- From the walk to a tree: each node makes one tree of those on top.
module _ (reads : Bool) (ws : List ℕ) where
  after_push : {ns : List Node} {u : List ℕ} (layer : Layer) (r : Result ℕ Defect) (s : List ℕ) → ((w : ℕ) → r ≡ Ok w → length s < most_items → Built reads ws ns (w ∷ s)) → pushed layer r s ≡ Ok u → Built reads ws ns u
  after_push {ns} layer (Ok w) s f e = subst (Built reads ws ns) (grind (arith, nat_tests)) (f w refl (grind (arith, nat_tests)))
  after_push layer (Err d) s f e = not_ok e

  built_one : {ns : List Node} {s u : List ℕ} (n : Node) → Built reads ws ns s → stepped (width_arith reads ws) n s ≡ Ok u → Built reads ws (ns ++ (n ∷ [])) u
  built_one {s} (Constant c) b e =
      after_push Arithmetic ((width_arith reads ws).constant c) s (λ w p room. more b (constant_leaf c) ((constant_rule c w).0 p) (omega arith)) (grind (arith, nat_tests))
  built_one {s} (Variable v) b e =
      after_push Arithmetic _ s (λ w p room. more b (variable_leaf v) ((variable_rule reads ws v w).0 p) (omega arith)) e
  built_one (Read r) none e = not_ok (has_memory reads ws (Err Missing) e).1
  built_one (Read r) (more {s} {w = x} b t h room) e =
      let m = has_memory reads ws (pushed Memory ((width_arith reads ws).read r x) s) e in
      after_push Memory _ s (λ w p _. let q = (read_rule reads ws r x w).0 p in
      simp append_assoc (more b (read_at r t) (m.0, subst (HasWidth reads ws t) q.0 h, q.1, q.2, q.3) room)) m.1
  built_one (Unary o) none e = not_ok e
  built_one (Unary o) (more {s} {w = x} b t h room) e =
      after_push Arithmetic _ s (λ w p _. simp append_assoc (more b (unary_of o t) (x, h, (unary_rule o x w).0 p) room)) e
  built_one (Binary o) none e = not_ok e
  built_one (Binary o) (more none t' h' room') e = not_ok e
  built_one (Binary o) (more {w = y} (more {s} {w = x} b t h room) t' h' room') e =
      after_push Arithmetic _ s (λ w p _. let q = (binary_rule reads ws o x y w).0 p in
      simp append_assoc (more b (binary_of o t t') (x, h, subst (HasWidth reads ws t') (sym q.0) h', q.1) (omega arith))) e
  built_one Concatenate none e = not_ok e
  built_one Concatenate (more none t' h' room') e = not_ok e
  built_one Concatenate (more {w = y} (more {s} {w = x} b t h room) t' h' room') e =
      after_push Arithmetic _ s (λ w p _. let q = (concatenation_rule reads ws x y w).0 p in
      simp append_assoc (more b (joined t t') (x, y, h, h', q.0, q.1) (omega arith))) e

  built : {ns ms : List Node} {s u : List ℕ} → Built reads ws ns s → Goes (width_arith reads ws) ms s u → Built reads ws (ns ++ ms) u
  built b done = rw append-nil b
  built b (next {n} e g) = rw append_assoc at (built (built_one n b e) g)

  the_tree : {ns : List Node} {w : ℕ} → Built reads ws ns (w ∷ []) → (t : Tree) × (postfix t ≡ ns) × HasWidth reads ws t w × (needs t ≤ most_items)
  the_tree (more none t h room) = (t, refl, h, omega arith)

  only_expressions : (nodes : List Node) (s : Span) (w : ℕ) → walked (width_arith reads ws) nodes s ≡ Ok w → Expresses reads ws nodes s w
  only_expressions nodes s w e =
      let p = from_walked nodes s w e in
      let x = the_tree (built none p.1) in
      record { some = grind (arith, nat_tests); inside = grind (arith, nat_tests); few = grind (arith, nat_tests); tree = x.0; nodes_are = x.1; rules = x.2; room = x.3 }

pub passes_exactly : PassesExactly
passes_exactly = record { only_expressions = only_expressions; every_expression = every_expression }
