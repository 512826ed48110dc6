-- Two walks go side by side.
use Rattle.std.proofs.Common.{◌≡◌, ℕ, suc, ◌+◌, Bool, true, false, cond, ltb, List, [], ◌∷◌, length, Ok, Err, Result, refl, ap, ◌∙◌, subst}
use Rattle.answer.specs.declared.faults.Layer.{Layer}
use Rattle.answer.specs.declared.faults.Layer.TheVariants.{Arithmetic, Memory}
use Rattle.expression.specs.declared.nodes.Node.{Node}
use Rattle.expression.specs.declared.nodes.Node.TheVariants.{Constant, Variable, Read, Unary, Binary, Concatenate}
use Rattle.expression.specs.declared.stops.Cause.{Cause}
use Rattle.expression.specs.declared.stops.Cause.TheVariants.{Full}
use Rattle.expression.specs.declared.stops.Defect.{Defect}
use Rattle.expression.specs.declared.stops.Stopped.{Stopped}
use Rattle.expression.specs.Walk.{Arith, most_items, pushed, on_one, on_two, with_memory, stepped, at_node, runs, ended}
use Rattle.expression.specs.Widths.{Fit, Sound, width_arith, width_unary}
use Rattle.expression.proofs.Goes.{not_ok, Goes, done, next, from_walked}
use Rattle.expression.specs.Follow.{Own, Both, Follows, Passed, Stays, Keeps}

-- as many items, and each related to its fellow
data Stacks {I J : Type 0} (R : I → J → Type 0) : List I → List J → Type 0 where
  none : Stacks R [] []
  more : {x : I} {y : J} {s : List I} {t : List J} → R x y → Stacks R s t → Stacks R (x ∷ s) (y ∷ t)

module _ {I J : Type 0} (F G : Type 0) (R : I → J → Type 0) where
  as_long : {s : List I} {t : List J} → Stacks R s t → length s ≡ length t
  as_long none = refl
  as_long (more h st) = ap suc (as_long st)

  abbrev After : Result (List I) (Cause F) → List J → Type 0
  After (Ok s) t = Stacks R s t
  After (Err r) t = Own r

  abbrev Ran : Result (List I) (Stopped F) → List J → Type 0
  Ran (Ok s) t = Stacks R s t
  Ran (Err r) t = Own r.cause

  put : (b : Bool) (x : I) (y : J) (s : List I) (t u : List J) → R x y → Stacks R s t → ◌≡◌ {A = Result (List J) (Cause G)} (cond b (Ok (y ∷ t)) (Err Full)) (Ok u) → After (cond b (Ok (x ∷ s)) (Err Full)) u
  put true x y s t u h st e = let p : y ∷ t ≡ u = cc in subst (Stacks R (x ∷ s)) p (more h st)
  put false x y s t u h st e = not_ok e

  push_on : (l m : Layer) (gi : Result I F) (gj : Result J G) (s : List I) (t u : List J) → Both R gi gj → Stacks R s t → pushed m gj t ≡ Ok u → After (pushed l gi s) u
  push_on l m (Ok x) (Ok y) s t u h st e = put (ltb (length s) most_items) x y s t u h st (ap (λ k. cond (ltb k most_items) (Ok (y ∷ t)) (Err Full)) (as_long st) ∙ e)
  push_on l m (Ok x) (Err g) s t u h st e = not_ok e
  push_on l m (Err f) (Ok y) s t u h st e = tt
  push_on l m (Err f) (Err g) s t u h st e = not_ok e

  -- a test of the room first, which both pass or neither
  room_on : (b : Bool) (ra : Result (List I) (Cause F)) (rb : Result (List J) (Cause G)) (u : List J) → (rb ≡ Ok u → After ra u) → cond b rb (Err Full) ≡ Ok u → After (cond b ra (Err Full)) u
  room_on true ra rb u h e = h e
  room_on false ra rb u h e = not_ok e

  one_on : (l : Layer) (f : I → Result I F) (g : J → Result J G) → ((x : I) (y : J) → R x y → Both R (f x) (g y)) → {s : List I} {t : List J} (u : List J) → Stacks R s t → on_one l g t ≡ Ok u → After (on_one l f s) u
  one_on l f g h u none e = not_ok e
  one_on l f g h u (more {x} {y} r st) e = push_on l l (f x) (g y) _ _ u (h x y r) st e

  two_on : (f : I → I → Result I F) (g : J → J → Result J G) → ((x x' : I) (y y' : J) → R x y → R x' y' → Both R (f x x') (g y y')) → {s : List I} {t : List J} (u : List J) → Stacks R s t → on_two g t ≡ Ok u → After (on_two f s) u
  two_on f g h u none e = not_ok e
  two_on f g h u (more r none) e = not_ok e
  two_on f g h u (more {x = x'} {y = y'} r' (more {x} {y} r st)) e = push_on Arithmetic Arithmetic (f x x') (g y y') _ _ u (h x x' y y' r r') st e

  -- the memory is there for the second, or it would have stopped
  memory_on : (ma : Result (Unit {0}) F) (mb : Result (Unit {0}) G) (ra : Result (List I) (Cause F)) (rb : Result (List J) (Cause G)) (u : List J) → (rb ≡ Ok u → After ra u) → with_memory mb rb ≡ Ok u → After (with_memory ma ra) u
  memory_on (Ok a) (Ok b) ra rb u h e = h e
  memory_on (Err f) (Ok b) ra rb u h e = tt
  memory_on ma (Err g) ra rb u h e = not_ok e

  module _ (a : Arith I F) (b : Arith J G) (along : Follows R a b) where
    step_on : (n : Node) (s : List I) (t u : List J) → Stacks R s t → stepped b n t ≡ Ok u → After (stepped a n s) u
    step_on (Constant c) s t u st e =
        room_on (ltb (length s) most_items) _ (pushed Arithmetic (b.constant c) t) u (push_on Arithmetic Arithmetic (a.constant c) (b.constant c) s t u (along.constant_on c) st)
        (ap (λ k. cond (ltb k most_items) (pushed Arithmetic (b.constant c) t) (Err Full)) (as_long st) ∙ e)
    step_on (Variable v) s t u st e = push_on Arithmetic Arithmetic (a.variable v) (b.variable v) s t u (along.variable_on v) st e
    step_on (Read r) s t u st e = memory_on a.memory b.memory _ (on_one Memory (b.read r) t) u (one_on Memory (a.read r) (b.read r) (along.read_on r) u st) e
    step_on (Unary o) s t u st e = one_on Arithmetic (a.unary o) (b.unary o) (along.unary_on o) u st e
    step_on (Binary o) s t u st e = two_on (a.binary o) (b.binary o) (along.binary_on o) u st e
    step_on Concatenate s t u st e = two_on a.concatenation b.concatenation along.concatenation_on u st e

    runs_follow : {ns : List Node} {t u : List J} (i : ℕ) (s : List I) → Stacks R s t → Goes b ns t u → Ran (runs a i ns s) u
    runs_follow i s st done = st
    runs_follow {u} i s st (next {n} {ns} {t = v} e g) = go (stepped a n s) (step_on n s _ v st e) (λ r h. runs_follow (i + 1) r h g)
      where
        go : (r : Result (List I) (Cause F)) → After r v → ((r : List I) → Stacks R r v → Ran (runs a (i + 1) ns r) u) → Ran (at_node (i + 1) r (λ r. runs a (i + 1) ns r)) u
        go (Ok r) h on = on r h
        go (Err c) h on = h

  ended_follow : (k : ℕ) (y : J) (r : Result (List I) (Stopped F)) → Ran r (y ∷ []) → Passed R y (ended k r)
  ended_follow k y (Ok s) (more h none) = h
  ended_follow k y (Err e) h = h

pub stays : {I J F G : Type 0} (R : I → J → Type 0) (a : Arith I F) (b : Arith J G) → Follows R a b → Stays R a b
stays {F} {G} R a b along nodes s y e =
    let w = from_walked nodes s y e in
    rw w.0 (ended_follow F G R (s.first + s.count) y _ (runs_follow F G R a b along s.first [] none w.1))

turned : {I F : Type 0} (width : I → ℕ) (r : Result ℕ Defect) (g : Result I F) → Fit width r g → Both (λ x w. width x ≡ w) g r
turned width (Ok w) (Ok x) h = h
turned width (Ok w) (Err f) h = tt
turned width (Err e) (Ok x) h = tt
turned width (Err e) (Err f) h = tt

module _ {I F : Type 0} (ws : List ℕ) (width : I → ℕ) (a : Arith I F) (sound : Sound ws width a) where
  -- the same of two operands, at widths that theirs equal
  on_pair : (f : I → I → Result I F) (g : ℕ → ℕ → Result ℕ Defect) → ((x y : I) → Fit width (g (width x) (width y)) (f x y)) → (x x' : I) (w w' : ℕ) → width x ≡ w → width x' ≡ w' → Both (λ x w. width x ≡ w) (f x x') (g w w')
  on_pair f g fits x x' w w' h h' =
      subst (λ v. Both (λ x w. width x ≡ w) (f x x') (g v w')) h
      (subst (λ v. Both (λ x w. width x ≡ w) (f x x') (g (width x) v)) h' (turned width _ (f x x') (fits x x')))

  on_single : (f : I → Result I F) (g : ℕ → Result ℕ Defect) → ((x : I) → Fit width (g (width x)) (f x)) → (x : I) (w : ℕ) → width x ≡ w → Both (λ x w. width x ≡ w) (f x) (g w)
  on_single f g fits x w h = subst (λ v. Both (λ x w. width x ≡ w) (f x) (g v)) h (turned width _ (f x) (fits x))

  pub keeps : Keeps ws width a
  keeps reads = stays (λ x w. width x ≡ w) a (width_arith reads ws) record {
    constant_on = λ c. turned width _ (a.constant c) (sound.constant_fits c);
    variable_on = λ v. turned width _ (a.variable v) (sound.variable_fits v);
    read_on = λ r. on_single (a.read r) ((width_arith reads ws).read r) (sound.read_fits r);
    unary_on = λ o. on_single (a.unary o) (width_unary o) (sound.unary_fits o);
    binary_on = λ o. on_pair (a.binary o) ((width_arith reads ws).binary o) (sound.binary_fits o);
    concatenation_on = on_pair a.concatenation (width_arith reads ws).concatenation sound.concatenation_fits;
  }
