-- A walk that ends well, node by node and without places.
use Rattle.std.proofs.Common.{◌≡◌, ℕ, ◌+◌, Bool, true, false, cond, List, [], ◌∷◌, ◌++◌, length, None, Ok, Err, Result, refl, subst}
use Rattle.expression.specs.declared.nodes.Node.{Node}
use Rattle.expression.specs.declared.nodes.Span.{Span}
use Rattle.expression.specs.declared.stops.Cause.{Cause}
use Rattle.expression.specs.declared.stops.Cause.TheVariants.{Outside}
use Rattle.expression.specs.declared.stops.Stopped.{Stopped}
use Rattle.expression.specs.Walk.{Arith, stop, stepped, at_node, runs, ended, spanned, spans, walked_inside, walked}

-- an error is never Ok
pub not_ok : {X E Y : Type 0} {e : E} {x : X} → Err e ≡ Ok x → Y
not_ok p = absurd (cc)

-- the nodes, in order, turn one stack into another
pub data Goes {I F : Type 0} (a : Arith I F) : List Node → List I → List I → Type 0 where
  done : {s : List I} → Goes a [] s s
  next : {n : Node} {ns : List Node} {s t u : List I} → stepped a n s ≡ Ok t → Goes a ns t u → Goes a (n ∷ ns) s u

-- a walk that gives an item leaves only that one
only_one : {I F : Type 0} (k : ℕ) (r : Result (List I) (Stopped F)) (x : I) → ended k r ≡ Ok x → r ≡ Ok (x ∷ [])
only_one k (Ok []) x e = not_ok e
only_one k (Ok (y ∷ [])) x e = cc
only_one k (Ok (y ∷ (z ∷ s))) x e = not_ok e
only_one k (Err c) x e = not_ok e

module _ {I F : Type 0} {a : Arith I F} where
  pub goes_on : {ns ms : List Node} {s t u : List I} → Goes a ns s t → Goes a ms t u → Goes a (ns ++ ms) s u
  goes_on done h = h
  goes_on (next e g) h = next e (goes_on g h)

  -- the same walk with its places, both ways
  pub from_runs : (ns : List Node) (i : ℕ) (s u : List I) → runs a i ns s ≡ Ok u → Goes a ns s u
  from_runs [] i s u e = subst (Goes a [] s) (cc) done
  from_runs (n ∷ ns) i s u e = go (stepped a n s) refl e (λ t. from_runs ns (i + 1) t u)
    where
      go : (r : Result (List I) (Cause F)) → stepped a n s ≡ r → at_node (i + 1) r (λ t. runs a (i + 1) ns t) ≡ Ok u → ((t : List I) → runs a (i + 1) ns t ≡ Ok u → Goes a ns t u) → Goes a (n ∷ ns) s u
      go (Ok t) p e rest = next p (rest t e)
      go (Err c) p e rest = not_ok e

  to_runs : {ns : List Node} {s u : List I} (i : ℕ) → Goes a ns s u → runs a i ns s ≡ Ok u
  to_runs i done = refl
  to_runs i (next e g) = rw e (to_runs (i + 1) g)

  -- the walk of a span, both ways
  pub from_walked : (nodes : List Node) (s : Span) (x : I) → walked a nodes s ≡ Ok x → (spans (length nodes) s ≡ true) × Goes a (spanned nodes s) [] (x ∷ [])
  from_walked nodes s x e = go (spans (length nodes) s) e
    where
      go : (b : Bool) → cond b (walked_inside a nodes s) (Err (stop None Outside)) ≡ Ok x → (b ≡ true) × Goes a (spanned nodes s) [] (x ∷ [])
      go true e = (refl, from_runs (spanned nodes s) s.first [] (x ∷ []) (only_one (s.first + s.count) _ x e))
      go false e = not_ok e

  pub to_walked : (nodes : List Node) (s : Span) (x : I) → spans (length nodes) s ≡ true → Goes a (spanned nodes s) [] (x ∷ []) → walked a nodes s ≡ Ok x
  to_walked nodes s x p g = rw (p, to_runs s.first g)
