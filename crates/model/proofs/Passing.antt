-- When a chain of results is Ok.
use Rattle.std.proofs.Common.{◌≡◌, Bool, true, false, cond, not, ◌&&◌, Ok, Err, Decides, Result, is_ok, refl, subst}
use Rattle.std.proofs.lemmas.Bool.Decides.{Decides-at, Decides-and}
use Rattle.answer.specs.First.{and_then}

pub decides_itself : (b : Bool) → Decides b (b ≡ true)
decides_itself b = (λ h. h, λ h. h)

module _ {X E : Type 0} where
  ok_where : (b : Bool) (x : X) (e : E) → is_ok (cond b (Ok x) (Err e)) ≡ b
  ok_where true x e = refl
  ok_where false x e = refl

  ok_unless : (b : Bool) (r : Result X E) (e : E) → is_ok (cond b (Err e) r) ≡ (not b && is_ok r)
  ok_unless true r e = refl
  ok_unless false r e = refl

  pub held_where : (b : Bool) (x y : X) (e : E) → cond b (Ok x) (Err e) ≡ Ok y → (b ≡ true) × (x ≡ y)
  held_where true x y e p = (refl, cc)
  held_where false x y e p = cc

  pub went_past : (b : Bool) (r : Result X E) (y : X) (e : E) → cond b (Err e) r ≡ Ok y → r ≡ Ok y
  went_past true r y e p = cc
  went_past false r y e p = p

  -- Ok where a test holds
  pub passes_where : {P : Type 0} (b : Bool) (x : X) (e : E) → Decides b P → Decides (is_ok (cond b (Ok x) (Err e))) P
  passes_where b x e d = Decides-at _ _ (ok_where b x e) d

  -- what comes after a refusal
  pub passes_unless : {P Q : Type 0} (b : Bool) (r : Result X E) (e : E) → Decides (not b) P → Decides (is_ok r) Q → Decides (is_ok (cond b (Err e) r)) (P × Q)
  passes_unless b r e p q = Decides-at _ _ (ok_unless b r e) (Decides-and (not b) (is_ok r) p q)

module _ {X Y E : Type 0} where
  ok_both : (r : Result X E) (s : Result Y E) → is_ok (and_then r (λ _. s)) ≡ (is_ok r && is_ok s)
  ok_both (Ok x) s = refl
  ok_both (Err e) s = refl

  -- one after the other
  pub passes_both : {P Q : Type 0} (r : Result X E) (s : Result Y E) → Decides (is_ok r) P → Decides (is_ok s) Q → Decides (is_ok (and_then r (λ _. s))) (P × Q)
  passes_both r s p q = Decides-at _ _ (ok_both r s) (Decides-and (is_ok r) (is_ok s) p q)

  -- one, and then with what it found
  pub passes_with : (r : Result X E) (f : X → Result Y E) (P : X → Type 0) → ((x : X) → Decides (is_ok (f x)) (P x)) → Decides (is_ok (and_then r f)) ((x : X) × (r ≡ Ok x) × P x)
  passes_with (Ok x) f P each = (λ h. (x, refl, (each x).0 h), λ h. let e : h.0 ≡ x = cc in (each x).1 (subst P e h.2))
  passes_with (Err e) f P each = (λ h. cc, λ (x, h, p). cc)

  pub went_on : (r : Result X E) (f : X → Result Y E) (y : Y) → and_then r f ≡ Ok y → (x : X) × (r ≡ Ok x) × (f x ≡ Ok y)
  went_on (Ok x) f y p = (x, refl, p)
  went_on (Err e) f y p = cc
