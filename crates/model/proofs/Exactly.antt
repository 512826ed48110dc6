-- The check passes exactly the well-formed tables.
use Rattle.std.proofs.Common.{◌≡◌, ℕ, suc, ◌+◌, ◌<◌, ◌≤◌, true, not, ◌&&◌, List, [], ◌∷◌, length, get_or, Some, None, Ok, Err, Decides, Option, Result, is_ok, refl, ap, ◌∙◌, add-one, arith}
use Rattle.std.specs.List.{All, AllByRecursion, position_or_len}
use Rattle.std.proofs.lemmas.List.Elements.{All-from_recursion, recursion_from_All}
use Rattle.std.proofs.lemmas.List.Sums.{position_or_len_is, fails_before_first}
use Rattle.std.proofs.lemmas.Bool.{and_parts, and_from}
use Rattle.std.proofs.lemmas.Bool.Decides.{nat_tests, Decides-and, Decides-or, Decides-eqb, Decides-ltb, Decides-like, Decides-at, Decides-by_or}
use Rattle.answer.specs.declared.standings.Address.{Address}
use Rattle.value.specs.Rows.{widest, no_width}
use Rattle.expression.specs.declared.nodes.Node.{Node}
use Rattle.expression.specs.Walk.{most_nodes}
use Rattle.instruction.specs.declared.tables.Action.{Action}
use Rattle.instruction.specs.declared.tables.Action.TheVariants.{Assign, Nondet, Undef, Malloc, Free, Jump, Goto, Ite, Assert, Assume, Stop}
use Rattle.instruction.specs.declared.tables.Instruction.{Instruction}
use Rattle.instruction.specs.Addresses.{before, same_address, above, rising_from, rising, known}
use Rattle.instruction.specs.Parts.{right_of, left_of, next_of, otherwise_of}
use Rattle.instruction.proofs.Risings.{rises}
use Rattle.model.specs.declared.objections.Objection.{Objection}
use Rattle.model.specs.Objections.{at_instruction}
use Rattle.model.specs.Judge.{most_instructions, most_variables, right_width, left_width, own_rules, reached, judged_one, judged, widths_judged, sizes_bad, entered, passes}
use Rattle.model.specs.Well.{Before, Stands, Reaches, Typed, Aims, Exact}
use Rattle.model.proofs.Passing.{decides_itself, passes_where, passes_unless, passes_both, passes_with}
use Rattle.model.proofs.Typing.{typed, found}

-- addresses, and their order
decides_before : (a b : Address) → Decides (before a b) (Before a b)
decides_before a b =
    Decides-or _ _ (Decides-ltb a.place b.place) (Decides-and _ _ (Decides-eqb a.place b.place) (Decides-ltb a.number b.number))

abbrev address : ℕ → ℕ → Address
address p n = record { place = p; number = n }

decides_same : (a b : Address) → Decides (same_address a b) (a ≡ b)
decides_same a b =
    Decides-like (same_address a b)
    (λ h. ap (λ p. address p a.number) h.0 ∙ ap (λ n. address b.place n) h.1)
    (λ e. (ap (λ x. x.place) e, ap (λ x. x.number) e))
    (Decides-and _ _ (Decides-eqb a.place b.place) (Decides-eqb a.number b.number))

abbrev Rises : List Instruction → Type 0
Rises is = (i : ℕ) (d : Instruction) → i + 1 < length is → Before (get_or is i d).address (get_or is (i + 1) d).address

rising_on : (x : Instruction) (xs : List Instruction) → Rises (x ∷ xs) → rising_from (Some x.address) xs ≡ true
rising_on x [] h = refl
rising_on x (y ∷ ys) h =
    and_from (before x.address y.address) _ ((decides_before x.address y.address).1 (h 0 x (omega arith)))
    (rising_on y ys (λ i d lt. simp add-one (simp add-one at (h (suc i) d (omega arith)))))

pub decides_rising : (is : List Instruction) → Decides (rising is) (Rises is)
decides_rising [] = (λ _ i d lt. absurd (omega arith), λ _. refl)
decides_rising (x ∷ xs) = (λ h i d lt. (decides_before _ _).0 (rises None (x ∷ xs) i (i + 1) d d h (omega arith) lt), rising_on x xs)

module _ (is : List Instruction) where
  decides_known : (a : Address) → Decides (known is a) (Stands is a)
  decides_known a =
      Decides-by_or (λ x. same_address x.address a) (λ x. x.address ≡ a) (λ xs. known xs a) (λ x. decides_same x.address a) refl (λ _ _. refl) is

  decides_entered : (e : Address) → Decides (entered is e) ((e.number ≡ 0) × Stands is e)
  decides_entered e = Decides-and _ _ (Decides-eqb e.number 0) (decides_known e)

  module _ (from : Address) where
    decides_reached : (t : Address) → Decides (reached is from (Some t)) (Reaches is from t)
    decides_reached t =
        Decides-and (known is t) _ (decides_known t)
        ((λ h far. grind (arith, nat_tests)), (λ h. grind (arith, nat_tests)))

    only_target : (t : Address) → Decides (reached is from (Some t) && true) (Reaches is from t)
    only_target t = Decides-like _ (λ h. h.0) (λ h. (h, refl)) (Decides-and (reached is from (Some t)) true (decides_reached t) (decides_itself true))

    no_target : Decides true (Unit {0})
    no_target = (λ _. tt, λ _. refl)

    decides_aims : (a : Action) → Decides (reached is from (next_of a) && reached is from (otherwise_of a)) (Aims is from a)
    decides_aims (Assign l r n) = only_target n
    decides_aims (Nondet g l n) = only_target n
    decides_aims (Undef l n) = only_target n
    decides_aims (Malloc l z n) = only_target n
    decides_aims (Free p n) = only_target n
    decides_aims (Jump t) = no_target
    decides_aims (Goto n) = only_target n
    decides_aims (Ite c t o) = Decides-and _ _ (decides_reached t) (decides_reached o)
    decides_aims (Assert c n) = only_target n
    decides_aims (Assume c n) = only_target n
    decides_aims Stop = no_target

ok_at : (i : ℕ) (r : Result (Unit {0}) Objection) → is_ok (at_instruction i r) ≡ is_ok r
ok_at i (Ok u) = refl
ok_at i (Err o) = refl

-- the instructions, one by one
module _ (ws : List ℕ) (ns : List Node) (is : List Instruction) where
  decides_one : (p : Option Address) (x : Instruction) → Decides (is_ok (judged_one ws ns is p x)) ((above p x.address ≡ true) × Typed ws ns x.action × Aims is x.address x.action)
  decides_one p x =
      Decides-like _
      (λ (up, (right, p, (left, q, (own, aim)))). (up, typed ws ns x.action (right, p, left, q, own), aim))
      (λ (up, t, aim). let (right, p, left, q, own) = found ws ns x.action t in (up, (right, p, (left, q, (own, aim)))))
      (passes_both _ _ (passes_where (above p x.address) tt _ (decides_itself _))
      (passes_with (right_width ws ns (right_of x.action)) _ _ (λ right.
      passes_with (left_width ws ns (left_of x.action)) _ _ (λ left.
      passes_both _ _ (passes_where (own_rules x.action right left) tt _ (decides_itself _))
      (passes_where _ tt _ (decides_aims is x.address x.action))))))

  decides_judged : (i : ℕ) (p : Option Address) (xs : List Instruction) → Decides (is_ok (judged ws ns is i p xs)) ((rising_from p xs ≡ true) × AllByRecursion (λ x. Typed ws ns x.action) xs × AllByRecursion (λ x. Aims is x.address x.action) xs)
  decides_judged i p [] = (λ _. (refl, tt, tt), λ _. refl)
  decides_judged i p (x ∷ xs) =
      Decides-like _
      (λ ((up, t, aim), (ups, ts, aims)). (and_from (above p x.address) _ up ups, (t, ts), (aim, aims)))
      (λ (u, (t, ts), (aim, aims)). let (up, ups) = and_parts (above p x.address) _ u in ((up, t, aim), (ups, ts, aims)))
      (passes_both (at_instruction (i + 1) (judged_one ws ns is p x)) (judged ws ns is (i + 1) (Some x.address) xs)
      (Decides-at _ _ (ok_at (i + 1) (judged_one ws ns is p x)) (decides_one p x))
      (decides_judged (i + 1) (Some x.address) xs))

decides_widths : (ws : List ℕ) → Decides (is_ok (widths_judged ws)) (All (λ w. (1 ≤ w) × (w ≤ widest)) ws)
decides_widths ws = (
  (λ h k d lt.
      let all : length ws ≤ position_or_len no_width ws = grind (arith, nat_tests) in
      let fits = fails_before_first no_width ws k d (omega arith) in
      (grind (arith, nat_tests), grind (arith, nat_tests))),
  (λ h.
      let all : position_or_len no_width ws ≡ length ws = position_or_len_is no_width ws (length ws) 0 (omega arith) (λ k below. grind (arith, nat_tests, h k 0 below)) (λ lt. absurd (omega arith)) in
      grind (arith, nat_tests)),
)

decides_sizes : (v n i : ℕ) → Decides (not (sizes_bad v n i)) ((1 ≤ i) × (i ≤ most_instructions) × (n ≤ most_nodes) × (v ≤ most_variables))
decides_sizes v n i =
    ((λ h. (grind (arith, nat_tests), grind (arith, nat_tests), grind (arith, nat_tests), grind (arith, nat_tests))), (λ h. grind (arith, nat_tests)))

pub exact : Exact
exact ws ns is e =
    Decides-like (passes ws ns is e)
    (λ ((some, few_instructions, few_nodes, few_variables), (widths, ((up, typed, aims), entry))).
    record {
      some = some;
      few_instructions = few_instructions;
      few_nodes = few_nodes;
      few_variables = few_variables;
      widths = widths;
      rises = (decides_rising is).0 up;
      typed = All-from_recursion _ is typed;
      aims = All-from_recursion _ is aims;
      entry = entry;
    })
    (λ h. ((h.some, h.few_instructions, h.few_nodes, h.few_variables), (h.widths, (((decides_rising is).1 h.rises, recursion_from_All _ is h.typed, recursion_from_All _ is h.aims), h.entry))))
    (passes_unless (sizes_bad (length ws) (length ns) (length is)) _ _ (decides_sizes (length ws) (length ns) (length is))
    (passes_both (widths_judged ws) _ (decides_widths ws)
    (passes_both (judged ws ns is 0 None is) _ (decides_judged ws ns is 0 None is)
    (passes_where (entered is e) _ _ (decides_entered is e)))))
