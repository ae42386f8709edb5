-- What holds along the walk: it is known which decisions are reached, and a set has an action exactly where one of its decisions is flagged.
use Rattle.std.proofs.Common.{ℕ, zero, suc, ◌<◌, ◌≤◌, ◌≡◌, ◌⊎◌, inl, inr, ◌↔◌, Bool, true, false, ◌&&◌, Option, Some, None, List, [], ◌∷◌, ◌++◌, length, get_or, set, replicate, refl, sym, ap, ◌∙◌, subst, arith}
use Rattle.std.specs.Prelude.{◌==◌, slice_get}
use Rattle.std.proofs.Math.ListN as lists
use Rattle.std.proofs.Math.Seq.{get_or-append_seam}
use Rattle.std.proofs.lemmas.Bool.{cases_eq, cases_lt, eqb-true, eq-eqb, and_parts}
use Rattle.std.proofs.lemmas.List.{get_or-set_same, get_or-set_other, length-replicate}
use Rattle.std.proofs.lemmas.Option.{slice_get_within, get_or_from_slice_get}
use Rattle.strategy_lists.specs.declared.decision.Decision.{Decision}
use Rattle.strategy_lists.specs.declared.decision.Edge.{Edge}
use Rattle.strategy_lists.specs.Reduced.{ComesFrom, AreLinked, IsLedTo, IsReachedWithin, IsReached, IsReducedBy}
use Rattle.strategy_lists.specs.Ends.{is_led_to}

-- ---- reached decisions that tell
-- the reached decisions of the first n decisions say where an edge leads on under these choices
abbrev pub AreTold : List Decision → List Bool → List ℕ → ℕ → Type 0
AreTold decisions reach choices n = (k : ℕ) (d : Decision) → k < n → slice_get decisions k ≡ Some d → get_or reach k false ≡ is_led_to reach choices d.before

-- two tests that pass
pass_both : (a b : Bool) → a ≡ true → b ≡ true → (a && b) ≡ true
pass_both a b h g = ap (λ v. v && b) h ∙ g

-- an edge leads on exactly where its decision is flagged and its action is chosen
led-exactly : (R : ℕ → Type 0) (decisions : List Decision) (reach : List Bool) (choices : List ℕ) (j : ℕ) (before : Option Edge) → ComesFrom decisions j before
    → ((k : ℕ) (d : Decision) → k < j → slice_get decisions k ≡ Some d → (get_or reach k false ≡ true) ↔ R k) → (is_led_to reach choices before ≡ true) ↔ IsLedTo R choices before
led-exactly R decisions reach choices j None c same = (λ h. tt, λ h. refl)
led-exactly R decisions reach choices j (Some edge) c same =
    let entry = same edge.decision c.1 c.0 c.2 in (
      λ h. let both = and_parts (get_or reach edge.decision false) (get_or choices edge.place 0 == suc edge.action) h in (entry.0 both.0, eqb-true (get_or choices edge.place 0) (suc edge.action) both.1),
      λ h. pass_both (get_or reach edge.decision false) (get_or choices edge.place 0 == suc edge.action) (entry.1 h.0) (eq-eqb (get_or choices edge.place 0) (suc edge.action) h.1),
    )

-- reached decisions that tell are set exactly where a decision is reached
pub told-reached : (decisions : List Decision) (actions : List ℕ) (reach : List Bool) (choices : List ℕ) (n m k : ℕ) (d : Decision) → AreLinked decisions actions → AreTold decisions reach choices n → k < n → k < m → slice_get decisions k ≡ Some d
    → (get_or reach k false ≡ true) ↔ IsReachedWithin decisions choices m k
told-reached decisions actions reach choices n zero k d w t l m e = absurd (omega arith)
told-reached decisions actions reach choices n (suc m) k d w t l b e =
    let led = led-exactly (IsReachedWithin decisions choices m) decisions reach choices k d.before (w.come_from k d e) (λ i earlier below at. told-reached decisions actions reach choices n m i earlier w t (omega arith) (omega arith) at) in
    let entry : get_or reach k false ≡ is_led_to reach choices d.before = t k d l e in (
      λ h. (d, e, led.0 (sym entry ∙ h)),
      λ h. let same : h.0 ≡ d = cc (h.1, e) in entry ∙ led.1 (subst (λ (v : Decision). IsLedTo (IsReachedWithin decisions choices m) choices v.before) same h.2),
    )

-- the next decision is reached where reached decisions that tell lead to it
pub led-reached : (decisions : List Decision) (actions : List ℕ) (reach : List Bool) (choices : List ℕ) (n : ℕ) (d : Decision) → AreLinked decisions actions → AreTold decisions reach choices n → slice_get decisions n ≡ Some d
    → is_led_to reach choices d.before ≡ true → IsReached decisions choices n
led-reached decisions actions reach choices n d w t at led =
    (d, at, (led-exactly (IsReachedWithin decisions choices n) decisions reach choices n d.before (w.come_from n d at) (λ k earlier below there. told-reached decisions actions reach choices n n k earlier w t below below there)).0 led)

-- ---- choices that go on from others
-- the second choices have each action of the first
abbrev pub Extends : List ℕ → List ℕ → Type 0
Extends choices other = (p : ℕ) → 0 < get_or choices p 0 → get_or other p 0 ≡ get_or choices p 0

-- the sets of flagged decisions among the first n have actions
abbrev HaveActions : List Decision → List Bool → List ℕ → ℕ → Type 0
HaveActions decisions reach choices n = (k : ℕ) (d : Decision) → k < n → slice_get decisions k ≡ Some d → get_or reach k false ≡ true → 0 < get_or choices d.place 0

-- a test that depends on a number only where the first test passes
same_where_passed : (b : Bool) (x y z : ℕ) → (b ≡ true → x ≡ y) → (b && (x == z)) ≡ (b && (y == z))
same_where_passed true x y z h = ap (λ v. v == z) (h refl)
same_where_passed false x y z h = refl

-- such choices lead on where the first do
pub led-extends : (decisions : List Decision) (reach : List Bool) (choices other : List ℕ) (n j : ℕ) (before : Option Edge) → ComesFrom decisions j before → j ≤ n → HaveActions decisions reach choices n → Extends choices other
    → is_led_to reach other before ≡ is_led_to reach choices before
led-extends decisions reach choices other n j None c l h x = refl
led-extends decisions reach choices other n j (Some edge) c l h x =
    same_where_passed (get_or reach edge.decision false) (get_or other edge.place 0) (get_or choices edge.place 0) (suc edge.action)
    (λ e. x edge.place (subst (λ p. 0 < get_or choices p 0) (sym c.3) (h edge.decision c.1 (omega (arith, c.0)) c.2 e)))

-- one more entry says nothing of an edge from an earlier decision
led-more : (decisions : List Decision) (reach : List Bool) (r : Bool) (choices : List ℕ) (j : ℕ) (before : Option Edge) → ComesFrom decisions j before → j ≤ length reach → is_led_to (reach ++ r ∷ []) choices before ≡ is_led_to reach choices before
led-more decisions reach r choices j None c l = refl
led-more decisions reach r choices j (Some edge) c l = ap (λ b. b && (get_or choices edge.place 0 == suc edge.action)) (lists.get_or-append reach (r ∷ []) false edge.decision (omega (arith, c.0)))

-- ---- the walk before a decision
-- a decision of this place among the first n is flagged
abbrev AgreesWithReach : List Decision → List Bool → ℕ → ℕ → Type 0
AgreesWithReach decisions reach n p = (k : ℕ) × (d : Decision) × (k < n) × (slice_get decisions k ≡ Some d) × (d.place ≡ p) × (get_or reach k false ≡ true)

-- reached decisions and choices of a walk before decision n
pub record IsOnWay (decisions : List Decision) (actions : List ℕ) (reach : List Bool) (choices : List ℕ) (n : ℕ) : Type 0 where
  pub one_for_each : length choices ≡ length actions
  pub entry_for_each : length reach ≡ n
  pub are_actions : (p : ℕ) → get_or choices p 0 ≤ get_or actions p 0
  pub told : AreTold decisions reach choices n
  pub have_actions : HaveActions decisions reach choices n
  pub fixed : (p : ℕ) → 0 < get_or choices p 0 → AgreesWithReach decisions reach n p

-- zeros
zeros-zero : (n p : ℕ) → ◌≡◌ {A = ℕ} (get_or (replicate n 0) p 0) 0
zeros-zero zero p = refl
zeros-zero (suc n) zero = refl
zeros-zero (suc n) (suc p) = zeros-zero n p

-- the walk begins with no action
pub IsOnWay-start : (decisions : List Decision) (actions : List ℕ) → IsOnWay decisions actions [] (replicate (length actions) 0) 0
IsOnWay-start decisions actions =
    record {
      one_for_each = length-replicate (length actions) 0;
      entry_for_each = refl;
      are_actions = λ p. omega (arith, zeros-zero (length actions) p);
      told = λ k d l e. absurd (omega arith);
      have_actions = λ k d l e h. absurd (omega arith);
      fixed = λ p h. absurd (omega (arith, zeros-zero (length actions) p));
    }

-- choices after a decision at this place
record GoesOn (actions choices other : List ℕ) (place : ℕ) (r : Bool) : Type 0 where
  long : length other ≡ length choices
  extends : Extends choices other
  are_actions : (p : ℕ) → get_or other p 0 ≤ get_or actions p 0
  has_action : r ≡ true → 0 < get_or other place 0
  no_more : (p : ℕ) → 0 < get_or other p 0 → (0 < get_or choices p 0) ⊎ ((place ≡ p) × (r ≡ true))

-- the last entry
pub last_entry : (reach : List Bool) (r : Bool) (k : ℕ) → length reach ≡ k → get_or (reach ++ r ∷ []) k false ≡ r
last_entry reach r k e = subst (λ v. get_or (reach ++ r ∷ []) v false ≡ r) e (get_or-append_seam reach r [] false)

-- a number below n + 1
pub below_or_last : (k n : ℕ) → k < suc n → (k < n) ⊎ (k ≡ n)
below_or_last k n l = elim (cases_lt k n) [ inl b ↦ inl b | inr b ↦ inr (omega arith) ]

-- the decision at a place is one
pub one_decision : (decisions : List Decision) (k n : ℕ) (d e : Decision) → k ≡ n → slice_get decisions n ≡ Some d → slice_get decisions k ≡ Some e → d ≡ e
one_decision decisions k n d e same at also = let there : slice_get decisions k ≡ slice_get decisions n = ap (slice_get decisions) same in cc

-- with one more entry and choices that go on, the first n + 1 decisions are told
told-edge : (decisions : List Decision) (actions : List ℕ) (reach : List Bool) (choices other : List ℕ) (n : ℕ) (d : Decision) (r : Bool) → AreLinked decisions actions → IsOnWay decisions actions reach choices n → slice_get decisions n ≡ Some d
    → r ≡ is_led_to reach choices d.before → Extends choices other → AreTold decisions (reach ++ r ∷ []) other (suc n)
told-edge decisions actions reach choices other n d r w o at led x k e l also =
    let here : k ≤ n = omega arith in
    let long : length reach ≡ n = o.entry_for_each in
    let from = w.come_from k e also in
    let same : is_led_to (reach ++ r ∷ []) other e.before ≡ is_led_to reach choices e.before = led-more decisions reach r other k e.before from (omega arith) ∙ led-extends decisions reach choices other n k e.before from here o.have_actions x in
    elim (below_or_last k n l) [
      | inl b ↦ lists.get_or-append reach (r ∷ []) false k (omega arith) ∙ o.told k e b also ∙ sym same
      | inr b ↦ last_entry reach r k (omega arith) ∙ led ∙ ap (λ (v : Decision). is_led_to reach choices v.before) (one_decision decisions k n d e b at also) ∙ sym same
    ]

-- and flagged decisions have actions
have_actions-edge : (decisions : List Decision) (actions : List ℕ) (reach : List Bool) (choices other : List ℕ) (n : ℕ) (d : Decision) (r : Bool) → IsOnWay decisions actions reach choices n → slice_get decisions n ≡ Some d
    → GoesOn actions choices other d.place r → HaveActions decisions (reach ++ r ∷ []) other (suc n)
have_actions-edge decisions actions reach choices other n d r o at g k e l also h =
    let long : length reach ≡ n = o.entry_for_each in
    elim (below_or_last k n l) [
      | inl b ↦
          let entry : get_or reach k false ≡ true = sym (lists.get_or-append reach (r ∷ []) false k (omega arith)) ∙ h in
          let positive : 0 < get_or choices e.place 0 = o.have_actions k e b also entry in
          omega (arith, g.extends e.place positive)
      | inr b ↦ subst (λ (v : Decision). 0 < get_or other v.place 0) (one_decision decisions k n d e b at also) (g.has_action (sym (last_entry reach r k (omega arith)) ∙ h))
    ]

-- and an action stands only where a decision is flagged
fixed-edge : (decisions : List Decision) (actions : List ℕ) (reach : List Bool) (choices other : List ℕ) (n : ℕ) (d : Decision) (r : Bool) → IsOnWay decisions actions reach choices n → slice_get decisions n ≡ Some d
    → GoesOn actions choices other d.place r → (p : ℕ) → 0 < get_or other p 0 → AgreesWithReach decisions (reach ++ r ∷ []) (suc n) p
fixed-edge decisions actions reach choices other n d r o at g p h =
    let long : length reach ≡ n = o.entry_for_each in
    elim (g.no_more p h) [
      | inl b ↦ let f = o.fixed p b in (f.0, f.1, omega (arith, f.2), f.3, f.4, lists.get_or-append reach (r ∷ []) false f.0 (omega (arith, f.2)) ∙ f.5)
      | inr b ↦ (n, d, omega arith, at, b.0, last_entry reach r n long ∙ b.1)
    ]

-- the walk after one more decision
IsOnWay-edge : (decisions : List Decision) (actions : List ℕ) (reach : List Bool) (choices other : List ℕ) (n : ℕ) (d : Decision) (r : Bool) → AreLinked decisions actions → IsOnWay decisions actions reach choices n → slice_get decisions n ≡ Some d
    → r ≡ is_led_to reach choices d.before → GoesOn actions choices other d.place r → IsOnWay decisions actions (reach ++ r ∷ []) other (suc n)
IsOnWay-edge decisions actions reach choices other n d r w o at led g =
    record {
      one_for_each = g.long ∙ o.one_for_each;
      entry_for_each = omega (arith, lists.length-append reach (r ∷ []), o.entry_for_each);
      are_actions = g.are_actions;
      told = told-edge decisions actions reach choices other n d r w o at led g.extends;
      have_actions = have_actions-edge decisions actions reach choices other n d r o at g;
      fixed = fixed-edge decisions actions reach choices other n d r o at g;
    }

-- a decision's place has a number of actions
pub place-within : (decisions : List Decision) (actions : List ℕ) (n : ℕ) (d : Decision) → AreLinked decisions actions → slice_get decisions n ≡ Some d → d.place < length actions
place-within decisions actions n d w e =
    subst (λ (v : Decision). v.place < length actions) (get_or_from_slice_get decisions n d d e) (w.places_within n d (slice_get_within decisions n d e))

-- an action for a set that has none
GoesOn-set : (actions choices : List ℕ) (place a : ℕ) → ((p : ℕ) → get_or choices p 0 ≤ get_or actions p 0) → place < length choices → get_or choices place 0 ≡ 0 → 0 < a → a ≤ get_or actions place 0 → GoesOn actions choices (set choices place a) place true
GoesOn-set actions choices place a are within none positive most =
    let here : get_or (set choices place a) place 0 ≡ a = get_or-set_same choices place a 0 within in
    record {
      long = lists.length-set choices place a;
      extends = λ p h. get_or-set_other choices place p a 0 (λ e. let zero_there : get_or choices p 0 ≡ 0 = ap (λ v. get_or choices v 0) e ∙ none in omega arith);
      are_actions = λ p. elim (cases_eq p place) [ inl e ↦ subst (λ v. get_or (set choices place a) v 0 ≤ get_or actions v 0) (sym e) (omega arith) | inr ne ↦ omega (arith, get_or-set_other choices place p a 0 ne, are p) ];
      has_action = λ h. omega arith;
      no_more = λ p h. elim (cases_eq p place) [ inl e ↦ inr (sym e, refl) | inr ne ↦ inl (omega (arith, get_or-set_other choices place p a 0 ne)) ];
    }

-- the walk takes an action at a decision
pub IsOnWay-branch : (decisions : List Decision) (actions : List ℕ) (reach : List Bool) (choices : List ℕ) (n : ℕ) (d : Decision) (a : ℕ) → AreLinked decisions actions → IsOnWay decisions actions reach choices n → slice_get decisions n ≡ Some d
    → is_led_to reach choices d.before ≡ true → get_or choices d.place 0 ≡ 0 → 0 < a → a ≤ get_or actions d.place 0 → IsOnWay decisions actions (reach ++ true ∷ []) (set choices d.place a) (suc n)
IsOnWay-branch decisions actions reach choices n d a w o at led none positive most =
    IsOnWay-edge decisions actions reach choices (set choices d.place a) n d true w o at (sym led) (GoesOn-set actions choices d.place a o.are_actions (omega (arith, place-within decisions actions n d w at, o.one_for_each)) none positive most)

-- the walk passes a decision
pub IsOnWay-pass : (decisions : List Decision) (actions : List ℕ) (reach : List Bool) (choices : List ℕ) (n : ℕ) (d : Decision) → AreLinked decisions actions → IsOnWay decisions actions reach choices n → slice_get decisions n ≡ Some d
    → (is_led_to reach choices d.before ≡ true → 0 < get_or choices d.place 0) → IsOnWay decisions actions (reach ++ is_led_to reach choices d.before ∷ []) choices (suc n)
IsOnWay-pass decisions actions reach choices n d w o at passed =
    IsOnWay-edge decisions actions reach choices choices n d (is_led_to reach choices d.before) w o at refl
    (record { long = refl; extends = λ p h. refl; are_actions = o.are_actions; has_action = passed; no_more = λ p h. inl h })

-- ---- the end of the walk
-- all decisions are among the first n
abbrev pub AreBelow : List Decision → ℕ → Type 0
AreBelow decisions n = (k : ℕ) (d : Decision) → slice_get decisions k ≡ Some d → k < n

-- the choices at the end have an action exactly where a decision of the set is reached
pub IsReducedBy-end : (decisions : List Decision) (actions : List ℕ) (reach : List Bool) (choices : List ℕ) (n : ℕ) → AreLinked decisions actions → IsOnWay decisions actions reach choices n → AreBelow decisions n → IsReducedBy decisions actions choices
IsReducedBy-end decisions actions reach choices n w o all =
    record {
      one_for_each = o.one_for_each;
      are_actions = λ p l. o.are_actions p;
      fixed_where_reached = λ p l. (
        λ h. let f = o.fixed p h in (f.0, f.1, f.3, f.4, (told-reached decisions actions reach choices n (suc f.0) f.0 f.1 w o.told f.2 (omega arith) f.3).0 f.5),
        λ h. subst (λ v. 0 < get_or choices v 0) h.3 (o.have_actions h.0 h.1 (all h.0 h.1 h.2) h.2 ((told-reached decisions actions reach choices n (suc h.0) h.0 h.1 w o.told (all h.0 h.1 h.2) (omega arith) h.2).1 h.4)),
      );
    }

-- reached decisions of choices tell those that a walk with these choices reaches
pub told-extends : (decisions : List Decision) (actions : List ℕ) (reach : List Bool) (choices other : List ℕ) (n : ℕ) → AreLinked decisions actions → IsOnWay decisions actions reach choices n → Extends choices other → AreTold decisions reach other n
told-extends decisions actions reach choices other n w o x k d l e = o.told k d l e ∙ sym (led-extends decisions reach choices other n k d.before (w.come_from k d e) (omega arith) o.have_actions x)
