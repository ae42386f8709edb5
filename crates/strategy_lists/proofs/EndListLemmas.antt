-- The ends of the walk are exactly the reduced strategies, each once.
use Rattle.std.proofs.Common.{ℕ, zero, suc, ◌+◌, ◌<◌, ◌≤◌, ◌≡◌, ◌≢◌, ◌⊎◌, inl, inr, Bool, true, false, ◌&&◌, Some, None, List, [], ◌∷◌, ◌++◌, length, get_or, set, replicate, All, Contains, refl, sym, ap, ◌∙◌, subst, arith}
use Rattle.std.specs.Prelude.{◌==◌, ◌-◌, slice_get, if◌then◌else◌}
use Rattle.std.specs.List.{AllPairs, flat_map, range_with_len}
use Rattle.std.proofs.Math.ListN as lists
use Rattle.std.proofs.lemmas.Bool.{cases_eq, cases_lt, eq-eqb}
use Rattle.std.proofs.lemmas.Bool.Decides.{eqb_tells}
use Rattle.std.proofs.lemmas.List.{ext_get_or, get_or-set_same, get_or-set_other, length-replicate}
use Rattle.std.proofs.lemmas.List.Elements.{All-nil, All-cons, All-append, Contains-append_left, Contains-append_right}
use Rattle.lists.proofs.ElementLemmas.{AllPairs-append}
use Rattle.strategy_lists.specs.declared.decision.Decision.{Decision}
use Rattle.strategy_lists.specs.Reduced.{AreLinked, IsReducedBy}
use Rattle.strategy_lists.specs.Ends.{is_led_to, ends}
use Rattle.strategy_lists.proofs.ReachedDecisionLemmas.{Extends, IsOnWay, IsOnWay-start, IsOnWay-branch, IsOnWay-pass, AreBelow, IsReducedBy-end, told-reached, told-extends, led-extends, led-reached, place-within}

-- ---- branches
-- what holds in each branch holds in all
All-branches : (P : List ℕ → Type 0) (each : ℕ → List (List ℕ)) (a n : ℕ) → ((b : ℕ) → a ≤ b → b < a + n → All P (each b)) → All P (flat_map each (range_with_len a n))
All-branches P each a zero h = All-nil P
All-branches P each a (suc n) h =
    All-append P (each a) (flat_map each (range_with_len (a + 1) n)) (h a (omega arith) (omega arith)) (All-branches P each (a + 1) n (λ b low high. h b (omega arith) (omega arith)))

-- a member of a branch is a member
Contains-branches : (each : ℕ → List (List ℕ)) (a n b : ℕ) (x : List ℕ) → a ≤ b → b < a + n → Contains (each b) x → Contains (flat_map each (range_with_len a n)) x
Contains-branches each a zero b x low high c = absurd (omega arith)
Contains-branches each a (suc n) b x low high c = elim (cases_eq b a) [
  | inl e ↦ Contains-append_left (each a) (flat_map each (range_with_len (a + 1) n)) x (subst (λ v. Contains (each v) x) e c)
  | inr ne ↦ Contains-append_right (each a) (flat_map each (range_with_len (a + 1) n)) x (Contains-branches each (a + 1) n b x (omega arith) (omega arith) c)
]

-- two lists differ
abbrev pub Differ : List ℕ → List ℕ → Type 0
Differ x y = x ≢ y

-- branches whose members a number tells apart
AllPairs-branches : (tag : List ℕ → ℕ) (each : ℕ → List (List ℕ)) (a n : ℕ) → ((b : ℕ) → a ≤ b → b < a + n → AllPairs Differ (each b)) → ((b : ℕ) → a ≤ b → b < a + n → All (λ x. tag x ≡ b) (each b)) → AllPairs Differ (flat_map each (range_with_len a n))
AllPairs-branches tag each a zero p t = λ i j d l m. absurd (omega arith)
AllPairs-branches tag each a (suc n) p t =
    let after : All (λ y. a < tag y) (flat_map each (range_with_len (a + 1) n)) = All-branches (λ y. a < tag y) each (a + 1) n (λ b low high k d l. omega (arith, t b (omega arith) (omega arith) k d l)) in
    AllPairs-append Differ (each a) (flat_map each (range_with_len (a + 1) n)) (p a (omega arith) (omega arith))
    (AllPairs-branches tag each (a + 1) n (λ b low high. p b (omega arith) (omega arith)) (λ b low high. t b (omega arith) (omega arith)))
    (λ k d l i e m same. omega (arith, t a (omega arith) (omega arith) k d l, after i e m, ap tag same))

-- ---- a decision
-- the walk branches at a decision: it is reached, and its set has no action
abbrev pub Branches : List Bool → List ℕ → Decision → Type 0
Branches reach choices d = (is_led_to reach choices d.before ≡ true) × (get_or choices d.place 0 ≡ 0)

-- or it passes
abbrev pub Passes : List Bool → List ℕ → Decision → Type 0
Passes reach choices d = is_led_to reach choices d.before ≡ true → 0 < get_or choices d.place 0

-- one of both, by the test and the choice
test_cases : (b : Bool) (c : ℕ) → ((b ≡ true) × (c ≡ 0)) ⊎ (b ≡ true → 0 < c)
test_cases true zero = inl (refl, refl)
test_cases true (suc c) = inr (λ h. omega arith)
test_cases false c = inr (λ h. cc)

-- the walk branches or passes
pub branches_or_passes : (reach : List Bool) (choices : List ℕ) (d : Decision) → Branches reach choices d ⊎ Passes reach choices d
branches_or_passes reach choices d = test_cases (is_led_to reach choices d.before) (get_or choices d.place 0)

-- the test where it branches
test_true : (b : Bool) (c : ℕ) → b ≡ true → c ≡ 0 → (b && (c == 0)) ≡ true
test_true b c e z = ap (λ v. v && (c == 0)) e ∙ eq-eqb c 0 z

-- the test where it passes
test_false : (b : Bool) (c : ℕ) → (b ≡ true → 0 < c) → (b && (c == 0)) ≡ false
test_false false c h = refl
test_false true zero h = absurd (omega (arith, h refl))
test_false true (suc c) h = elim (eqb_tells (suc c) 0) [ inl p ↦ absurd (omega (arith, p.1)) | inr q ↦ q.0 ]

-- the end
pub ends-nil : (actions : List ℕ) (reach : List Bool) (choices : List ℕ) → ends actions [] reach choices ≡ choices ∷ []
unfolding ends
ends-nil actions reach choices = refl

-- the ends with an action at the first decision
abbrev pub ends_with : List ℕ → Decision → List Decision → List Bool → List ℕ → ℕ → List (List ℕ)
ends_with actions d ds reach choices a = ends actions ds (reach ++ true ∷ []) (set choices d.place a)

-- the ends where the walk branches
pub ends-branch : (actions : List ℕ) (d : Decision) (ds : List Decision) (reach : List Bool) (choices : List ℕ) → Branches reach choices d → ends actions (d ∷ ds) reach choices ≡ flat_map (ends_with actions d ds reach choices) (range_with_len 1 (get_or actions d.place 0))
unfolding ends
ends-branch actions d ds reach choices b =
    ap (λ t. if t then flat_map (ends_with actions d ds reach choices) (range_with_len 1 (get_or actions d.place 0)) else ends actions ds (reach ++ is_led_to reach choices d.before ∷ []) choices) (test_true (is_led_to reach choices d.before) (get_or choices d.place 0) b.0 b.1)

-- the ends where it passes
pub ends-pass : (actions : List ℕ) (d : Decision) (ds : List Decision) (reach : List Bool) (choices : List ℕ) → Passes reach choices d → ends actions (d ∷ ds) reach choices ≡ ends actions ds (reach ++ is_led_to reach choices d.before ∷ []) choices
unfolding ends
ends-pass actions d ds reach choices p =
    ap (λ t. if t then flat_map (ends_with actions d ds reach choices) (range_with_len 1 (get_or actions d.place 0)) else ends actions ds (reach ++ is_led_to reach choices d.before ∷ []) choices) (test_false (is_led_to reach choices d.before) (get_or choices d.place 0) p)

-- ---- the decisions that are left
-- the decisions from number n on
abbrev pub AreRest : List Decision → ℕ → List Decision → Type 0
AreRest decisions n ds = (k : ℕ) → slice_get ds k ≡ slice_get decisions (n + k)

-- the first of them
pub AreRest-first : (decisions : List Decision) (n : ℕ) (d : Decision) (ds : List Decision) → AreRest decisions n (d ∷ ds) → slice_get decisions n ≡ Some d
AreRest-first decisions n d ds r = let e : n ≡ n + 0 = omega arith in ap (slice_get decisions) e ∙ sym (r 0)

-- those after it
pub AreRest-later : (decisions : List Decision) (n : ℕ) (d : Decision) (ds : List Decision) → AreRest decisions n (d ∷ ds) → AreRest decisions (suc n) ds
AreRest-later decisions n d ds r k = let e : n + suc k ≡ suc n + k = omega arith in r (suc k) ∙ ap (slice_get decisions) e

-- where none is left, all are before
AreRest-none : (decisions : List Decision) (n : ℕ) → AreRest decisions n [] → AreBelow decisions n
AreRest-none decisions n r k d at = elim (cases_lt k n) [
  | inl l ↦ l
  | inr l ↦ let e : n + (k - n) ≡ k = omega arith in let none : None ≡ slice_get decisions k = r (k - n) ∙ ap (slice_get decisions) e in cc
]

-- all are left at the start
pub AreRest-all : (decisions : List Decision) → AreRest decisions 0 decisions
AreRest-all decisions k = let e : k ≡ 0 + k = omega arith in ap (slice_get decisions) e

-- ---- each end is a reduced strategy
ends-sound : (decisions : List Decision) (actions : List ℕ) (ds : List Decision) (reach : List Bool) (choices : List ℕ) (n : ℕ) → AreLinked decisions actions → AreRest decisions n ds → IsOnWay decisions actions reach choices n
    → All (IsReducedBy decisions actions) (ends actions ds reach choices)
ends-sound decisions actions [] reach choices n w r o =
    subst (All (IsReducedBy decisions actions)) (sym (ends-nil actions reach choices))
    (All-cons (IsReducedBy decisions actions) choices [] (IsReducedBy-end decisions actions reach choices n w o (AreRest-none decisions n r)) (All-nil (IsReducedBy decisions actions)))
ends-sound decisions actions (d ∷ ds) reach choices n w r o =
    let at = AreRest-first decisions n d ds r in
    let rest = AreRest-later decisions n d ds r in
    elim (branches_or_passes reach choices d) [
      | inl b ↦ subst (All (IsReducedBy decisions actions)) (sym (ends-branch actions d ds reach choices b))
          (All-branches (IsReducedBy decisions actions) (ends_with actions d ds reach choices) 1 (get_or actions d.place 0)
          (λ a low high. ends-sound decisions actions ds (reach ++ true ∷ []) (set choices d.place a) (suc n) w rest (IsOnWay-branch decisions actions reach choices n d a w o at b.0 b.1 (omega arith) (omega arith))))
      | inr p ↦ subst (All (IsReducedBy decisions actions)) (sym (ends-pass actions d ds reach choices p))
          (ends-sound decisions actions ds (reach ++ is_led_to reach choices d.before ∷ []) choices (suc n) w rest (IsOnWay-pass decisions actions reach choices n d w o at p))
    ]

-- ---- each reduced strategy is an end
-- choices that go on from those at the end are these
extended_end : (decisions : List Decision) (actions : List ℕ) (reach : List Bool) (choices other : List ℕ) (n : ℕ) → AreLinked decisions actions → AreBelow decisions n → IsOnWay decisions actions reach choices n → IsReducedBy decisions actions other → Extends choices other
    → (p : ℕ) → p < length actions → get_or choices p 0 ≡ get_or other p 0
extended_end decisions actions reach choices other n w all o is x p l = elim (cases_lt 0 (get_or choices p 0)) [
  | inl h ↦ sym (x p h)
  | inr z ↦ elim (cases_lt 0 (get_or other p 0)) [
    | inr also ↦ omega arith
    | inl h ↦
        let reached = (is.fixed_where_reached p l).0 h in
        let below = all reached.0 reached.1 reached.2 in
        let entry = (told-reached decisions actions reach other n (suc reached.0) reached.0 reached.1 w (told-extends decisions actions reach choices other n w o x) below (omega arith) reached.2).1 reached.4 in
        let positive : 0 < get_or choices p 0 = subst (λ v. 0 < get_or choices v 0) reached.3 (o.have_actions reached.0 reached.1 below reached.2 entry) in
        absurd (omega arith)
  ]
]

-- choices with an action that go on from others go on from those with this action
Extends-set : (choices other : List ℕ) (place : ℕ) → Extends choices other → place < length choices → Extends (set choices place (get_or other place 0)) other
Extends-set choices other place x l p h = elim (cases_eq p place) [
  | inl e ↦ subst (λ v. get_or other v 0 ≡ get_or (set choices place (get_or other place 0)) v 0) (sym e) (sym (get_or-set_same choices place (get_or other place 0) 0 l))
  | inr ne ↦ let other_place = get_or-set_other choices place p (get_or other place 0) 0 ne in x p (subst (λ v. 0 < v) other_place h) ∙ sym other_place
]

-- a reduced strategy that goes on from the choices has an action where the walk branches
branch-action : (decisions : List Decision) (actions : List ℕ) (reach : List Bool) (choices other : List ℕ) (n : ℕ) (d : Decision) → AreLinked decisions actions → IsOnWay decisions actions reach choices n → slice_get decisions n ≡ Some d
    → is_led_to reach choices d.before ≡ true → IsReducedBy decisions actions other → Extends choices other → 0 < get_or other d.place 0
branch-action decisions actions reach choices other n d w o at led is x =
    let also : is_led_to reach other d.before ≡ true = led-extends decisions reach choices other n n d.before (w.come_from n d at) (omega arith) o.have_actions x ∙ led in
    let reached = led-reached decisions actions reach other n d w (told-extends decisions actions reach choices other n w o x) at also in
    (is.fixed_where_reached d.place (place-within decisions actions n d w at)).1 (n, d, at, refl, reached)

-- each reduced strategy that goes on from the choices is an end
ends-complete : (decisions : List Decision) (actions : List ℕ) (ds : List Decision) (reach : List Bool) (choices other : List ℕ) (n : ℕ) → AreLinked decisions actions → AreRest decisions n ds → IsOnWay decisions actions reach choices n → IsReducedBy decisions actions other → Extends choices other
    → Contains (ends actions ds reach choices) other
ends-complete decisions actions [] reach choices other n w r o is x =
    let same : choices ≡ other = ext_get_or 0 choices other (o.one_for_each ∙ sym is.one_for_each) (λ p l. extended_end decisions actions reach choices other n w (AreRest-none decisions n r) o is x p (omega (arith, o.one_for_each))) in
    subst (λ v. Contains v other) (sym (ends-nil actions reach choices)) (0, omega arith, same)
ends-complete decisions actions (d ∷ ds) reach choices other n w r o is x =
    let at = AreRest-first decisions n d ds r in
    let rest = AreRest-later decisions n d ds r in
    let within : d.place < length actions = place-within decisions actions n d w at in
    let most : get_or other d.place 0 ≤ get_or actions d.place 0 = is.are_actions d.place within in
    elim (branches_or_passes reach choices d) [
      | inl b ↦
          let positive : 0 < get_or other d.place 0 = branch-action decisions actions reach choices other n d w o at b.0 is x in
          subst (λ v. Contains v other) (sym (ends-branch actions d ds reach choices b))
          (Contains-branches (ends_with actions d ds reach choices) 1 (get_or actions d.place 0) (get_or other d.place 0) other (omega arith) (omega arith)
          (ends-complete decisions actions ds (reach ++ true ∷ []) (set choices d.place (get_or other d.place 0)) other (suc n) w rest (IsOnWay-branch decisions actions reach choices n d (get_or other d.place 0) w o at b.0 b.1 positive most) is
          (Extends-set choices other d.place x (omega (arith, o.one_for_each)))))
      | inr p ↦ subst (λ v. Contains v other) (sym (ends-pass actions d ds reach choices p))
          (ends-complete decisions actions ds (reach ++ is_led_to reach choices d.before ∷ []) choices other (suc n) w rest (IsOnWay-pass decisions actions reach choices n d w o at p) is x)
    ]

-- ---- no end stands twice
-- what goes on from choices with an action goes on from those without it
Extends-unset : (choices other : List ℕ) (place a : ℕ) → get_or choices place 0 ≡ 0 → Extends (set choices place a) other → Extends choices other
Extends-unset choices other place a none x p h =
    let ne : p ≢ place = λ e. let there : get_or choices p 0 ≡ 0 = ap (λ v. get_or choices v 0) e ∙ none in omega arith in
    let same = get_or-set_other choices place p a 0 ne in
    x p (subst (λ v. 0 < v) (sym same) h) ∙ same

-- each end goes on from the choices
ends-extend : (actions : List ℕ) (ds : List Decision) (reach : List Bool) (choices : List ℕ) → All (Extends choices) (ends actions ds reach choices)
ends-extend actions [] reach choices = subst (All (Extends choices)) (sym (ends-nil actions reach choices)) (All-cons (Extends choices) choices [] (λ p h. refl) (All-nil (Extends choices)))
ends-extend actions (d ∷ ds) reach choices = elim (branches_or_passes reach choices d) [
  | inl b ↦ subst (All (Extends choices)) (sym (ends-branch actions d ds reach choices b))
      (All-branches (Extends choices) (ends_with actions d ds reach choices) 1 (get_or actions d.place 0)
      (λ a low high k e l. Extends-unset choices (get_or (ends_with actions d ds reach choices a) k e) d.place a b.1 (ends-extend actions ds (reach ++ true ∷ []) (set choices d.place a) k e l)))
  | inr p ↦ subst (All (Extends choices)) (sym (ends-pass actions d ds reach choices p)) (ends-extend actions ds (reach ++ is_led_to reach choices d.before ∷ []) choices)
]

-- each end with an action has it
ends_with-action : (actions : List ℕ) (d : Decision) (ds : List Decision) (reach : List Bool) (choices : List ℕ) (a : ℕ) → d.place < length choices → 0 < a → All (λ x. get_or x d.place 0 ≡ a) (ends_with actions d ds reach choices a)
ends_with-action actions d ds reach choices a l positive k e m =
    let here : get_or (set choices d.place a) d.place 0 ≡ a = get_or-set_same choices d.place a 0 l in
    ends-extend actions ds (reach ++ true ∷ []) (set choices d.place a) k e m d.place (omega arith) ∙ here

-- no end stands twice
ends-differ : (actions : List ℕ) (ds : List Decision) (reach : List Bool) (choices : List ℕ) (n : ℕ) → length choices ≡ n → All (λ d. d.place < n) ds → AllPairs Differ (ends actions ds reach choices)
ends-differ actions [] reach choices n long within = subst (AllPairs Differ) (sym (ends-nil actions reach choices)) (λ i j d l m. absurd (omega arith))
ends-differ actions (d ∷ ds) reach choices n long within =
    let here : d.place < n = within 0 d (omega arith) in
    let rest : All (λ d. d.place < n) ds = λ k e l. within (suc k) e (omega arith) in
    elim (branches_or_passes reach choices d) [
      | inl b ↦ subst (AllPairs Differ) (sym (ends-branch actions d ds reach choices b))
          (AllPairs-branches (λ x. get_or x d.place 0) (ends_with actions d ds reach choices) 1 (get_or actions d.place 0)
          (λ a low high. ends-differ actions ds (reach ++ true ∷ []) (set choices d.place a) n (lists.length-set choices d.place a ∙ long) rest)
          (λ a low high. ends_with-action actions d ds reach choices a (omega arith) (omega arith)))
      | inr p ↦ subst (AllPairs Differ) (sym (ends-pass actions d ds reach choices p)) (ends-differ actions ds (reach ++ is_led_to reach choices d.before ∷ []) choices n long rest)
    ]

-- ---- the whole walk
-- all ends
abbrev pub all_ends : List Decision → List ℕ → List (List ℕ)
all_ends decisions actions = ends actions decisions [] (replicate (length actions) 0)

-- each is a reduced strategy
pub all_ends-sound : (decisions : List Decision) (actions : List ℕ) → AreLinked decisions actions → All (IsReducedBy decisions actions) (all_ends decisions actions)
all_ends-sound decisions actions w = ends-sound decisions actions decisions [] (replicate (length actions) 0) 0 w (AreRest-all decisions) (IsOnWay-start decisions actions)

-- each reduced strategy is one
pub all_ends-complete : (decisions : List Decision) (actions : List ℕ) (choices : List ℕ) → AreLinked decisions actions → IsReducedBy decisions actions choices → Contains (all_ends decisions actions) choices
all_ends-complete decisions actions choices w is =
    ends-complete decisions actions decisions [] (replicate (length actions) 0) choices 0 w (AreRest-all decisions) (IsOnWay-start decisions actions) is (λ p h. absurd (omega (arith, (IsOnWay-start decisions actions).fixed p h)))

-- none stands twice
pub all_ends-differ : (decisions : List Decision) (actions : List ℕ) → AreLinked decisions actions → AllPairs Differ (all_ends decisions actions)
all_ends-differ decisions actions w = ends-differ actions decisions [] (replicate (length actions) 0) (length actions) (length-replicate (length actions) 0) w.places_within
