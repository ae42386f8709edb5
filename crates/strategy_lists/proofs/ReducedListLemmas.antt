-- The walks over a player's decisions are the player's reduced strategies.
use Rattle.std.proofs.Common.{ℕ, zero, suc, ◌<◌, ◌≤◌, ◌≡◌, ◌≢◌, ◌↔◌, inl, inr, Option, Some, None, List, [], ◌∷◌, length, map, get_or, slice_get, refl, sym, ap, subst, ◌∙◌, arith}
use Rattle.std.proofs.lemmas.Bool.{cases_lt}
use Rattle.std.proofs.lemmas.List.{length-map, get_or-map}
use Rattle.std.proofs.lemmas.List.Elements.{All-weaker}
use Rattle.std.proofs.lemmas.Option.{none-some, same_Some, slice_get_within, slice_get-get_or, get_or_from_slice_get}
use Rattle.game_theory.specs.OwnSets.{own_sets, own_counts, numbers_with}
use Rattle.game_theory.proofs.OwnSetLemmas.{own_sets-tell}
use Rattle.lists.proofs.ElementLemmas.{element, all_at}
use Rattle.game_theory.specs.Trees.{Tree}
use Rattle.game_theory.specs.Recall.{own_history}
use Rattle.reduced_strategies.specs.Choices.{choice_at, Agrees, IsReachedUnder as is_set_reached, IsReduced, AreReducedStrategies}
use Rattle.reduced_strategies.proofs.SetLemmas.{choice_at-among, choice_at-first, choice_at-later}
use Rattle.reduced_strategies.proofs.AgreementLemmas.{Agrees-append}
use Rattle.strategy_lists.specs.declared.decision.Decision.{Decision}
use Rattle.strategy_lists.specs.declared.decision.Edge.{Edge}
use Rattle.strategy_lists.specs.Reduced.{ComesFrom, IsLedTo, IsReachedWithin, IsPlaceReached, IsReducedBy, AreReducedBy}
use Rattle.strategy_lists.specs.Decisions.{history_by, IsDecisionAt, AreDecisions}
use Rattle.game_theory.proofs.IndexLemmas.{numbers_with-at, numbers_with-tell, numbers_with-place}

-- ---- lists
-- a value of the element at a place
pub value_at : {X : Type 0} (f : X → ℕ) (xs : List X) (k : ℕ) (x : X) → slice_get xs k ≡ Some x → get_or (map f xs) k 0 ≡ f x
value_at f xs k x h = get_or-map f xs k x 0 (slice_get_within xs k x h) ∙ ap f (get_or_from_slice_get xs k x x h)

-- a choice list gives a set that stands at one place the choice there
choice_at-place : (sets choices : List ℕ) (place s : ℕ) → ((j l : ℕ) → slice_get sets j ≡ Some s → slice_get sets l ≡ Some s → j ≡ l) → slice_get sets place ≡ Some s → choice_at sets choices s ≡ get_or choices place 0
choice_at-place [] choices place s once h = absurd (none-some s h)
choice_at-place (set ∷ sets) [] place s once h = refl
choice_at-place (set ∷ sets) (choice ∷ choices) zero s once h = choice_at-first set choice s sets choices (same_Some set s h)
choice_at-place (set ∷ sets) (choice ∷ choices) (suc place) s once h =
    let other : set ≢ s = λ same. let e = once 0 (suc place) (ap Some same) h in absurd (omega arith) in
    choice_at-later set choice s sets choices other ∙ choice_at-place sets choices place s (λ j l a b. let e = once (suc j) (suc l) a b in omega arith) h

-- ---- own sets by their places
-- an own set stands at a place
own_set-at : (t : Tree) (i s : ℕ) → s < t.sets → t.owner s ≡ Some i → (place : ℕ) × (slice_get (own_sets t i) place ≡ Some s)
own_set-at t i s below own = (length (numbers_with t.owner i s), numbers_with-at t.owner i s t.sets below own)

-- what stands at a place is an own set
pub own_set-tell : (t : Tree) (i place s : ℕ) → slice_get (own_sets t i) place ≡ Some s → (s < t.sets) × (t.owner s ≡ Some i)
own_set-tell t i place s h = let r = numbers_with-tell t.owner i t.sets place s h in (r.0, r.1)

-- an own set stands at one place
pub own_set-place : (t : Tree) (i s j l : ℕ) → slice_get (own_sets t i) j ≡ Some s → slice_get (own_sets t i) l ≡ Some s → j ≡ l
own_set-place t i s j l h g = numbers_with-place t.owner i t.sets j l s h g

-- a choice list gives the own set at a place the choice there
choice-at_set : (t : Tree) (i : ℕ) (choices : List ℕ) (place s : ℕ) → slice_get (own_sets t i) place ≡ Some s → choice_at (own_sets t i) choices s ≡ get_or choices place 0
choice-at_set t i choices place s h = choice_at-place (own_sets t i) choices place s (own_set-place t i s) h

-- the number of actions at a place is that of the set there
actions-at_set : (t : Tree) (i place s : ℕ) → slice_get (own_sets t i) place ≡ Some s → get_or (own_counts t i) place 0 ≡ t.actions s
actions-at_set t i place s h = value_at t.actions (own_sets t i) place s h

-- ---- decisions that are reached
module _ (t : Tree) (i : ℕ) (decisions : List Decision) (are : AreDecisions t i decisions) where
  -- the node of a decision
  node_of : (j : ℕ) (d : Decision) → slice_get decisions j ≡ Some d → (k : ℕ) × (slice_get are.nodes j ≡ Some k) × IsDecisionAt t i are.nodes d k
  node_of j d h =
      let within = slice_get_within decisions j d h in
      let k = element are.nodes j (omega (arith, are.one_for_each)) in
      (k.0, k.1, are.are_decisions j k.0 d h k.1)

  -- the decision at a node
  decision_of : (j k : ℕ) → slice_get are.nodes j ≡ Some k → (d : Decision) × (slice_get decisions j ≡ Some d) × IsDecisionAt t i are.nodes d k
  decision_of j k h =
      let within = slice_get_within are.nodes j k h in
      let d = element decisions j (omega (arith, are.one_for_each)) in
      (d.0, d.1, are.are_decisions j k d.0 d.1 h)

  module _ (choices : List ℕ) where
    -- the choices as the sets see them
    abbrev chosen : ℕ → ℕ
    chosen = choice_at (own_sets t i) choices

    -- a decision is reached exactly where the choices agree with the history of its node
    abbrev IsReachedByHistory : ℕ → ℕ → Type 0
    IsReachedByHistory n j = (k : ℕ) → slice_get are.nodes j ≡ Some k → IsReachedWithin decisions choices n j ↔ Agrees chosen (own_history t i k)

    -- an edge is taken exactly where the choices agree with the history that it makes
    edge_taken : (n j : ℕ) (before : Option Edge) → j < suc n → j < length are.nodes → ComesFrom decisions j before → ((l : ℕ) → l < n → IsReachedByHistory n l) → IsLedTo (IsReachedWithin decisions choices n) choices before ↔ Agrees chosen (history_by t i are.nodes before)
    edge_taken n j None below inside comes earlier = (λ h. tt, λ h. tt)
    edge_taken n j (Some edge) below inside comes earlier =
        let less : edge.decision < j = comes.0 in
        let k = get_or are.nodes edge.decision 0 in
        let at_k : slice_get are.nodes edge.decision ≡ Some k = slice_get-get_or are.nodes edge.decision 0 (omega arith) in
        let within = all_at (λ d. d.place < length (own_counts t i)) decisions edge.decision comes.1 are.linked.places_within comes.2 in
        let place_inside : edge.place < length (own_sets t i) = omega (arith, comes.3, length-map (own_sets t i) t.actions) in
        let s = get_or (own_sets t i) edge.place 0 in
        let choice : chosen s ≡ get_or choices edge.place 0 = choice-at_set t i choices edge.place s (slice_get-get_or (own_sets t i) edge.place 0 place_inside) in
        let reached = earlier edge.decision (omega arith) k at_k in
        let parts = Agrees-append chosen (own_history t i k) ((s, edge.action) ∷ []) in
        (λ h. parts.1 (reached.0 h.0, (choice ∙ h.1, tt)), λ h. let both = parts.0 h in (reached.1 both.0, sym choice ∙ both.1.0))

    -- the same for each decision, where as many decisions as come before it are looked at
    reached_by_history : (n j : ℕ) → j < n → IsReachedByHistory n j
    reached_by_history zero j below k at_k = absurd (omega arith)
    reached_by_history (suc n) j below k at_k =
        let d = decision_of j k at_k in
        let edge = edge_taken n j d.0.before below (slice_get_within are.nodes j k at_k) (are.linked.come_from j d.0 d.1) (reached_by_history n) in
        (λ h. let same : h.0 ≡ d.0 = same_Some h.0 d.0 (sym h.1 ∙ d.1) in subst (Agrees chosen) (sym d.2.history_is) (edge.0 (subst (λ x. IsLedTo (IsReachedWithin decisions choices n) choices x.before) same h.2)), λ h. (d.0, d.1, edge.1 (subst (Agrees chosen) d.2.history_is h)))

    -- the set at a place is reached exactly where a decision of the place is
    place_reached : (place s : ℕ) → slice_get (own_sets t i) place ≡ Some s → IsPlaceReached decisions choices place ↔ is_set_reached t i chosen s
    place_reached place s at_place = (forth, back)
      where
        forth : IsPlaceReached decisions choices place → is_set_reached t i chosen s
        forth h =
            let node = node_of h.0 h.1 h.2 in
            let same : node.2.set ≡ s = same_Some node.2.set s (sym node.2.place_is ∙ ap (slice_get (own_sets t i)) h.3 ∙ at_place) in
            (node.0, node.2.within, node.2.at_set ∙ ap Some same, (reached_by_history (suc h.0) h.0 (omega arith) node.0 node.1).0 h.4)

        back : is_set_reached t i chosen s → IsPlaceReached decisions choices place
        back h =
            let own = own_set-tell t i place s at_place in
            let found = are.all h.0 s h.1 h.2 own.1 in
            let node = node_of found.number found.decision found.stands_at in
            let same : found.is_at_node.set ≡ s = same_Some found.is_at_node.set s (sym found.is_at_node.at_set ∙ h.2) in
            let place_is : found.decision.place ≡ place = own_set-place t i s found.decision.place place (found.is_at_node.place_is ∙ ap Some same) at_place in
            let history : own_history t i h.0 ≡ own_history t i node.0 = found.is_at_node.history_is ∙ sym node.2.history_is in
            (found.number, found.decision, found.stands_at, place_is, (reached_by_history (suc found.number) found.number (omega arith) node.0 node.1).1 (subst (Agrees chosen) history h.3))

    -- a walk is a reduced strategy
    reduced_by-reduced : IsReducedBy decisions (own_counts t i) choices → IsReduced t i choices
    reduced_by-reduced w = record {
      one_for_each = w.one_for_each ∙ length-map (own_sets t i) t.actions;
      are_actions = are_actions;
      fixed_where_reached = fixed;
    }
      where
        -- the place of an own set is one of the walk's
        inside : (place s : ℕ) → slice_get (own_sets t i) place ≡ Some s → place < length (own_counts t i)
        inside place s at_place = rw length-map (slice_get_within (own_sets t i) place s at_place)

        at_own : (place s : ℕ) → slice_get (own_sets t i) place ≡ Some s → chosen s ≤ t.actions s
        at_own place s at_place =
            let choice : chosen s ≡ get_or choices place 0 = choice-at_set t i choices place s at_place in
            let count : get_or (own_counts t i) place 0 ≡ t.actions s = actions-at_set t i place s at_place in
            let within : get_or choices place 0 ≤ get_or (own_counts t i) place 0 = w.are_actions place (inside place s at_place) in
            omega arith

        are_actions : (s : ℕ) → chosen s ≤ t.actions s
        are_actions s = elim (cases_lt 0 (chosen s)) [
          | inl given ↦ (
              let own = own_sets-tell t i s (choice_at-among (own_sets t i) choices s given) in
              let place = own_set-at t i s own.0 own.1 in
              at_own place.0 s place.1)
          | inr none ↦ omega arith
        ]

        fixed : (s : ℕ) → s < t.sets → t.owner s ≡ Some i → (0 < chosen s) ↔ is_set_reached t i chosen s
        fixed s below own =
            let place = own_set-at t i s below own in
            let choice : chosen s ≡ get_or choices place.0 0 = choice-at_set t i choices place.0 s place.1 in
            let here = w.fixed_where_reached place.0 (inside place.0 s place.1) in
            let reached = place_reached place.0 s place.1 in
            (λ h. reached.0 (here.0 (omega arith)), λ h. let given : 0 < get_or choices place.0 0 = here.1 (reached.1 h) in omega arith)

    -- a reduced strategy is a walk
    reduced-reduced_by : IsReduced t i choices → IsReducedBy decisions (own_counts t i) choices
    reduced-reduced_by r = record {
      one_for_each = r.one_for_each ∙ sym (length-map (own_sets t i) t.actions);
      are_actions = are_actions;
      fixed_where_reached = fixed;
    }
      where
        -- the set at a place
        set_at : (place : ℕ) → place < length (own_counts t i) → (s : ℕ) × (slice_get (own_sets t i) place ≡ Some s)
        set_at place inside = element (own_sets t i) place (rw length-map at inside)

        are_actions : (place : ℕ) → place < length (own_counts t i) → get_or choices place 0 ≤ get_or (own_counts t i) place 0
        are_actions place inside =
            let s = set_at place inside in
            let choice : chosen s.0 ≡ get_or choices place 0 = choice-at_set t i choices place s.0 s.1 in
            let count : get_or (own_counts t i) place 0 ≡ t.actions s.0 = actions-at_set t i place s.0 s.1 in
            let within : chosen s.0 ≤ t.actions s.0 = r.are_actions s.0 in
            omega arith

        fixed : (place : ℕ) → place < length (own_counts t i) → (0 < get_or choices place 0) ↔ IsPlaceReached decisions choices place
        fixed place inside =
            let s = set_at place inside in
            let own = own_set-tell t i place s.0 s.1 in
            let choice : chosen s.0 ≡ get_or choices place 0 = choice-at_set t i choices place s.0 s.1 in
            let here = r.fixed_where_reached s.0 own.0 own.1 in
            let reached = place_reached place s.0 s.1 in
            (λ h. reached.1 (here.0 (omega arith)), λ h. let given : 0 < chosen s.0 = here.1 (reached.0 h) in omega arith)

  -- all walks are all reduced strategies
  pub reduced_by-strategies : (lists : List (List ℕ)) → AreReducedBy decisions (own_counts t i) lists → AreReducedStrategies t i lists
  reduced_by-strategies lists w = record {
    ascending = w.ascending;
    sound = All-weaker (IsReducedBy decisions (own_counts t i)) (IsReduced t i) reduced_by-reduced lists w.sound;
    complete = λ choices r. w.complete choices (reduced-reduced_by choices r);
  }
