-- Where a play's parts stand.
use Rattle.std.proofs.Common.{ℕ, ◌-◌, ◌<◌, ◌≡◌, Some, List, [], length, map, get_or, slice_get, sym, ap, ◌∙◌, subst, arith}
use Rattle.std.proofs.lemmas.List.{length-map, get_or-map, get_or_default}
use Rattle.std.proofs.lemmas.Option.{slice_get_within, get_or_from_slice_get}
use Rattle.game_theory.proofs.NamedChildLemmas.{child-is, child-later}
use Rattle.game_theory.specs.Children.{AreChildren, child}
use Rattle.game_theory.specs.OwnSets.{own_sets}
use Rattle.game_theory.proofs.OwnSetLemmas.{own_sets-ascend}
use Rattle.game_theory.proofs.ProfileNumberLemmas.{length-profile}
use Rattle.game_theory.specs.Trees.{Tree, IsTree}
use Rattle.reduced_strategies.specs.Choices.{IsReduced}
use Rattle.reduced_strategies.specs.StrategicForm.{list_of, completed}
use Rattle.reduced_strategies.proofs.StrategyProfileLemmas.{given_at-own, list_of-reduced, place-below, first_actions-complete}
use Rattle.pure_payoffs.specs.Choices.{AreChoices, AreReduced, chosen_by}
use Rattle.pure_payoffs.specs.Plays.{IsPlay}
use Rattle.pure_payoffs.specs.declared.choices.Choices.{Choices}
use Rattle.pure_payoffs.specs.declared.choices.Choices.TheVariants.{Actions, Reduced}
use Rattle.pure_payoffs.proofs.ChoiceLemmas.{choice_at-place}
use Rattle.pure_payoffs.proofs.FilledListLemmas.{list-read}

-- the node to which an action leads stands in the list of children
pub child-read : {V : Type 0} (f : V → List ℕ) (t : Tree) (lists : List V) (k s a : ℕ) (d : V) → IsTree t → AreChildren t (map f lists) → k < t.size → t.set k ≡ Some s → a < t.actions s → (a < length (f (get_or lists k d))) × (get_or (f (get_or lists k d)) a 0 ≡ child t k a)
child-read f t lists k s a d w h l e m =
    let c = h.are_children k s a l e m in
    let inside : k < length lists = omega (arith, h.one_for_each, length-map lists f) in
    let same = get_or-map f lists k d [] inside in
    let found = subst (λ x. slice_get x a ≡ Some c.0) same c.1 in
    (slice_get_within (f (get_or lists k d)) a c.0 found, get_or_from_slice_get (f (get_or lists k d)) a c.0 0 found ∙ sym (child-is t k a c.0 w c.2))

-- a node that is read there is the child, and stands after
pub child-found : {V : Type 0} (f : V → List ℕ) (t : Tree) (lists : List V) (k s a : ℕ) (d : V) (c : ℕ) → IsTree t → AreChildren t (map f lists) → k < t.size → t.set k ≡ Some s → a < t.actions s → c ≡ get_or (f (get_or lists k d)) a c → (c ≡ child t k a) × (k < c) × (c < t.size)
child-found f t lists k s a d c w h l e m is =
    let read = child-read f t lists k s a d w h l e m in
    let same = is ∙ get_or_default (f (get_or lists k d)) a c 0 read.0 ∙ read.1 in
    let later = child-later t k s a w l e m in
    (same, omega (arith, later.0, same), omega (arith, later.1, same))

-- a play gives each set of a player one of its actions
pub play-chooses : (t : Tree) (children : List (List ℕ)) (choices : Choices) → IsPlay t children choices → (s i : ℕ) → s < t.sets → t.owner s ≡ Some i → chosen_by t choices s < t.actions s
play-chooses t children choices h s i l o = go choices h.choices_are
  where
    go : (choices : Choices) → AreChoices t choices → chosen_by t choices s < t.actions s
    go (Reduced places strategies profile) are = (first_actions-complete t _ profile.now h.tree are.strategies_are are.is_profile s i l o).0
    go (Actions actions) are = are.are_actions i s l o

module _ (t : Tree) (places : List ℕ) (strategies : List (List (List ℕ))) (profile : List ℕ) (w : IsTree t) (h : AreReduced t places strategies profile) where
  module _ (s i : ℕ) (l : s < t.sets) (o : t.owner s ≡ Some i) where
    -- the owner of a set has strategies
    pub owner-strategies : i < length strategies
    owner-strategies = omega (arith, h.strategies_are.one_for_each, w.owners_within s i l o)

    -- the owner of a set plays a strategy
    pub owner-plays : i < length profile
    owner-plays = omega (arith, length-profile (map length strategies) profile h.is_profile, length-map strategies (length {A = List ℕ}), owner-strategies)

    -- which is one of the owner's
    pub strategy-within : get_or profile i 0 < length (get_or strategies i [])
    strategy-within = place-below t strategies profile i h.strategies_are h.is_profile (w.owners_within s i l o)

    -- the strategy is reduced
    strategy-reduced : IsReduced t i (list_of strategies profile i)
    strategy-reduced = list_of-reduced t strategies profile i h.strategies_are h.is_profile (w.owners_within s i l o)

    -- it has a choice at the set's place
    pub place-within : get_or places s 0 < length (list_of strategies profile i)
    place-within = omega (arith, strategy-reduced.one_for_each, slice_get_within (own_sets t i) (get_or places s 0) s (h.places_are.are_places s i l o))

    -- which is what the profile gives the set
    pub completed-read : completed t strategies profile s ≡ get_or (list_of strategies profile i) (get_or places s 0) 0 - 1
    completed-read = ap (λ x. x - 1) (given_at-own t strategies profile s i o ∙ choice_at-place 0 (own_sets t i) (list_of strategies profile i) (get_or places s 0) s (own_sets-ascend t i) strategy-reduced.one_for_each (h.places_are.are_places s i l o))

-- a strategy in the lists of all players, seen by its choices
pub strategy-read : {V W : Type 0} (g : V → List W) (f : W → List ℕ) (strategies : List V) (i number : ℕ) (d : V) (strategy : W) → i < length strategies → number < length (g (get_or strategies i d)) → strategy ≡ get_or (g (get_or strategies i d)) number strategy → get_or (get_or (map (λ v. map f (g v)) strategies) i []) number [] ≡ f strategy
strategy-read g f strategies i number d strategy below inside is =
    ap (λ x. get_or x number []) (get_or-map (λ v. map f (g v)) strategies i d [] below) ∙ list-read f (g (get_or strategies i d)) number strategy inside is
