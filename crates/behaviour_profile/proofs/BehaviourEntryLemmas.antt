-- The entries of behaviour, as they grow set by set and player by player.
use Rattle.std.proofs.Common.{ℕ, zero, suc, ◌+◌, ◌-◌, ◌<◌, ◌≤◌, ◌≡◌, inl, inr, Some, List, [], ◌∷◌, ◌++◌, length, map, get_or, slice_get, take, refl, sym, ap, ap₂, ◌∙◌, subst, arith, add-one, append_assoc}
use Rattle.std.proofs.lemmas.Grind.{flat_map-append}
use Rattle.std.proofs.lemmas.List.{append-nil, take_all, take_more, get_or-map, length-map}
use Rattle.std.proofs.lemmas.Option.{same_Some, slice_get-get_or, slice_get_within, get_or_from_slice_get}
use Rattle.game_theory.specs.TreeEntries.{entries_at}
use Rattle.game_theory.specs.OwnSets.{own_sets}
use Rattle.game_theory.proofs.OwnSetLemmas.{IsAmong, AscendFrom, own_sets-tell, own_sets-ascend}
use Rattle.lists.proofs.ElementLemmas.{made-next}
use Rattle.rational.specs.Rational.{ℚ}
use Rattle.game_theory.specs.Lines.{listed}
use Rattle.game_theory.proofs.ProfileLineLemmas.{listed-same}
use Rattle.game_theory.specs.Mixed.{sure}
use Rattle.game_theory.specs.Profiles.{IsProfile}
use Rattle.game_theory.specs.Trees.{Tree}
use Rattle.game_theory.specs.Behaviour.{Behaviour, pure}
use Rattle.game_core.specs.Tree.{GameTree, InformationSet}
use Rattle.game_core.specs.TreeGame.{game_of_tree}
use Rattle.reduced_strategies.specs.StrategicForm.{AreStrategies, list_of, completed}
use Rattle.reduced_strategies.proofs.StrategyProfileLemmas.{given_at-own, list_of-reduced, place-below}
use Rattle.pure_payoffs.proofs.ChoiceLemmas.{choice_at-place}
use Rattle.pure_payoffs.proofs.PlaceLemmas.{strategy-read}
use Rattle.behaviour_profile.specs.EntryStarts.{sets_below}
use Rattle.behaviour_profile.specs.FirstActions.{first_for_none}

-- the entries of one set more
pub entries_at-push : (t : Tree) (b : Behaviour) (all now old : List ℚ) (sets : List ℕ) (place s : ℕ) → slice_get sets place ≡ Some s → now ≡ old ++ entries_at t b (take place sets) → all ≡ now ++ listed (t.actions s) (b s)
    → all ≡ old ++ entries_at t b (take (place + 1) sets)
entries_at-push t b all now old sets place s at before push =
    push ∙ ap (λ v. v ++ listed (t.actions s) (b s)) before ∙ append_assoc old _ _
    ∙ ap (λ v. old ++ v) (ap (λ v. entries_at t b (take place sets) ++ v) (sym (append-nil (listed (t.actions s) (b s))))
    ∙ sym (flat_map-append (λ r. listed (t.actions r) (b r)) (take place sets) (s ∷ []))
    ∙ ap (entries_at t b) (ap (λ v. take place sets ++ v ∷ []) (sym (get_or_from_slice_get sets place s 0 at)) ∙ sym (take_more sets place 0 (slice_get_within sets place s at))))

-- the action at a set's place, from 0
pub first_for_none-place : (t : Tree) (i : ℕ) (choices : List ℕ) (place s : ℕ) → length choices ≡ length (own_sets t i) → slice_get (own_sets t i) place ≡ Some s → first_for_none t i choices s ≡ get_or choices place 0 - 1
first_for_none-place t i choices place s e at = ap (λ x. x - 1) (choice_at-place 0 (own_sets t i) choices place s (own_sets-ascend t i) e at)

-- behaviours that are the same at these sets have the same entries there
pub entries_at-same : (t : Tree) (b other : Behaviour) (sets : List ℕ) → ((s a : ℕ) → IsAmong sets s → a < t.actions s → b s a ≡ other s a) → entries_at t b sets ≡ entries_at t other sets
entries_at-same t b other [] same = refl
entries_at-same t b other (s ∷ sets) same =
    ap₂ (λ v w. v ++ w) (listed-same (t.actions s) (b s) (other s) (λ a l. same s a (inl refl) l)) (entries_at-same t b other sets (λ r a h l. same r a (inr h) l))

-- a player's entries in a profile are those of the player's list
own_entries-profile : (t : Tree) (strategies : List (List (List ℕ))) (profile : List ℕ) (i : ℕ)
    → entries_at t (pure (first_for_none t i (list_of strategies profile i))) (own_sets t i) ≡ entries_at t (pure (completed t strategies profile)) (own_sets t i)
own_entries-profile t strategies profile i =
    entries_at-same t _ _ (own_sets t i) (λ s a h l. ap (λ x. sure (x - 1) a) (sym (given_at-own t strategies profile s i (own_sets-tell t i s h).1)))

-- the entries of one player more
pub entries_below-next : (t : Tree) (b : Behaviour) (all now : List ℚ) (i : ℕ) → now ≡ entries_at t b (sets_below t i) → all ≡ now ++ entries_at t b (own_sets t i) → all ≡ entries_at t b (sets_below t (i + 1))
entries_below-next t b all now i before push =
    push ∙ ap (λ v. v ++ entries_at t b (own_sets t i)) before ∙ sym (flat_map-append (λ s. listed (t.actions s) (b s)) (sets_below t i) (own_sets t i))
    ∙ ap (entries_at t b) (sym (made-next (own_sets t) i) ∙ ap (sets_below t) (sym (add-one i)))

-- the entries of a profile with one player more
pub entries_below-push : (t : Tree) (strategies : List (List (List ℕ))) (profile choices : List ℕ) (all now : List ℚ) (i : ℕ) → choices ≡ list_of strategies profile i → now ≡ entries_at t (pure (completed t strategies profile)) (sets_below t i)
    → all ≡ now ++ entries_at t (pure (first_for_none t i choices)) (own_sets t i) → all ≡ entries_at t (pure (completed t strategies profile)) (sets_below t (i + 1))
entries_below-push t strategies profile choices all now i is before push =
    entries_below-next t (pure (completed t strategies profile)) all now i before
    (push ∙ ap (λ v. now ++ v) (ap (λ v. entries_at t (pure (first_for_none t i v)) (own_sets t i)) is ∙ own_entries-profile t strategies profile i))

-- ---- where the parts stand
-- what stands at a place is among the sets
pub among-place : (sets : List ℕ) (place s : ℕ) → slice_get sets place ≡ Some s → IsAmong sets s
among-place [] place s at = cc
among-place (set ∷ sets) zero s at = inl (same_Some set s at)
among-place (set ∷ sets) (suc place) s at = inr (among-place sets place s at)

-- an own set is one of the sets
pub own_set-below : (t : Tree) (i place s : ℕ) → slice_get (own_sets t i) place ≡ Some s → s < t.sets
own_set-below t i place s at = (own_sets-tell t i s (among-place (own_sets t i) place s at)).0

-- ascending sets are not below their places
place-at_most : (n : ℕ) (sets : List ℕ) (place s : ℕ) → AscendFrom n sets → slice_get sets place ≡ Some s → n + place ≤ s
place-at_most n [] place s o at = cc
place-at_most n (set ∷ sets) zero s o at = let e = same_Some set s at in omega (arith, o.0)
place-at_most n (set ∷ sets) (suc place) s o at = omega (arith, o.0, place-at_most (suc set) sets place s o.1 at)

-- a place among a player's own sets is below the number of sets
pub place-below_sets : (t : Tree) (i place : ℕ) → place < length (own_sets t i) → place < t.sets
place-below_sets t i place l =
    let at = slice_get-get_or (own_sets t i) place 0 l in
    omega (arith, place-at_most 0 (own_sets t i) place _ (own_sets-ascend t i) at, own_set-below t i place _ at)

-- the own set that is read at a place
pub own_set-read : (t : Tree) (i k : ℕ) (own : List ℕ) → own ≡ own_sets t i → k < length own → slice_get (own_sets t i) k ≡ Some (get_or own k 0)
own_set-read t i k own are inside = ap (λ sets. slice_get sets k) (sym are) ∙ slice_get-get_or own k 0 inside

-- where there is none, all own sets stand before
pub own_sets-before : (t : Tree) (i k : ℕ) (own : List ℕ) → own ≡ own_sets t i → length own ≤ k → take k (own_sets t i) ≡ own_sets t i
own_sets-before t i k own are past = take_all k (own_sets t i) (omega (arith, past, ap length are))

-- how many actions a set that is read has
pub actions-counted : (t : GameTree) (sets : List InformationSet) (set : InformationSet) (s : ℕ) → sets ≡ t.sets → s < length sets → set ≡ get_or sets s set → length set.actions ≡ (game_of_tree t).actions s
actions-counted t sets set s same l is =
    ap (λ x. length x.actions) is ∙ sym (get_or-map (λ x. length x.actions) sets s set 0 l) ∙ ap (λ v. get_or (map (λ x. length x.actions) v) s 0) same

-- ---- a player's strategy in the lists of all players
module _ {V W : Type 0} (g : V → List W) (f : W → List ℕ) (t : Tree) (lists : List V) (profile : List ℕ) (i : ℕ) (row : V) (a : AreStrategies t (map (λ v. map f (g v)) lists)) (p : IsProfile (map length (map (λ v. map f (g v)) lists)) profile) (l : i < t.players) (at : row ≡ get_or lists i row) where
  -- the player has strategies
  row-within : i < length lists
  row-within = omega (arith, a.one_for_each, length-map lists (λ v. map f (g v)))

  -- the player's number is that of one of them
  pub number-within : get_or profile i 0 < length (g row)
  number-within =
      subst (λ x. get_or profile i 0 < x) (ap length (get_or-map (λ v. map f (g v)) lists i row [] row-within ∙ ap (λ v. map f (g v)) (sym at)) ∙ length-map (g row) f) (place-below t (map (λ v. map f (g v)) lists) profile i a p l)

  -- which is the profile's
  pub strategy-is : (strategy : W) → strategy ≡ get_or (g row) (get_or profile i 0) strategy → list_of (map (λ v. map f (g v)) lists) profile i ≡ f strategy
  strategy-is strategy here =
      strategy-read g f lists i (get_or profile i 0) row strategy row-within (subst (λ v. get_or profile i 0 < length (g v)) at number-within) (here ∙ ap (λ v. get_or (g v) (get_or profile i 0) strategy) at)

-- a player's list has a choice for each own set
pub list_of-long : (t : Tree) (strategies : List (List (List ℕ))) (profile : List ℕ) (i : ℕ) → AreStrategies t strategies → IsProfile (map length strategies) profile → i < t.players → length (list_of strategies profile i) ≡ length (own_sets t i)
list_of-long t strategies profile i a p l = (list_of-reduced t strategies profile i a p l).one_for_each
