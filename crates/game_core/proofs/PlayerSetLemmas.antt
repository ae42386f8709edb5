-- The lists of the players' own sets, one set after another.
use Rattle.std.proofs.Common.{◌≡◌, ◌<◌, ◌+◌, ◌∙◌, sym, ap, subst, refl, ℕ, Some, None, List, [], ◌∷◌, ◌++◌, length, get_or, set, below_more, arith, take, map, All, inl, inr, option_map}
use Rattle.std.proofs.lemmas.Bool.{cases_eq, eqb-true, eq-eqb, false_from_ne_true}
use Rattle.std.proofs.lemmas.List.{length-set, get_or-set_same, get_or-set_other, get_or_append_left, get_or_push, length_push, length-take-le, get_or-map, map-set, take_more, length-map}
use Rattle.std.proofs.lemmas.Option.{slice_get-get_or, slice_get_read, slice_get-map, get_or_from_slice_get, same_Some}
use Rattle.game_core.specs.OwnSets.{AreOwnLists, numbers_owned}
use Rattle.game_theory.specs.Behaviour.{is_index}
use Rattle.game_theory.proofs.IndexLemmas.{places_with-last, places_with-other}
use Rattle.game_core.specs.Tree.{GameTree, IsGameTree, InformationSet, IsBelow}

-- ---- the lists
-- one more player without sets
pub AreOwnLists-one_more : (players : ℕ) (lists : List (List ℕ)) → AreOwnLists [] players lists → AreOwnLists [] (players + 1) (lists ++ [] ∷ [])
AreOwnLists-one_more players lists h = record {
  one_for_each = length_push lists [] ∙ ap (λ n. n + 1) h.one_for_each;
  are_own = λ i below. slice_get-get_or (lists ++ [] ∷ []) i [] below ∙ ap Some (empty i (rw length_push at below));
}
  where
    empty : (i : ℕ) → i < length lists + 1 → get_or (lists ++ [] ∷ []) i [] ≡ []
    empty = below_more _ _ (λ i below. get_or_append_left lists ([] ∷ []) [] i below ∙ get_or_from_slice_get lists i [] [] (h.are_own i below)) (get_or_push lists [] [] (length lists) refl)

-- one more set of chance
AreOwnLists-chance : (sets : List InformationSet) (last : InformationSet) (players : ℕ) (lists : List (List ℕ)) → last.owner ≡ None → AreOwnLists sets players lists → AreOwnLists (sets ++ last ∷ []) players lists
AreOwnLists-chance sets last players lists owner h = record {
  one_for_each = h.one_for_each;
  are_own = λ i below. h.are_own i below ∙ ap Some (sym (places_with-other (λ set. set.owner) sets last i (ap (λ o. is_index o i) owner)));
}

-- the list of one player after one more set of another player or of that player
list_after : (sets : List InformationSet) (last : InformationSet) (player i : ℕ) (lists : List (List ℕ)) → last.owner ≡ Some player → i < length lists → get_or lists i [] ≡ numbers_owned sets i → get_or (set lists player (get_or lists player [] ++ length sets ∷ [])) i [] ≡ numbers_owned (sets ++ last ∷ []) i
list_after sets last player i lists owner below h = elim (cases_eq i player) [
  | inl same ↦ rw same (get_or-set_same lists player _ [] (rw same at below) ∙ ap (λ v. v ++ length sets ∷ []) (rw same at h) ∙ sym (places_with-last (λ set. set.owner) sets last player (ap (λ o. is_index o player) owner ∙ eq-eqb player player refl)))
  | inr other ↦ get_or-set_other lists player i _ [] other ∙ h ∙ sym (places_with-other (λ set. set.owner) sets last i (ap (λ o. is_index o i) owner ∙ false_from_ne_true _ (λ same. other (sym (eqb-true player i same)))))
]

-- one more set of a player
AreOwnLists-player : (sets : List InformationSet) (last : InformationSet) (players player : ℕ) (lists : List (List ℕ)) → last.owner ≡ Some player → AreOwnLists sets players lists → AreOwnLists (sets ++ last ∷ []) players (set lists player (get_or lists player [] ++ length sets ∷ []))
AreOwnLists-player sets last players player lists owner h = record {
  one_for_each = length-set lists player _ ∙ h.one_for_each;
  are_own = λ i below. slice_get-get_or (set lists player _) i [] below ∙ ap Some (list_after sets last player i lists owner (rw length-set at below) (get_or_from_slice_get lists i _ [] (h.are_own i (rw length-set at below))));
}

-- the set at a place is one of chance
pub AreOwnLists-step_chance : (sets : List InformationSet) (k : ℕ) (here : InformationSet) (players : ℕ) (lists : List (List ℕ)) → k < length sets → here ≡ get_or sets k here → here.owner ≡ None → AreOwnLists (take k sets) players lists → AreOwnLists (take (k + 1) sets) players lists
AreOwnLists-step_chance sets k here players lists below is owner h = rw (take_more sets k here below) (rw (← is) (AreOwnLists-chance (take k sets) here players lists owner h))

-- the set at a place is one of a player, whose list takes its number
pub AreOwnLists-step_player : {V : Type 0} (f : V → List ℕ) (sets : List InformationSet) (k : ℕ) (here : InformationSet) (players player : ℕ) (lists : List V) (old new : V) → k < length sets → here ≡ get_or sets k here → here.owner ≡ Some player → player < length lists → old ≡ get_or lists player old → f new ≡ f old ++ k ∷ [] → AreOwnLists (take k sets) players (map f lists) → AreOwnLists (take (k + 1) sets) players (map f (set lists player new))
AreOwnLists-step_player f sets k here players player lists old new below is owner inside old_is new_is h =
    let counted : length (take k sets) ≡ k = length-take-le k sets (omega arith) in
    let list_is : f new ≡ get_or (map f lists) player [] ++ length (take k sets) ∷ [] = new_is ∙ ap (λ v. f v ++ k ∷ []) old_is ∙ ap (λ v. v ++ k ∷ []) (sym (get_or-map f lists player old [] inside)) ∙ ap (λ n. get_or (map f lists) player [] ++ n ∷ []) (sym counted) in
    rw (take_more sets k here below, map-set, list_is) (rw (← is) (AreOwnLists-player (take k sets) here players player (map f lists) owner h))

-- a set's owner is one of the players
pub owner_within : (sets : List InformationSet) (k : ℕ) (here : InformationSet) (players player : ℕ) → All (λ set. IsBelow players set.owner) sets → k < length sets → here ≡ get_or sets k here → here.owner ≡ Some player → player < players
owner_within sets k here players player owners below is owner = subst (IsBelow players) (ap (λ set. set.owner) (sym is) ∙ owner) (owners k here below)

-- a player's list has the numbers of the player's own sets
pub own_list : {V : Type 0} (f : V → List ℕ) (sets : List InformationSet) (players player : ℕ) (lists : List V) (list : V) → AreOwnLists sets players (map f lists) → player < length lists → list ≡ get_or lists player list → numbers_owned sets player ≡ f list
own_list f sets players player lists list h inside is =
    let found = slice_get-map f lists player ∙ ap (option_map f) (slice_get_read lists (length lists) player list refl inside is) in
    same_Some _ _ (sym (h.are_own player (rw length-map inside)) ∙ found)

-- each set's owner is one of the players
pub owners_within : (t : GameTree) → IsGameTree t → All (λ set. IsBelow (length t.players) set.owner) t.sets
owners_within t valid k d below = (valid.sets_fit k (get_or t.sets k d) (slice_get-get_or t.sets k d below)).owner_within
