-- A player's own sets as groups, and those of all players.
use Rattle.std.proofs.Common.{ℕ, zero, suc, ◌+◌, ◌<◌, ◌≤◌, ◌≡◌, ◌^◌, inl, inr, Some, Err, List, [], ◌∷◌, ◌++◌, All, length, map, get_or, slice_get, take, refl, sym, ap, ap₂, ◌∙◌, subst, add-one, arith, length-append, eq-or-lt_of_le, le_of_suc-le-suc}
use Rattle.std.specs.Prelude.{option_map, sum}
use Rattle.std.proofs.lemmas.List.{take_all, length-map, map-append}
use Rattle.std.proofs.lemmas.Option.{slice_get-map}
use Rattle.rational.specs.Rational.{ℚ}
use Rattle.game_theory.specs.OwnSets.{action_counts, own_sets, own_counts}
use Rattle.game_theory.specs.Trees.{Tree, IsTree as is_game_tree}
use Rattle.game_theory.proofs.OwnSetLemmas.{IsAmong, own_sets-tell}
use Rattle.game_core.specs.Tree.{GameTree, IsGameTree, InformationSet}
use Rattle.game_core.specs.TreeGame.{game_of_tree}
use Rattle.strategy_lists.proofs.ActionCountLemmas.{actions-below}
use Rattle.behaviour_profile.specs.declared.entries.ProfileFault.{ProfileFault}
use Rattle.behaviour_profile.specs.EntryStarts.{sets_below}
use Rattle.behaviour_profile.specs.EntryTests.{TestHolds, tests_from}
use Rattle.behaviour_profile.proofs.BehaviourEntryLemmas.{actions-counted, own_set-below, own_set-read}
use Rattle.behaviour_profile.proofs.FirstFaultLemmas.{tests_in}
use Rattle.behaviour_profile.proofs.GroupListLemmas.{fault-longer, groups_fault, groups_pass, sum-append, sum-cons, sum-nil}
use Rattle.lists.proofs.ElementLemmas.{made-next}

-- the own set that is read at a place
module _ (t : GameTree) (i k : ℕ) (own : List ℕ) (are : own ≡ own_sets (game_of_tree t) i) where
  -- where there is none, all have been read
  pub none-left : length own ≤ k → take k (own_counts (game_of_tree t) i) ≡ own_counts (game_of_tree t) i
  none-left past = take_all k (own_counts (game_of_tree t) i) (omega (arith, past, ap length are, length-map (own_sets (game_of_tree t) i) (game_of_tree t).actions))

  module _ (inside : k < length own) where
    abbrev s : ℕ
    s = get_or own k 0

    at : slice_get (own_sets (game_of_tree t) i) k ≡ Some s
    at = own_set-read (game_of_tree t) i k own are inside

    pub set-below : s < length t.sets
    set-below = own_set-below (game_of_tree t) i k s at

    -- its actions are a group
    pub count-at : slice_get (own_counts (game_of_tree t) i) k ≡ Some ((game_of_tree t).actions s)
    count-at = slice_get-map (game_of_tree t).actions (own_sets (game_of_tree t) i) k ∙ ap (option_map (game_of_tree t).actions) at

    pub count-is : (sets : List InformationSet) (set : InformationSet) → sets ≡ t.sets → set ≡ get_or sets s set → length set.actions ≡ (game_of_tree t).actions s
    count-is sets set same_sets here = actions-counted t sets set s same_sets (subst (λ xs. s < length xs) (sym same_sets) set-below) here

    pub count-few : (n : ℕ) → IsGameTree t → n ≡ (game_of_tree t).actions s → n < 2 ^ 32
    count-few n valid e = let few = actions-below t s valid set-below in omega (arith, few, e, valid.few_nodes)

-- ---- all players
module _ (t : Tree) where
  abbrev pub counts_below : ℕ → List ℕ
  counts_below p = map t.actions (sets_below t p)

  counts-more : (p : ℕ) → counts_below (suc p) ≡ counts_below p ++ own_counts t p
  counts-more p = ap (map t.actions) (made-next (own_sets t) p) ∙ map-append t.actions (sets_below t p) (own_sets t p)

  pub counts-next : (p : ℕ) → counts_below (p + 1) ≡ counts_below p ++ own_counts t p
  counts-next p = ap counts_below (add-one p) ∙ counts-more p

  pub total-next : (p : ℕ) → sum (counts_below (p + 1)) ≡ sum (counts_below p) + sum (own_counts t p)
  total-next p = ap sum (counts-next p) ∙ sum-append (counts_below p) (own_counts t p)

  pub groups-next : (p : ℕ) → length (counts_below (p + 1)) ≡ length (counts_below p) + length (own_counts t p)
  groups-next p = ap length (counts-next p) ∙ length-append (counts_below p) (own_counts t p)

  -- the first players have no more than all
  totals : (p n : ℕ) → p ≤ n → sum (counts_below p) ≤ sum (counts_below n)
  totals p zero l = let e : p ≡ 0 = omega arith in subst (λ k. sum (counts_below k) ≤ sum (counts_below 0)) (sym e) (omega arith)
  totals p (suc n) l = elim (eq-or-lt_of_le l) [
    | inl e ↦ subst (λ k. sum (counts_below k) ≤ sum (counts_below (suc n))) (sym e) (omega arith)
    | inr b ↦ (let before = totals p n (le_of_suc-le-suc b) in
        let more = ap sum (counts-more n) ∙ sum-append (counts_below n) (own_counts t n) in
        omega (arith, before, more))
  ]

  -- and nor has the next with them
  pub total-within : (p : ℕ) → p < t.players → sum (counts_below p) + sum (own_counts t p) ≤ sum (action_counts t)
  total-within p l = let all = totals (p + 1) t.players (omega (arith, l)) in omega (arith, all, total-next p)

  -- each group has an entry
  each_counts : (sets : List ℕ) → ((s : ℕ) → IsAmong sets s → 0 < t.actions s) → length (map t.actions sets) ≤ sum (map t.actions sets)
  each_counts [] some = omega (arith, sum-nil)
  each_counts (s ∷ sets) some =
      let later = each_counts sets (λ r h. some r (inr h)) in
      let here = some s (inl refl) in
      omega (arith, later, here, sum-cons (t.actions s) (map t.actions sets))

  own-groups : (i : ℕ) → is_game_tree t → length (own_counts t i) ≤ sum (own_counts t i)
  own-groups i w = each_counts (own_sets t i) (λ s h. w.some_action s (own_sets-tell t i s h).0)

  groups-below : (p : ℕ) → is_game_tree t → length (counts_below p) ≤ sum (counts_below p)
  groups-below zero w = omega (arith, sum-nil)
  groups-below (suc p) w =
      let before = groups-below p w in
      let more = ap sum (counts-more p) ∙ sum-append (counts_below p) (own_counts t p) in
      let groups = ap length (counts-more p) ∙ length-append (counts_below p) (own_counts t p) in
      omega (arith, before, more, groups, own-groups p w)

  pub groups-within : (p : ℕ) → is_game_tree t → p < t.players → length (counts_below p) + length (own_counts t p) ≤ sum (action_counts t)
  groups-within p w l = omega (arith, total-within p l, groups-below p w, own-groups p w)

  -- ---- their tests
  module _ (entries : List ℚ) where
    later-fault : (p n : ℕ) (fault : ProfileFault) → p ≤ n → tests_in (tests_from entries 0 0 (counts_below p)) (Err fault) → tests_in (tests_from entries 0 0 (counts_below n)) (Err fault)
    later-fault p zero fault l h = let e : p ≡ 0 = omega arith in subst (λ k. tests_in (tests_from entries 0 0 (counts_below k)) (Err fault)) e h
    later-fault p (suc n) fault l h = elim (eq-or-lt_of_le l) [
      | inl e ↦ subst (λ k. tests_in (tests_from entries 0 0 (counts_below k)) (Err fault)) e h
      | inr b ↦ subst (λ v. tests_in (tests_from entries 0 0 v) (Err fault)) (sym (counts-more n)) (fault-longer entries 0 0 (counts_below n) (own_counts t n) fault (later-fault p n fault (le_of_suc-le-suc b) h))
    ]

    module _ (p place group : ℕ) (place_is : place ≡ sum (counts_below p)) (group_is : group ≡ length (counts_below p)) (passed : All TestHolds (tests_from entries 0 0 (counts_below p))) where
      own_tests : tests_from entries place group (own_counts t p) ≡ tests_from entries (0 + sum (counts_below p)) (0 + length (counts_below p)) (own_counts t p)
      own_tests = ap₂ (λ a b. tests_from entries a b (own_counts t p)) (place_is ∙ omega arith) (group_is ∙ omega arith)

      pub player_passes : All TestHolds (tests_from entries place group (own_counts t p)) → All TestHolds (tests_from entries 0 0 (counts_below (p + 1)))
      player_passes h = subst (λ v. All TestHolds (tests_from entries 0 0 v)) (sym (counts-next p)) (groups_pass entries 0 0 (counts_below p) (own_counts t p) passed (subst (All TestHolds) own_tests h))

      pub player_fault : (fault : ProfileFault) → p < t.players → tests_in (tests_from entries place group (own_counts t p)) (Err fault) → tests_in (tests_from entries 0 0 (action_counts t)) (Err fault)
      player_fault fault l h =
          later-fault (p + 1) t.players fault (omega (arith, l))
          (subst (λ v. tests_in (tests_from entries 0 0 v) (Err fault)) (sym (counts-next p)) (groups_fault entries 0 0 (counts_below p) (own_counts t p) passed fault (subst (λ tests. tests_in tests (Err fault)) own_tests h)))
