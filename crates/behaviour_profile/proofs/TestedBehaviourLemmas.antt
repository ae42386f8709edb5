-- Entries whose tests are all passed are those of valid behaviour on a tree.
use Rattle.std.proofs.Common.{ℕ, zero, suc, ◌<◌, ◌≡◌, inl, inr, Some, List, [], ◌∷◌, ◌++◌, length, map, get_or, Ok, refl, sym, ap, ◌∙◌, subst, arith}
use Rattle.std.proofs.lemmas.List.{get_or-map, length-map}
use Rattle.rational.specs.Rational.{ℚ, ◌≤ℚ◌, zero_ℚ, one_ℚ}
use Rattle.rational.specs.Sum.{sum_to}
use Rattle.game_theory.specs.Lines.{listed, entries}
use Rattle.game_theory.specs.Mixed.{Mixed, IsValid as is_valid_profile}
use Rattle.game_theory.proofs.ProfileLineLemmas.{entries-same}
use Rattle.game_theory.specs.Trees.{Tree, IsTree}
use Rattle.game_theory.specs.Behaviour.{Behaviour, IsValid}
use Rattle.game_theory.specs.OwnSets.{action_counts, own_sets, player_sets}
use Rattle.game_theory.specs.TreeEntries.{entries_at, tree_entries}
use Rattle.game_theory.proofs.OwnSetLemmas.{AreApart, AreApart-index, IsAmong, IsAmong-parts, among_at, own_sets-tell}
use Rattle.game_theory.proofs.PlayerSetLemmas.{player_sets-apart, player_sets-has, player_sets-tell}
use Rattle.sequence_forms.specs.Sequences.{place_in}
use Rattle.sequence_forms.proofs.SequenceLemmas.{place_in-is}
use Rattle.behaviour_profile.specs.EntryStarts.{sets_below}
use Rattle.behaviour_profile.specs.EntryTests.{profile_in}
use Rattle.behaviour_profile.specs.EntryLaws.{AdditionsFit, TestedEntriesAreBehaviours}
use Rattle.lists.proofs.ElementLemmas.{made-next}
use Rattle.behaviour_profile.proofs.TestedEntryLemmas.{tested_entries}

-- ---- the place of a number in a list
place-at : (xs : List ℕ) (k : ℕ) → AreApart xs → k < length xs → place_in xs (get_or xs k 0) ≡ k
place-at xs k apart l = let is = place_in-is xs (get_or xs k 0) (among_at xs k 0 l) in AreApart-index xs apart (place_in xs (get_or xs k 0)) k is.0 l is.1

-- ---- the players' sets
module _ (t : Tree) where
  pub below-tells : (p s : ℕ) → IsAmong (sets_below t p) s → (i : ℕ) × (i < p) × (s < t.sets) × (t.owner s ≡ Some i)
  below-tells zero s h = absurd h
  below-tells (suc p) s h = elim (IsAmong-parts (sets_below t p) (own_sets t p) s (subst (λ v. IsAmong v s) (made-next (own_sets t) p) h)) [
    | inl a ↦ (let b = below-tells p s a in (b.0, omega (arith, b.1), b.2, b.3))
    | inr a ↦ (let o = own_sets-tell t p s a in (p, omega arith, o.0, o.1))
  ]

  module _ (b : Behaviour) where
    -- the entries at sets are those of a mixed profile
    abbrev pub by_place : List ℕ → Mixed
    by_place sets k = b (get_or sets k 0)

    entries-by_place : (sets : List ℕ) → entries_at t b sets ≡ entries (map t.actions sets) (by_place sets)
    entries-by_place [] = refl
    entries-by_place (s ∷ sets) = ap (λ v. listed (t.actions s) (b s) ++ v) (entries-by_place sets)

    pub all_entries : tree_entries t b ≡ entries (action_counts t) (by_place (player_sets t))
    all_entries = entries-by_place (player_sets t)

  pub counts-long : length (action_counts t) ≡ length (player_sets t)
  counts-long = length-map (player_sets t) t.actions

  pub count-at : (k : ℕ) → k < length (player_sets t) → get_or (action_counts t) k 0 ≡ t.actions (get_or (player_sets t) k 0)
  count-at k l = get_or-map t.actions (player_sets t) k 0 0 l

  -- valid behaviour is a valid profile
  valid-profile : (b : Behaviour) → IsValid t b → is_valid_profile (action_counts t) (by_place b (player_sets t))
  valid-profile b v k l = record { not_negative = λ a. positive k a l; sum_is_one = total k l }
    where
      positive : (k a : ℕ) → k < length (action_counts t) → a < get_or (action_counts t) k 0 → zero_ℚ ≤ℚ by_place b (player_sets t) k a
      positive k a l h =
          (let within : k < length (player_sets t) = omega (arith, l, counts-long) in
          let own = player_sets-tell t (get_or (player_sets t) k 0) (among_at (player_sets t) k 0 within) in
          (v (get_or (player_sets t) k 0) own.0 own.1 own.2).not_negative a (subst (λ n. a < n) (count-at k within) h))

      total : (k : ℕ) → k < length (action_counts t) → sum_to (get_or (action_counts t) k 0) (by_place b (player_sets t) k) ≡ one_ℚ
      total k l =
          (let within : k < length (player_sets t) = omega (arith, l, counts-long) in
          let own = player_sets-tell t (get_or (player_sets t) k 0) (among_at (player_sets t) k 0 within) in
          ap (λ n. sum_to n (by_place b (player_sets t) k)) (count-at k within) ∙ (v (get_or (player_sets t) k 0) own.0 own.1 own.2).sum_is_one)

  -- the behaviour of a profile
  abbrev behaviour_of : Mixed → Behaviour
  behaviour_of m s = m (place_in (player_sets t) s)

  valid-behaviour : (m : Mixed) → IsTree t → is_valid_profile (action_counts t) m → IsValid t (behaviour_of m)
  valid-behaviour m w v s i l o = record { not_negative = λ a. positive s i a l o; sum_is_one = total s i l o }
    where
      found : (s i : ℕ) → s < t.sets → t.owner s ≡ Some i → (place_in (player_sets t) s < length (player_sets t)) × (get_or (player_sets t) (place_in (player_sets t) s) 0 ≡ s)
      found s i l o = place_in-is (player_sets t) s (player_sets-has t s i w l o)

      size : (s i : ℕ) → s < t.sets → t.owner s ≡ Some i → get_or (action_counts t) (place_in (player_sets t) s) 0 ≡ t.actions s
      size s i l o = (let f = found s i l o in count-at (place_in (player_sets t) s) f.0 ∙ ap t.actions f.1)

      positive : (s i a : ℕ) → s < t.sets → t.owner s ≡ Some i → a < t.actions s → zero_ℚ ≤ℚ behaviour_of m s a
      positive s i a l o h = (let f = found s i l o in (v (place_in (player_sets t) s) (omega (arith, f.0, counts-long))).not_negative a (subst (λ n. a < n) (sym (size s i l o)) h))

      total : (s i : ℕ) → s < t.sets → t.owner s ≡ Some i → sum_to (t.actions s) (behaviour_of m s) ≡ one_ℚ
      total s i l o = (let f = found s i l o in ap (λ n. sum_to n (behaviour_of m s)) (sym (size s i l o)) ∙ (v (place_in (player_sets t) s) (omega (arith, f.0, counts-long))).sum_is_one)

pub tested_behaviours : TestedEntriesAreBehaviours
tested_behaviours = record { sound = sound; complete = complete }
  where
    sound : (t : Tree) (list : List ℚ) → IsTree t → profile_in (action_counts t) list (Ok list) → (b : Behaviour) × (list ≡ tree_entries t b) × IsValid t b
    sound t list w h =
        (let p = tested_entries.sound (action_counts t) list h in
        let same : (k a : ℕ) → k < length (action_counts t) → a < get_or (action_counts t) k 0 → p.0 k a ≡ by_place t (behaviour_of t p.0) (player_sets t) k a = λ k a l _. ap (λ j. p.0 j a) (sym (place-at (player_sets t) k (player_sets-apart t) (omega (arith, l, counts-long t)))) in
        (behaviour_of t p.0, p.1 ∙ entries-same (action_counts t) p.0 (by_place t (behaviour_of t p.0) (player_sets t)) same ∙ sym (all_entries t (behaviour_of t p.0)), valid-behaviour t p.0 w p.2))

    complete : (t : Tree) (b : Behaviour) → IsTree t → IsValid t b → AdditionsFit (action_counts t) (tree_entries t b) → profile_in (action_counts t) (tree_entries t b) (Ok (tree_entries t b))
    complete t b w v fit =
        (let e = all_entries t b in
        subst (λ l. profile_in (action_counts t) l (Ok l)) (sym e) (tested_entries.complete (action_counts t) (by_place t b (player_sets t)) (valid-profile t b v) (subst (AdditionsFit (action_counts t)) e fit)))
