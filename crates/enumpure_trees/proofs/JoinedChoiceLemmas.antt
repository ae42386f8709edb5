-- Choices at the sets of several players, one player's after another's.
use Rattle.std.proofs.Common.{ℕ, zero, suc, ◌+◌, ◌*◌, ◌-◌, ◌<◌, ◌≤◌, ◌≡◌, ◌∙◌, inl, inr, List, [], ◌∷◌, ◌++◌, Some, length, map, get_or, refl, sym, ap, ap₂, subst, arith}
use Rattle.std.specs.List.{flat_map, range_with_len}
use Rattle.std.proofs.lemmas.Bool.{cases_eq}
use Rattle.std.proofs.lemmas.List.{length-map, map-append}
use Rattle.std.proofs.lemmas.Option.{same_Some}
use Rattle.game_theory.specs.OwnSets.{own_counts, own_sets}
use Rattle.game_theory.specs.Profiles.{IsProfile, number_of, profile_at, profile_count}
use Rattle.game_theory.specs.Trees.{Tree}
use Rattle.game_theory.proofs.JoinedProfileLemmas.{IsProfile-append, number_of-append}
use Rattle.game_theory.proofs.OwnSetLemmas.{own_sets-has, own_sets-tell}
use Rattle.game_theory.proofs.ProfileCountLemmas.{profile_count-append}
use Rattle.game_theory.proofs.ProfileNumberLemmas.{IsProfile-profile_at, length-profile, number_of-profile_at, profile_at-number_of}
use Rattle.reduced_strategies.specs.Choices.{choice_at}
use Rattle.reduced_strategies.proofs.ChoiceListLemmas.{choice_at-left, choice_at-right}
use Rattle.enumpure_trees.specs.Games.{strategy_count}

-- ---- players one after another
-- the choices of some players at all their sets, by the numbers of their own choices
abbrev pub joined : Tree → List ℕ → List ℕ → List ℕ
joined t (i ∷ players) (m ∷ numbers) = profile_at (own_counts t i) m ++ joined t players numbers
joined t _ _ = []

module _ (t : Tree) where
  -- how many actions these players' sets have
  abbrev pub counts_of : List ℕ → List ℕ
  counts_of players = map t.actions (flat_map (own_sets t) players)

  counts_of-next : (i : ℕ) (players : List ℕ) → counts_of (i ∷ players) ≡ own_counts t i ++ counts_of players
  counts_of-next i players = map-append t.actions (own_sets t i) (flat_map (own_sets t) players)

  -- they have as many choices as profiles of their own choices
  pub joined-count : (players : List ℕ) → profile_count (counts_of players) ≡ profile_count (map (strategy_count t) players)
  joined-count [] = refl
  joined-count (i ∷ players) =
      ap profile_count (counts_of-next i players) ∙ profile_count-append (own_counts t i) (counts_of players) ∙ ap (λ x. strategy_count t i * x) (joined-count players)

  -- joined choices are choices
  joined-profile : (players numbers : List ℕ) → IsProfile (map (strategy_count t) players) numbers → IsProfile (counts_of players) (joined t players numbers)
  joined-profile [] [] h = tt
  joined-profile [] (m ∷ numbers) h = absurd h
  joined-profile (i ∷ players) [] h = absurd h
  joined-profile (i ∷ players) (m ∷ numbers) h =
      subst (λ ns. IsProfile ns (joined t (i ∷ players) (m ∷ numbers))) (sym (counts_of-next i players))
      (IsProfile-append (own_counts t i) (counts_of players) (profile_at (own_counts t i) m) (joined t players numbers) (IsProfile-profile_at (own_counts t i) m h.0) (joined-profile players numbers h.1))

  -- their number is that of the profile
  joined-number : (players numbers : List ℕ) → IsProfile (map (strategy_count t) players) numbers → number_of (counts_of players) (joined t players numbers) ≡ number_of (map (strategy_count t) players) numbers
  joined-number [] [] h = refl
  joined-number [] (m ∷ numbers) h = absurd h
  joined-number (i ∷ players) [] h = absurd h
  joined-number (i ∷ players) (m ∷ numbers) h =
      let own = own_counts t i in
      ap (λ ns. number_of ns (joined t (i ∷ players) (m ∷ numbers))) (counts_of-next i players)
      ∙ number_of-append own (counts_of players) (profile_at own m) (joined t players numbers) (length-profile own (profile_at own m) (IsProfile-profile_at own m h.0))
      ∙ ap₂ (λ a b. a + profile_count own * b) (number_of-profile_at own m h.0) (joined-number players numbers h.1)

  -- the choices with a number are joined from the profile with that number
  pub profile_at-joined : (players : List ℕ) (n : ℕ) → n < profile_count (counts_of players) → profile_at (counts_of players) n ≡ joined t players (profile_at (map (strategy_count t) players) n)
  profile_at-joined players n below =
      let ns = map (strategy_count t) players in
      let numbers = profile_at ns n in
      let inside : n < profile_count ns = omega (arith, below, joined-count players) in
      let is_profile = IsProfile-profile_at ns n inside in
      ap (profile_at (counts_of players)) (sym (number_of-profile_at ns n inside) ∙ sym (joined-number players numbers is_profile))
      ∙ profile_at-number_of (counts_of players) (joined t players numbers) (joined-profile players numbers is_profile)

module _ (t : Tree) (s i : ℕ) (below : s < t.sets) (own : t.owner s ≡ Some i) where
  -- the choice at a set, by the number of its owner's own choices
  abbrev pub own_choice : ℕ → ℕ
  own_choice m = choice_at (own_sets t i) (profile_at (own_counts t i) m) s

  -- among the joined choices of the players from one on, the set's is its owner's
  pub choice_at-joined : (first count : ℕ) (numbers : List ℕ) → IsProfile (map (strategy_count t) (range_with_len first count)) numbers → first ≤ i → i < first + count
      → choice_at (flat_map (own_sets t) (range_with_len first count)) (joined t (range_with_len first count) numbers) s ≡ own_choice (get_or numbers (i - first) 0)
  choice_at-joined first zero numbers h from before = absurd (omega (arith, from, before))
  choice_at-joined first (suc count) [] h from before = absurd h
  choice_at-joined first (suc count) (m ∷ numbers) h from before =
      let rest = range_with_len (first + 1) count in
      let counts = own_counts t first in
      let long : length (profile_at counts m) ≡ length (own_sets t first) = length-profile counts (profile_at counts m) (IsProfile-profile_at counts m h.0) ∙ length-map (own_sets t first) t.actions in
      elim (cases_eq first i) [
        | inl same ↦
            let here : i - first ≡ 0 = omega (arith, same) in
            choice_at-left (own_sets t first) (flat_map (own_sets t) rest) (profile_at counts m) (joined t rest numbers) s long (own_sets-has t first s below (own ∙ ap Some (sym same)))
            ∙ ap (λ j. choice_at (own_sets t j) (profile_at (own_counts t j) m) s) same ∙ ap (λ j. own_choice (get_or (m ∷ numbers) j 0)) (sym here)
        | inr other ↦
            let next : i - first ≡ suc (i - (first + 1)) = omega (arith, from, other) in
            choice_at-right (own_sets t first) (flat_map (own_sets t) rest) (profile_at counts m) (joined t rest numbers) s long (λ h. other (same_Some first i (sym (own_sets-tell t first s h).1 ∙ own)))
            ∙ choice_at-joined (first + 1) count numbers h.1 (omega (arith, from, other)) (omega (arith, before)) ∙ ap (λ j. own_choice (get_or (m ∷ numbers) j 0)) (sym next)
      ]
