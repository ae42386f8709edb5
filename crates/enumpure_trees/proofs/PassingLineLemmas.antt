-- The lines of the passing choices, by rank, are those of the choices that pass.
use Rattle.std.proofs.Common.{ℕ, ◌≡◌, ◌↔◌, Bool, IsTrue, List, length, map, All, Contains, sym, ap, ◌∙◌, subst, arith}
use Rattle.game_theory.specs.Behaviour.{pure, IsWholeChoice}
use Rattle.game_theory.specs.Lines.{AreInOrder, entries, lines_text}
use Rattle.game_theory.specs.Mixed.{pure as pure_profile}
use Rattle.game_theory.specs.Profiles.{IsProfile, number_of, profile_count}
use Rattle.game_theory.specs.Ranks.{ranked}
use Rattle.game_theory.specs.Trees.{Tree, IsTree}
use Rattle.game_theory.proofs.ProfileLineLemmas.{StandsBefore-entries}
use Rattle.game_theory.proofs.ProfileNumberLemmas.{number_of-below, profile_at-number_of}
use Rattle.game_theory.proofs.RankLemmas.{ComesBefore-ranked, IsProfile-ranked, rank_of, rank_of-below, ranked-rank_of}
use Rattle.rational.specs.Rational.{ℚ}
use Rattle.reduced_strategies.specs.Choices.{choice_at}
use Rattle.reduced_strategies.proofs.SetLemmas.{choice_at-map}
use Rattle.enumpure.specs.Ranks.{lines_below, rank_line, ranked_plays_best}
use Rattle.enumpure.specs.Replies.{plays_best}
use Rattle.enumpure.proofs.ListedLineLemmas.{listed_below-all, listed_below-has, listed_below-in_order}
use Rattle.game_theory.specs.OwnSets.{action_counts, player_sets}
use Rattle.enumpure_trees.specs.TestNodes.{AreTestNodes}
use Rattle.enumpure_trees.specs.PassingChoices.{IsTestedEquilibriumAt, Passes}
use Rattle.enumpure_trees.specs.PassingNumbers.{ArePassing}
use Rattle.enumpure_trees.specs.PassingText.{ArePassingLines, IsPassingLine, IsPassingText, choice_line}
use Rattle.enumpure_trees.proofs.WholeChoiceLemmas.{choice_line-at, IsWholeChoice-profile}
use Rattle.game_theory.proofs.PlayerSetLemmas.{IsProfile-whole, player_sets-has, tree_entries-profile}
use Rattle.enumpure_trees.proofs.PassingChoiceLemmas.{Passes-same}

module _ (agents perfect : Bool) (t : Tree) (nodes : List ℕ) (passing : List Bool) (w : IsTree t) (tested : AreTestNodes perfect t nodes) (h : ArePassing agents t nodes passing) where
  -- the passing choices are those that pass
  passing-passes : (profile : List ℕ) → IsProfile (action_counts t) profile → IsTrue (plays_best passing (number_of (action_counts t) profile)) ↔ Passes agents perfect t (choice_at (player_sets t) profile)
  passing-passes profile f =
      let number = number_of (action_counts t) profile in
      let tells = subst (λ v. IsTrue (plays_best passing number) ↔ ((k : ℕ) → Contains nodes k → IsTestedEquilibriumAt agents t (pure (choice_at (player_sets t) v)) k)) (profile_at-number_of (action_counts t) profile f) (h.all_passing number (number_of-below (action_counts t) profile f)) in
      (λ s k m. tells.0 s k (tested.complete k m), λ passes. tells.1 (λ k c. passes k (tested.sound k c)))

  -- the lines stand in order
  lines-in_order : AreInOrder (lines_below (action_counts t) passing (profile_count (action_counts t)))
  lines-in_order =
      let counts = action_counts t in
      listed_below-in_order (rank_line counts) (ranked_plays_best counts passing) (profile_count counts) (λ q r l b. StandsBefore-entries counts (ranked counts q) (ranked counts r) (IsProfile-ranked counts q (omega arith)) (IsProfile-ranked counts r b) (ComesBefore-ranked counts q r l b))

  -- each is that of a choice that passes
  lines-sound : All (IsPassingLine agents perfect t) (lines_below (action_counts t) passing (profile_count (action_counts t)))
  lines-sound =
      let counts = action_counts t in
      listed_below-all (rank_line counts) (ranked_plays_best counts passing) (IsPassingLine agents perfect t) (profile_count counts) (λ r l s.
      let is_profile = IsProfile-ranked counts r l in
      record {
        choice = choice_at (player_sets t) (ranked counts r);
        is_choice = IsWholeChoice-profile t (ranked counts r) w is_profile;
        passes = (passing-passes (ranked counts r) is_profile).0 s;
        is_line = sym (choice_line-at t (ranked counts r) is_profile);
      })

  -- each choice that passes has its line
  lines-complete : (choice : ℕ → ℕ) → IsWholeChoice t choice → Passes agents perfect t choice → Contains (lines_below (action_counts t) passing (profile_count (action_counts t))) (choice_line t choice)
  lines-complete choice whole passes =
      subst (Contains lines) (ap (λ v. entries counts (pure_profile v)) same ∙ sym (tree_entries-profile t choice)) (listed_below-has (rank_line counts) (ranked_plays_best counts passing) (profile_count counts) (rank_of counts profile) (rank_of-below counts profile is_profile) listed)
    where
      counts : List ℕ
      counts = action_counts t

      profile : List ℕ
      profile = map choice (player_sets t)

      lines : List (List ℚ)
      lines = lines_below counts passing (profile_count counts)

      is_profile : IsProfile counts profile
      is_profile = IsProfile-whole t choice whole

      same : ranked counts (rank_of counts profile) ≡ profile
      same = ranked-rank_of counts profile is_profile

      listed : IsTrue (ranked_plays_best counts passing (rank_of counts profile))
      listed =
          subst (λ v. IsTrue (plays_best passing (number_of counts v))) (sym same) ((passing-passes profile is_profile).1 (Passes-same agents perfect t choice (choice_at (player_sets t) profile) w (λ s i l o. sym (choice_at-map choice (player_sets t) s (player_sets-has t s i w l o))) passes))

  -- so they are the lines of the choices that pass
  pub ArePassingLines-lines_below : ArePassingLines agents perfect t (lines_below (action_counts t) passing (profile_count (action_counts t)))
  ArePassingLines-lines_below = record { in_order = lines-in_order; sound = lines-sound; complete = lines-complete }

  -- and their text is that of these choices
  pub IsPassingText-listed : (counts : List ℕ) → counts ≡ action_counts t → IsPassingText agents perfect t (lines_text (lines_below counts passing (length passing)))
  IsPassingText-listed counts e =
      record { lines = lines_below (action_counts t) passing (profile_count (action_counts t)); are_lines = ArePassingLines-lines_below; is_text = ap (λ v. lines_text (lines_below v passing (length passing))) e ∙ ap (λ v. lines_text (lines_below (action_counts t) passing v)) h.of_each }
