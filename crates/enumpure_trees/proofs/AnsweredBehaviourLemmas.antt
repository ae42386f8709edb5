-- A tree has a text of equilibria as behaviour, or one that is too long.
use Rattle.std.proofs.Common.{ℕ, ◌≡◌, ◌↔◌, Bool, IsTrue, List, length, map, All, Contains, refl, sym, ap, ◌∙◌, subst, arith}
use Rattle.answers.specs.Answered.{IsAnswered}
use Rattle.lists.proofs.DeniedLemmas.{AreFlags, flags_below}
use Rattle.rational.specs.Rational.{ℚ}
use Rattle.game_theory.specs.Lines.{AreInOrder, entries, lines_text}
use Rattle.game_theory.specs.Mixed.{pure as pure_profile}
use Rattle.game_theory.specs.OwnSets.{action_counts, player_sets}
use Rattle.game_theory.specs.Profiles.{IsProfile, number_of, profile_at, profile_count}
use Rattle.game_theory.specs.Ranks.{ranked}
use Rattle.game_theory.specs.Trees.{Tree, IsTree}
use Rattle.game_theory.proofs.PlayerSetLemmas.{IsProfile-whole, tree_entries-profile}
use Rattle.game_theory.proofs.ProfileLineLemmas.{StandsBefore-entries}
use Rattle.game_theory.proofs.ProfileNumberLemmas.{number_of-below, profile_at-number_of}
use Rattle.game_theory.proofs.RankLemmas.{ComesBefore-ranked, IsProfile-ranked, rank_of, rank_of-below, ranked-rank_of}
use Rattle.reduced_strategies.specs.StrategicForm.{AreStrategies, completed}
use Rattle.reduced_strategies.proofs.TreeEquilibriaLemmas.{equilibria-same}
use Rattle.enumpure.specs.Ranks.{lines_below, rank_line, ranked_plays_best}
use Rattle.enumpure.specs.Replies.{plays_best}
use Rattle.enumpure.proofs.AnsweredTextLemmas.{within_text_limit-answered}
use Rattle.enumpure.proofs.ListedLineLemmas.{listed_below-all, listed_below-has, listed_below-in_order}
use Rattle.enumpure_trees.specs.Stops.{behaviour_text}
use Rattle.enumpure_trees.specs.TreeEquilibria.{profile_line, IsFormEquilibrium, IsTreeEquilibriumLine, AreTreeEquilibria, IsTreeEquilibriaText}
use Rattle.enumpure_trees.proofs.EquilibriumLineLemmas.{completed-actions}

-- the actions at the players' sets are those of an equilibrium
record AreOfEquilibrium (t : Tree) (strategies : List (List (List ℕ))) (actions : List ℕ) : Type 0 where
  pub profile : List ℕ
  pub is_profile : IsProfile (map length strategies) profile
  pub is_equilibrium : IsFormEquilibrium t strategies profile
  pub actions_are : map (completed t strategies profile) (player_sets t) ≡ actions

-- the numbers of the actions of equilibria pass
abbrev AreEquilibriumFlags : Tree → List (List (List ℕ)) → List Bool → Type 0
AreEquilibriumFlags t strategies =
    AreFlags (λ n. AreOfEquilibrium t strategies (profile_at (action_counts t) n)) (profile_count (action_counts t))

module _ (t : Tree) (strategies : List (List (List ℕ))) (passes : List Bool) (w : IsTree t) (a : AreStrategies t strategies) (h : AreEquilibriumFlags t strategies passes) where
  abbrev counts : List ℕ
  counts = action_counts t

  -- the lines of the actions whose numbers pass
  abbrev lines : List (List ℚ)
  lines = lines_below counts passes (profile_count counts)

  -- the number of actions tells whether they are those of an equilibrium
  passes-tell : (actions : List ℕ) → IsProfile counts actions → IsTrue (plays_best passes (number_of counts actions)) ↔ AreOfEquilibrium t strategies actions
  passes-tell actions f =
      subst (λ v. IsTrue (plays_best passes (number_of counts actions)) ↔ AreOfEquilibrium t strategies v) (profile_at-number_of counts actions f) (h.1 (number_of counts actions) (number_of-below counts actions f))

  -- the lines stand in order
  lines-in_order : AreInOrder lines
  lines-in_order =
      listed_below-in_order (rank_line counts) (ranked_plays_best counts passes) (profile_count counts) (λ q r l b. StandsBefore-entries counts (ranked counts q) (ranked counts r) (IsProfile-ranked counts q (omega arith)) (IsProfile-ranked counts r b) (ComesBefore-ranked counts q r l b))

  -- each is that of an equilibrium
  lines-sound : All (IsTreeEquilibriumLine t strategies) lines
  lines-sound =
      listed_below-all (rank_line counts) (ranked_plays_best counts passes) (IsTreeEquilibriumLine t strategies) (profile_count counts) (λ r l s.
      let found = (passes-tell (ranked counts r) (IsProfile-ranked counts r l)).0 s in
      record {
        profile = found.profile;
        is_profile = found.is_profile;
        is_equilibrium = found.is_equilibrium;
        no_better_reply = (equilibria-same t strategies found.profile w a found.is_profile).0 found.is_equilibrium;
        is_line = sym (tree_entries-profile t (completed t strategies found.profile) ∙ ap (λ v. entries counts (pure_profile v)) found.actions_are);
      })

  -- each equilibrium has its line
  lines-complete : (profile : List ℕ) → IsProfile (map length strategies) profile → IsFormEquilibrium t strategies profile → Contains lines (profile_line t strategies profile)
  lines-complete profile f e =
      let actions = map (completed t strategies profile) (player_sets t) in
      let are_actions : IsProfile counts actions = IsProfile-whole t (completed t strategies profile) (completed-actions t strategies profile w a f) in
      let same = ranked-rank_of counts actions are_actions in
      let listed = (passes-tell actions are_actions).1 (record { profile = profile; is_profile = f; is_equilibrium = e; actions_are = refl }) in
      subst (Contains lines) (ap (λ v. entries counts (pure_profile v)) same ∙ sym (tree_entries-profile t (completed t strategies profile)))
      (listed_below-has (rank_line counts) (ranked_plays_best counts passes) (profile_count counts) (rank_of counts actions) (rank_of-below counts actions are_actions) (subst (λ v. IsTrue (plays_best passes (number_of counts v))) (sym same) listed))

  lines-are : AreTreeEquilibria t strategies lines
  lines-are = record { in_order = lines-in_order; sound = lines-sound; complete = lines-complete }

pub behaviour_text-answered : (t : Tree) (strategies : List (List (List ℕ))) → IsTree t → AreStrategies t strategies → IsAnswered (behaviour_text t strategies)
behaviour_text-answered t strategies w a = within_text_limit-answered (IsTreeEquilibriaText t strategies) (λ none.
    flags_below (λ n. AreOfEquilibrium t strategies (profile_at (action_counts t) n)) (profile_count (action_counts t)) (λ passes.
    none (lines_text (lines t strategies passes.0 w a passes.1)) (record { lines = lines t strategies passes.0 w a passes.1; are_lines = lines-are t strategies passes.0 w a passes.1; is_text = refl })))
