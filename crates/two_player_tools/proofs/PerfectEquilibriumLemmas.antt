-- What is found subgame by subgame is an equilibrium in every subgame.
use Rattle.std.proofs.Common.{ℕ, zero, suc, ◌+◌, ◌<◌, ◌≤◌, ◌≡◌, ◌≢◌, ◌∙◌, inl, inr, sym, ap, subst₂, arith, Some, List, length, get_or, Ok}
use Rattle.answers.proofs.AnswerLemmas.{ok_same}
use Rattle.rational.specs.Rational.{ℚ, ◌≤ℚ◌, zero_ℚ, one_ℚ}
use Rattle.rational.specs.Sum.{sum_to}
use Rattle.rational.proofs.Decide.{eq_or_ne}
use Rattle.rational.proofs.Field.{le_or_lt, not_lt_of_le}
use Rattle.game_theory.specs.Behaviour.{Behaviour, IsValid, value}
use Rattle.game_theory.specs.Lines.{line_text}
use Rattle.game_theory.specs.TreeEquilibrium.{IsEquilibrium}
use Rattle.game_theory.specs.Trees.{IsTree}
use Rattle.game_core.specs.Tree.{GameTree, IsGameTree}
use Rattle.game_core.specs.TreeGame.{game_of_tree}
use Rattle.verdicts.proofs.AlikeBehaviourLemmas.{equilibrium-alike}
use Rattle.verdicts.proofs.SameEntryLemmas.{entries-alike}
use Rattle.subgames.specs.CutGames.{cut_behaviour}
use Rattle.subgames.specs.CutLaws.{AreValuesAtEnds, IsCutEquilibrium, SetsStandInOneCut, StandsInCut}
use Rattle.subgames.specs.Roots.{IsSubgameRoot}
use Rattle.subgames.specs.Perfect.{IsSubgamePerfect}
use Rattle.subgames.proofs.CutEquilibriumLemmas.{cut_equilibria_are_perfect}
use Rattle.subgames.proofs.CutNodeLemmas.{cut-first}
use Rattle.subgames.proofs.CutValueLemmas.{cuts_keep_values}
use Rattle.subgames.proofs.CutWalkLemmas.{cut-after}
use Rattle.two_player_tools.specs.Perfect.{IsSolvedAt, perfect_text}
use Rattle.two_player_tools.specs.PerfectTexts.{IsPerfectText}
use Rattle.two_player_tools.specs.declared.forms.Method.{Method}
use Rattle.two_player_tools.proofs.CutAnswerLemmas.{entries_by-equilibrium}
use Rattle.two_player_tools.proofs.KeptPropertyLemmas.{TreesAreGames}
use Rattle.two_player_tools.proofs.SolvedCutLemmas.{set-in_cut, set-in_some_cut}

module _ (method : Method) (t : GameTree) (law : SetsStandInOneCut) (laws : TreesAreGames) (w : IsGameTree t) (worth : ℕ → ℕ → ℚ) (b : Behaviour)
    (h : (n : ℕ) → n < length t.nodes → IsSubgameRoot (game_of_tree t) n → IsSolvedAt method t worth b n) where
  -- the tree is one as a game
  tree : IsTree (game_of_tree t)
  tree = laws.game_tree t w

  -- each cut has an equilibrium
  cut-equilibrium : (n : ℕ) (inside : n < length t.nodes) (root : IsSubgameRoot (game_of_tree t) n) → let one = h n inside root in IsEquilibrium (game_of_tree one.cut.tree) (cut_behaviour one.cut.sets b)
  cut-equilibrium n inside root =
      let one = h n inside root in
      let c = game_of_tree one.cut.tree in
      let own = cut_behaviour one.cut.sets b in
      let valid = one.is_cut.is_cut.is_tree in
      let found = one.solved in
      let is = entries_by-equilibrium method one.cut.tree found.0 laws valid found.1 in
      let same = ok_same _ _ found.2.2 in
      equilibrium-alike c is.0 own (laws.game_tree one.cut.tree valid) (entries-alike c is.0 own (laws.game_tree one.cut.tree valid) (sym is.2 ∙ sym same)) is.1

  -- a node at which a subgame begins is worth its value
  worth-value : (m n : ℕ) → length t.nodes ≤ m + n → n < length t.nodes → n ≢ 0 → IsSubgameRoot (game_of_tree t) n → (i : ℕ) → i < length t.players → worth n i ≡ value (game_of_tree t) b i n
  worth-value zero n enough inside later root i player = absurd (omega (arith, enough, inside))
  worth-value (suc m) n enough inside later root i player =
      let one = h n inside root in
      let c = game_of_tree one.cut.tree in
      let cut_tree = laws.game_tree one.cut.tree one.is_cut.is_cut.is_tree in
      let g = one.is_cut.is_cut.is_cut in
      let ends : AreValuesAtEnds (game_of_tree t) n worth b i = λ k stands given. (let after = cut-after (game_of_tree t) tree n k stands in worth-value m k (omega (arith, enough, after, given.1)) stands.0 (λ first. omega (arith, after, given.1, first)) given.0 i player) in
      one.worth_is later i player ∙ cuts_keep_values (game_of_tree t) n worth one.cut.nodes one.cut.sets c b i 0 tree cut_tree g player ends cut_tree.some_node
      ∙ ap (value (game_of_tree t) b i) (cut-first (game_of_tree t) n worth one.cut.nodes one.cut.sets c tree cut_tree g inside)

  -- so each cut has an equilibrium where its ends have their values
  cut-valued : (n : ℕ) → n < length t.nodes → IsSubgameRoot (game_of_tree t) n → IsCutEquilibrium (game_of_tree t) b n
  cut-valued n inside root = let one = h n inside root in record {
    worth = worth;
    nodes = one.cut.nodes;
    sets = one.cut.sets;
    cut = game_of_tree one.cut.tree;
    is_tree = laws.game_tree one.cut.tree one.is_cut.is_cut.is_tree;
    is_cut = one.is_cut.is_cut.is_cut;
    values = λ i player k stands given. let after = cut-after (game_of_tree t) tree n k stands in worth-value (length t.nodes) k (omega arith) stands.0 (λ first. omega (arith, after, given.1, first)) given.0 i player;
    equilibrium = cut-equilibrium n inside root;
  }

  -- what holds at each set of each cut is not refuted at a set of the tree
  at_set : (s : ℕ) (P : ℕ → ℕ → Type 0) → s < length t.sets
      → ((n : ℕ) (inside : n < length t.nodes) (root : IsSubgameRoot (game_of_tree t) n) → let one = h n inside root in (r : ℕ) → r < length one.cut.tree.sets
      → (game_of_tree one.cut.tree).owner r ≡ (game_of_tree t).owner (get_or one.cut.sets r 0) → P ((game_of_tree one.cut.tree).actions r) (get_or one.cut.sets r 0))
      → ¬ P ((game_of_tree t).actions s) s → ⊥
  at_set s P below holds fails = set-in_some_cut t s law laws w below none
    where
      none : (n : ℕ) → n < length t.nodes → IsSubgameRoot (game_of_tree t) n → ¬ StandsInCut (game_of_tree t) n s
      none n inside root stands =
          let one = h n inside root in
          let g = one.is_cut.is_cut.is_cut in
          let at = set-in_cut (game_of_tree t) n worth one.cut.nodes one.cut.sets (game_of_tree one.cut.tree) s g stands in
          fails (subst₂ P (g.actions at.0 at.1 ∙ ap (game_of_tree t).actions at.2) at.2 (holds n inside root at.0 at.1 (g.owners at.0 at.1)))

  -- the behaviour is valid
  valid : IsValid (game_of_tree t) b
  valid s i below owned = record {
    not_negative = λ a action. elim (le_or_lt zero_ℚ (b s a)) [
      | inl least ↦ least
      | inr less ↦ absurd (at_set s (λ m s. (game_of_tree t).owner s ≡ Some i → a < m → zero_ℚ ≤ℚ b s a) below
          (λ n inside root r few owner own among. ((cut-equilibrium n inside root).valid r i few (owner ∙ own)).not_negative a among)
          (λ fits. not_lt_of_le zero_ℚ (b s a) (fits owned action) less))
    ];
    sum_is_one = elim (eq_or_ne (sum_to ((game_of_tree t).actions s) (b s)) one_ℚ) [
      | inl same ↦ same
      | inr apart ↦ absurd (at_set s (λ m s. (game_of_tree t).owner s ≡ Some i → sum_to m (b s) ≡ one_ℚ) below
          (λ n inside root r few owner own. ((cut-equilibrium n inside root).valid r i few (owner ∙ own)).sum_is_one)
          (λ sums. apart (sums owned)))
    ];
  }

  -- so it is an equilibrium in every subgame
  is_perfect : IsSubgamePerfect (game_of_tree t) b
  is_perfect = record { valid = valid; equilibria = cut_equilibria_are_perfect (game_of_tree t) b tree cut-valued }

-- each text is the line of such behaviour
pub perfect_texts : SetsStandInOneCut → TreesAreGames → (method : Method) (t : GameTree) (text : List ℕ) → IsGameTree t → perfect_text method t (Ok text) → IsPerfectText t text
perfect_texts law laws method t text w (_, _, (_, _, (entries, (worth, b, h, e), is))) =
    (b, is_perfect method t law laws w worth b (λ n below root. h n (omega arith) below root), ok_same text (line_text entries) is ∙ ap line_text e)
