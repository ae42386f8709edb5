-- Cuts that are solved in two ways, where the ends are worth the same, and the sets that stand in cuts.
use Rattle.std.proofs.Common.{ℕ, ◌<◌, ◌≡◌, ◌∙◌, sym, ap, subst, arith, Option, Some, None, List, length, get_or, Ok, Err}
use Rattle.std.specs.Prelude.{◌≢◌}
use Rattle.std.proofs.lemmas.List.{get_or_default}
use Rattle.answers.proofs.AnswerLemmas.{err_same, single-exclude, single-value}
use Rattle.rational.specs.Rational.{ℚ}
use Rattle.game_theory.specs.Behaviour.{Behaviour, payoff}
use Rattle.game_theory.specs.TreeEntries.{tree_entries}
use Rattle.game_theory.specs.Trees.{Tree}
use Rattle.game_core.specs.Tree.{GameTree, IsGameTree}
use Rattle.game_core.specs.TreeGame.{game_of_tree}
use Rattle.game_core.proofs.TreeLaws.{set-used}
use Rattle.verdicts.proofs.AlikeBehaviourLemmas.{AreAlike, value-alike}
use Rattle.verdicts.proofs.SameEntryLemmas.{entries-alike}
use Rattle.subgames.specs.CutGames.{IsCutGame, IsGivenEnd, IsSameSet, cut_behaviour}
use Rattle.subgames.specs.CutLaws.{SetsStandInOneCut, StandsInCut}
use Rattle.subgames.specs.CutTrees.{AgreeAtEnds, IsCutAt}
use Rattle.subgames.specs.MadeCuts.{MadeCut}
use Rattle.subgames.specs.Roots.{IsSubgameRoot}
use Rattle.subgames.proofs.CutSingleLemmas.{cuts-single}
use Rattle.refusals.specs.declared.refusal.Refusal.{Refusal}
use Rattle.two_player_tools.specs.Perfect.{IsSolvedAt, IsStoppedAt, cut_entries_in}
use Rattle.two_player_tools.specs.declared.forms.Method.{Method}
use Rattle.two_player_tools.proofs.CutAnswerLemmas.{cut_entries_in-single}
use Rattle.two_player_tools.proofs.FormSingleLemmas.{RecallsAreSingle}
use Rattle.two_player_tools.proofs.KeptPropertyLemmas.{TreesAreGames}

-- ---- sets
-- a set that is named is one of the sets
set-named : (sets : List ℕ) (s : ℕ) (name : Option ℕ) → IsSameSet sets (Some s) name → (r : ℕ) × (r < length sets) × (get_or sets r 0 ≡ s)
set-named sets s None h = absurd h
set-named sets s (Some r) h = (r, h.0, h.1)

-- a set that stands in a cut is one of its sets
pub set-in_cut : (t : Tree) (n : ℕ) (worth : ℕ → ℕ → ℚ) (nodes sets : List ℕ) (c : Tree) (s : ℕ) → IsCutGame t n worth nodes sets c → StandsInCut t n s → (r : ℕ) × (r < c.sets) × (get_or sets r 0 ≡ s)
set-in_cut t n worth nodes sets c s g stands =
    let found = g.are_nodes.complete stands.0 stands.1 in
    let is : get_or nodes found.0 0 ≡ stands.0 = get_or_default nodes found.0 0 stands.0 found.1 ∙ found.2 in
    let node = g.same_nodes found.0 (omega (arith, found.1, g.size)) in
    let own = (node.own (λ given. stands.2 (subst (IsGivenEnd t n) is given))).0 in
    let named = set-named sets s (c.set found.0) (subst (λ set. IsSameSet sets set (c.set found.0)) (ap t.set is ∙ stands.3) own) in
    (named.0, omega (arith, named.1, g.as_many_sets), named.2)

-- each set of a tree stands in some cut, so what no cut leaves is not so
pub set-in_some_cut : (t : GameTree) (s : ℕ) → SetsStandInOneCut → TreesAreGames → IsGameTree t → s < length t.sets → ((n : ℕ) → n < length t.nodes → IsSubgameRoot (game_of_tree t) n → ¬ StandsInCut (game_of_tree t) n s) → ⊥
set-in_some_cut t s law laws w below none =
    let used = set-used t w s below in
    let home = law.some (game_of_tree t) used.0 s (laws.game_tree t w) used.1 used.2 in
    none home.0 home.1 home.2 home.3

-- ---- solved cuts
module _ (method : Method) (t : GameTree) (laws : TreesAreGames) (recalls : RecallsAreSingle) (w : IsGameTree t) (worth other : ℕ → ℕ → ℚ) (n : ℕ) (inside : n < length t.nodes) (agree : AgreeAtEnds t n worth other) where
  -- there is one cut
  one-cut : (cut cut_too : MadeCut) → IsCutAt t n worth cut.nodes cut.sets cut.tree → IsCutAt t n other cut_too.nodes cut_too.sets cut_too.tree → cut_too ≡ cut
  one-cut cut cut_too one two =
      let same = cuts-single laws.numbered t n worth other cut.nodes cut.sets cut_too.nodes cut_too.sets cut.tree cut_too.tree w inside agree one two in
      let nodes = sym same.0 in
      let sets = sym same.1 in
      let tree = sym same.2 in
      λ p. record { tree = tree p; nodes = nodes p; sets = sets p }

  -- it does not both stop and have a solution
  pub solved-or_stopped : (b : Behaviour) (r : Refusal) → IsSolvedAt method t worth b n → IsStoppedAt method t other n r → ⊥
  solved-or_stopped b r h k =
      single-exclude (cut_entries_in method n h.cut) _ r (cut_entries_in-single method n h.cut laws recalls h.is_cut.is_cut.is_tree) h.solved
      (subst (λ cut. cut_entries_in method n cut (Err r)) (one-cut h.cut k.cut h.is_cut k.is_cut) k.stops)

  -- it stops for one reason
  pub stopped-same : (r q : Refusal) → IsStoppedAt method t worth n r → IsStoppedAt method t other n q → r ≡ q
  stopped-same r q h k =
      err_same r q (cut_entries_in-single method n h.cut laws recalls h.is_cut.is_cut.is_tree (Err r) (Err q) h.stops
      (subst (λ cut. cut_entries_in method n cut (Err q)) (one-cut h.cut k.cut h.is_cut k.is_cut) k.stops))

  module _ (b d : Behaviour) (h : IsSolvedAt method t worth b n) (k : IsSolvedAt method t other d n) where
    -- both are of one cut
    same : k.cut ≡ h.cut
    same = one-cut h.cut k.cut h.is_cut k.is_cut

    -- two behaviours that solve it are the same at its players' sets
    pub solved-alike : AreAlike (game_of_tree h.cut.tree) (cut_behaviour h.cut.sets b) (cut_behaviour h.cut.sets d)
    solved-alike =
        entries-alike (game_of_tree h.cut.tree) (cut_behaviour h.cut.sets b) (cut_behaviour h.cut.sets d) (laws.game_tree h.cut.tree h.is_cut.is_cut.is_tree)
        (single-value (cut_entries_in method n h.cut) _ _ (cut_entries_in-single method n h.cut laws recalls h.is_cut.is_cut.is_tree) h.solved
        (subst (λ (cut : MadeCut). cut_entries_in method n cut (Ok (tree_entries (game_of_tree cut.tree) (cut_behaviour cut.sets d)))) same k.solved))

    -- and the node is worth the same
    pub solved-worth : n ≢ 0 → (i : ℕ) → i < length t.players → worth n i ≡ other n i
    solved-worth later i player =
        let tree = laws.game_tree h.cut.tree h.is_cut.is_cut.is_tree in
        h.worth_is later i player ∙ value-alike (game_of_tree h.cut.tree) (cut_behaviour h.cut.sets b) (cut_behaviour h.cut.sets d) tree solved-alike i 0 tree.some_node
        ∙ sym (subst (λ (cut : MadeCut). other n i ≡ payoff (game_of_tree cut.tree) (cut_behaviour cut.sets d) i) same (k.worth_is later i player))
