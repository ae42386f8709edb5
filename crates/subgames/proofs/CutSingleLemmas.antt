-- A tree has one cut at a node where the ends are worth the same.
use Rattle.std.proofs.Common.{ℕ, ◌≡◌, List, sym, ◌∙◌, subst, arith}
use Rattle.rational.specs.Rational.{ℚ}
use Rattle.game_theory.specs.FirstNodes.{AreNumberedByFirstNodes}
use Rattle.game_core.specs.Tree.{GameTree, IsGameTree}
use Rattle.game_core.specs.TreeGame.{game_of_tree}
use Rattle.game_core.proofs.TreeLaws.{set-used}
use Rattle.subgames.specs.CutTrees.{AgreeAtEnds, CutsAreSingle, IsCutAt}
use Rattle.subgames.proofs.CutNumberLemmas.{cut_nodes-same, cut_sets-same}
use Rattle.subgames.proofs.CutPartLemmas.{nodes-same, outcomes-same}
use Rattle.subgames.proofs.CutNumberedSetLemmas.{sets-same}

module _ (t : GameTree) (n : ℕ) (worth other : ℕ → ℕ → ℚ) (cut cut_too : GameTree) (numbered : (tree : GameTree) → IsGameTree tree → AreNumberedByFirstNodes (game_of_tree tree)) where
  -- two cuts with the same nodes and the same sets
  cut-same : (nodes sets : List ℕ) → AgreeAtEnds t n worth other → IsCutAt t n worth nodes sets cut → IsCutAt t n other nodes sets cut_too → cut ≡ cut_too
  cut-same nodes sets agree one two =
      let titles = one.is_bare.title ∙ sym two.is_bare.title in
      let names = one.is_bare.names ∙ sym two.is_bare.names in
      let node_parts = nodes-same t n worth other nodes sets cut cut_too agree one two numbered in
      let set_parts = sets-same t n worth other nodes sets cut cut_too one two numbered in
      let outcome_parts = outcomes-same t n worth other nodes sets cut cut_too agree one two numbered in
      λ p. record { title = titles p; players = names p; nodes = node_parts p; sets = set_parts p; outcomes = outcome_parts p }

  -- two cuts with the same nodes have the same sets
  numbers-same : (nodes sets sets_too : List ℕ) → IsCutAt t n worth nodes sets cut → IsCutAt t n other nodes sets_too cut_too → sets ≡ sets_too
  numbers-same nodes sets sets_too one two =
      let g = one.is_cut.is_cut in
      let h = two.is_cut.is_cut in
      cut_sets-same (game_of_tree t) n worth other nodes sets sets_too (game_of_tree cut) (game_of_tree cut_too) g h (numbered cut one.is_cut.is_tree) (numbered cut_too two.is_cut.is_tree)
      (λ r below. let at = set-used cut one.is_cut.is_tree r (omega (arith, below, g.as_many_sets)) in (at.0, omega (arith, at.1, g.size), at.2))
      (λ r below. let at = set-used cut_too two.is_cut.is_tree r (omega (arith, below, h.as_many_sets)) in (at.0, omega (arith, at.1, h.size), at.2))

-- the law of single cuts, where the sets of trees are numbered by their first nodes
pub cuts-single : ((tree : GameTree) → IsGameTree tree → AreNumberedByFirstNodes (game_of_tree tree)) → CutsAreSingle
cuts-single numbered t n worth other nodes sets nodes_too sets_too cut cut_too valid inside agree one two =
    let same_nodes = cut_nodes-same (game_of_tree t) n worth other nodes nodes_too sets sets_too (game_of_tree cut) (game_of_tree cut_too) one.is_cut.is_cut two.is_cut.is_cut in
    let at_nodes : IsCutAt t n other nodes sets_too cut_too = subst (λ ks. IsCutAt t n other ks sets_too cut_too) (sym same_nodes) two in
    let same_sets = numbers-same t n worth other cut cut_too numbered nodes sets sets_too one at_nodes in
    let at_sets : IsCutAt t n other nodes sets cut_too = subst (λ rs. IsCutAt t n other nodes rs cut_too) (sym same_sets) at_nodes in
    (same_nodes, same_sets, cut-same t n worth other cut cut_too numbered nodes sets agree one at_sets)
