-- A cut and what is given at its ends.
use Rattle.std.proofs.Common.{ℕ, ◌<◌, ◌≡◌, List, get_or, ◌∙◌, arith}
use Rattle.std.proofs.lemmas.List.Elements.{Contains-get_or}
use Rattle.rational.specs.Rational.{ℚ}
use Rattle.game_core.specs.Tree.{GameTree}
use Rattle.game_core.specs.TreeGame.{game_of_tree}
use Rattle.game_theory.specs.Trees.{Tree}
use Rattle.subgames.specs.CutGames.{IsCutGame, IsGivenEnd, IsInCut, IsSameNode}
use Rattle.subgames.specs.CutTrees.{AgreeAtEnds, IsCutAt}

-- a node of a cut is the same node where it is given the same
same-node : (t : Tree) (n : ℕ) (worth other : ℕ → ℕ → ℚ) (sets : List ℕ) (c : Tree) (j k : ℕ)
    → (IsGivenEnd t n k → (i : ℕ) → i < t.players → worth k i ≡ other k i) → IsSameNode t n worth sets c j k → IsSameNode t n other sets c j k
same-node t n worth other sets c j k same h = record {
  given = λ end. let was = h.given end in (was.0, λ i player. was.1 i player ∙ same end i player);
  own = h.own;
}

-- a cut is the same cut where its ends are given the same
same-game : (t : Tree) (n : ℕ) (worth other : ℕ → ℕ → ℚ) (nodes sets : List ℕ) (c : Tree)
    → ((k i : ℕ) → i < t.players → IsInCut t n k → IsGivenEnd t n k → worth k i ≡ other k i) → IsCutGame t n worth nodes sets c → IsCutGame t n other nodes sets c
same-game t n worth other nodes sets c agree g = record {
  players = g.players;
  are_nodes = g.are_nodes;
  size = g.size;
  parents = g.parents;
  branches = g.branches;
  same_nodes = λ j below.
      let k = get_or nodes j 0 in
      let inside = g.are_nodes.sound k (Contains-get_or nodes j 0 (omega (arith, below, g.size))) in
      same-node t n worth other sets c j k (λ end i player. agree k i player inside end) (g.same_nodes j below);
  as_many_sets = g.as_many_sets;
  sets_within = g.sets_within;
  sets_differ = g.sets_differ;
  owners = g.owners;
  actions = g.actions;
  chances = g.chances;
}

-- so it is as a tree
pub same_worth : (t : GameTree) (n : ℕ) (worth other : ℕ → ℕ → ℚ) (nodes sets : List ℕ) (cut : GameTree) → AgreeAtEnds t n worth other → IsCutAt t n worth nodes sets cut → IsCutAt t n other nodes sets cut
same_worth t n worth other nodes sets cut agree h = record {
  is_cut = record {
    is_tree = h.is_cut.is_tree;
    is_cut = same-game (game_of_tree t) n worth other nodes sets (game_of_tree cut) agree h.is_cut.is_cut;
    labels = h.is_cut.labels;
  };
  is_bare = h.is_bare;
}
