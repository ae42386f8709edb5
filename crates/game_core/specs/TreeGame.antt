-- The game that a tree stands for.
use Rattle.std.specs.Prelude.{ℕ, List, [], length, map, slice_index_or, Option, Some, None, unwrap_or}
use Rattle.rational.specs.Rational.{ℚ, zero_ℚ}
use Rattle.rational.specs.Sum.{entry_at}
use Rattle.game_theory.specs.Trees.{Tree}
use Rattle.game_core.specs.Tree.{GameTree, TreeOutcome, action_count, probability_at}

-- what the outcome of a node pays player i, and 0 where it has none
abbrev pub outcome_pays : List TreeOutcome → Option ℕ → ℕ → ℚ
outcome_pays outcomes None i = zero_ℚ
outcome_pays outcomes (Some o) i =
    entry_at (slice_index_or (map (λ outcome. outcome.payoffs) outcomes) o []) i

-- the game in extensive form that a tree stands for
abbrev pub game_of_tree : GameTree → Tree
game_of_tree t = record {
  players = length t.players;
  size = length t.nodes;
  parent = λ k. unwrap_or (slice_index_or (map (λ node. node.parent) t.nodes) k None) 0;
  branch = λ k. slice_index_or (map (λ node. node.branch) t.nodes) k 0;
  set = λ k. slice_index_or (map (λ node. node.set) t.nodes) k None;
  pays =
      λ k i. outcome_pays t.outcomes (slice_index_or (map (λ node. node.outcome) t.nodes) k None) i;
  sets = length t.sets;
  owner = λ s. slice_index_or (map (λ set. set.owner) t.sets) s None;
  actions = λ s. action_count t.sets (Some s);
  chance = λ s a. probability_at (slice_index_or (map (λ set. set.actions) t.sets) s []) a;
}
