use Rattle.std.proofs.Common.{◌≡◌, map, take}
use Rattle.game_theory.specs.OwnSets.{own_sets}
use Rattle.game_core.specs.TreeGame.{game_of_tree}
use Rattle.strategy_lists.proofs.strategies.own_action_counts.Given as goal

-- the numbers of actions of the player's own sets so far
abbrev pub invariant-loop-set : goal.invariant-loop-set
invariant-loop-set l = l.counts.items ≡ map (game_of_tree l.tree).actions (take l.set-index (own_sets (game_of_tree l.tree) l.player))
