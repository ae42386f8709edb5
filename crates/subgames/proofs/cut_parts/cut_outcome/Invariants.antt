use Rattle.std.proofs.Common.{◌≡◌, map}
use Rattle.std.specs.List.{range_with_len}
use Rattle.game_core.specs.TreeGame.{game_of_tree}
use Rattle.subgames.specs.CutParts.{cut_pays}
use Rattle.subgames.proofs.cut_parts.cut_outcome.Given as goal

abbrev pub invariant-loop-player : goal.invariant-loop-player
invariant-loop-player l =
    l.payoffs.items ≡ map (cut_pays (game_of_tree l.tree) l.begins l.root l.worth l.node) (range_with_len 0 l.player)
