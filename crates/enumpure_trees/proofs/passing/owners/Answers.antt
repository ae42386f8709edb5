use Rattle.std.proofs.Common.{◌<◌, All, length, sym, subst, arith}
use Rattle.game_core.specs.TreeGame.{game_of_tree}
use Rattle.game_theory.proofs.PlayerSetLemmas.{player_sets-within}
use Rattle.enumpure_trees.proofs.passing.owners.Goals as goal

pub owner-requires : goal.owner-requires
owner-requires c = subst (All (λ s. s < length c.args.tree.now.sets)) (sym c.requires) (player_sets-within (game_of_tree c.args.tree.now)) c.loop-set.set-index 0 (omega arith)
