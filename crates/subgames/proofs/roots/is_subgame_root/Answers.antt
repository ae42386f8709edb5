use Rattle.std.proofs.Common.{arith}
use Rattle.game_core.specs.TreeGame.{game_of_tree}
use Rattle.subgames.proofs.RootLemmas.{root-whole}
use Rattle.subgames.proofs.roots.is_subgame_root.Goals as goal

pub returns-then-begins_alone : goal.returns-then-begins_alone
returns-then-begins_alone c = root-whole (game_of_tree c.args.tree.now) c.args.node c.has_whole_sets.result (λ e. absurd (omega arith)) (c.begins_alone.ensures.0 c.if-begins_alone.true) c.has_whole_sets.ensures
