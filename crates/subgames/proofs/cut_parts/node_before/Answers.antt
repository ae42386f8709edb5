use Rattle.std.proofs.Common.{◌<◌, length, subst, sym}
use Rattle.subgames.proofs.CutTreeLemmas.{parent-within}
use Rattle.subgames.proofs.cut_parts.node_before.Goals as goal

pub returns-clause-within : goal.returns-clause-within
returns-clause-within c = subst (λ p. p < length c.args.tree.now.nodes) (sym c.parent.ensures) (parent-within c.args.tree.now c.args.node c.stands_for_game_tree.ensures.valid c.stands_for_game_tree.ensures.game c.requires)
