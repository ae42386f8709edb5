use Rattle.std.proofs.Common.{subst}
use Rattle.game_theory.specs.OwnSets.{Chooses, NobodyChooses}
use Rattle.game_core.specs.TreeGame.{game_of_tree}
use Rattle.game_core.proofs.LastMoveLemmas.{down-nobody, down-player}
use Rattle.game_core.proofs.moves.descend.Goals as goal

pub returns-in-Some : goal.returns-in-Some
returns-in-Some c =
    let g = game_of_tree c.args.tree.now in
    let owner = subst (λ k. Chooses g k c.in-Some.player c.in-Some.set) c.parent-above.ensures c.in-Some.ensures in
    down-player g c.args.node c.args.last.now c.stands_for_game_tree.ensures.game c.requires.later c.requires.within c.in-Some.player c.in-Some.set owner c.parent-above.result c.branch-tree.result c.parent-above.ensures c.branch-tree.ensures c.requires.last

pub returns-in_default : goal.returns-in_default
returns-in_default c =
    let g = game_of_tree c.args.tree.now in
    down-nobody g c.args.node c.args.last.now c.stands_for_game_tree.ensures.game c.requires.later c.requires.within (subst (NobodyChooses g) c.parent-above.ensures c.in_default.ensures) c.requires.last
