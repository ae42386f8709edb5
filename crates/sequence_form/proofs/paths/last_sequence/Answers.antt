use Rattle.std.proofs.Common.{◌∙◌, Some, ap, sym, arith}
use Rattle.std.proofs.lemmas.Option.{none-some, same_Some}
use Rattle.game_core.specs.TreeGame.{game_of_tree}
use Rattle.sequence_forms.specs.Sequences.{sequence}
use Rattle.sequence_forms.proofs.SequenceLemmas.{sequence-below}
use Rattle.sequence_form.proofs.NumberingLemmas.{action-by_firsts, firsts-length, sequences-few}
use Rattle.sequence_form.proofs.PathStepLemmas.{branch-below, parent-chooses, parent-set, set-below}
use Rattle.sequence_form.proofs.paths.last_sequence.Goals as goal

pub returns-in_default : goal.returns-in_default
returns-in_default c =
    absurd (parent-chooses (game_of_tree c.args.tree.now) c.args.node c.parent.result c.stands_for_game_tree.ensures.game c.requires.later c.requires.node c.parent.ensures c.set_at.result c.set_at.ensures c.in_default.is)

pub bounds-firsts-set : goal.bounds-firsts-set
bounds-firsts-set c =
    let g = game_of_tree c.args.tree.now in
    let below = set-below g c.args.node c.parent.result c.stands_for_game_tree.ensures.game c.requires.later c.requires.node c.parent.ensures c.set_at.result c.in-Some.set c.set_at.ensures c.in-Some.is in
    omega (arith, below, firsts-length g c.args.player c.args.firsts.now c.requires.firsts)

pub overflow_add-result : goal.overflow_add-result
overflow_add-result c =
    let g = game_of_tree c.args.tree.now in
    let below = set-below g c.args.node c.parent.result c.stands_for_game_tree.ensures.game c.requires.later c.requires.node c.parent.ensures c.set_at.result c.in-Some.set c.set_at.ensures c.in-Some.is in
    let branch = branch-below g c.args.node c.parent.result c.stands_for_game_tree.ensures.game c.requires.later c.requires.node c.parent.ensures c.set_at.result c.in-Some.set c.branch-tree.result c.set_at.ensures c.in-Some.is c.branch-tree.ensures in
    let own = sym c.owner.ensures ∙ c.in-Some-owner.is ∙ ap Some c.if-own-player.true in
    let is = action-by_firsts g c.args.player c.in-Some.set c.branch-tree.result c.args.firsts.now c.stands_for_game_tree.ensures.game c.requires.firsts below own in
    let few = sequences-few c.args.tree.now c.args.player c.stands_for_game_tree.ensures.valid in
    omega (arith, is, sequence-below g c.args.player c.in-Some.set c.branch-tree.result below own branch, few)

pub returns-in-Some-owner : goal.returns-in-Some-owner
returns-in-Some-owner c =
    let g = game_of_tree c.args.tree.now in
    let below = set-below g c.args.node c.parent.result c.stands_for_game_tree.ensures.game c.requires.later c.requires.node c.parent.ensures c.set_at.result c.in-Some.set c.set_at.ensures c.in-Some.is in
    let at = parent-set g c.args.node c.parent.result c.stands_for_game_tree.ensures.game c.requires.later c.requires.node c.parent.ensures c.set_at.result c.in-Some.set c.set_at.ensures c.in-Some.is in
    let own = sym c.owner.ensures ∙ c.in-Some-owner.is ∙ ap Some c.if-own-player.true in
    action-by_firsts g c.args.player c.in-Some.set c.branch-tree.result c.args.firsts.now c.stands_for_game_tree.ensures.game c.requires.firsts below own
    ∙ ap (λ a. sequence g c.args.player (Some (c.in-Some.set, a))) c.branch-tree.ensures
    ∙ sym ((c.last_sequences_recur.ensures g c.args.player c.stands_for_game_tree.ensures.game).own c.args.node c.in-Some.set c.requires.later c.requires.node at own)

pub returns-in_default-owner : goal.returns-in_default-owner
returns-in_default-owner c =
    let g = game_of_tree c.args.tree.now in
    let at = parent-set g c.args.node c.parent.result c.stands_for_game_tree.ensures.game c.requires.later c.requires.node c.parent.ensures c.set_at.result c.in-Some.set c.set_at.ensures c.in-Some.is in
    c.requires.above
    ∙ sym ((c.last_sequences_recur.ensures g c.args.player c.stands_for_game_tree.ensures.game).other c.args.node c.in-Some.set c.requires.later c.requires.node at (λ own. c.if-own-player.false (same_Some _ _ (sym c.in-Some-owner.is ∙ c.owner.ensures ∙ own))))

pub returns-in_default-owner-2 : goal.returns-in_default-owner-2
returns-in_default-owner-2 c =
    let g = game_of_tree c.args.tree.now in
    let at = parent-set g c.args.node c.parent.result c.stands_for_game_tree.ensures.game c.requires.later c.requires.node c.parent.ensures c.set_at.result c.in-Some.set c.set_at.ensures c.in-Some.is in
    c.requires.above
    ∙ sym ((c.last_sequences_recur.ensures g c.args.player c.stands_for_game_tree.ensures.game).other c.args.node c.in-Some.set c.requires.later c.requires.node at (λ own. none-some c.args.player (sym c.in_default-owner.is ∙ c.owner.ensures ∙ own)))
