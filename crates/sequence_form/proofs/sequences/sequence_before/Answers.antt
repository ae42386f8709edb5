use Rattle.std.proofs.Common.{◌∙◌, None, ap, sym, length, get_or, arith}
use Rattle.game_core.specs.TreeGame.{game_of_tree}
use Rattle.sequence_form.proofs.NumberingLemmas.{before-below, before-by_firsts, before-none, firsts-length, own-step, recall-at, recall-length, sequences-few}
use Rattle.sequence_form.proofs.sequences.sequence_before.Goals as goal

pub bounds : goal.bounds
bounds c = omega (arith, ap length c.before-2.ensures, recall-length (game_of_tree c.args.tree.now) c.args.player c.args.recall.now c.requires.recall, c.requires.set)

pub bounds-firsts-own : goal.bounds-firsts-own
bounds-firsts-own c =
    let g = game_of_tree c.args.tree.now in
    let at = sym (recall-at g c.args.player c.args.recall.now c.args.set c.requires.recall c.requires.set c.requires.own) ∙ ap (λ xs. get_or xs c.args.set None) (sym c.before-2.ensures) ∙ c.in-Some.is in
    let own = own-step g c.args.player c.args.set c.in-Some.own c.in-Some.action c.stands_for_game_tree.ensures.game at in
    omega (arith, own.0, firsts-length g c.args.player c.args.firsts.now c.requires.firsts)

pub overflow_add-result : goal.overflow_add-result
overflow_add-result c =
    let g = game_of_tree c.args.tree.now in
    let at = sym (recall-at g c.args.player c.args.recall.now c.args.set c.requires.recall c.requires.set c.requires.own) ∙ ap (λ xs. get_or xs c.args.set None) (sym c.before-2.ensures) ∙ c.in-Some.is in
    let is = before-by_firsts g c.args.player c.args.set c.in-Some.own c.in-Some.action c.args.firsts.now c.stands_for_game_tree.ensures.game c.requires.firsts at in
    let below = before-below g c.args.player c.args.set c.stands_for_game_tree.ensures.game c.requires.set c.requires.own in
    let few = sequences-few c.args.tree.now c.args.player c.stands_for_game_tree.ensures.valid in
    omega (arith, is, below, few)

pub returns-in-Some : goal.returns-in-Some
returns-in-Some c =
    let g = game_of_tree c.args.tree.now in
    let at = sym (recall-at g c.args.player c.args.recall.now c.args.set c.requires.recall c.requires.set c.requires.own) ∙ ap (λ xs. get_or xs c.args.set None) (sym c.before-2.ensures) ∙ c.in-Some.is in
    before-by_firsts g c.args.player c.args.set c.in-Some.own c.in-Some.action c.args.firsts.now c.stands_for_game_tree.ensures.game c.requires.firsts at

pub returns-in-None : goal.returns-in-None
returns-in-None c =
    let g = game_of_tree c.args.tree.now in
    let at = sym (recall-at g c.args.player c.args.recall.now c.args.set c.requires.recall c.requires.set c.requires.own) ∙ ap (λ xs. get_or xs c.args.set None) (sym c.before-2.ensures) ∙ c.in-None.is in
    sym (before-none g c.args.player c.args.set at)
