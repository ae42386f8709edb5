use Rattle.std.proofs.Common.{◌≡◌, ◌<◌, ◌∙◌, Some, ap, sym, get_or, take, length, map, slice_get, arith}
use Rattle.std.proofs.lemmas.List.{take_all}
use Rattle.std.proofs.lemmas.Option.{slice_get-get_or}
use Rattle.game_core.specs.TreeGame.{game_of_tree}
use Rattle.game_theory.proofs.IndexLemmas.{numbers_with-tell}
use Rattle.sequence_form.specs.Sequences.{own_set_row}
use Rattle.sequence_form.proofs.NumberingLemmas.{first-at, firsts-length, same_side}
use Rattle.sequence_form.proofs.sequences.side.Goals as goal
use Rattle.sequence_form.proofs.sequences.side.Goals.{In-loop-set}

-- the set that is read is an own set
own : (c : In-loop-set) → let t = game_of_tree c.args.tree.now in let s = get_or c.sets_of-set-items.result.now c.loop-set.set-index 0 in (s < t.sets) × (t.owner s ≡ Some c.args.player)
own c =
    let t = game_of_tree c.args.tree.now in
    let sets = c.sets_of-set-items.result.now in
    let k = c.loop-set.set-index in
    let told = numbers_with-tell t.owner c.args.player t.sets k (get_or sets k 0) (ap (λ own. slice_get own k) (sym c.sets_of-set-items.ensures) ∙ slice_get-get_or sets k 0 c.loop-set-test.true) in
    (told.0, told.1)

pub own_set_row-requires-clause-set : goal.own_set_row-requires-clause-set
own_set_row-requires-clause-set c = (own (goal.at.own_set_row-requires-clause-set c).In-loop-set).0

pub own_set_row-requires-clause-own : goal.own_set_row-requires-clause-own
own_set_row-requires-clause-own c = (own (goal.at.own_set_row-requires-clause-own c).In-loop-set).1

pub bounds-firsts-sets : goal.bounds-firsts-sets
bounds-firsts-sets c = omega (arith, ap length c.sets.ensures.sets, firsts-length (game_of_tree c.args.tree.now) c.args.player c.args.firsts.now c.requires.firsts)

pub returns : goal.returns
returns c =
    let t = game_of_tree c.args.tree.now in
    let sets = c.sets_of-set-items.result.now in
    let count = ap (λ n. get_or c.args.firsts.now n 0) (ap length c.sets.ensures.sets) ∙ first-at t c.args.player c.args.firsts.now t.sets c.requires.firsts (omega arith) in
    let all : take c.loop-set.set-index sets ≡ sets = take_all c.loop-set.set-index sets c.loop-set-test.false in
    let rows = c.loop-set.invariant ∙ ap (map (own_set_row t c.args.player)) (all ∙ c.sets_of-set-items.ensures) in
    c.new.ensures ∙ same_side t c.args.player _ _ count rows
