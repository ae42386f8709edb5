use Rattle.std.proofs.Common.{ℕ, ◌<◌, ◌∙◌, [], ◌∷◌, ◌++◌, ap, sym, get_or, length, arith}
use Rattle.std.proofs.lemmas.List.{map_more, take_more_set}
use Rattle.game_core.specs.TreeGame.{game_of_tree}
use Rattle.game_theory.proofs.IndexLemmas.{numbers_with-length}
use Rattle.behaviour_profile.proofs.BehaviourEntryLemmas.{own_set-below, own_set-read}
use Rattle.verdicts.proofs.trees_player.write_reply.Goals as goal
use Rattle.verdicts.proofs.trees_player.write_reply.Goals.{In-loop-place}

-- there is room for one more choice
room : (c : In-loop-place) → c.loop-place.place < length c.loop-place.reply
room c =
    let t = game_of_tree c.args.tree.now in
    omega (arith, c.loop-place.auto.reply, c.requires.reply, ap length c.sets_of-own.ensures, numbers_with-length t.owner c.args.player t.sets)

pub bounds-choices-set : goal.bounds-choices-set
bounds-choices-set c =
    let t = game_of_tree c.args.tree.now in
    omega (arith, own_set-below t c.args.player c.loop-place.place _ (own_set-read t c.args.player c.loop-place.place c.sets_of-own.result.now c.sets_of-own.ensures c.loop-place-test.true), c.requires.choices)

pub bounds-reply-place : goal.bounds-reply-place
bounds-reply-place c = room (goal.at.bounds-reply-place c).In-loop-place

pub loop-place-preserved : goal.loop-place-preserved
loop-place-preserved c =
    let own = c.sets_of-own.result.now in
    let place = c.loop-place.place in
    let choice = λ (s : ℕ). get_or c.args.choices.now s 0 in
    take_more_set c.loop-place.reply place (choice (get_or own place 0)) (room (goal.at.loop-place-preserved c).In-loop-place) ∙ ap (λ xs. xs ++ choice (get_or own place 0) ∷ []) c.loop-place.invariant
    ∙ sym (map_more choice own place 0 c.loop-place-test.true)
