use Rattle.std.proofs.Common.{◌≡◌, ◌+◌, ◌++◌, ◌∷◌, [], ◌∙◌, map, ap, sym, length, arith}
use Rattle.std.specs.List.{range_with_len}
use Rattle.std.proofs.lemmas.List.FromFn.{map-range_with_len_more}
use Rattle.game_core.specs.TreeGame.{game_of_tree}
use Rattle.sequence_form.specs.Sequences.{next_sequence}
use Rattle.sequence_form.proofs.NumberingLemmas.{next-few, next-push}
use Rattle.sequence_form.proofs.sequences.first_sequences.Goals as goal

pub overflow_add-next : goal.overflow_add-next
overflow_add-next c =
    let g = game_of_tree c.args.tree.now in
    let more = next-push g c.args.player c.loop-set.set (omega (arith, ap length c.sets-sets.ensures.sets)) in
    let few = next-few c.args.tree.now c.args.player (c.loop-set.set + 1) c.stands_for_game_tree.ensures.valid (omega (arith, ap length c.sets-sets.ensures.sets)) in
    omega (arith, more, few, c.loop-set.invariant.next_is, c.sequence_count_of-next.ensures.value)

pub loop-set-preserved : goal.loop-set-preserved
loop-set-preserved c =
    let g = game_of_tree c.args.tree.now in
    let push = next-push g c.args.player c.loop-set.set (omega (arith, ap length c.sets-sets.ensures.sets)) in
    let next : c.loop-set.next + c.sequence_count_of-next.result ≡ next_sequence g c.args.player (c.loop-set.set + 1) = omega (arith, push, c.loop-set.invariant.next_is, c.sequence_count_of-next.ensures.value) in
    let more = map-range_with_len_more (next_sequence g c.args.player) 0 (c.loop-set.set + 1) (c.loop-set.set + 1) (omega arith) in
    record {
      next_is = next;
      are_firsts = c.in_ok-push-2.ensures.items ∙ ap (λ xs. xs ++ (c.loop-set.next + c.sequence_count_of-next.result) ∷ []) c.loop-set.invariant.are_firsts ∙ ap (λ x. map (next_sequence g c.args.player) (range_with_len 0 (c.loop-set.set + 1)) ++ x ∷ []) next ∙ sym more;
    }
