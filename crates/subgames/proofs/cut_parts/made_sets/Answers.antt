use Rattle.std.proofs.Common.{◌<◌, ◌≡◌, ◌∙◌, ◌∷◌, ◌++◌, [], length, map, ap, ap₂, sym, arith}
use Rattle.std.specs.List.{range_with_len}
use Rattle.std.proofs.lemmas.Iterator.Adapters.{YieldsList-from_vec}
use Rattle.std.proofs.lemmas.Iterator.Consumers.{YieldsList-turn, YieldsList-end}
use Rattle.std.proofs.lemmas.List.{length-map, length_push}
use Rattle.std.proofs.lemmas.List.FromFn.{length-map-range_with_len, map-range_with_len_more}
use Rattle.lists.proofs.ElementLemmas.{part-read}
use Rattle.game_theory.specs.OwnSets.{places_with}
use Rattle.subgames.specs.CutParts.{cut_information_set}
use Rattle.subgames.proofs.cut_parts.made_sets.Goals as goal

pub overflow_cast-len : goal.overflow_cast-len
overflow_cast-len c =
    let lists = c.in_ok-lists.lists in
    let gives = c.into_iter-members-iterator.ensures.into_iter_gives in
    let turn = YieldsList-turn (YieldsList-from_vec lists.items gives.0 (gives.1 ∙ lists.ok.0)) c.loop-members.yielded c.loop-members.members-iterator c.loop-members.yielded_by c.next.result c.next.new.self c.in-Some.members c.in-Some.is c.next.ensures.steps in
    let are = c.in_ok-lists.ensures {u = tt} in
    let made = length-map-range_with_len (cut_information_set c.args.tree.now c.args.sets.now c.args.names.now) 0 (length c.loop-members.yielded) in
    omega (arith, turn.0, are.one_for_each, length-map lists.items (λ v. v.items), c.len.ensures, c.loop-members.made.ok.0, ap length c.loop-members.invariant, made, c.requires.few, c.requires.no_more)

pub made_set-requires-clause-number : goal.made_set-requires-clause-number
made_set-requires-clause-number c =
    let lists = c.in_ok-lists.lists in
    let gives = c.into_iter-members-iterator.ensures.into_iter_gives in
    let turn = YieldsList-turn (YieldsList-from_vec lists.items gives.0 (gives.1 ∙ lists.ok.0)) c.loop-members.yielded c.loop-members.members-iterator c.loop-members.yielded_by c.next.result c.next.new.self c.in-Some.members c.in-Some.is c.next.ensures.steps in
    let are = c.in_ok-lists.ensures {u = tt} in
    let made = length-map-range_with_len (cut_information_set c.args.tree.now c.args.sets.now c.args.names.now) 0 (length c.loop-members.yielded) in
    omega (arith, turn.0, are.one_for_each, length-map lists.items (λ v. v.items), c.len.ensures, c.loop-members.made.ok.0, ap length c.loop-members.invariant, made)

pub loop-members-preserved : goal.loop-members-preserved
loop-members-preserved c =
    let f = cut_information_set c.args.tree.now c.args.sets.now c.args.names.now in
    let n = length c.loop-members.yielded in
    let lists = c.in_ok-lists.lists in
    let gives = c.into_iter-members-iterator.ensures.into_iter_gives in
    let turn = YieldsList-turn (YieldsList-from_vec lists.items gives.0 (gives.1 ∙ lists.ok.0)) c.loop-members.yielded c.loop-members.members-iterator c.loop-members.yielded_by c.next.result c.next.new.self c.in-Some.members c.in-Some.is c.next.ensures.steps in
    let are = c.in_ok-lists.ensures {u = tt} in
    let below : n < length c.args.sets.now = omega (arith, turn.0, are.one_for_each, length-map lists.items (λ v. v.items)) in
    let at : c.len.result ≡ n = omega (arith, c.len.ensures, c.loop-members.made.ok.0, ap length c.loop-members.invariant, length-map-range_with_len f 0 n) in
    let members : c.in-Some.members.items ≡ places_with (λ name. name) c.args.names.now c.len.result =
    part-read (λ v. v.items) lists.items n c.in-Some.members [] turn.0 turn.1 ∙ are.are n below ∙ ap (places_with (λ name. name) c.args.names.now) (sym at) in
    c.in_ok-push.ensures.items ∙ ap₂ (λ v x. v ++ x ∷ []) c.loop-members.invariant (c.in_ok-set.ensures c.args.names.now members ∙ ap f at)
    ∙ sym (map-range_with_len_more f 0 n n (omega arith))
    ∙ ap (λ k. map f (range_with_len 0 k)) (sym (length_push c.loop-members.yielded c.in-Some.members))

pub returns : goal.returns
returns c =
    let lists = c.in_ok-lists.lists in
    let gives = c.into_iter-members-iterator.ensures.into_iter_gives in
    let end = YieldsList-end (YieldsList-from_vec lists.items gives.0 (gives.1 ∙ lists.ok.0)) c.loop-members.yielded c.loop-members.members-iterator c.loop-members.yielded_by c.next.result c.next.new.self c.in-None.is c.next.ensures.steps in
    let are = c.in_ok-lists.ensures {u = tt} in
    c.loop-members.invariant
    ∙ ap (λ n. map (cut_information_set c.args.tree.now c.args.sets.now c.args.names.now) (range_with_len 0 n))
    (end.1 ∙ sym (length-map lists.items (λ v. v.items)) ∙ are.one_for_each)
