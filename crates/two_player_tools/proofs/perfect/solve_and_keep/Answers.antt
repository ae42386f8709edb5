use Rattle.std.proofs.Common.{◌≡◌, ◌∙◌, ◌⊎◌, Ok, map, length, ap, sym, subst, subst₂, arith}
use Rattle.std.proofs.lemmas.List.{length-map, with_items_is}
use Rattle.std.specs.Vec.{with_items}
use Rattle.answers.proofs.AnswerLemmas.{if_stop}
use Rattle.refusals.specs.declared.refusal.Refusal.TheVariants as refusal
use Rattle.two_player_tools.specs.KnownCuts.{AreKeptTo, lists_of, worth_in}
use Rattle.two_player_tools.specs.Perfect.{IsStoppedAt, cut_entries_in}
use Rattle.two_player_tools.specs.declared.perfect.Known.{Known}
use Rattle.two_player_tools.proofs.KnownCutLemmas.{IsRowKept, cut-stop, sets-within, solved-next}
use Rattle.two_player_tools.proofs.perfect.solve_and_keep.Goals as goal

pub returns-in_err-solved-clause-stops : goal.returns-in_err-solved-clause-stops
returns-in_err-solved-clause-stops c =
    let t = c.args.tree.now in
    let root = c.args.root in
    let made = c.args.cut.now in
    let worth = worth_in t c.args.known.now in
    let stop = c.in_err-solved.field-0.0 in
    if_stop (λ r. (r ≡ refusal.Memory) ⊎ IsStoppedAt c.args.method t worth root r) stop c.from_residual.result
    (cut-stop c.args.method t root worth made stop c.requires.cut c.in_err-solved.ensures.answer)
    c.from_residual.ensures.1

pub keep_lists-requires-clause-within : goal.keep_lists-requires-clause-within
keep_lists-requires-clause-within c = λ k d below.
    let t = c.args.tree.now in
    let known = c.args.known.now in
    let made = c.args.cut.now in
    omega (arith, sets-within t c.args.root (worth_in t known) made.nodes made.sets made.tree c.requires.cut k d below, c.requires.later.room.lists.one_for_each, length-map known.lists.items (λ v. v.items), ap length c.as_mut_slice.ensures.value)

pub returns-clause-solved : goal.returns-clause-solved
returns-clause-solved c =
    let t = c.args.tree.now in
    let root = c.args.root in
    let known = c.args.known.now in
    let made = c.args.cut.now in
    let found = c.in_ok-solved.ensures.entries in
    let payoffs = c.in_ok-solved.solved.payoffs.items in
    let new : Known = record { worth = with_items known.worth c.keep_worth.new.worth; lists = with_items known.lists c.keep_lists.new.lists } in
    solved-next c.args.method t root known new made found.0 payoffs c.trees_are_game_trees.ensures c.sets_stand_in_one_cut.ensures c.stands_for_game_tree.ensures.valid c.requires.two c.requires.root c.requires.cut
    c.in_ok-solved.ensures.none (λ later. c.in_ok-solved.ensures.payoffs found.0 later found.1)
    (subst (λ lists. AreKeptTo made (length made.tree.sets) found.0 (lists_of known) (map (λ v. v.items) lists)) (sym (with_items_is known.lists c.keep_lists.new.lists (c.keep_lists.auto.lists ∙ c.as_mut_slice.ensures.len)))
    (subst (λ lists. AreKeptTo made (length made.tree.sets) found.0 (map (λ v. v.items) lists) (map (λ v. v.items) c.keep_lists.new.lists)) c.as_mut_slice.ensures.value (c.in_ok-keep_lists.ensures found.0 found.1)))
    (subst (IsRowKept root payoffs known.worth.items) (sym (with_items_is known.worth c.keep_worth.new.worth (c.keep_worth.ensures.as_many ∙ c.as_mut_slice-2.ensures.len)))
    (subst₂ (λ row old. IsRowKept root row old c.keep_worth.new.worth) c.as_slice.ensures.value c.as_mut_slice-2.ensures.value (record { as_many = c.keep_worth.ensures.as_many; kept = c.keep_worth.ensures.kept; others = c.keep_worth.ensures.others })))
    (subst (λ entries. cut_entries_in c.args.method root made (Ok entries)) found.1 c.in_ok-solved.ensures.answer) c.requires.later
