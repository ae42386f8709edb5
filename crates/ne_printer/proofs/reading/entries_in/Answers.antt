use Rattle.std.proofs.lemmas.List.{map-append}
use Rattle.std.proofs.Common.{Bor, ℕ, List, map, subst, inr, rules, tests}
use Rattle.std.specs.List.{AllZip}
use Rattle.std.proofs.lemmas.Iterator.Consumers.{YieldsList-turn, YieldsList-end}
use Rattle.std.proofs.lemmas.Slice.Zip.{all_zipped_more}
use Rattle.ne_printer.specs.ReadLines.{IsFraction}
use Rattle.ne_printer.proofs.EntryListLemmas.{not_entries, yields_parts}
use Rattle.ne_printer.proofs.reading.entries_in.Goals as goal

pub loop-part-preserved : goal.loop-part-preserved
loop-part-preserved c =
    let parts = map (λ part. part.now) c.loop-part.yielded in
    let more = all_zipped_more IsFraction parts c.loop-part.entries.items c.in-Some.part.now c.in-Some-fraction_in.entry c.loop-part.invariant c.in-Some-fraction_in.ensures in
    rw (c.in_ok-push-in-Some-fraction_in.ensures.items, map-append {A = Bor (List ℕ)} {B = List ℕ}) more

pub returns-in-None-fraction_in : goal.returns-in-None-fraction_in
returns-in-None-fraction_in c =
    let parts = yields_parts _ c.args.text.now c.loop-part.yielded _ c.loop-part.yielded_by c.into_iter-part-iterator.ensures.into_iter_gives c.split-part-items.ensures.rest c.split-part-items.ensures.done c.split-part-items.ensures.closure (λ x b q k. search (rules, tests)) in
    let turn = YieldsList-turn parts c.loop-part.yielded _ c.loop-part.yielded_by _ _ c.in-Some.part c.in-Some.is c.next.ensures.steps in
    inr (λ entries h. not_entries _ _ _ turn.0 turn.1 c.in-None-fraction_in.ensures entries h)

pub returns : goal.returns
returns c =
    let parts = yields_parts _ c.args.text.now c.loop-part.yielded _ c.loop-part.yielded_by c.into_iter-part-iterator.ensures.into_iter_gives c.split-part-items.ensures.rest c.split-part-items.ensures.done c.split-part-items.ensures.closure (λ x b q k. search (rules, tests)) in
    let end = YieldsList-end parts c.loop-part.yielded _ c.loop-part.yielded_by _ _ c.in-None.is c.next.ensures.steps in
    subst (λ parts. AllZip IsFraction parts c.loop-part.entries.items) end.0 c.loop-part.invariant
