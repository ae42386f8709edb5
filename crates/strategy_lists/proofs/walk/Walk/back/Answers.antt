use Rattle.std.proofs.Common.{suc, ◌-◌, ◌+◌, ◌<◌, ◌≤◌, ◌≡◌, Some, None, length, get_or, set, take, vec_len, refl, sym, ap, ◌∙◌, subst, arith, add-one}
use Rattle.std.specs.Prelude.{slice_get}
use Rattle.std.proofs.lemmas.Option.{slice_get-get_or}
use Rattle.std.proofs.lemmas.Grind.{get_or_default_zero}
use Rattle.strategy_lists.specs.declared.decision.Decision.{Decision}
use Rattle.strategy_lists.specs.Ends.{later_ends}
use Rattle.strategy_lists.proofs.WalkStepLemmas.{walk-further_next, walk-unfixes, last-within, last-none, later_ends-none, choice-within}
use Rattle.strategy_lists.proofs.walk.Walk.back.Goals as goal

-- a decision where there is none
abbrev none_there : Decision
none_there = record { place = 0; before = None }

pub returns-then-index-self : goal.returns-then-index-self
returns-then-index-self c =
    let walk = c.loop-last.self in
    let n = length walk.decisions.now in
    let j = c.in-Some.last.now in
    let d = get_or walk.decisions.now j none_there in
    let last = subst (λ v. slice_get v (length v - 1) ≡ Some j) c.deref.ensures.value (sym c.in-Some.ensures.value) in
    let at = slice_get-get_or walk.decisions.now j none_there (last-within walk n j c.loop-last.invariant.at last) in
    let within = choice-within walk n j d c.loop-last.invariant.at at in
    let more : get_or walk.choices.items d.place 0 < get_or walk.actions.now d.place 0 = omega (arith, c.if-index-self.true, c.index.ensures ∙ get_or_default_zero walk.choices.items d.place c.index.result.now within) in
    let next : c.index_mut.result.now + 1 ≡ suc (get_or walk.choices.items d.place 0) = omega (arith, c.index_mut.ensures.value ∙ get_or_default_zero walk.choices.items d.place c.index_mut.result.now within) in
    walk-further_next walk _ n j (j + 1) d (later_ends c.args.self.now) c.loop-last.invariant.at last at more (record { decisions = refl; actions = refl }) refl (ap (set walk.choices.items d.place) next) refl (add-one j) c.loop-last.invariant.ends

pub loop-last-preserved : goal.loop-last-preserved
loop-last-preserved c =
    let walk = c.loop-last.self in
    let n = length walk.decisions.now in
    let j = c.in-Some.last.now in
    let d = get_or walk.decisions.now j none_there in
    let last = subst (λ v. slice_get v (length v - 1) ≡ Some j) c.deref.ensures.value (sym c.in-Some.ensures.value) in
    let at = slice_get-get_or walk.decisions.now j none_there (last-within walk n j c.loop-last.invariant.at last) in
    let within = choice-within walk n j d c.loop-last.invariant.at at in
    let most : get_or walk.actions.now d.place 0 ≤ get_or walk.choices.items d.place 0 = omega (arith, c.if-index-self.false, c.index.ensures ∙ get_or_default_zero walk.choices.items d.place c.index.result.now within) in
    let long : vec_len walk.fixed ≡ length walk.fixed.items = sym c.deref.ensures.len ∙ ap length c.deref.ensures.value in
    let popped = c.pop.ensures.rest ∙ ap (λ v. take (v - 1) walk.fixed.items) long in
    let edge = walk-unfixes walk _ n j d c.loop-last.invariant.at last at most (record { decisions = refl; actions = refl }) refl refl popped in
    record { same = record { decisions = c.loop-last.invariant.same.decisions; actions = c.loop-last.invariant.same.actions }; at = edge.0; ends = edge.1 ∙ c.loop-last.invariant.ends }

pub returns : goal.returns
returns c =
    sym c.loop-last.invariant.ends ∙ later_ends-none c.loop-last.self (last-none c.loop-last.self.fixed.items (subst (λ v. slice_get v (length v - 1) ≡ None) c.deref.ensures.value (sym c.in_default.ensures.value)))
