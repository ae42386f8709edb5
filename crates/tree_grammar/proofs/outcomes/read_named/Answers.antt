use Rattle.std.proofs.Common.{rules, ◌∙◌, refl, sym}
use Rattle.std.proofs.lemmas.Bool.{not-true, not-false}
use Rattle.game_core.specs.TokenList.{bare}
use Rattle.tree_grammar.proofs.KeptOutcomeLemmas.{first_kept, first_refused, first_used, later_kept, later_refused, later_used}
use Rattle.tree_grammar.proofs.outcomes.read_named.Goals as goal

-- a first use
pub returns-in_err-outcome : goal.returns-in_err-outcome
returns-in_err-outcome c =
    let new = not-true _ (sym c.in_ok-place.ensures.added ∙ c.if-is_new.true) in
    let refused = first_refused c.args.players c.args.label c.outcomes.inside c.outcomes.invariant new _ (bare c.args.tokens.now) (bare c.optional_text.result.1.now) c.optional_text.ensures c.in_err-outcome.field-0.0 c.in_err-outcome.ensures.read in
    rw (← c.outcomes.view_is) (search (refused, rules))

pub invariant_of-result : goal.invariant_of-result
invariant_of-result c =
    let new = not-true _ (sym c.in_ok-place.ensures.added ∙ c.if-is_new.true) in
    first_kept c.args.players c.args.label c.outcomes.inside c.outcomes.invariant new _ c.in_ok-outcome.outcome c.in_ok-place.ensures.keys c.in_ok-push.ensures.items c.in_ok-outcome.ensures.label

pub returns-in_ok-push : goal.returns-in_ok-push
returns-in_ok-push c =
    let new = not-true _ (sym c.in_ok-place.ensures.added ∙ c.if-is_new.true) in
    rw (← c.outcomes.view_is) (first_used c.args.players c.args.label c.outcomes.inside c.outcomes.invariant new _ (bare c.args.tokens.now) (bare c.optional_text.result.1.now) c.optional_text.ensures c.push.new.self.items c.in_ok-outcome.outcome c.in_ok-place.place (bare c.in_ok-outcome.rest.now)
    c.in_ok-place.ensures.index c.in_ok-push.ensures.items c.in_ok-outcome.ensures.label c.in_ok-outcome.ensures.name c.in_ok-outcome.ensures.read)

-- a later use
pub returns-in_err-rest : goal.returns-in_err-rest
returns-in_err-rest c =
    let known = not-false _ (sym c.in_ok-place.ensures.added ∙ c.if-is_new.false) in
    let refused = later_refused c.args.players c.args.label c.outcomes.inside c.outcomes.invariant known c.index_mut.result.now c.in_ok-place.place c.in_ok-place.ensures.index c.index_mut.ensures.value _ (bare c.args.tokens.now) (bare c.optional_text.result.1.now) c.optional_text.ensures c.in_err-rest.field-0.0 c.in_err-rest.ensures.read in
    rw (← c.outcomes.view_is) (search (refused, rules))

pub invariant_of-result-else-is_new : goal.invariant_of-result-else-is_new
invariant_of-result-else-is_new c =
    let known = not-false _ (sym c.in_ok-place.ensures.added ∙ c.if-is_new.false) in
    later_kept c.args.players c.args.label c.outcomes.inside c.outcomes.invariant known c.index_mut.result.now c.in_ok-place.place c.in_ok-place.ensures.index c.index_mut.ensures.value _ c.later_use.new.outcome
    c.in_ok-place.ensures.keys refl c.in_ok-rest.ensures.label

pub returns-in_ok-rest : goal.returns-in_ok-rest
returns-in_ok-rest c =
    let known = not-false _ (sym c.in_ok-place.ensures.added ∙ c.if-is_new.false) in
    rw (← c.outcomes.view_is) (later_used c.args.players c.args.label c.outcomes.inside c.outcomes.invariant known c.index_mut.result.now c.in_ok-place.place c.in_ok-place.ensures.index c.index_mut.ensures.value _ (bare c.args.tokens.now) (bare c.optional_text.result.1.now) c.optional_text.ensures c.later_use.new.outcome (bare c.in_ok-rest.rest.now)
    c.in_ok-rest.ensures.label c.in_ok-rest.ensures.name c.in_ok-rest.ensures.payoffs c.in_ok-rest.ensures.read)
