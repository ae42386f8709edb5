use Rattle.std.proofs.Common.{◌≡◌, ◌≢◌, suc, ◌≤◌, List, [], ℕ, Option, None, length, sym, ap, ◌∙◌, subst, Ok, arith}
use Rattle.std.proofs.lemmas.Result.{err_from_is_err_and}
use Rattle.game_core.specs.declared.token.Token.{Token}
use Rattle.game_core.specs.TokenList.{bare}
use Rattle.efg_reader.specs.declared.nodes.NodesStop.TheVariants.{Refused}
use Rattle.written_trees.specs.Building.{PartialTree, PartialOutcome, UsedSet, passed}
use Rattle.efg_reader.specs.PartialCodes.{PartialNodes}
use Rattle.efg_reader.specs.States.{tree_of, IsStop}
use Rattle.tree_grammar.specs.TreeParsing.{parse_choice, parse_at}
use Rattle.efg_reader.proofs.OpenBranchLemmas.{same_room}
use Rattle.efg_reader.proofs.NextStepLemmas.{may_stand, choice_refused, outcome_refused, node_added, few_sets_more, few_outcomes_more}
use Rattle.tree_grammar.proofs.NodeStopLemmas.{MayStand}
use Rattle.tree_faults.proofs.ShortRestLemmas.{choice_leaves}
use Rattle.efg_reader.proofs.nodes.next.Goals as goal

pub node_front-requires-clause-few : goal.node_front-requires-clause-few
node_front-requires-clause-few c = omega (arith, c.builder.invariant.few_sets, c.nodes.invariant.few, ap (λ (n : PartialNodes). length n.list) c.nodes.view_is)

pub read_outcome-requires-clause-few : goal.read_outcome-requires-clause-few
read_outcome-requires-clause-few c = omega (arith, c.builder.invariant.few_outcomes, c.nodes.invariant.few, ap (λ (n : PartialNodes). length n.list) c.nodes.view_is)

pub read_outcome-requires-clause-short : goal.read_outcome-requires-clause-short
read_outcome-requires-clause-short c = choice_leaves c.args.players c.len-number.result c.builder.inside.sets (bare c.args.tokens.now) _ c.in_ok-sets.ensures c.requires.short

pub add-requires-clause-free : goal.add-requires-clause-free
add-requires-clause-free c = subst (λ (partial : PartialTree). partial.branchings ≢ []) (sym c.builder.view_is) c.requires.free

pub add-requires-clause-room : goal.add-requires-clause-room
add-requires-clause-room c = same_room c.builder.inside.nodes [] c.builder.inside.sets [] c.builder.inside.outcomes ∙ subst (λ (partial : PartialTree). passed partial ≡ None) (sym c.builder.view_is) c.requires.room

pub returns-in_err-sets : goal.returns-in_err-sets
returns-in_err-sets c =
    let p = err_from_is_err_and c.from_residual.result c.from_residual.ensures.1 in
    let partial = tree_of c.builder.inside.nodes c.builder.inside.sets c.builder.inside.outcomes in
    let may : MayStand partial partial.branchings (bare c.args.tokens.now) = subst (λ (partial : PartialTree). MayStand partial partial.branchings (bare c.args.tokens.now)) (sym c.builder.view_is) (may_stand c.args.builder (bare c.args.tokens.now) c.requires.free c.requires.begins c.requires.room) in
    let number : c.len-number.result ≡ length partial.nodes = c.len-number.ensures ∙ c.nodes.inside.list.ok.0 ∙ ap (λ (n : PartialNodes). length n.list) c.nodes.view_is in
    rw (p.1, p.2) (subst (λ (partial : PartialTree). IsStop (Refused c.in_err-sets.field-0.0) (parse_at c.args.players partial partial.branchings (bare c.args.tokens.now))) c.builder.view_is
    (choice_refused c.args.players partial (bare c.args.tokens.now) c.in_err-sets.field-0.0 may (rw number at c.in_err-sets.ensures)))

pub returns-in_err-outcomes : goal.returns-in_err-outcomes
returns-in_err-outcomes c =
    let p = err_from_is_err_and c.from_residual-in_err-outcomes.result c.from_residual-in_err-outcomes.ensures.1 in
    let partial = tree_of c.builder.inside.nodes c.builder.inside.sets c.builder.inside.outcomes in
    let may : MayStand partial partial.branchings (bare c.args.tokens.now) = subst (λ (partial : PartialTree). MayStand partial partial.branchings (bare c.args.tokens.now)) (sym c.builder.view_is) (may_stand c.args.builder (bare c.args.tokens.now) c.requires.free c.requires.begins c.requires.room) in
    let number : c.len-number.result ≡ length partial.nodes = c.len-number.ensures ∙ c.nodes.inside.list.ok.0 ∙ ap (λ (n : PartialNodes). length n.list) c.nodes.view_is in
    let step : UsedSet × List Token = ((c.in_ok-sets.sets, (c.in_ok-sets.used.kind, c.in_ok-sets.used.set)), bare c.in_ok-sets.following.now) in
    let chosen : parse_choice c.args.players (length partial.nodes) partial.sets (bare c.args.tokens.now) ≡ Ok step = rw number at c.in_ok-sets.ensures in
    rw (p.1, p.2) (subst (λ (partial : PartialTree). IsStop (Refused c.in_err-outcomes.field-0.0) (parse_at c.args.players partial partial.branchings (bare c.args.tokens.now))) c.builder.view_is
    (outcome_refused c.args.players partial (bare c.args.tokens.now) c.in_err-outcomes.field-0.0 step may chosen c.in_err-outcomes.ensures))

pub invariant_of-result : goal.invariant_of-result
invariant_of-result c =
    let partial = tree_of c.builder.inside.nodes c.builder.inside.sets c.builder.inside.outcomes in
    let number : c.len-number.result ≡ length partial.nodes = c.len-number.ensures ∙ c.nodes.inside.list.ok.0 ∙ ap (λ (n : PartialNodes). length n.list) c.nodes.view_is in
    let step : UsedSet × List Token = ((c.in_ok-sets.sets, (c.in_ok-sets.used.kind, c.in_ok-sets.used.set)), bare c.in_ok-sets.following.now) in
    let paid : (List PartialOutcome × Option ℕ) × List Token = ((c.in_ok-outcomes.outcomes, c.in_ok-outcomes.outcome), bare c.in_ok-outcomes.rest.now) in
    let chosen : parse_choice c.args.players (length partial.nodes) partial.sets (bare c.args.tokens.now) ≡ Ok step = rw number at c.in_ok-sets.ensures in
    let sets : length c.in_ok-sets.sets ≤ suc (length partial.sets) = few_sets_more c.args.players (length partial.nodes) partial.sets (bare c.args.tokens.now) step chosen in
    let outcomes : length c.in_ok-outcomes.outcomes ≤ suc (length partial.outcomes) = few_outcomes_more c.args.players partial.outcomes (bare c.in_ok-sets.following.now) paid c.in_ok-outcomes.ensures in
    record {
      few_sets = omega (arith, sets, c.builder.invariant.few_sets, c.in_ok-nodes.ensures.longer);
      few_outcomes = omega (arith, outcomes, c.builder.invariant.few_outcomes, c.in_ok-nodes.ensures.longer);
    }

pub returns : goal.returns
returns c =
    let partial = tree_of c.builder.inside.nodes c.builder.inside.sets c.builder.inside.outcomes in
    let may : MayStand partial partial.branchings (bare c.args.tokens.now) = subst (λ (partial : PartialTree). MayStand partial partial.branchings (bare c.args.tokens.now)) (sym c.builder.view_is) (may_stand c.args.builder (bare c.args.tokens.now) c.requires.free c.requires.begins c.requires.room) in
    let number : c.len-number.result ≡ length partial.nodes = c.len-number.ensures ∙ c.nodes.inside.list.ok.0 ∙ ap (λ (n : PartialNodes). length n.list) c.nodes.view_is in
    let step : UsedSet × List Token = ((c.in_ok-sets.sets, (c.in_ok-sets.used.kind, c.in_ok-sets.used.set)), bare c.in_ok-sets.following.now) in
    let paid : (List PartialOutcome × Option ℕ) × List Token = ((c.in_ok-outcomes.outcomes, c.in_ok-outcomes.outcome), bare c.in_ok-outcomes.rest.now) in
    let chosen : parse_choice c.args.players (length partial.nodes) partial.sets (bare c.args.tokens.now) ≡ Ok step = rw number at c.in_ok-sets.ensures in
    let more = tree_of c.in_ok-nodes.nodes c.in_ok-sets.sets c.in_ok-outcomes.outcomes in
    subst (λ (partial : PartialTree). parse_at c.args.players partial partial.branchings (bare c.args.tokens.now) ≡ Ok (more, bare c.in_ok-outcomes.rest.now)) c.builder.view_is
    (node_added c.args.players partial more (bare c.args.tokens.now) step paid may chosen c.in_ok-outcomes.ensures (c.in_ok-nodes.ensures.grown c.in_ok-outcomes.outcomes))
