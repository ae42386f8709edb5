use Rattle.std.proofs.Common.{Err}
use Rattle.answers.specs.Answers.{refused_by}
use Rattle.answers.proofs.AnswerLemmas.{gives_refused, gives_stop}
use Rattle.sequence_forms.specs.PlanBehaviour.{behaviour_of}
use Rattle.game_core.specs.TreeGame.{game_of_tree}
use Rattle.behaviour_profile.specs.Plans.{plan_behaviour}
use Rattle.behaviour_profile.specs.declared.plans.BehaviourStop.TheVariants as behaviour_stop
use Rattle.sequence_data.specs.PlanPairs.{PlanPair}
use Rattle.refusals.specs.Told.{behaviour_refusal}
use Rattle.refusals.specs.declared.refusal.Refusal.TheVariants as refusal
use Rattle.two_player_tools.proofs.PlanEntryLemmas.{tree_entries_are, weights_of}
use Rattle.two_player_tools.proofs.entries.plan_behaviour.Goals as goal

pub returns-in_err-from_plans-clause-answer : goal.returns-in_err-from_plans-clause-answer
returns-in_err-from_plans-clause-answer c =
    let behaviour = plan_behaviour c.args.tree.now c.args.one.now c.args.two.now in
    let stop = c.in_err-from_plans.field-0.0 in
    gives_stop refusal.Memory (refused_by behaviour_refusal behaviour) (behaviour_refusal stop) c.from_residual.result
    (gives_refused behaviour_stop.Memory behaviour_refusal behaviour (Err stop) c.in_err-from_plans.ensures) c.from_residual.ensures.1

pub returns-clause-answer : goal.returns-clause-answer
returns-clause-answer c = c.in_ok-from_plans.ensures

pub returns-clause-entries : goal.returns-clause-entries
returns-clause-entries c =
    let t = c.args.tree.now in
    let plans : PlanPair = record { one = c.args.one.now; two = c.args.two.now } in
    (behaviour_of (game_of_tree t) (weights_of plans), tree_entries_are t plans c.in_ok-from_plans.field-0 c.in_ok-from_plans.ensures)
