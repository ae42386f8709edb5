use Rattle.std.proofs.Common.{rules, ℕ, ◌*◌, ◌<◌, ◌≤◌, ◌≡◌, ◌++◌, ◌∙◌, Result, Ok, Err, All, drop, length, sym, ap, subst, get_or, arith}
use Rattle.std.specs.Prelude.{slice_index}
use Rattle.std.specs.Result.{IsErrAnd}
use Rattle.std.proofs.lemmas.List.{take-append-le, take_all}
use Rattle.answers.specs.Answers.{Answer, Gives, map_ok, refused_by}
use Rattle.frac128.specs.FirstUnfit.{StepsFit}
use Rattle.game_core.specs.Table.{most_payoffs}
use Rattle.game_core.specs.TreeGame.{game_of_tree}
use Rattle.game_theory.specs.Profiles.{profile_at}
use Rattle.pure_payoffs.specs.Stops.{all_values_fit, node_values}
use Rattle.enumpure_trees.specs.Choices.{numbered_choice, whole_choices}
use Rattle.enumpure_trees.specs.PassingStops.{values_in}
use Rattle.enumpure_trees.specs.Told.{at_choice}
use Rattle.enumpure_trees.specs.Values.{value_count, value_steps}
use Rattle.enumpure_trees.specs.declared.stop.ChoiceStop.{ChoiceStop}
use Rattle.enumpure_trees.specs.declared.stop.ChoiceStop.TheVariants as stops
use Rattle.enumpure_trees.proofs.ChoiceNumberLemmas.{actions-are, chosen-is}
use Rattle.game_theory.proofs.PlayerSetLemmas.{player_sets-within}
use Rattle.game_theory.specs.OwnSets.{action_counts}
use Rattle.enumpure_trees.proofs.WholeChoiceLemmas.{few_choices, some_actions}
use Rattle.enumpure_trees.proofs.ValueCountLemmas.{counts-few, nodes-few}
use Rattle.enumpure_trees.proofs.ValueListLemmas.{choice_fits, choice_stops, first_indices-all, first_values-all, values-push}
use Rattle.enumpure_trees.proofs.values.choice_values.Goals as goal
use Rattle.enumpure_trees.proofs.values.choice_values.Goals.{After-deref-in-loop-choice-2, In-loop-choice}

-- what the exit of a `?` gives
exit : {X : Type 0} (p : Answer ChoiceStop (Unit {0})) (r : ChoiceStop) (answer : Result X ChoiceStop) → Gives stops.Memory p (Err r) → IsErrAnd answer (λ q. q ≡ r) → Gives stops.Memory p (map_ok answer (λ _. tt))
exit p r (Ok x) g e = elim e [ ]
exit p r (Err q) g e = subst (λ s. Gives stops.Memory p (Err s)) (sym e) g

pub overflow_mul-nodes : goal.overflow_mul-nodes
overflow_mul-nodes c =
    let few : value_count (game_of_tree c.args.tree.now) c.args.nodes.now ≤ most_payoffs = omega (arith, c.in_ok-choices.ensures.within) in
    let room = nodes-few (game_of_tree c.args.tree.now) c.args.nodes.now c.stands_for_game_tree.ensures.game few in
    let below : length c.args.nodes.now * length c.players.result.now ≤ most_payoffs = subst (λ ps. length c.args.nodes.now * length ps ≤ most_payoffs) (sym c.players.ensures.players) room in
    omega (arith, below)

-- ---- in the loop
-- there are few choices
choices-few : (c : In-loop-choice) → whole_choices (game_of_tree c.args.tree.now) ≤ most_payoffs
choices-few c =
    let few : value_count (game_of_tree c.args.tree.now) c.args.nodes.now ≤ most_payoffs = omega (arith, c.in_ok-choices.ensures.within) in
    few_choices (game_of_tree c.args.tree.now) c.args.nodes.now c.requires.some_node few

-- the number is that of one
numbered : (c : In-loop-choice) → c.loop-choice.choice < whole_choices (game_of_tree c.args.tree.now)
numbered c = omega (arith, c.loop-choice-test.true, c.in_ok-choices.ensures.choices)

pub set_profile-requires-clause-few : goal.set_profile-requires-clause-few
set_profile-requires-clause-few c =
    let t = game_of_tree c.args.tree.now in
    let here = (goal.at.set_profile-requires-clause-few c).In-loop-choice in
    subst (All (λ n. n ≤ most_payoffs)) (sym c.requires.counts) (counts-few (action_counts t) most_payoffs (some_actions t c.stands_for_game_tree.ensures.game) (choices-few here))

pub set_profile-requires-clause-some : goal.set_profile-requires-clause-some
set_profile-requires-clause-some c = subst (All (λ n. 0 < n)) (sym c.requires.counts) (some_actions (game_of_tree c.args.tree.now) c.stands_for_game_tree.ensures.game)

pub set_actions-requires-clause-within : goal.set_actions-requires-clause-within
set_actions-requires-clause-within c k d l =
    let t = game_of_tree c.args.tree.now in
    let all : All (λ s. s < t.sets) c.args.sets.now = subst (All (λ s. s < t.sets)) (sym c.requires.sets) (player_sets-within t) in
    let below : get_or c.args.sets.now k d < length c.args.tree.now.sets = all k d l in
    omega (arith, below, c.loop-choice.invariant.long, ap length c.deref_mut-in-loop-choice.ensures.value)

pub overflow_cast-choice : goal.overflow_cast-choice
overflow_cast-choice c =
    let here = (goal.at.overflow_cast-choice c).In-loop-choice in
    omega (arith, choices-few here, numbered here)

-- the actions that were written
written : (c : After-deref-in-loop-choice-2) → c.deref-in-loop-choice.result.now ≡ c.set_actions.new.actions
written c =
    let old = c.loop-choice.actions in
    let new = c.set_actions.new.actions in
    let same : length new ≡ old.len = omega (arith, c.set_actions.auto.actions, ap length c.deref_mut-in-loop-choice.ensures.value, old.ok.0) in
    c.deref-in-loop-choice.ensures.value ∙ take-append-le old.len new (drop (length new) old.items) (omega (arith, same)) ∙ take_all old.len new (omega (arith, same))

-- are those of the choice with this number
chosen : (c : After-deref-in-loop-choice-2) → slice_index c.deref-in-loop-choice.result.now ≡ numbered_choice (game_of_tree c.args.tree.now) c.loop-choice.choice
chosen c =
    let old = c.loop-choice.profile in
    let new = c.set_profile.new.profile in
    let same : length new ≡ old.len = omega (arith, c.set_profile.auto.profile, ap length c.deref_mut.ensures.value, old.ok.0) in
    let digits : c.deref.result.now ≡ profile_at c.args.counts.now c.loop-choice.choice =
    c.deref.ensures.value ∙ take-append-le old.len new (drop (length new) old.items) (omega (arith, same)) ∙ take_all old.len new (omega (arith, same)) ∙ c.set_profile.ensures in
    chosen-is (game_of_tree c.args.tree.now) c.loop-choice.choice c.args.sets.now c.args.counts.now c.deref.result.now c.set_actions.new.actions c.deref-in-loop-choice.result.now c.requires.sets c.requires.counts digits c.set_actions.ensures (written c)

pub push_choice-requires-clause-choices : goal.push_choice-requires-clause-choices
push_choice-requires-clause-choices c =
    let before = (goal.at.push_choice-requires-clause-choices c).After-deref-in-loop-choice-2 in
    let here = (goal.at.push_choice-requires-clause-choices c).In-loop-choice in
    let long : length c.deref-in-loop-choice.result.now ≡ length c.args.tree.now.sets = omega (arith, ap length (written before), c.set_actions.auto.actions, ap length c.deref_mut-in-loop-choice.ensures.value, c.loop-choice.invariant.long) in
    actions-are (game_of_tree c.args.tree.now) c.loop-choice.choice c.deref-in-loop-choice.result.now c.stands_for_game_tree.ensures.game (numbered here) long (chosen before)

pub returns-in_err-push_choice-clause-stop : goal.returns-in_err-push_choice-clause-stop
returns-in_err-push_choice-clause-stop c =
    let t = game_of_tree c.args.tree.now in
    let nodes = c.args.nodes.now in
    let n = c.loop-choice.choice in
    let stop = c.in_err-push_choice.field-0.0 in
    let before = (goal.at.returns-in_err-push_choice-clause-stop c).After-deref-in-loop-choice-2 in
    let here = (goal.at.returns-in_err-push_choice-clause-stop c).In-loop-choice in
    exit (values_in t nodes) stop c.from_residual-in_err-push_choice.result
    (choice_stops t nodes n (numbered here) c.loop-choice.invariant.fit stop c.in_ok-choices.ensures.within (subst (λ (f : ℕ → ℕ). Gives stops.Memory (refused_by (at_choice n) (all_values_fit t f nodes)) (Err stop)) (chosen before) c.in_err-push_choice.ensures.stop)) c.from_residual-in_err-push_choice.ensures.1

pub loop-choice-preserved : goal.loop-choice-preserved
loop-choice-preserved c =
    let t = game_of_tree c.args.tree.now in
    let nodes = c.args.nodes.now in
    let n = c.loop-choice.choice in
    let before = (goal.at.loop-choice-preserved c).After-deref-in-loop-choice-2 in
    let here = (goal.at.loop-choice-preserved c).In-loop-choice in
    record {
      tree = c.in_ok-push_choice.ensures.tree ∙ c.loop-choice.invariant.tree;
      digits = search rules;
      long = search rules;
      values = values-push t nodes n (numbered here) c.loop-choice.values.items c.push_choice.new.values.items c.loop-choice.invariant.values (subst (λ (f : ℕ → ℕ). c.push_choice.new.values.items ≡ c.loop-choice.values.items ++ node_values t f nodes) (chosen before) c.in_ok-push_choice.ensures.values);
      fit = choice_fits t nodes n (numbered here) c.loop-choice.invariant.fit (subst (λ (f : ℕ → ℕ). refused_by (at_choice n) (all_values_fit t f nodes) (Ok tt)) (chosen before) c.in_ok-push_choice.ensures.stop);
    }

-- ---- after the loop
pub returns-clause-values : goal.returns-clause-values
returns-clause-values c =
    let t = game_of_tree c.args.tree.now in
    let all : whole_choices t ≤ c.loop-choice.choice = omega (arith, c.loop-choice-test.false, c.in_ok-choices.ensures.choices) in
    c.loop-choice.invariant.values ∙ first_values-all t c.args.nodes.now c.loop-choice.choice all

pub returns-clause-stop : goal.returns-clause-stop
returns-clause-stop c =
    let t = game_of_tree c.args.tree.now in
    let all : whole_choices t ≤ c.loop-choice.choice = omega (arith, c.loop-choice-test.false, c.in_ok-choices.ensures.choices) in
    (tt, c.in_ok-choices.ensures.within, subst (All (StepsFit (value_steps t))) (first_indices-all t c.args.nodes.now c.loop-choice.choice all) c.loop-choice.invariant.fit)
