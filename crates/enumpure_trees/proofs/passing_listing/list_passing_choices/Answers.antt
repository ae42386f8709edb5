use Rattle.std.proofs.Common.{◌≡◌, ◌<◌, All, Err, Ok, length, sym, ap, ◌∙◌, subst, arith}
use Rattle.std.proofs.lemmas.List.{length-map}
use Rattle.answers.specs.Answers.{Gives}
use Rattle.game_core.specs.TreeGame.{game_of_tree}
use Rattle.game_theory.specs.Lines.{lines_text}
use Rattle.enumpure.specs.Ranks.{lines_below}
use Rattle.game_theory.specs.OwnSets.{action_counts, player_sets}
use Rattle.enumpure_trees.specs.PassingNumbers.{ArePassing}
use Rattle.enumpure_trees.specs.PassingStops.{values_in}
use Rattle.enumpure_trees.specs.PassingText.{IsPassingText}
use Rattle.enumpure_trees.specs.declared.stop.ChoiceStop.TheVariants as stops
use Rattle.enumpure_trees.proofs.WholeChoiceLemmas.{few_choices, some_actions}
use Rattle.game_theory.proofs.PlayerSetLemmas.{few_player_sets}
use Rattle.enumpure_trees.proofs.PassingChoiceLemmas.{nodes-below, some_test_node}
use Rattle.enumpure_trees.proofs.PassingAnswerLemmas.{gives-text, gives-text_exit, gives-values_exit}
use Rattle.enumpure_trees.proofs.PassingLineLemmas.{IsPassingText-listed}
use Rattle.enumpure_trees.proofs.passing_listing.list_passing_choices.Goals as goal
use Rattle.enumpure_trees.proofs.passing_listing.list_passing_choices.Goals.{After-deref-4, After-deref-10}

-- there is some node at which choices are tested
some_node : (c : After-deref-4) → 0 < length c.deref-4.result.now
some_node c =
    omega (arith, ap length c.deref-4.ensures.value, some_test_node c.args.perfect (game_of_tree c.args.tree.now) c.in_ok-nodes.nodes.items c.stands_for_game_tree.ensures.game (c.in_ok-nodes.ensures {u = tt}))

pub choice_values-requires-clause-nodes : goal.choice_values-requires-clause-nodes
choice_values-requires-clause-nodes c =
    subst (All (λ k. k < length c.args.tree.now.nodes)) (sym c.deref-4.ensures.value) (nodes-below c.args.perfect (game_of_tree c.args.tree.now) c.in_ok-nodes.nodes.items c.stands_for_game_tree.ensures.game (c.in_ok-nodes.ensures {u = tt}))

pub choice_values-requires-clause-some_node : goal.choice_values-requires-clause-some_node
choice_values-requires-clause-some_node c = some_node c

pub returns-in_err-number : goal.returns-in_err-number
returns-in_err-number c =
    let t = game_of_tree c.args.tree.now in
    let stop = c.in_err-number.field-0.0 in
    gives-values_exit c.args.agents c.args.perfect t c.in_ok-nodes.nodes.items (c.in_ok-nodes.ensures {u = tt}) stop c.from_residual-in_err-number.result (λ text. text.items) (subst (λ nodes. Gives stops.Memory (values_in t nodes) (Err stop)) c.deref-4.ensures.value c.in_err-number.ensures.stop) c.from_residual-in_err-number.ensures.1

-- the choices' counts of actions
counts_are : (c : After-deref-10) → c.deref-9.result.now ≡ action_counts (game_of_tree c.args.tree.now)
counts_are c = c.deref-9.ensures.value ∙ c.in_ok-counts.ensures {u = tt}

-- the choices that pass are passing
are_passing : (c : After-deref-10) → ArePassing c.args.agents (game_of_tree c.args.tree.now) c.in_ok-nodes.nodes.items c.deref-10.result.now
are_passing c =
    let t = game_of_tree c.args.tree.now in
    subst (λ nodes. ArePassing c.args.agents t nodes c.deref-10.result.now) c.deref-8.ensures.value (subst (ArePassing c.args.agents t c.deref-8.result.now) (sym c.deref-10.ensures.value) (c.in_ok-passing.ensures {u = tt}))

-- their text
is_text : (c : After-deref-10) → IsPassingText c.args.agents c.args.perfect (game_of_tree c.args.tree.now) (lines_text (lines_below c.deref-9.result.now c.deref-10.result.now (length c.deref-10.result.now)))
is_text c =
    IsPassingText-listed c.args.agents c.args.perfect (game_of_tree c.args.tree.now) c.in_ok-nodes.nodes.items c.deref-10.result.now c.stands_for_game_tree.ensures.game (c.in_ok-nodes.ensures {u = tt}) (are_passing c) c.deref-9.result.now (counts_are c)

-- the values fit
values_fit : (c : After-deref-10) → values_in (game_of_tree c.args.tree.now) c.in_ok-nodes.nodes.items (Ok tt)
values_fit c = subst (λ nodes. values_in (game_of_tree c.args.tree.now) nodes (Ok tt)) c.deref-4.ensures.value c.in_ok-number.ensures.stop

pub list_profiles-requires-clause-some : goal.list_profiles-requires-clause-some
list_profiles-requires-clause-some c = subst (All (λ n. 0 < n)) (sym (counts_are c)) (some_actions (game_of_tree c.args.tree.now) c.stands_for_game_tree.ensures.game)

pub list_profiles-requires-clause-players : goal.list_profiles-requires-clause-players
list_profiles-requires-clause-players c =
    let t = game_of_tree c.args.tree.now in
    let valid = c.stands_for_game_tree.ensures.valid in
    omega (arith, ap length (counts_are c), length-map (player_sets t) t.actions, few_player_sets t, valid.few_sets, valid.few_nodes)

pub list_profiles-requires-clause-few : goal.list_profiles-requires-clause-few
list_profiles-requires-clause-few c =
    omega (arith, (are_passing c).of_each, few_choices (game_of_tree c.args.tree.now) c.deref-4.result.now (some_node (goal.at.list_profiles-requires-clause-few c).After-deref-4) c.in_ok-number.ensures.few)

pub returns-in_err-list_profiles : goal.returns-in_err-list_profiles
returns-in_err-list_profiles c =
    let at = (goal.at.returns-in_err-list_profiles c).After-deref-10 in
    gives-text_exit c.args.agents c.args.perfect (game_of_tree c.args.tree.now) c.in_ok-nodes.nodes.items (c.in_ok-nodes.ensures {u = tt}) _ c.in_err-list_profiles.field-0.0 c.from_residual-in_err-list_profiles.result (λ text. text.items) (values_fit at) (is_text at) c.in_err-list_profiles.ensures c.from_residual-in_err-list_profiles.ensures.1

pub returns : goal.returns
returns c =
    let at = (goal.at.returns c).After-deref-10 in
    gives-text c.args.agents c.args.perfect (game_of_tree c.args.tree.now) c.in_ok-nodes.nodes.items (c.in_ok-nodes.ensures {u = tt}) _ (Ok c.in_ok-list_profiles.field-0) (λ text. text.items) (values_fit at) (is_text at) c.in_ok-list_profiles.ensures
