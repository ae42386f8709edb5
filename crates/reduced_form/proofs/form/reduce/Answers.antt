use Rattle.std.proofs.Common.{ℕ, ◌*◌, ◌≡◌, ◌≤◌, Ok, List, length, map, refl, ap, ◌∙◌, subst}
use Rattle.std.proofs.lemmas.Result.{err_from_is_err_and}
use Rattle.game_theory.specs.Profiles.{profile_count}
use Rattle.game_core.specs.Table.{GameTable}
use Rattle.game_core.specs.TreeGame.{game_of_tree}
use Rattle.reduced_strategies.specs.StrategicForm.{AreStrategies}
use Rattle.reduced_form.specs.Cells.{AreCells}
use Rattle.reduced_form.specs.Counts.{AreCounted}
use Rattle.reduced_form.specs.Limits.{choices_of, most_choices}
use Rattle.reduced_form.specs.ReducedForm.{IsReducedForm}
use Rattle.reduced_form.specs.Stops.{within_limits}
use Rattle.reduced_form.proofs.FormCountLemmas.{counted-same}
use Rattle.reduced_form.proofs.FormAnswerLemmas.{cells_stop, counts_stop, few_payoffs, form-within}
use Rattle.reduced_form.proofs.FormLaws.{form-is_form, form-pays_completions, form_table, form_table-is_table}
use Rattle.reduced_form.proofs.form.reduce.Goals as goal
use Rattle.reduced_form.proofs.form.reduce.Goals.{In_ok-choices, In_ok-payoffs}

-- the counts are counted, and the strategies are those of the tree
counted : (c : In_ok-choices) → AreCounted (game_of_tree c.args.tree.now) c.in_ok-counts.counts.items
counted c = rw c.in_ok-decisions.ensures at (c.in_ok-counts.ensures {u = tt}).counted

listed : (c : In_ok-choices) → AreStrategies (game_of_tree c.args.tree.now) c.in_ok-choices.choices
listed c = rw c.in_ok-decisions.ensures at (c.in_ok-choices.ensures {u = tt})

-- the counts are those of the strategies
same : (c : In_ok-choices) → c.in_ok-counts.counts.items ≡ map length c.in_ok-choices.choices
same c = counted-same (game_of_tree c.args.tree.now) c.in_ok-counts.counts.items c.in_ok-choices.choices (counted c) (listed c)

-- both counts are within their limits
few : (c : In_ok-choices) → within_limits (game_of_tree c.args.tree.now) c.in_ok-choices.choices (Ok tt)
few c =
    form-within (game_of_tree c.args.tree.now) c.in_ok-counts.counts.items c.in_ok-choices.choices (counted c) (listed c) (rw c.in_ok-decisions.ensures at (c.in_ok-counts.ensures {u = tt}).few)
    (subst (λ (ns : List ℕ). choices_of (game_of_tree c.args.tree.now) ns ≤ most_choices) c.deref-2.ensures.value (c.in_ok-check_choices.ensures {u = tt}).few)

-- there is a payoff for each cell
long : (c : In_ok-payoffs) → c.in_ok-counts.counts.items ≡ map length c.in_ok-choices.choices → length c.in_ok-payoffs.payoffs.items ≡ length c.args.tree.now.players * profile_count (map length c.in_ok-choices.choices)
long c same = (c.in_ok-payoffs.ensures {u = tt}).so_many ∙ ap (λ ns. length c.args.tree.now.players * profile_count ns) (c.deref-4.ensures.value ∙ same)

-- the payoffs are those of the cells
paid : (c : In_ok-payoffs) → AreCells (game_of_tree c.args.tree.now) c.in_ok-choices.choices c.in_ok-payoffs.payoffs.items
paid c = (c.in_ok-payoffs.ensures {u = tt}).cells

pub returns-in_err-counts-clause-answer : goal.returns-in_err-counts-clause-answer
returns-in_err-counts-clause-answer c =
    let p = err_from_is_err_and c.from_residual-in_err-counts.result c.from_residual-in_err-counts.ensures.1 in
    rw (p.1, p.2) (counts_stop c.args.tree.now c.in_err-counts.field-0.0 (rw c.in_ok-decisions.ensures at c.in_err-counts.ensures.stop))

pub cells-requires-clause-counts : goal.cells-requires-clause-counts
cells-requires-clause-counts c =
    c.deref-4.ensures.value ∙ same (goal.at.cells-requires-clause-counts c).In_ok-choices

pub returns-in_err-payoffs-clause-answer : goal.returns-in_err-payoffs-clause-answer
returns-in_err-payoffs-clause-answer c =
    let t = game_of_tree c.args.tree.now in
    let d = (goal.at.returns-in_err-payoffs-clause-answer c).In_ok-choices in
    let p = err_from_is_err_and c.from_residual-in_err-payoffs.result c.from_residual-in_err-payoffs.ensures.1 in
    rw (p.1, p.2) (cells_stop c.args.tree.now d.in_ok-choices.choices c.in_err-payoffs.field-0.0 (listed d) (few d) c.in_err-payoffs.ensures.fit)

pub table_of-requires : goal.table_of-requires
table_of-requires c =
    let t = c.args.tree.now in
    let d = (goal.at.table_of-requires c).In_ok-payoffs in
    let choices = (goal.at.table_of-requires c).In_ok-choices in
    let valid = c.trees_are_game_trees.ensures t c.players-players.ensures.valid in
    form_table-is_table t c.in_ok-choices.choices c.in_ok-payoffs.payoffs.items valid (listed choices) (long d (same choices)) (few_payoffs (game_of_tree t) c.in_ok-choices.choices (few choices))

-- the form
made : (c : In_ok-payoffs) → AreStrategies (game_of_tree c.args.tree.now) c.in_ok-choices.choices → c.in_ok-counts.counts.items ≡ map length c.in_ok-choices.choices → within_limits (game_of_tree c.args.tree.now) c.in_ok-choices.choices (Ok tt)
    → (table : GameTable) → table ≡ form_table c.args.tree.now c.in_ok-choices.choices c.in_ok-payoffs.payoffs.items
    → IsReducedForm c.args.tree.now (record { choices = c.in_ok-choices.choices; table = table })
made c listed counts few table is =
    let t = c.args.tree.now in
    let valid = c.trees_are_game_trees.ensures t c.players-players.ensures.valid in
    form-is_form t c.in_ok-choices.choices c.in_ok-payoffs.payoffs.items table valid listed is (long c counts) (few_payoffs (game_of_tree t) c.in_ok-choices.choices few) (paid c)

pub returns-clause-answer : goal.returns-clause-answer
returns-clause-answer c =
    let t = c.args.tree.now in
    let d = (goal.at.returns-clause-answer c).In_ok-payoffs in
    let choices = (goal.at.returns-clause-answer c).In_ok-choices in
    (c.in_ok-choices.choices, listed choices, (tt, few choices, (tt, d.in_ok-payoffs.ensures.fit, (made d (listed choices) (same choices) (few choices) c.in_ok-table.table (c.in_ok-table.ensures {u = tt}), refl))))

pub returns-clause-completions : goal.returns-clause-completions
returns-clause-completions c =
    let t = c.args.tree.now in
    let d = (goal.at.returns-clause-completions c).In_ok-payoffs in
    let choices = (goal.at.returns-clause-completions c).In_ok-choices in
    let valid = c.trees_are_game_trees.ensures t c.players-players.ensures.valid in
    form-pays_completions t (record { choices = c.in_ok-choices.choices; table = c.in_ok-table.table }) valid (made d (listed choices) (same choices) (few choices) c.in_ok-table.table (c.in_ok-table.ensures {u = tt}))
