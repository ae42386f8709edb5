-- Why a tree has no reduced form within the limits. Players and profiles count from 0.
use Rattle.std.specs.Prelude.{ℕ, ◌≡◌, List}
use Rattle.answers.specs.Answers.{Answer, ◌>>=◌, ◌>>◌, such_that, refused_by}
use Rattle.game_theory.specs.Trees.{Tree}
use Rattle.reduced_strategies.specs.StrategicForm.{AreStrategies}
use Rattle.game_core.specs.Table.{most_payoffs}
use Rattle.game_core.specs.Tree.{GameTree}
use Rattle.game_core.specs.TreeGame.{game_of_tree}
use Rattle.game_core.specs.Limits.{counted_within}
use Rattle.game_core.specs.declared.too_large.What.TheVariants as what
use Rattle.frac128.specs.FirstUnfit.{all_fit}
use Rattle.reduced_form.specs.Limits.{cell_steps, cells, choice_count, most_choices, payoff_count}
use Rattle.reduced_form.specs.ReducedForm.{ReducedForm, IsReducedForm}
use Rattle.reduced_form.specs.declared.stop.ReduceStop.{ReduceStop}
use Rattle.reduced_form.specs.declared.stop.ReduceStop.TheVariants as stops

-- the reduced strategies of all players
abbrev pub strategies_of : Tree → Answer ReduceStop (List (List (List ℕ)))
strategies_of t = such_that (AreStrategies t)

-- both counts are within their limits, that of payoffs first
abbrev pub within_limits : Tree → List (List (List ℕ)) → Answer ReduceStop (Unit {0})
within_limits t strategies =
    refused_by stops.TooLarge
    (counted_within what.Payoffs most_payoffs (payoff_count t strategies)
    >> counted_within what.Choices most_choices (choice_count t strategies))

-- the steps of all cells fit; or the first that does not, with its profile and player
abbrev pub cells_in : Tree → List (List (List ℕ)) → Answer ReduceStop (Unit {0})
cells_in t strategies =
    refused_by (λ stop. stops.Range stop.0.0 stop.0.1 stop.1)
    (all_fit (λ cell. cell_steps t strategies cell.0 cell.1) (cells t strategies))

-- the form over these strategies
abbrev pub form_over : GameTree → List (List (List ℕ)) → Answer ReduceStop ReducedForm
form_over tree strategies =
    such_that (λ form. IsReducedForm tree form × (form.choices ≡ strategies))

-- The reduced form of a tree, whose counts are within their limits and whose payoffs are computed
-- in steps that all fit; or why it has none.
abbrev pub reduced_form_of : GameTree → Answer ReduceStop ReducedForm
reduced_form_of tree =
    strategies_of (game_of_tree tree) >>= (λ strategies.
    within_limits (game_of_tree tree) strategies
    >> (cells_in (game_of_tree tree) strategies >> form_over tree strategies))
