-- The problem of a sequence form in stages, and why there is none.
use Rattle.sequence_data.specs.Sizes.{form_sizes, problem_rows}
use Rattle.std.specs.Prelude.{ℕ, List, [], ◌∷◌, Ok}
use Rattle.std.specs.List.{flat_map}
use Rattle.answers.specs.Answers.{Answer, ◌>>=◌, ◌>>◌, only, IsSingle, refused_by}
use Rattle.rational.specs.Rational.{ℚ, ◌*ℚ◌}
use Rattle.frac128.specs.Steps.{step_of, Step}
use Rattle.frac128.specs.declared.steps.Op.TheVariants.{Sub, Mul}
use Rattle.lex_tableau.specs.Rows.{WholeTableau}
use Rattle.lex_tableau.specs.Starts.{LinearSystem}
use Rattle.lex_tableau.specs.StartStops.{start_of}
use Rattle.lex_tableau.specs.declared.tableau.StartStop.{StartStop}
use Rattle.lex_tableau.specs.declared.tableau.StartStop.TheVariants as starts
use Rattle.game_core.specs.Limits.{most_rows, within}
use Rattle.game_core.specs.declared.too_large.What.TheVariants as what
use Rattle.frac128.specs.FirstUnfit.{all_fit}
use Rattle.sequence_forms.specs.Prices.{cost_at, costs}
use Rattle.sequence_data.specs.declared.types.Cell.{Cell}
use Rattle.sequence_data.specs.Data.{FormData, IsFormData, form, of_player}
use Rattle.lemke_pivot.specs.Parts.{Problem, IsProblem, IsProblemOfForm}
use Rattle.lemke_pivot.specs.Systems.{IsSystemFor}
use Rattle.lemke_pivot.specs.declared.stop.LcpStop.{LcpStop}
use Rattle.lemke_pivot.specs.declared.stop.LcpStop.TheVariants as stops

-- ---- the costs
-- the steps of the cost of a payoff: the product first
abbrev pub cost_steps : ℚ → ℚ → ℚ → List Step
cost_steps most weight payoff = step_of Mul most weight ∷ step_of Sub (most *ℚ weight) payoff ∷ []

-- the cost of the first player at a cell
abbrev pub cost_one : ℚ → Cell → ℚ
cost_one most c = cost_at most c.weight c.one

-- the cost of the second player at a cell
abbrev pub cost_two : ℚ → Cell → ℚ
cost_two most c = cost_at most c.weight c.two

-- a cell, and the player whose cost there is meant
pub record PlayersCell : Type 0 where
  pub player : ℕ
  pub cell : Cell

-- cell by cell, the first player's cost and then the second player's
abbrev pub both_costs : List Cell → List PlayersCell
both_costs cells =
    flat_map (λ (c : Cell). record { player = 0; cell = c } ∷ record { player = 1; cell = c } ∷ [])
    cells

-- the steps of the cost that is meant, by both players' greatest payoffs
abbrev pub steps_at : ℚ → ℚ → PlayersCell → List Step
steps_at greatest_one greatest_two c =
    cost_steps (of_player c.player greatest_one greatest_two) c.cell.weight
    (of_player c.player c.cell.one c.cell.two)

-- a cell and its step as a refusal tells them
abbrev pub told_cost : PlayersCell × Step → LcpStop
told_cost stop = stops.Range stop.0.player stop.0.cell.row stop.0.cell.column stop.1

-- the costs of all cells fit; or the first step that does not, with its player, row and column
abbrev pub costs_in : ℚ → ℚ → List Cell → Answer LcpStop (Unit {0})
costs_in greatest_one greatest_two cells =
    refused_by told_cost (all_fit (steps_at greatest_one greatest_two) (both_costs cells))

-- ---- the start
-- the system of the problem of a form
abbrev pub IsSystemOf : FormData → LinearSystem → Type 0
IsSystemOf f s =
    IsSystemFor f.first f.second (costs (form f) 0 f.greatest_one) (costs (form f) 1 f.greatest_two)
    s

-- the problem of a form's sides with this start
abbrev pub with_start : FormData → WholeTableau → Problem
with_start f n = record { first = f.first; second = f.second; tableau = n }

-- a stop of the start as one of the problem
abbrev pub told_start : StartStop → LcpStop
told_start (starts.Unfit row unfit) = stops.Start row unfit
told_start starts.Memory = stops.Memory

-- the problem with the start of its system, all steps of which fit; or the first step that does
-- not, with its row
abbrev pub form_start_in : FormData → Answer LcpStop Problem
form_start_in f =
    refused_by told_start (start_of (IsSystemOf f)) >>= (λ start. only (with_start f start))

-- ---- all
-- The problem of a sequence form within the limit, whose steps all fit; or why there is none.
abbrev pub problem_in : FormData → Answer LcpStop Problem
problem_in f =
    refused_by stops.TooLarge (within what.Rows most_rows (problem_rows (form_sizes f)))
    >> (costs_in f.greatest_one f.greatest_two f.cells >> form_start_in f)

-- A form has at most one answer: its problem, or the reason why it has none.
abbrev pub ProblemsAreSingle : Type 0
ProblemsAreSingle = (f : FormData) → IsSingle (problem_in f)

-- The problem that a form has is a problem, and that of the form.
abbrev pub ProblemsAreOfForms : Type 0
ProblemsAreOfForms =
    (f : FormData) (p : Problem) → IsFormData f → problem_in f (Ok p)
    → IsProblem p × IsProblemOfForm (form f) f.greatest_one f.greatest_two p
