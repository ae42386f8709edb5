-- What a solution proves.
use Rattle.std.specs.Prelude.{ℕ, ◌≡◌, [], ◌∷◌}
use Rattle.rational.specs.Rational.{ℚ}
use Rattle.game_theory.specs.Equilibrium.{IsEquilibrium as is_table_equilibrium}
use Rattle.game_theory.specs.Profiles.{Game}
use Rattle.game_theory.specs.TreeEquilibrium.{IsEquilibrium}
use Rattle.game_theory.specs.Trees.{Tree}
use Rattle.sequence_forms.specs.Alike.{FormsAlike}
use Rattle.sequence_forms.specs.Forms.{SequenceForm, HasTwoWhoRecall, form_of, form_of_table, mixed_of_plans}
use Rattle.sequence_forms.specs.Matrices.{SolvesProblem}
use Rattle.sequence_forms.specs.PlanBehaviour.{behaviour_of, of_two}
use Rattle.sequence_forms.specs.Prices.{costs}
use Rattle.lemke_pivot.specs.Problems.{costs_of, at_p, at_p', at_q, at_q'}
use Rattle.lemke_pivot.specs.Ends.{IsSolutionOf}
use Rattle.lemke_pivot.specs.Parts.{Problem, IsProblem, IsProblemOfForm, plan_one, plan_two, z_values}

-- plans and prices of a solution solve the complementarity problem of a form
abbrev pub SolvesForm : SequenceForm → ℚ → ℚ → Problem → Type 0
SolvesForm f greatest_one greatest_two s =
    let c = costs_of f.rows f.columns (costs f 0 greatest_one) (costs f 1 greatest_two) in
    SolvesProblem f greatest_one greatest_two (plan_one s) (plan_two s)
    (at_p c (z_values s)) (at_p' c (z_values s)) (at_q c (z_values s)) (at_q' c (z_values s))

-- The solution of a form's problem solves it.
abbrev pub SolutionsSolveTheForm : Type 0
SolutionsSolveTheForm =
    (f : SequenceForm) (greatest_one greatest_two : ℚ) (p s : Problem) → IsProblem p
    → IsProblemOfForm f greatest_one greatest_two p → IsSolutionOf p s
    → SolvesForm f greatest_one greatest_two s

-- of a tree: its plans are behaviour in equilibrium
abbrev pub SolutionsSolveTrees : Type 0
SolutionsSolveTrees =
    (t : Tree) (f : SequenceForm) (greatest_one greatest_two : ℚ) (p s : Problem)
    → HasTwoWhoRecall t → FormsAlike f (form_of t) → IsProblem p
    → IsProblemOfForm f greatest_one greatest_two p → IsSolutionOf p s
    → IsEquilibrium t (behaviour_of t (of_two (plan_one s) (plan_two s)))

-- of a table: its plans are mixed strategies in equilibrium
abbrev pub SolutionsSolveTables : Type 0
SolutionsSolveTables =
    (g : Game) (m n : ℕ) (f : SequenceForm) (greatest_one greatest_two : ℚ) (p s : Problem)
    → g.strategies ≡ m ∷ n ∷ [] → FormsAlike f (form_of_table g m n) → IsProblem p
    → IsProblemOfForm f greatest_one greatest_two p → IsSolutionOf p s
    → is_table_equilibrium g (mixed_of_plans (of_two (plan_one s) (plan_two s)))
