-- What an optimum's plans and prices prove.
use Rattle.sequence_data.specs.Data.{FormData, IsFormData, form, side_of}
use Rattle.std.specs.Prelude.{ℕ, ◌<◌, ◌≡◌, [], ◌∷◌, Ok}
use Rattle.rational.specs.Rational.{ℚ, ◌+ℚ◌, zero_ℚ, ◌≤ℚ◌}
use Rattle.game_theory.specs.Profiles.{Game}
use Rattle.game_theory.specs.Trees.{Tree}
use Rattle.sequence_forms.specs.Alike.{FormsAlike}
use Rattle.sequence_forms.specs.Forms.{SequenceForm, form_of, form_of_table, HasTwoWhoRecall, LeavesSumTo}
use Rattle.sequence_forms.specs.PriceLaws.{AreOptimalOnTree}
use Rattle.sequence_forms.specs.Prices.{gains, HasConstantSum, IsValueProof}
use Rattle.sequence_forms.specs.Sides.{sequences}
use Rattle.sequence_forms.specs.TableLaws.{AreOptimalOnTable}
use Rattle.zero_sum_lp.specs.Programs.{IsProgramOf}
use Rattle.zero_sum_lp.specs.Parts.{Program, IsProgram, IsOptimumOf, first_prices, second_prices}
use Rattle.rational.specs.Sum.{entry_at}
use Rattle.zero_sum_lp.specs.FormPrograms.{program_in}
use Rattle.zero_sum_lp.specs.PlanStops.{plans_of}
use Rattle.sequence_data.specs.PlanPairs.{PlanPair}
use Rattle.zero_sum_lp.specs.ExactPaths.{linear_program}

-- a program is that of a sequence form, where no gain is negative
pub record IsProgramOfForm (f : SequenceForm) (least : ℚ) (p : Program) : Type 0 where
  pub rows : f.rows ≡ side_of p.first
  pub columns : f.columns ≡ side_of p.second
  pub program : IsProgramOf f.rows f.columns (gains f least) (linear_program p.tableau)
  pub gains_not_negative :
      (r q : ℕ) → r < sequences f.rows → q < sequences f.columns → zero_ℚ ≤ℚ gains f least r q

-- the plans and prices at the optimum of a form's program prove the value: the second player's
-- first price and the least payoff
abbrev pub OptimalPlansProveTheValue : Type 0
OptimalPlansProveTheValue =
    (f : SequenceForm) (least : ℚ) (p o : Program) (plans : PlanPair) → IsProgram p
    → IsProgramOfForm f least p → IsOptimumOf p o → plans_of o (Ok plans)
    → IsValueProof f least (entry_at plans.one) (entry_at plans.two) (first_prices o)
    (second_prices o) (second_prices o 0 +ℚ least)

-- of a tree whose leaves' payoffs sum to the same number: behaviour in equilibrium, its value, and
-- both guarantees
abbrev pub OptimalPlansSolveTrees : Type 0
OptimalPlansSolveTrees =
    (t : Tree) (f : SequenceForm) (least sum : ℚ) (p o : Program) (plans : PlanPair)
    → HasTwoWhoRecall t → FormsAlike f (form_of t) → LeavesSumTo t sum → IsProgram p
    → IsProgramOfForm f least p → IsOptimumOf p o → plans_of o (Ok plans)
    → AreOptimalOnTree t (entry_at plans.one) (entry_at plans.two) (second_prices o 0 +ℚ least)

-- of a table whose payoffs sum to the same number: strategies in equilibrium, their value, and both
-- guarantees
abbrev pub OptimalPlansSolveTables : Type 0
OptimalPlansSolveTables =
    (g : Game) (m n : ℕ) (f : SequenceForm) (least sum : ℚ) (p o : Program) (plans : PlanPair)
    → g.strategies ≡ m ∷ n ∷ [] → FormsAlike f (form_of_table g m n)
    → HasConstantSum (form_of_table g m n) sum → IsProgram p
    → IsProgramOfForm f least p → IsOptimumOf p o → plans_of o (Ok plans)
    → AreOptimalOnTable g (entry_at plans.one) (entry_at plans.two) (second_prices o 0 +ℚ least)

-- The program that a form has is a program, and that of the form, where no gain is negative.
abbrev pub ProgramsAreOfForms : Type 0
ProgramsAreOfForms =
    (f : FormData) (p : Program) → IsFormData f → program_in f (Ok p)
    → IsProgram p × IsProgramOfForm (form f) f.least_one p
