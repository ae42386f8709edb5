-- The plans of a solution, as lists, solve the problem of its form.
use Rattle.std.proofs.Common.{ℕ, ◌<◌, ◌≡◌, ◌∙◌, sym, ap, ap₂, subst}
use Rattle.rational.specs.Rational.{ℚ, ◌+ℚ◌, ◌-ℚ◌, ◌*ℚ◌, ◌≤ℚ◌, zero_ℚ}
use Rattle.rational.proofs.SumLemmas.{sum_to-same}
use Rattle.game_theory.proofs.ProfileLineLemmas.{get_or-listed}
use Rattle.sequence_forms.specs.Forms.{SequenceForm}
use Rattle.sequence_forms.specs.Matrices.{SolvesProblem, column_slack, column_total, right_side, row_slack, row_total, set_row}
use Rattle.sequence_forms.specs.Prices.{costs}
use Rattle.sequence_forms.specs.Sides.{sequences}
use Rattle.lemke_pivot.specs.Problems.{Costs, costs_of, at_p, at_p', at_q, at_q'}
use Rattle.sequence_data.specs.Data.{side_of}
use Rattle.rational.specs.Sum.{entry_at}
use Rattle.sequence_data.specs.PlanPairs.{PlanPair}
use Rattle.lemke_pivot.specs.Parts.{Problem, plan_one, plan_two, z_values, plans_at}
use Rattle.lemke_pivot.specs.SolutionLaws.{SolvesForm}

-- plans with prices that solve the problem of a form
pub record HavePrices (f : SequenceForm) (greatest_row greatest_column : ℚ) (plans : PlanPair) : Type 0 where
  pub P : ℕ → ℚ
  pub P' : ℕ → ℚ
  pub Q : ℕ → ℚ
  pub Q' : ℕ → ℚ
  pub solves : SolvesProblem f greatest_row greatest_column (entry_at plans.one) (entry_at plans.two) P P' Q Q'

module _ (f : SequenceForm) (g k : ℚ) (s : Problem) (rows : f.rows ≡ side_of s.first) (columns : f.columns ≡ side_of s.second) where
  abbrev x : ℕ → ℚ
  x = entry_at (plans_at s).one

  abbrev y : ℕ → ℚ
  y = entry_at (plans_at s).two

  x_is : (r : ℕ) → r < sequences f.rows → plan_one s r ≡ x r
  x_is r l = sym (get_or-listed (sequences (side_of s.first)) (plan_one s) r zero_ℚ (subst (λ d. r < sequences d) rows l))

  y_is : (q : ℕ) → q < sequences f.columns → plan_two s q ≡ y q
  y_is q l = sym (get_or-listed (sequences (side_of s.second)) (plan_two s) q zero_ℚ (subst (λ d. q < sequences d) columns l))

  row_slack_is : (P P' : ℕ → ℚ) (r : ℕ) → row_slack f g (plan_two s) P P' r ≡ row_slack f g y P P' r
  row_slack_is P P' r = ap (λ a. (a -ℚ column_total f.rows P r) +ℚ column_total f.rows P' r) (sum_to-same (sequences f.columns) _ _ (λ q l. ap (λ a. a *ℚ costs f 0 g r q) (y_is q l)))

  column_slack_is : (Q Q' : ℕ → ℚ) (q : ℕ) → column_slack f k (plan_one s) Q Q' q ≡ column_slack f k x Q Q' q
  column_slack_is Q Q' q = ap (λ a. (a -ℚ column_total f.columns Q q) +ℚ column_total f.columns Q' q) (sum_to-same (sequences f.rows) _ _ (λ r l. ap (λ a. a *ℚ costs f 1 k r q) (x_is r l)))

  row_total_x : (j : ℕ) → row_total f.rows (plan_one s) j ≡ row_total f.rows x j
  row_total_x j = sum_to-same (sequences f.rows) _ _ (λ r l. ap (λ a. set_row f.rows j r *ℚ a) (x_is r l))

  row_total_y : (j : ℕ) → row_total f.columns (plan_two s) j ≡ row_total f.columns y j
  row_total_y j = sum_to-same (sequences f.columns) _ _ (λ q l. ap (λ a. set_row f.columns j q *ℚ a) (y_is q l))

  abbrev c : Costs
  c = costs_of f.rows f.columns (costs f 0 g) (costs f 1 k)

  pub have_prices : SolvesForm f g k s → HavePrices f g k (plans_at s)
  have_prices h = record {
    P = at_p c (z_values s);
    P' = at_p' c (z_values s);
    Q = at_q c (z_values s);
    Q' = at_q' c (z_values s);
    solves = record {
      x_sign = λ r l. subst (λ a. zero_ℚ ≤ℚ a) (x_is r l) (h.x_sign r l);
      y_sign = λ q l. subst (λ a. zero_ℚ ≤ℚ a) (y_is q l) (h.y_sign q l);
      P_sign = h.P_sign;
      P'_sign = h.P'_sign;
      Q_sign = h.Q_sign;
      Q'_sign = h.Q'_sign;
      row_slacks = λ r l. subst (λ a. zero_ℚ ≤ℚ a) (row_slack_is _ _ r) (h.row_slacks r l);
      column_slacks = λ q l. subst (λ a. zero_ℚ ≤ℚ a) (column_slack_is _ _ q) (h.column_slacks q l);
      rows_enough = λ j l. subst (λ a. zero_ℚ ≤ℚ (a -ℚ right_side j)) (row_total_x j) (h.rows_enough j l);
      rows_not_more = λ j l. subst (λ a. zero_ℚ ≤ℚ (right_side j -ℚ a)) (row_total_x j) (h.rows_not_more j l);
      columns_enough = λ j l. subst (λ a. zero_ℚ ≤ℚ (a -ℚ right_side j)) (row_total_y j) (h.columns_enough j l);
      columns_not_more = λ j l. subst (λ a. zero_ℚ ≤ℚ (right_side j -ℚ a)) (row_total_y j) (h.columns_not_more j l);
      rows_meet = λ r l. sym (ap₂ (λ a b. a *ℚ b) (x_is r l) (row_slack_is _ _ r)) ∙ h.rows_meet r l;
      columns_meet = λ q l. sym (ap₂ (λ a b. a *ℚ b) (y_is q l) (column_slack_is _ _ q)) ∙ h.columns_meet q l;
    };
  }
