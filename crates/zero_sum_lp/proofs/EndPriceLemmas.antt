-- The prices and plans at the end of the path prove their value.
use Rattle.std.proofs.Common.{ℕ, suc, pos, ◌<◌, ◌≡◌, ◌+◌, sym, ap, ◌∙◌, subst, subst₂, [], ◌∷◌, arith}
use Rattle.std.proofs.lemmas.Int.{ints}
use Rattle.rational.specs.Rational.{ℚ, ◌+ℚ◌, ◌*ℚ◌, zero_ℚ, one_ℚ, ◌≤ℚ◌}
use Rattle.rational.specs.Sum.{sum_to}
use Rattle.rational.proofs.Linear.{linear, at, lit, ◌⟨-⟩◌, ◌⟨≤⟩◌}
use Rattle.rational.proofs.Field.{le_trans, le-mul_right}
use Rattle.rational.proofs.SumLemmas.{sum_to-le, sum_to-same}
use Rattle.linear_systems.specs.Tableau.{Tableau}
use Rattle.linear_systems.specs.RowEquivalence.{IsStart}
use Rattle.linear_systems.specs.Rows.{basic_solution, unit_at, coefficient}
use Rattle.linear_systems.proofs.RowLemmas.{unit_self, unit_other}
use Rattle.sequence_forms.specs.Forms.{SequenceForm, row_sum, column_sum}
use Rattle.sequence_forms.specs.Matrices.{set_row, row_total, column_total, AreNotNegative}
use Rattle.sequence_forms.specs.Prices.{gains, IsValueProof}
use Rattle.sequence_forms.specs.Sides.{first, sequences, IsOrderedSide}
use Rattle.sequence_forms.proofs.FlowLemmas.{ordered_flow}
use Rattle.sequence_forms.proofs.MatrixLemmas.{row-whole, row-set, columns_net}
use Rattle.zero_sum_lp.specs.Paths.{LinearProgram, IsAfter, IsOptimal}
use Rattle.zero_sum_lp.specs.Plans.{IsRaised, IsTrimmed}
use Rattle.zero_sum_lp.specs.Programs.{constraints, IsProgramOf, price_one, price_two, raw_one, raw_two}
use Rattle.zero_sum_lp.proofs.BoundedObjectiveLemmas.{programs_feasible_and_bounded}
use Rattle.zero_sum_lp.proofs.DeterminedPathLemmas.{after_on_path}
use Rattle.zero_sum_lp.proofs.OptimalRowLemmas.{IsEnd, turned, coef_nonneg, column_one, column_two, row_one, row_two, firsts, nonneg_column}
use Rattle.zero_sum_lp.proofs.PlanWeightLemmas.{raised_above, raised_plan, trimmed_below, trimmed_plan}
use Rattle.zero_sum_lp.proofs.ProgramLemmas.{IsProgram, is_program, is_start, basic_is}

module _ (f : SequenceForm) (least : ℚ) (g : LinearProgram) (n : ℕ) (t : Tableau) (ro : IsOrderedSide f.rows) (co : IsOrderedSide f.columns) (p : IsProgramOf f.rows f.columns (gains f least) g) (after : IsAfter g n t) (optimal : IsOptimal g.rated t) where
  ends : IsEnd g.bound (constraints f.rows f.columns) g.start t
  ends = subst (λ m. IsEnd g.bound m g.start t) p.rated (record { on_path = after_on_path g n t (programs_feasible_and_bounded f.rows f.columns (gains f least) g ro co p) after; none = optimal })

  program : IsProgram (suc f.rows.sets) (sequences f.rows) (suc f.columns.sets) (sequences f.columns) (set_row f.rows) (set_row f.columns) (gains f least) g.start
  program = is_program f.rows f.columns (gains f least) g p

  start : IsStart g.bound (constraints f.rows f.columns) g.start
  start = is_start f.rows f.columns (gains f least) g p

  -- the variables of the start
  slack : (i : ℕ) → i < constraints f.rows f.columns → g.start.basic i ≡ suc i
  slack i h = sym (p.start.basic i (omega arith)) ∙ basic_is f.rows f.columns (gains f least) i h

  variable : (j : ℕ) → j < sequences f.rows + suc f.columns.sets → g.start.nonbasic j ≡ suc (constraints f.rows f.columns + j)
  variable j h = sym (p.start.nonbasic j h)

  -- ---- the inequalities of the optimum, in the variables' numbers
  weights_rows : (k : ℕ) → k < suc f.rows.sets → row_total f.rows (raw_one f.rows f.columns t) k ≤ℚ unit_at 0 k
  weights_rows k hk =
      subst (λ u. u ≤ℚ unit_at 0 k) (turned (sequences f.rows) (λ j. basic_solution t (g.start.nonbasic j)) (set_row f.rows k) ∙ sum_to-same (sequences f.rows) _ _ (λ j hj. ap (λ v. set_row f.rows k j *ℚ basic_solution t v) (variable j (omega arith)))) (row_one (suc f.rows.sets) (sequences f.rows) (suc f.columns.sets) (sequences f.columns) (set_row f.rows) (set_row f.columns) (gains f least) g.bound g.start t program start ends k hk)

  weights_columns : (k : ℕ) → k < suc f.columns.sets → unit_at 0 k ≤ℚ row_total f.columns (raw_two f.rows f.columns t) k
  weights_columns k hk =
      subst (λ u. unit_at 0 k ≤ℚ u) (turned (sequences f.columns) (λ q. coefficient t (constraints f.rows f.columns) (g.start.basic (suc f.rows.sets + q))) (set_row f.columns k) ∙ sum_to-same (sequences f.columns) _ _ (λ q hq. ap (λ v. set_row f.columns k q *ℚ coefficient t (constraints f.rows f.columns) v) (slack (suc f.rows.sets + q) (omega arith)))) (column_two (suc f.rows.sets) (sequences f.rows) (suc f.columns.sets) (sequences f.columns) (set_row f.rows) (set_row f.columns) (gains f least) g.bound g.start t program start ends k hk)

  prices_rows : (r : ℕ) → r < sequences f.rows → row_sum f (gains f least) (raw_two f.rows f.columns t) r ≤ℚ column_total f.rows (price_one f.rows f.columns t) r
  prices_rows r hr =
      subst₂ (λ u v. u ≤ℚ v) (sum_to-same (sequences f.columns) _ _ (λ q hq. ap (λ v. coefficient t (constraints f.rows f.columns) v *ℚ gains f least r q) (slack (suc f.rows.sets + q) (omega arith)))) (turned (suc f.rows.sets) (λ k. coefficient t (constraints f.rows f.columns) (g.start.basic k)) (λ k. set_row f.rows k r) ∙ sum_to-same (suc f.rows.sets) _ _ (λ k hk. ap (λ v. set_row f.rows k r *ℚ coefficient t (constraints f.rows f.columns) v) (slack k (omega arith)))) (column_one (suc f.rows.sets) (sequences f.rows) (suc f.columns.sets) (sequences f.columns) (set_row f.rows) (set_row f.columns) (gains f least) g.bound g.start t program start ends r hr)

  prices_columns : (q : ℕ) → q < sequences f.columns → column_total f.columns (price_two f.rows f.columns t) q ≤ℚ column_sum f (gains f least) (raw_one f.rows f.columns t) q
  prices_columns q hq =
      subst₂ (λ u v. u ≤ℚ v) (turned (suc f.columns.sets) (λ k. basic_solution t (g.start.nonbasic (sequences f.rows + k))) (λ k. set_row f.columns k q) ∙ sum_to-same (suc f.columns.sets) _ _ (λ k hk. ap (λ v. set_row f.columns k q *ℚ basic_solution t v) (variable (sequences f.rows + k) (omega arith)))) (sum_to-same (sequences f.rows) _ _ (λ j hj. ap (λ v. basic_solution t v *ℚ gains f least j q) (variable j (omega arith)))) (row_two (suc f.rows.sets) (sequences f.rows) (suc f.columns.sets) (sequences f.columns) (set_row f.rows) (set_row f.columns) (gains f least) g.bound g.start t program start ends q hq)

  same_first : price_one f.rows f.columns t 0 ≡ price_two f.rows f.columns t 0
  same_first = ap (coefficient t (constraints f.rows f.columns)) (sym (slack 0 (omega arith))) ∙ firsts (suc f.rows.sets) (sequences f.rows) (suc f.columns.sets) (sequences f.columns) (set_row f.rows) (set_row f.columns) (gains f least) g.bound g.start t program start ends (omega arith) (omega arith) ∙ ap (basic_solution t) (variable (sequences f.rows + 0) (omega arith))

  -- ---- raw weights
  raw_one_sign : AreNotNegative (sequences f.rows) (raw_one f.rows f.columns t)
  raw_one_sign q hq = subst (λ v. zero_ℚ ≤ℚ basic_solution t v) (variable q (omega arith)) (nonneg_column (suc f.rows.sets) (sequences f.rows) (suc f.columns.sets) (sequences f.columns) (set_row f.rows) (set_row f.columns) (gains f least) g.bound g.start t program start ends q (omega arith))

  raw_two_sign : AreNotNegative (sequences f.columns) (raw_two f.rows f.columns t)
  raw_two_sign q hq = coef_nonneg t (constraints f.rows f.columns) (suc (suc f.rows.sets + q)) ends.none

  raw_one_empty : raw_one f.rows f.columns t 0 ≤ℚ one_ℚ
  raw_one_empty = subst₂ (λ u v. u ≤ℚ v) (row-whole f.rows (raw_one f.rows f.columns t)) (unit_self 0) (weights_rows 0 (omega arith))

  raw_two_empty : one_ℚ ≤ℚ raw_two f.rows f.columns t 0
  raw_two_empty = subst₂ (λ u v. u ≤ℚ v) (unit_self 0) (row-whole f.columns (raw_two f.rows f.columns t)) (weights_columns 0 (omega arith))

  raw_one_sets : (j : ℕ) → j < f.rows.sets → sum_to (f.rows.count j) (λ a. raw_one f.rows f.columns t (first f.rows j + a)) ≤ℚ raw_one f.rows f.columns t (f.rows.before j)
  raw_one_sets j hj =
      linear (sum_to (f.rows.count j) (λ a. raw_one f.rows f.columns t (first f.rows j + a)) ∷ raw_one f.rows f.columns t (f.rows.before j) ∷ []) (((at 0 ⟨-⟩ at 1) ⟨≤⟩ lit (pos 0)) ∷ []) (at 0 ⟨≤⟩ at 1) (λ one z u v. omega (arith, ints)) (subst₂ (λ u v. u ≤ℚ v) (row-set f.rows (raw_one f.rows f.columns t) j (ordered_flow f.rows ro).side hj) (unit_other 0 (suc j) (omega arith)) (weights_rows (suc j) (omega arith)), tt)

  raw_two_sets : (j : ℕ) → j < f.columns.sets → raw_two f.rows f.columns t (f.columns.before j) ≤ℚ sum_to (f.columns.count j) (λ a. raw_two f.rows f.columns t (first f.columns j + a))
  raw_two_sets j hj =
      linear (sum_to (f.columns.count j) (λ a. raw_two f.rows f.columns t (first f.columns j + a)) ∷ raw_two f.rows f.columns t (f.columns.before j) ∷ []) ((lit (pos 0) ⟨≤⟩ (at 0 ⟨-⟩ at 1)) ∷ []) (at 1 ⟨≤⟩ at 0) (λ one z u v. omega (arith, ints)) (subst₂ (λ u v. u ≤ℚ v) (unit_other 0 (suc j) (omega arith)) (row-set f.columns (raw_two f.rows f.columns t) j (ordered_flow f.columns co).side hj) (weights_columns (suc j) (omega arith)), tt)

  -- ---- the proof of the value
  pub value_proved : (x y : ℕ → ℚ) → ((r q : ℕ) → r < sequences f.rows → q < sequences f.columns → zero_ℚ ≤ℚ gains f least r q) → IsRaised f.rows (raw_one f.rows f.columns t) x → IsTrimmed f.columns (raw_two f.rows f.columns t) y → IsValueProof f least x y (price_one f.rows f.columns t) (price_two f.rows f.columns t) (price_two f.rows f.columns t 0 +ℚ least)
  value_proved x y sign r c =
      record {
        row_plan = raised_plan f.rows ro (raw_one f.rows f.columns t) x r raw_one_empty raw_one_sets raw_one_sign;
        column_plan = trimmed_plan f.columns co (raw_two f.rows f.columns t) y c raw_two_sign raw_two_empty raw_two_sets;
        row_prices = λ k hk. coef_nonneg t (constraints f.rows f.columns) (suc k) ends.none;
        column_prices = λ k hk. subst (λ v. zero_ℚ ≤ℚ basic_solution t v) (variable (sequences f.rows + k) (omega arith)) (nonneg_column (suc f.rows.sets) (sequences f.rows) (suc f.columns.sets) (sequences f.columns) (set_row f.rows) (set_row f.columns) (gains f least) g.bound g.start t program start ends (sequences f.rows + k) (omega arith));
        same_first = same_first;
        value_is = ap (λ u. u +ℚ least) (sym same_first);
        row_gains = λ q hq. subst (λ u. row_sum f (gains f least) y q ≤ℚ u) (columns_net f.rows (price_one f.rows f.columns t) q hq) (le_trans _ _ _ (sum_to-le (sequences f.columns) _ _ (λ s hs. le-mul_right (gains f least q s) (y s) (raw_two f.rows f.columns t s) (sign q s hq hs) (trimmed_below f.columns co (raw_two f.rows f.columns t) y c raw_two_sign raw_two_empty raw_two_sets s hs))) (prices_rows q hq));
        column_gains = λ q hq. subst (λ u. u ≤ℚ column_sum f (gains f least) x q) (columns_net f.columns (price_two f.rows f.columns t) q hq) (le_trans _ _ _ (prices_columns q hq) (sum_to-le (sequences f.rows) _ _ (λ s hs. le-mul_right (gains f least s q) (raw_one f.rows f.columns t s) (x s) (sign s q hs hq) (raised_above f.rows ro (raw_one f.rows f.columns t) x r raw_one_empty raw_one_sets s hs))));
      }
