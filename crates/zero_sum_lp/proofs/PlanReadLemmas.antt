-- The raw weights as lists, and the plans made of them.
use Rattle.std.proofs.Common.{ℕ, suc, ◌<◌, ◌≡◌, ◌+◌, inl, inr, List, [], ◌∷◌, ◌++◌, Result, length, sym, ap, ap₂, ◌∙◌, subst, arith}
use Rattle.std.proofs.lemmas.List.{length_push, get_or_push, get_or_append_left}
use Rattle.rational.specs.Rational.{ℚ, zero_ℚ}
use Rattle.linear_systems.specs.Rows.{basic_solution, coefficient}
use Rattle.linear_systems.proofs.LexRowLemmas.{below_cases}
use Rattle.frac128.specs.Steps.{Step}
use Rattle.lex_tableau.specs.Rows.{WholeTableau, tableau}
use Rattle.sequence_forms.specs.Sides.{sequences}
use Rattle.sequence_data.specs.Data.{IsSideData, SideData, side_of}
use Rattle.rational.specs.Sum.{entry_at}
use Rattle.zero_sum_lp.specs.Parts.{HasShape, Program, IsOptimum, first_raw, second_raw}
use Rattle.zero_sum_lp.specs.PlanLists.{AreWeights}
use Rattle.zero_sum_lp.specs.PlanStops.{raised_in, trimmed_in}
use Rattle.zero_sum_lp.specs.Programs.{constraints, raw_one, raw_two}
use Rattle.zero_sum_lp.proofs.OptimumLemmas.{sets_are}
use Rattle.zero_sum_lp.proofs.PlanStageLemmas.{raised_in-as, trimmed_in-as}

-- ---- lists of weights
pub weights_push : (n : ℕ) (x : ℕ → ℚ) (xs ys : List ℚ) (v : ℚ) → AreWeights n x xs → v ≡ x n → ys ≡ xs ++ v ∷ [] → AreWeights (n + 1) x ys
weights_push n x xs ys v w e q =
    subst (AreWeights (n + 1) x) (sym q) (record {
      count = length_push xs v ∙ ap (λ k. k + 1) w.count;
      same = λ i l. elim (below_cases i n (omega arith)) [
        | inl h ↦ (get_or_push xs v zero_ℚ i (w.count ∙ sym h) ∙ e ∙ ap x (sym h))
        | inr h ↦ (get_or_append_left xs (v ∷ []) zero_ℚ i (let c : length xs ≡ n = w.count in omega arith) ∙ w.same i h)
      ];
    })

module _ (o : Program) (h : IsOptimum o) (seen : WholeTableau) (e : seen ≡ o.tableau) (objective : ℕ) (s : HasShape o.first o.second objective) (k : ℕ) (q : ℚ) where
  pub raw_one_is : q ≡ basic_solution (tableau seen) (objective + k + 1) → q ≡ raw_one (side_of o.first) (side_of o.second) (tableau o.tableau) k
  raw_one_is w =
      let m : objective ≡ constraints (side_of o.first) (side_of o.second) = s.rows in
      w ∙ ap₂ (λ (n : WholeTableau) (u : ℕ). basic_solution (tableau n) u) e (omega arith)

  pub raw_two_is : (v : ℕ) → v ≡ suc (suc (side_of o.first).sets + k) → q ≡ coefficient (tableau seen) objective v → q ≡ raw_two (side_of o.first) (side_of o.second) (tableau o.tableau) k
  raw_two_is v f w = w ∙ ap (λ n. coefficient (tableau n) objective v) e ∙ ap (λ m. coefficient (tableau o.tableau) m v) s.rows ∙ ap (coefficient (tableau o.tableau) (constraints (side_of o.first) (side_of o.second))) f

-- the number of a slack, and that it is not the objective's
pub slack_variable : (first second : SideData) (len k : ℕ) → len ≡ length first.sets → k < sequences (side_of second) → (len + 1 + k + 1 ≡ suc (suc (side_of first).sets + k)) × (len + 1 + k + 1 < suc (constraints (side_of first) (side_of second) + (sequences (side_of first) + suc (side_of second).sets)))
slack_variable first second len k e l =
    let n = sets_are first in
    (omega arith, omega arith)

-- ---- plans
module _ (o : Program) (sets : SideData) (raw : List ℚ) (h : IsSideData sets) (answer : Result (List ℚ) Step) where
  pub first_answer : sets ≡ o.first → AreWeights (sequences (side_of o.first)) (first_raw o) raw → raised_in (side_of sets) (entry_at raw) answer → raised_in (side_of o.first) (first_raw o) answer
  first_answer e w r = raised_in-as (side_of o.first) (subst IsSideData e h).ordered (entry_at raw) (first_raw o) answer w.same (subst (λ s. raised_in (side_of s) (entry_at raw) answer) e r)

  pub second_answer : sets ≡ o.second → AreWeights (sequences (side_of o.second)) (second_raw o) raw → trimmed_in (side_of sets) (entry_at raw) answer → trimmed_in (side_of o.second) (second_raw o) answer
  second_answer e w r = trimmed_in-as (side_of o.second) (subst IsSideData e h).ordered (entry_at raw) (second_raw o) answer w.same (subst (λ s. trimmed_in (side_of s) (entry_at raw) answer) e r)
