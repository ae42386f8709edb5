-- The last tableau of a program's path.
use Rattle.std.proofs.Common.{ℕ, suc, ◌<◌, ◌≤◌, ◌≡◌, ◌≢◌, ◌+◌, length, sym, ap, ap₂, ◌∙◌, subst, arith, add-one}
use Rattle.std.proofs.lemmas.List.{length-map}
use Rattle.rational.specs.Rational.{ℚ}
use Rattle.linear_systems.specs.Rows.{basic_solution, coefficient}
use Rattle.sequence_forms.specs.Sides.{sequences}
use Rattle.zero_sum_lp.specs.Programs.{constraints, price_one, price_two}
use Rattle.zero_sum_lp.proofs.BoundedObjectiveLemmas.{programs_feasible_and_bounded}
use Rattle.zero_sum_lp.proofs.DeterminedPathLemmas.{after_on_path}
use Rattle.zero_sum_lp.proofs.ObjectiveGrowthLemmas.{IsLexicographicallyFeasible}
use Rattle.zero_sum_lp.proofs.ProgramLemmas.{basic_last}
use Rattle.lex_tableau.specs.Rows.{WholeTableau, tableau}
use Rattle.sequence_data.specs.Data.{SideData, side_of}
use Rattle.zero_sum_lp.specs.Parts.{HasShape, Program, IsProgram, IsOptimum}
use Rattle.zero_sum_lp.specs.ExactPaths.{linear_program, IsProgramStart}
use Rattle.zero_sum_lp.proofs.PathWalkLemmas.{leads_after}

pub program_starts : (p : Program) → IsProgram p → IsProgramStart p.tableau
program_starts p h =
    record { basics = h.start.basics; program = programs_feasible_and_bounded (side_of p.first) (side_of p.second) h.start.gain (linear_program p.tableau) h.first.ordered h.second.ordered h.start.program }

-- how many sets a side has
pub sets_are : (sets : SideData) → (side_of sets).sets ≡ length sets.sets
sets_are sets = length-map sets.sets (λ s. s.before)

module _ (o : Program) (h : IsOptimum o) where
  start_is : IsProgramStart h.start
  start_is = program_starts (record { first = o.first; second = o.second; tableau = h.start }) (record { first = h.first; second = h.second; start = h.begins })

  end_feasible : IsLexicographicallyFeasible (linear_program h.start).bound h.start.rated (tableau h.start) (tableau o.tableau)
  end_feasible = after_on_path (linear_program h.start) h.path.count (tableau o.tableau) start_is.program (leads_after h.start o.tableau h.path.count start_is h.path.path)

  pub end_rows : length o.tableau.basics ≡ suc (constraints (side_of o.first) (side_of o.second))
  end_rows = end_feasible.reached.rows ∙ sym h.begins.program.start.rows

  -- the objective row's variable
  pub end_objective : (tableau o.tableau).basic (constraints (side_of o.first) (side_of o.second)) ≡ suc (constraints (side_of o.first) (side_of o.second) + (sequences (side_of o.first) + suc (side_of o.second).sets))
  end_objective =
      let m : h.start.rated ≡ constraints (side_of o.first) (side_of o.second) = h.begins.program.rated in
      let w : suc (constraints (side_of o.first) (side_of o.second)) ≡ length h.start.basics = h.begins.program.start.rows in
      end_feasible.reached.stays (constraints (side_of o.first) (side_of o.second)) (omega arith) (omega arith)
      ∙ sym (h.begins.program.start.basic (constraints (side_of o.first) (side_of o.second)) (omega arith))
      ∙ basic_last (side_of o.first) (side_of o.second) h.begins.gain (constraints (side_of o.first) (side_of o.second)) (omega arith)

-- ---- for the readers
module _ (o : Program) (h : IsOptimum o) (seen : WholeTableau) (e : seen ≡ o.tableau) (objective : ℕ) (s : HasShape o.first o.second objective) where
  pub read_row : objective < length seen.basics
  read_row = subst (λ n. objective < length n.basics) (sym e) (let r = end_rows o h in let m : objective ≡ constraints (side_of o.first) (side_of o.second) = s.rows in omega arith)

  -- a variable with a smaller number is not the objective row's
  pub read_other : (v : ℕ) → v < suc (constraints (side_of o.first) (side_of o.second) + (sequences (side_of o.first) + suc (side_of o.second).sets)) → (tableau seen).basic objective ≢ v
  read_other v l q =
      let b : (tableau seen).basic objective ≡ suc (constraints (side_of o.first) (side_of o.second) + (sequences (side_of o.first) + suc (side_of o.second).sets)) = ap (λ n. (tableau n).basic objective) e ∙ ap (λ m. (tableau o.tableau).basic m) s.rows ∙ end_objective o h in
      omega (arith, l, q, b)

-- ---- values
-- a slack of the first player's rows has a smaller number than the objective
pub few_sets : (first second : SideData) (k : ℕ) → k ≤ length first.sets → k + 1 < suc (constraints (side_of first) (side_of second) + (sequences (side_of first) + suc (side_of second).sets))
few_sets first second k h = let e = sets_are first in omega arith

-- the number of a value
pub second_variable : (first second : SideData) (objective before k : ℕ) → HasShape first second objective → before ≡ sequences (side_of first) → objective + before + k + 1 ≡ suc (constraints (side_of first) (side_of second) + (sequences (side_of first) + k))
second_variable first second objective before k s e =
    let m : objective ≡ constraints (side_of first) (side_of second) = s.rows in
    omega arith

module _ (o : Program) (h : IsOptimum o) (seen : WholeTableau) (e : seen ≡ o.tableau) (objective : ℕ) (s : HasShape o.first o.second objective) (k : ℕ) (q : ℚ) where
  pub first_price_is : q ≡ coefficient (tableau seen) objective (k + 1) → q ≡ price_one (side_of o.first) (side_of o.second) (tableau o.tableau) k
  first_price_is f = f ∙ ap (λ n. coefficient (tableau n) objective (k + 1)) e ∙ ap (λ m. coefficient (tableau o.tableau) m (k + 1)) s.rows ∙ ap (coefficient (tableau o.tableau) (constraints (side_of o.first) (side_of o.second))) (add-one k)

  pub second_price_is : (v : ℕ) → v ≡ suc (constraints (side_of o.first) (side_of o.second) + (sequences (side_of o.first) + k)) → q ≡ basic_solution (tableau seen) v → q ≡ price_two (side_of o.first) (side_of o.second) (tableau o.tableau) k
  second_price_is v f w = w ∙ ap₂ (λ (n : WholeTableau) (u : ℕ). basic_solution (tableau n) u) e f
