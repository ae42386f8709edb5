-- what is read off at the end, and the start of a problem's path
use Rattle.std.proofs.Common.{ℕ, suc, ◌<◌, ◌≡◌, ◌+◌, ◌*◌, List, length, get_or, map, sym, ap, ap₂, ◌∙◌, subst, subst₂, arith}
use Rattle.std.proofs.lemmas.List.{length-map}
use Rattle.rational.specs.Rational.{ℚ, ◌≤ℚ◌, ◌<ℚ◌}
use Rattle.linear_systems.specs.Rows.{basic_solution, Alike}
use Rattle.linear_systems.proofs.AgreementLemmas.{alike_trans}
use Rattle.sequence_forms.specs.Forms.{SequenceForm}
use Rattle.sequence_forms.specs.Prices.{costs}
use Rattle.sequence_forms.specs.Sides.{sequences}
use Rattle.sequence_forms.proofs.EndLemmas.{solutions_on_trees, solutions_on_tables}
use Rattle.sequence_forms.proofs.FlowLemmas.{ordered_flow}
use Rattle.lemke_pivot.specs.Problems.{Costs, costs_of, matrix, right_sides}
use Rattle.lemke_pivot.specs.ProblemPaths.{IsLeastRow, IsFirstRow}
use Rattle.lemke_pivot.proofs.RayExclusionLemmas.{sides_exclude_rays}
use Rattle.lemke_pivot.proofs.SolutionLemmas.{solutions_have_plans}
use Rattle.lemke_pivot.proofs.ProblemPathLemmas.{least_is_negative, solved}
use Rattle.lex_tableau.specs.Rows.{WholeTableau, tableau, IsTableau}
use Rattle.lex_tableau.specs.Starts.{LinearSystem, system_of, IsStartOf}
use Rattle.sequence_data.specs.declared.types.SetRow.{SetRow}
use Rattle.sequence_data.specs.Data.{SideData, side_of}
use Rattle.lemke_pivot.specs.Parts.{Problem, size_for, size_of, start_tableau, IsProblem, IsStartFor}
use Rattle.lemke_pivot.specs.Paths.{IsPathStart}
use Rattle.lemke_pivot.specs.ProblemLaws.{CostSumsAreNotNegative}
use Rattle.lemke_pivot.specs.Systems.{IsSystemFor}
use Rattle.lemke_pivot.specs.SolutionLaws.{SolvesForm, SolutionsSolveTheForm, SolutionsSolveTrees, SolutionsSolveTables}
use Rattle.lemke_pivot.proofs.KeptWalkLemmas.{path_of_numbers}

-- ---- what is read off
pub read_value : (m work : WholeTableau) (v w : ℕ) (q : ℚ) → m ≡ work → v ≡ w → q ≡ basic_solution (tableau m) v → q ≡ basic_solution (tableau work) w
read_value m work v w q e f V = V ∙ ap₂ (λ (n : WholeTableau) (u : ℕ). basic_solution (tableau n) u) e f

-- ---- a problem's path
module _ (p : Problem) (P : IsProblem p) (r : ℕ) (L : IsLeastRow (size_of p) (tableau p.tableau).right r) where
  abbrev s : Costs
  s = costs_of (side_of p.first) (side_of p.second) P.start.one P.start.two

  first_row : (one two : ℕ → ℕ → ℚ) → Alike (start_tableau (side_of p.first) (side_of p.second) one two) (tableau p.tableau) → IsFirstRow (size_of p) (right_sides (costs_of (side_of p.first) (side_of p.second) one two)) r
  first_row one two B =
      record {
        is_least = record { within = L.within; least = least; last = λ i l h. subst (λ a. right_sides (costs_of (side_of p.first) (side_of p.second) one two) r <ℚ a) (sym (B.right i h)) (subst (λ a. a <ℚ (tableau p.tableau).right i) (sym (B.right r L.within)) (L.last i l h)) };
        negative = least_is_negative (side_of p.first) (side_of p.second) one two r least;
      }
    where
      least : (i : ℕ) → i < size_of p → right_sides (costs_of (side_of p.first) (side_of p.second) one two) r ≤ℚ right_sides (costs_of (side_of p.first) (side_of p.second) one two) i
      least i h = subst (λ a. right_sides (costs_of (side_of p.first) (side_of p.second) one two) r ≤ℚ a) (sym (B.right i h)) (subst (λ a. a ≤ℚ (tableau p.tableau).right i) (sym (B.right r L.within)) (L.least i h))

  pub path_start : IsPathStart (size_of p) r p.tableau
  path_start =
      record {
        few = P.few;
        matrix = matrix s;
        right = right_sides s;
        alike = P.start.begins;
        excludes_rays = sides_exclude_rays (side_of p.first) (side_of p.second) P.start.one P.start.two (ordered_flow (side_of p.first) P.first.ordered) (ordered_flow (side_of p.second) P.second.ordered) P.start.costs;
        first = first_row P.start.one P.start.two P.start.begins;
        starts = P.start.starts;
        rated = P.start.rated;
        valid = P.start.valid;
      }

-- ---- solutions
-- of a form with the problem's own sides
own_solution : (f : SequenceForm) (g k : ℚ) (p s : Problem) → f.rows ≡ side_of p.first → f.columns ≡ side_of p.second → s.first ≡ p.first → s.second ≡ p.second → SolvesForm (record { rows = side_of p.first; columns = side_of p.second; weight = f.weight; pays = f.pays }) g k (record { first = p.first; second = p.second; tableau = s.tableau }) → SolvesForm f g k s
own_solution f g k p s er ec ef es h =
    let form : (record { rows = side_of p.first; columns = side_of p.second; weight = f.weight; pays = f.pays }) ≡ f = λ i. record { rows = sym er i; columns = sym ec i; weight = f.weight; pays = f.pays } in
    let whole : (record { first = p.first; second = p.second; tableau = s.tableau }) ≡ s = λ i. record { first = sym ef i; second = sym es i; tableau = s.tableau } in
    subst (λ d. SolvesForm d g k s) form (subst (SolvesForm (record { rows = side_of p.first; columns = side_of p.second; weight = f.weight; pays = f.pays }) g k) whole h)

pub solves_the_form : SolutionsSolveTheForm
solves_the_form f g k p s P F S =
    let one : ℕ → ℕ → ℚ = costs f 0 g in
    let two : ℕ → ℕ → ℚ = costs f 1 k in
    let c : Costs = costs_of (side_of p.first) (side_of p.second) one two in
    let begins : Alike (start_tableau (side_of p.first) (side_of p.second) one two) (tableau p.tableau) = subst₂ (λ a b. Alike (start_tableau a b one two) (tableau p.tableau)) F.rows F.columns F.begins in
    let start = path_start p P S.row S.begins in
    own_solution f g k p s F.rows F.columns S.first S.second
    (solutions_have_plans (record { rows = side_of p.first; columns = side_of p.second; weight = f.weight; pays = f.pays }) g k _ _
    (solved (size_of p) (matrix c) (right_sides c) S.row (first_row p P S.row S.begins one two begins) (map tableau S.path.0) (tableau s.tableau) S.path.1
    (path_of_numbers (size_of p) S.row p.tableau (matrix c) (right_sides c) begins S.begins.within S.path.0 s.tableau S.path.1 S.path.2) S.path.3))

pub solves_trees : SolutionsSolveTrees
solves_trees t f g k p s two alike P F S = solutions_on_trees t f g k _ _ _ _ _ _ two alike (solves_the_form f g k p s P F S)

pub solves_tables : SolutionsSolveTables
solves_tables game m n f g k p s two alike P F S = solutions_on_tables game m n f g k _ _ _ _ _ _ two alike (solves_the_form f g k p s P F S)

-- ---- the beginning
pub starts_for : (first second : SideData) (s : LinearSystem) (n : WholeTableau) → (one two : ℕ → ℕ → ℚ) × CostSumsAreNotNegative (costs_of (side_of first) (side_of second) one two) × IsSystemFor first second one two s → IsStartOf s n → IsTableau n → IsStartFor first second n
starts_for first second s n (one, two, costs, P) h valid =
    record {
      one = one;
      two = two;
      costs = costs;
      begins = alike_trans (start_tableau (side_of first) (side_of second) one two) (system_of s) (tableau n) P.begins h.fractions;
      starts = λ i l. ap (λ xs. get_or xs i 0) h.starts ∙ sym (P.begins.basic i l);
      rated = h.rated ∙ P.rated;
      valid = valid;
    }

-- how many sets a side has
sets_are : (side : SideData) → (side_of side).sets ≡ length side.sets
sets_are side = length-map side.sets (λ s. s.before)

pub rows_are : (first second : SideData) (x y a b : ℕ) → x ≡ sequences (side_of first) → y ≡ sequences (side_of second) → a ≡ length first.sets → b ≡ length second.sets → x + y + 2 * (a + b + 2) ≡ size_for first second
rows_are first second x y a b ex ey ea eb = let f = sets_are first in let s = sets_are second in omega (arith, ex, ey, ea, eb, f, s)

-- how many prices a player has
pub prices_are : (side : SideData) (rows : List SetRow) → rows ≡ side.sets → length rows + 1 ≡ suc (side_of side).sets
prices_are side rows e = let a : length rows ≡ length side.sets = ap (λ (xs : List SetRow). length xs) e in let b = sets_are side in omega (arith, a, b)
