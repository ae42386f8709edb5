-- The laws of the path, as statements. Each is proved by a function of src/laws.rt.
use Rattle.std.specs.Prelude.{ℕ, suc, ◌<◌, ◌≤◌, ◌≡◌, ◌≢◌, ◌^◌, ◌+◌, List, ◌∷◌, length, map, AllPairs}
use Rattle.rational.specs.Rational.{ℚ, ◌+ℚ◌, zero_ℚ, ◌≤ℚ◌, ◌<ℚ◌}
use Rattle.linear_systems.specs.Tableau.{Tableau}
use Rattle.linear_systems.specs.Rows.{basic_solution, IsLexicographicRow, Alike}
use Rattle.sequence_forms.specs.Sides.{Side}
use Rattle.sequence_forms.specs.Forms.{SequenceForm}
use Rattle.sequence_forms.specs.Prices.{costs}
use Rattle.sequence_forms.specs.Matrices.{SolvesProblem}
use Rattle.sequence_forms.specs.PriceLaws.{HasFlow}
use Rattle.lemke_pivot.specs.Values.{is_basic}
use Rattle.lemke_pivot.specs.Problems.{Costs, costs_of, size, matrix, right_sides, at_y, at_p, at_p', at_q, at_q', IsSolution, IsRay}
use Rattle.lemke_pivot.specs.ProblemPaths.{PathTo, IsFirstRow, SolvesAt, IsRayAt, w_of, z0_of}

-- no basis of the path occurs twice
abbrev pub NoBasisOccursTwice : Type 0
NoBasisOccursTwice =
    (n : ℕ) (M : ℕ → ℕ → ℚ) (b : ℕ → ℚ) (r : ℕ) (ss : List Tableau) (t : Tableau) (c : ℕ)
    → IsFirstRow n b r → PathTo n M b r ss t c → AllPairs (λ x y. x ≢ y) (map is_basic (t ∷ ss))

-- the path of a problem with n rows has at most 2^(2n + 2) pivots
abbrev pub PathsAreShort : Type 0
PathsAreShort =
    (n : ℕ) (M : ℕ → ℕ → ℚ) (b : ℕ → ℚ) (r : ℕ) (ss : List Tableau) (t : Tableau) (c : ℕ)
    → IsFirstRow n b r → PathTo n M b r ss t c → suc (length ss) ≤ 2 ^ suc (suc (n + n))

-- the path has at most one course
abbrev pub PathsAreUnique : Type 0
PathsAreUnique =
    (n : ℕ) (M : ℕ → ℕ → ℚ) (b : ℕ → ℚ) (r : ℕ) (ss ss' : List Tableau) (t t' : Tableau) (c c' : ℕ)
    → IsFirstRow n b r → PathTo n M b r ss t c → PathTo n M b r ss' t' c' → length ss ≡ length ss'
    → Alike t t' × (c ≡ c')

-- where the value of z0 is 0, the problem is solved
abbrev pub PathsEndSolved : Type 0
PathsEndSolved =
    (n : ℕ) (M : ℕ → ℕ → ℚ) (b : ℕ → ℚ) (r : ℕ) (ss : List Tableau) (t : Tableau) (c : ℕ)
    → IsFirstRow n b r → PathTo n M b r ss t c → basic_solution t (z0_of n) ≡ zero_ℚ
    → SolvesAt n M b t

-- where it is not 0 and no row leaves, there is a ray
abbrev pub PathsEndInRays : Type 0
PathsEndInRays =
    (n : ℕ) (M : ℕ → ℕ → ℚ) (b : ℕ → ℚ) (r : ℕ) (ss : List Tableau) (t : Tableau) (c column : ℕ)
    → IsFirstRow n b r → PathTo n M b r ss t c → basic_solution t (z0_of n) ≢ zero_ℚ
    → column < t.width
    → t.nonbasic column ≡ c → ((i : ℕ) → i < n → t.cell i column ≤ℚ zero_ℚ) → IsRayAt n M b t column

-- z0 has a row to enter at, where a right side is negative
abbrev pub FirstRowsExist : Type 0
FirstRowsExist = (n : ℕ) (b : ℕ → ℚ) (i : ℕ) → i < n → b i <ℚ zero_ℚ → (r : ℕ) × IsFirstRow n b r

-- ---- two players
-- the sum of both players' costs is nowhere negative
abbrev pub CostSumsAreNotNegative : Costs → Type 0
CostSumsAreNotNegative s = (i j : ℕ) → i < s.X → j < s.Y → zero_ℚ ≤ℚ s.one i j +ℚ s.two i j

-- the problem of two sides with plans, where both players' costs sum to a negative number nowhere,
-- has no ray
abbrev pub NoRay : Type 0
NoRay =
    (rows columns : Side) (one two : ℕ → ℕ → ℚ) (w z v u : ℕ → ℚ) (z0 u0 : ℚ)
    → let s = costs_of rows columns one two in HasFlow rows → HasFlow columns
    → CostSumsAreNotNegative s
    → IsRay (size s) (matrix s) (right_sides s) w z v u z0 u0 → ⊥

-- so each variable that enters has a lexicographic row
abbrev pub AlwaysALeavingRow : Type 0
AlwaysALeavingRow =
    (rows columns : Side) (one two : ℕ → ℕ → ℚ) (r : ℕ) (ss : List Tableau) (t : Tableau)
    (c column : ℕ) → let s = costs_of rows columns one two in
    HasFlow rows → HasFlow columns → CostSumsAreNotNegative s
    → IsFirstRow (size s) (right_sides s) r → PathTo (size s) (matrix s) (right_sides s) r ss t c
    → basic_solution t (z0_of (size s)) ≢ zero_ℚ → column < t.width → t.nonbasic column ≡ c
    → (row : ℕ) × IsLexicographicRow (size s) w_of t column row

-- a row of least right side has a negative one
abbrev pub LeastIsNegative : Type 0
LeastIsNegative =
    (rows columns : Side) (one two : ℕ → ℕ → ℚ) (r : ℕ)
    → let s = costs_of rows columns one two in
    ((i : ℕ) → i < size s → right_sides s r ≤ℚ right_sides s i) → right_sides s r <ℚ zero_ℚ

-- a solution has plans and prices
abbrev pub SolutionsHavePlans : Type 0
SolutionsHavePlans =
    (f : SequenceForm) (greatest_one greatest_two : ℚ) (w z : ℕ → ℚ)
    → let s = costs_of f.rows f.columns (costs f 0 greatest_one) (costs f 1 greatest_two) in
    IsSolution (size s) (matrix s) (right_sides s) w z
    → SolvesProblem f greatest_one greatest_two z (at_y s z) (at_p s z) (at_p' s z)
    (at_q s z) (at_q' s z)
