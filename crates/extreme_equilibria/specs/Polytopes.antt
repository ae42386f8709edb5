-- The polytopes of best replies, their vertices and labels. Source: von Stengel 2002.
use Rattle.std.specs.Prelude.{ℕ, ◌+◌, ◌-◌, ◌<◌, ◌≡◌, ◌⊎◌, ltb, cond}
use Rattle.rational.specs.Rational.{ℚ, ◌*ℚ◌, ◌-ℚ◌, inv_ℚ, ◌≤ℚ◌, zero_ℚ, one_ℚ}
use Rattle.rational.specs.Sum.{sum_to}
use Rattle.linear_systems.specs.Points.{IsNonzero}
use Rattle.extreme_equilibria.specs.ExtremeEquilibria.{AreSame, IsNoMidpoint}
use Rattle.extreme_equilibria.specs.Bimatrix.{gain}

-- k entries that are not negative, against which none of the other player's r strategies gains more
-- than 1
pub record IsInPolytope (k r : ℕ) (c : ℕ → ℕ → ℚ) (x : ℕ → ℚ) : Type 0 where
  pub not_negative : (i : ℕ) → i < k → zero_ℚ ≤ℚ x i
  pub rows : (j : ℕ) → j < r → gain k c x j ≤ℚ one_ℚ

-- an extreme point of the polytope
pub record IsVertex (k r : ℕ) (c : ℕ → ℕ → ℚ) (x : ℕ → ℚ) : Type 0 where
  pub inside : IsInPolytope k r c x
  pub alone : IsNoMidpoint k (IsInPolytope k r c) x

-- variable l of the first polytope, from 0: the entries of x, and then the slacks of the second
-- player's strategies
abbrev pub first_variable : ℕ → (ℕ → ℕ → ℚ) → (ℕ → ℚ) → ℕ → ℚ
first_variable m c x l = cond (ltb l m) (x l) (one_ℚ -ℚ gain m c x (l - m))

-- variable l of the second polytope, from 0: the slacks of the first player's strategies, and then
-- the entries of y
abbrev pub second_variable : ℕ → ℕ → (ℕ → ℕ → ℚ) → (ℕ → ℚ) → ℕ → ℚ
second_variable m n a y l = cond (ltb l m) (one_ℚ -ℚ gain n a y l) (y (l - m))

-- The labels of a point are its variables that are 0. The two points together have all labels.
abbrev pub IsCompletelyLabelled : ℕ → ℕ → (ℕ → ℕ → ℚ) → (ℕ → ℕ → ℚ) → (ℕ → ℚ) → (ℕ → ℚ) → Type 0
IsCompletelyLabelled m n a c x y =
    (l : ℕ) → l < m + n
    → (first_variable m c x l ≡ zero_ℚ) ⊎ (second_variable m n a y l ≡ zero_ℚ)

-- a completely labelled pair of points other than 0
pub record IsLabelledPair (m n : ℕ) (a c : ℕ → ℕ → ℚ) (x y : ℕ → ℚ) : Type 0 where
  pub first_inside : IsInPolytope m n c x
  pub second_inside : IsInPolytope n m a y
  pub labelled : IsCompletelyLabelled m n a c x y
  pub first_nonzero : IsNonzero m x
  pub second_nonzero : IsNonzero n y

-- the same of two vertices
pub record IsVertexPair (m n : ℕ) (a c : ℕ → ℕ → ℚ) (x y : ℕ → ℚ) : Type 0 where
  pub first_vertex : IsVertex m n c x
  pub second_vertex : IsVertex n m a y
  pub labelled : IsCompletelyLabelled m n a c x y
  pub first_nonzero : IsNonzero m x
  pub second_nonzero : IsNonzero n y

-- the point divided by the sum of its entries
abbrev pub scaled : ℕ → (ℕ → ℚ) → ℕ → ℚ
scaled n x i = x i *ℚ inv_ℚ (sum_to n x)

-- (x, y) is the scaling of a completely labelled pair of nonzero vertices
pub record IsScaledPair (m n : ℕ) (a c : ℕ → ℕ → ℚ) (x y : ℕ → ℚ) : Type 0 where
  pub first : ℕ → ℚ
  pub second : ℕ → ℚ
  pub pair : IsVertexPair m n a c first second
  pub first_is : AreSame m x (scaled m first)
  pub second_is : AreSame n y (scaled n second)
