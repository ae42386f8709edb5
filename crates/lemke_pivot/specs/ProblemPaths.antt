-- The path of complementary pivots. Source: Lemke 1965; Koller, Megiddo and von Stengel 1996. Row i
-- of a problem with n rows has the variables w_of i and z_of n i, which are complements; z0 comes
-- last. Variables count from 1.
use Rattle.std.specs.Prelude.{ℕ, suc, ◌<◌, ◌≡◌, ◌≢◌, ◌+◌, ◌-◌, nat_eq, nat_le, cond, Bool, false, List, [], ◌∷◌}
use Rattle.rational.specs.Rational.{ℚ, neg_ℚ, zero_ℚ, one_ℚ, ◌≤ℚ◌, ◌<ℚ◌}
use Rattle.linear_systems.specs.Tableau.{Tableau, pivot}
use Rattle.linear_systems.specs.Rows.{basic_solution, IsLexicographicRow, Alike}
use Rattle.lemke_pivot.specs.Values.{direction}
use Rattle.lemke_pivot.specs.Problems.{IsSolution, IsRay}

-- the variable w of row i
abbrev pub w_of : ℕ → ℕ
w_of i = suc i

-- the variable z of row i
abbrev pub z_of : ℕ → ℕ → ℕ
z_of n i = suc (n + i)

-- the variable z0
abbrev pub z0_of : ℕ → ℕ
z0_of n = suc (n + n)

-- v is a w
abbrev pub is_w : ℕ → ℕ → Bool
is_w n v = cond (nat_eq v 0) false (nat_le v n)

-- w and z of a row are complements; any other number is its own
abbrev pub complement : ℕ → ℕ → ℕ
complement n v = cond (is_w n v) (v + n) (cond (nat_eq v 0) v (cond (nat_le v (n + n)) (v - n) v))

-- The tableau of w = b + M z + d z0, where d is all ones: each w is basic.
abbrev pub start : ℕ → (ℕ → ℕ → ℚ) → (ℕ → ℚ) → Tableau
start n M b =
    record {
      rows = n;
      width = suc n;
      basic = w_of;
      nonbasic = z_of n;
      cell = λ i j. cond (nat_eq j n) (neg_ℚ one_ℚ) (neg_ℚ (M i j));
      right = b;
    }

-- the last of the rows with the least right side
pub record IsLeastRow (n : ℕ) (b : ℕ → ℚ) (r : ℕ) : Type 0 where
  pub within : r < n
  pub least : (i : ℕ) → i < n → b r ≤ℚ b i
  pub last : (i : ℕ) → r < i → i < n → b r <ℚ b i

-- the row at which z0 enters: that row, where its right side is negative
pub record IsFirstRow (n : ℕ) (b : ℕ → ℚ) (r : ℕ) : Type 0 where
  pub is_least : IsLeastRow n b r
  pub negative : b r <ℚ zero_ℚ

-- t' is the pivot of t by which c enters on its lexicographic row and l leaves
pub record Replaces (n : ℕ) (t : Tableau) (c l : ℕ) (t' : Tableau) : Type 0 where
  pub column : ℕ
  pub row : ℕ
  pub column_in : column < t.width
  pub c_is : t.nonbasic column ≡ c
  pub l_is : t.basic row ≡ l
  pub chosen : IsLexicographicRow n w_of t column row
  pub to : Alike (pivot t row column) t'

-- The path has come to t, and c is next. The list has the tableaux after the first pivot and before
-- t, the last one first. z0 enters at row r; as long as the value of z0 is not 0, the variable that
-- is next enters, and the complement of the one that leaves is next.
abbrev pub PathTo : ℕ → (ℕ → ℕ → ℚ) → (ℕ → ℚ) → ℕ → List Tableau → Tableau → ℕ → Type 0
PathTo n M b r [] t c = Alike (pivot (start n M b) r n) t × (c ≡ z_of n r)
PathTo n M b r (s ∷ ss) t c = (d : ℕ) × (l : ℕ) × PathTo n M b r ss s d
    × (basic_solution s (z0_of n) ≢ zero_ℚ) × Replaces n s d l t × (c ≡ complement n l)

-- the basic solution of the tableau solves the problem
abbrev pub SolvesAt : ℕ → (ℕ → ℕ → ℚ) → (ℕ → ℚ) → Tableau → Type 0
SolvesAt n M b t =
    IsSolution n M b (λ i. basic_solution t (w_of i)) (λ i. basic_solution t (z_of n i))

-- the point of a tableau and the direction of a column are a ray
abbrev pub IsRayAt : ℕ → (ℕ → ℕ → ℚ) → (ℕ → ℚ) → Tableau → ℕ → Type 0
IsRayAt n M b t column =
    IsRay n M b (λ i. basic_solution t (w_of i)) (λ i. basic_solution t (z_of n i))
    (λ i. direction t column (w_of i)) (λ i. direction t column (z_of n i))
    (basic_solution t (z0_of n)) (direction t column (z0_of n))
