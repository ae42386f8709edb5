-- The feasible points of a system: its solutions without negative entries, and the extreme ones
-- among them (Avis et al. 2010)
use Rattle.std.specs.Prelude.{ℕ, ◌<◌, ◌≡◌, ◌≢◌}
use Rattle.rational.specs.Rational.{ℚ, ◌+ℚ◌, zero_ℚ, ◌≤ℚ◌}
use Rattle.linear_systems.specs.Tableau.{Tableau, Solves}
use Rattle.linear_systems.specs.RowEquivalence.{IsVariableOf}

-- a feasible point: x solves s, and no variable of s is negative in it
pub record IsFeasible (s : Tableau) (x : ℕ → ℚ) : Type 0 where
  pub solves : Solves s x
  pub nonnegative : (v : ℕ) → IsVariableOf s v → zero_ℚ ≤ℚ x v

-- x and y are equal at the variables of s
abbrev pub AreEqualAt : Tableau → (ℕ → ℚ) → (ℕ → ℚ) → Type 0
AreEqualAt s x y = (v : ℕ) → IsVariableOf s v → x v ≡ y v

-- p is a feasible point, and in the middle of no two different ones
pub record IsExtremePoint (s : Tableau) (p : ℕ → ℚ) : Type 0 where
  pub point : IsFeasible s p
  pub alone : (x y : ℕ → ℚ) → IsFeasible s x → IsFeasible s y
      → ((v : ℕ) → IsVariableOf s v → x v +ℚ y v ≡ p v +ℚ p v) → AreEqualAt s x y

-- some of the first n entries is not 0
pub record IsNonzero (n : ℕ) (x : ℕ → ℚ) : Type 0 where
  pub place : ℕ
  pub within : place < n
  pub differs : x place ≢ zero_ℚ

-- x is not 0 at some nonbasic variable of s
abbrev pub IsNonzeroAt : Tableau → (ℕ → ℚ) → Type 0
IsNonzeroAt s x = IsNonzero s.width (λ j. x (s.nonbasic j))
