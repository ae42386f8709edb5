-- Bimatrix games: two players with m and n strategies, each with a table of payoffs that has the
-- own strategy first, so that both are treated alike. Source: Lemke and Howson 1964; von Stengel
-- 2002.
use Rattle.std.specs.Prelude.{ℕ, ◌<◌}
use Rattle.rational.specs.Rational.{ℚ, ◌+ℚ◌, ◌*ℚ◌, ◌-ℚ◌, ◌≤ℚ◌, ◌<ℚ◌, zero_ℚ, one_ℚ}
use Rattle.rational.specs.Sum.{sum_to, IsDistribution}
use Rattle.extreme_equilibria.specs.ExtremeEquilibria.{IsNoMidpoint}

-- what strategy i gains against the other player's probabilities y of n strategies
abbrev pub gain : ℕ → (ℕ → ℕ → ℚ) → (ℕ → ℚ) → ℕ → ℚ
gain n a y i = sum_to n (λ j. a i j *ℚ y j)

-- what the probabilities x gain against y
abbrev pub mean_gain : ℕ → ℕ → (ℕ → ℕ → ℚ) → (ℕ → ℚ) → (ℕ → ℚ) → ℚ
mean_gain m n a x y = sum_to m (λ i. x i *ℚ gain n a y i)

-- no strategy gains more than x does against y
abbrev pub IsBestReply : ℕ → ℕ → (ℕ → ℕ → ℚ) → (ℕ → ℚ) → (ℕ → ℚ) → Type 0
IsBestReply m n a x y = (i : ℕ) → i < m → gain n a y i ≤ℚ mean_gain m n a x y

-- an equilibrium, where a i j is what the first player gets and c j i what the second gets
pub record IsBimatrixEquilibrium (m n : ℕ) (a c : ℕ → ℕ → ℚ) (x y : ℕ → ℚ) : Type 0 where
  pub first_mixed : IsDistribution m x
  pub second_mixed : IsDistribution n y
  pub first_best : IsBestReply m n a x y
  pub second_best : IsBestReply n m c y x

-- an equilibrium in which neither part is the midpoint of two different ones that make equilibria
-- with the other part
pub record IsExtremeBimatrixEquilibrium (m n : ℕ) (a c : ℕ → ℕ → ℚ) (x y : ℕ → ℚ) : Type 0 where
  pub equilibrium : IsBimatrixEquilibrium m n a c x y
  pub first_alone : IsNoMidpoint m (λ p. IsBimatrixEquilibrium m n a c p y) x
  pub second_alone : IsNoMidpoint n (λ q. IsBimatrixEquilibrium m n a c x q) y

-- every payoff is positive
abbrev pub IsPositive : ℕ → ℕ → (ℕ → ℕ → ℚ) → Type 0
IsPositive m n a = (i j : ℕ) → i < m → j < n → zero_ℚ <ℚ a i j

-- the same number added to each payoff
abbrev pub shifted : ℚ → (ℕ → ℕ → ℚ) → ℕ → ℕ → ℚ
shifted d a i j = a i j +ℚ d

-- this number is at most each payoff
abbrev pub IsLowerBound : ℕ → ℕ → (ℕ → ℕ → ℚ) → ℚ → Type 0
IsLowerBound m n a least = (i j : ℕ) → i < m → j < n → least ≤ℚ a i j

-- what is added to payoffs that are at least `least` so that all are positive
abbrev pub shift_of : ℚ → ℚ
shift_of least = one_ℚ -ℚ least
