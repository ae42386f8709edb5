-- The two systems of best replies. Variables 1 to m are the first player's strategies, and m + 1 to
-- m + n the second's.
use Rattle.std.specs.Prelude.{ℕ, suc, ◌+◌}
use Rattle.rational.specs.Rational.{ℚ, one_ℚ}
use Rattle.linear_systems.specs.Tableau.{Tableau}

-- row j: the slack of the second player's strategy j and the sum of c j i times the weight of i
-- are 1
abbrev pub first_system : ℕ → ℕ → (ℕ → ℕ → ℚ) → Tableau
first_system m n c = record {
  rows = n;
  width = m;
  basic = λ j. m + suc j;
  nonbasic = λ i. suc i;
  cell = c;
  right = λ j. one_ℚ;
}

-- row i: the slack of the first player's strategy i and the sum of a i j times the weight of j
-- are 1
abbrev pub second_system : ℕ → ℕ → (ℕ → ℕ → ℚ) → Tableau
second_system m n a = record {
  rows = m;
  width = n;
  basic = λ i. suc i;
  nonbasic = λ j. m + suc j;
  cell = a;
  right = λ i. one_ℚ;
}
