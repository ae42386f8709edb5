-- The keys of a tableau's rows, as they are read from its lists
use Rattle.std.specs.Prelude.{ℕ, ℤ, pos, ◌+◌, ◌<ℤ◌, ◌≡◌, nat_abs}
use Rattle.rational.specs.Rational.{frac}
use Rattle.linear_systems.specs.Rows.{key}
use Rattle.lex_tableau.specs.Columns.{AreColumnsOf}
use Rattle.lex_tableau.specs.Ratio.{variable_at}
use Rattle.lex_tableau.specs.Rows.{IsTableau, WholeTableau, row_of, tableau, whole_tableau}
use Rattle.lex_tableau.specs.declared.ratio.Keys.{Keys}

-- the tableau of these lists
abbrev pub tableau_in : Keys → WholeTableau
tableau_in k =
    whole_tableau k.starts.now k.basics.now k.nonbasics.now k.rated k.numbers.now

-- they are those of a tableau, with the columns of its start's variables
pub record AreKeys (k : Keys) : Type 0 where
  pub is_tableau : IsTableau (tableau_in k)
  pub columns : AreColumnsOf k.nonbasics.now k.starts.now k.columns.now

-- n over the coefficient of row i is entry p of its key
abbrev pub IsKeyNumber : WholeTableau → ℕ → ℕ → ℤ → Type 0
IsKeyNumber t i p n = frac n (nat_abs (row_of t i 0)) ≡ key (variable_at t.starts) (tableau t) i p

-- row i has a positive entry in column c
abbrev pub IsPositiveIn : WholeTableau → ℕ → ℕ → Type 0
IsPositiveIn t i c = pos 0 <ℤ row_of t i (c + 1)
