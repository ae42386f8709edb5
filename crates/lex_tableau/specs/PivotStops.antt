-- Why a pivot gives no tableau.
use Rattle.std.specs.Prelude.{ℕ}
use Rattle.lex_tableau.specs.declared.tableau.PivotStop.{PivotStop}
use Rattle.lex_tableau.specs.declared.tableau.PivotStop.TheVariants.{Unfit, Memory}
use Rattle.lex_tableau.specs.Rows.{WholeTableau}
use Rattle.frac128.specs.Steps.{IsFirstUnfit}
use Rattle.lex_tableau.specs.Pivots.{steps_of_pivot}

-- the first step of the pivot that does not fit, or no memory, of which nothing is said
abbrev pub IsPivotStop : WholeTableau → ℕ → ℕ → PivotStop → Type 0
IsPivotStop n row col (Unfit unfit) = IsFirstUnfit (steps_of_pivot n row col) unfit
IsPivotStop n row col Memory = Unit {0}
