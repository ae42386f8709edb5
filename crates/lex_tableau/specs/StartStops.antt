-- The start of a system in stages, and why there is none.
use Rattle.std.specs.Prelude.{length, ◌+◌}
use Rattle.answers.specs.Answers.{Answer, ◌>>◌, such_that, refused_by}
use Rattle.lex_tableau.specs.declared.tableau.StartStop.{StartStop}
use Rattle.lex_tableau.specs.declared.tableau.StartStop.TheVariants.{Unfit}
use Rattle.whole_rows.specs.StartRows.{start_rows_fit}
use Rattle.lex_tableau.specs.Rows.{WholeTableau, IsTableau}
use Rattle.lex_tableau.specs.Starts.{LinearSystem, IsStartOf}

-- the steps of the start's rows all fit; or the first that does not, with its row
abbrev pub rows_in : LinearSystem → Answer StartStop (Unit {0})
rows_in s =
    refused_by (λ stop. Unfit stop.0 stop.1)
    (start_rows_fit (length s.basics) (length s.nonbasics + 1) s.cells)

-- n is a tableau, and the start of a system
pub record IsStartTableau (s : LinearSystem) (n : WholeTableau) : Type 0 where
  pub start : IsStartOf s n
  pub valid : IsTableau n

-- the start of a system, all steps of which fit
abbrev pub start_in : LinearSystem → Answer StartStop WholeTableau
start_in s = rows_in s >> such_that (IsStartTableau s)

-- the start of the system that is described
abbrev pub start_of : (LinearSystem → Type 0) → Answer StartStop WholeTableau
start_of Describes answer = (s : LinearSystem) × (Describes s × start_in s answer)
