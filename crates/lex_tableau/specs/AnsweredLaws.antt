-- That systems have starts, as a statement. It is proved by a function of src/lib.rt.
use Rattle.answers.specs.Answered.{IsAnswered}
use Rattle.lex_tableau.specs.Starts.{LinearSystem, IsSystem}
use Rattle.lex_tableau.specs.StartStops.{start_in}

-- A system has an answer: its start, or the first step of its rows that does not fit.
abbrev pub StartsAreAnswered : Type 0
StartsAreAnswered = (s : LinearSystem) → IsSystem s → IsAnswered (start_in s)
