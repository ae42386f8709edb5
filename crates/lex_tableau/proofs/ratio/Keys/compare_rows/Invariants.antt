use Rattle.std.proofs.Common.{◌≡◌, ℕ, ◌<◌}
use Rattle.lex_tableau.specs.Keys.{tableau_in}
use Rattle.lex_tableau.specs.Ratio.{quotient_of}
use Rattle.lex_tableau.specs.Rows.{tableau}
use Rattle.lex_tableau.proofs.ratio.Keys.compare_rows.Given as goal

abbrev pub invariant-loop-place : goal.invariant-loop-place
invariant-loop-place l = (k : ℕ) → k < l.place → quotient_of (tableau_in l.self).starts (tableau (tableau_in l.self)) l.column l.row k ≡ quotient_of (tableau_in l.self).starts (tableau (tableau_in l.self)) l.column l.best k
