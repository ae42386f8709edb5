use Rattle.lex_tableau.specs.Keys.{tableau_in}
use Rattle.lex_tableau.specs.Ratio.{IsBest}
use Rattle.lex_tableau.specs.Rows.{tableau}
use Rattle.lex_tableau.proofs.ratio.Keys.ratio_row.Given as goal

abbrev pub invariant-loop-row : goal.invariant-loop-row
invariant-loop-row l = IsBest l.row l.self.rated l.self.starts.now (tableau (tableau_in l.self)) l.column l.best
