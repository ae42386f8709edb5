use Rattle.std.proofs.Common.{All, subst}
use Rattle.frac128.specs.Steps.{StepFits}
use Rattle.lex_tableau.specs.Pivots.{steps_of_pivot}
use Rattle.lex_tableau.specs.Rows.{WholeTableau, HasSolutionsOf}
use Rattle.lex_tableau.specs.Ratio.{KeepsPositiveKeys}
use Rattle.lex_tableau.proofs.work.Work.pivot.Goals as goal

pub returns-clause-solutions : goal.returns-clause-solutions
returns-clause-solutions g c = subst (λ (n : WholeTableau). HasSolutionsOf n c.take_numbers.new.self) c.self.view_is c.take_numbers.ensures.solutions

pub returns-clause-keys : goal.returns-clause-keys
returns-clause-keys g c = subst (λ (n : WholeTableau). KeepsPositiveKeys n c.args.row c.args.col c.take_numbers.new.self) c.self.view_is c.take_numbers.ensures.keys

pub returns-clause-fits : goal.returns-clause-fits
returns-clause-fits g c = subst (λ (n : WholeTableau). All StepFits (steps_of_pivot n c.args.row c.args.col)) c.self.view_is c.in_ok-write_numbers.ensures.fits
