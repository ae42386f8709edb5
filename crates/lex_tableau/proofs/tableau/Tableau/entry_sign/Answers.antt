use Rattle.lex_tableau.proofs.TableauPivotLemmas.{numbers_fit_read}
use Rattle.lex_tableau.proofs.tableau.Tableau.entry_sign.Goals as goal

pub sign_at-requires-clause-fit : goal.sign_at-requires-clause-fit
sign_at-requires-clause-fit c = numbers_fit_read (record { starts = c.self.inside.starts.items; basics = c.self.inside.basics.items; nonbasics = c.self.inside.nonbasics.items; rated = c.self.inside.rated; numbers = c.self.inside.numbers.items }) c.as_slice.result.now c.self.invariant.0 c.as_slice.ensures.value
