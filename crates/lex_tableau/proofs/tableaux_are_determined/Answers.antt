use Rattle.lex_tableau.proofs.TableauLemmas.{determined}
use Rattle.lex_tableau.proofs.tableaux_are_determined.Goals as goal

pub returns : goal.returns
returns c = determined
