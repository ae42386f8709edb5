use Rattle.lex_tableau.proofs.SystemLemmas.{start_in-single}
use Rattle.lex_tableau.proofs.starts_are_single.Goals as goal

pub returns : goal.returns
returns c = start_in-single
