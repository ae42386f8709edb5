use Rattle.lex_tableau.proofs.AnsweredStartLemmas.{start_in-answered}
use Rattle.lex_tableau.proofs.starts_are_answered.Goals as goal

pub returns : goal.returns
returns c = start_in-answered
