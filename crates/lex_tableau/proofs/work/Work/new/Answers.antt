use Rattle.std.proofs.lemmas.Result.{err_from_is_err_and}
use Rattle.lex_tableau.proofs.work.Work.new.Goals as goal

pub returns-in_err-tableau : goal.returns-in_err-tableau
returns-in_err-tableau c = let p = err_from_is_err_and c.from_residual.result c.from_residual.ensures.1 in rw (p.1, p.2) c.in_err-tableau.ensures
