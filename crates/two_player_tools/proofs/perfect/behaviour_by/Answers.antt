use Rattle.two_player_tools.proofs.TreeEntryLemmas.{entries-formless}
use Rattle.two_player_tools.proofs.perfect.behaviour_by.Goals as goal

pub returns-in_err-form-clause-answer : goal.returns-in_err-form-clause-answer
returns-in_err-form-clause-answer c = entries-formless c.args.method c.args.tree.now c.in_err-form.field-0.0 c.from_residual.result c.in_err-form.ensures c.from_residual.ensures.1
