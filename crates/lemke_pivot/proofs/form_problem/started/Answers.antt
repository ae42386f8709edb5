use Rattle.std.proofs.Common.{◌∙◌}
use Rattle.std.proofs.lemmas.Result.{err_from_is_err_and}
use Rattle.lemke_pivot.proofs.FormProblemLemmas.{start_goes, start_stop}
use Rattle.lemke_pivot.proofs.FormSystemLemmas.{for_sides}
use Rattle.lemke_pivot.proofs.form_problem.started.Goals as goal

pub new-requires-clause-problem : goal.new-requires-clause-problem
new-requires-clause-problem c =
    for_sides c.args.form.now c.args.system.now c.in_ok-first.first c.in_ok-second.second c.first.ensures.valid (c.in_ok-first.ensures ∙ c.first.ensures.side) (c.in_ok-second.ensures ∙ c.second.ensures.side) c.requires.system

pub returns-in_err-new : goal.returns-in_err-new
returns-in_err-new c =
    let p = err_from_is_err_and c.from_residual-in_err-new.result c.from_residual-in_err-new.ensures.1 in
    rw (p.1, p.2) (start_stop c.args.form.now c.args.system.now c.requires.system c.in_err-new.field-0.0 c.in_err-new.ensures.start)

pub returns : goal.returns
returns c =
    start_goes c.args.form.now c.args.system.now c.requires.system c.in_ok-new.field-0 c.in_ok-new.ensures.start (c.in_ok-new.ensures.first ∙ c.in_ok-first.ensures ∙ c.first.ensures.side) (c.in_ok-new.ensures.second ∙ c.in_ok-second.ensures ∙ c.second.ensures.side)
