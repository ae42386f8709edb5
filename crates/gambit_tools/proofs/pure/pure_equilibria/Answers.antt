use Rattle.std.proofs.Common.{Err, List, Ok, refl, subst, ℕ}
use Rattle.std.proofs.lemmas.Result.{err_from_is_err_and}
use Rattle.answers.specs.Answers.{refused_by}
use Rattle.answers.proofs.AnswerLemmas.{gives_refused}
use Rattle.game_core.specs.Table.{GameTable, game_of}
use Rattle.enumpure.specs.Stops.{pure_text}
use Rattle.enumpure.specs.declared.listing.ListStop.TheVariants as list_stop
use Rattle.refusals.specs.Told.{list_refusal}
use Rattle.two_player_tools.proofs.StrategicFormLemmas.{form-goes_on}
use Rattle.gambit_tools.proofs.pure.pure_equilibria.Goals as goal

pub returns-in_err-list_pure_equilibria-in-Extensive : goal.returns-in_err-list_pure_equilibria-in-Extensive
returns-in_err-list_pure_equilibria-in-Extensive c =
    let table = c.table.result.now in
    let stop = c.in_err-list_pure_equilibria-in-Extensive.field-0.0 in
    let p = err_from_is_err_and c.from_residual-in_err-list_pure_equilibria-in-Extensive.result c.from_residual-in_err-list_pure_equilibria-in-Extensive.ensures.1 in
    rw (c.in-Extensive.is, c.if-strategic.true, p.1, p.2) (form-goes_on {Z = List ℕ} (λ t. refused_by list_refusal (pure_text (game_of t))) (Err (list_refusal stop)) c.in-Extensive.tree c.in_ok-reduced-in-Extensive.reduced table c.in_ok-reduced-in-Extensive.ensures.answer c.table.ensures
    (gives_refused list_stop.Memory list_refusal (pure_text (game_of table)) (Err stop) c.in_err-list_pure_equilibria-in-Extensive.ensures))

pub returns-in_ok-list_pure_equilibria-in-Extensive : goal.returns-in_ok-list_pure_equilibria-in-Extensive
returns-in_ok-list_pure_equilibria-in-Extensive c =
    let form = c.in_ok-reduced-in-Extensive.reduced in
    let text = c.in_ok-list_pure_equilibria-in-Extensive.field-0.items in
    rw (c.in-Extensive.is, c.if-strategic.true) (form.table, (form, c.in_ok-reduced-in-Extensive.ensures.answer, refl), subst (λ (t : GameTable). pure_text (game_of t) (Ok text)) c.table.ensures c.in_ok-list_pure_equilibria-in-Extensive.ensures)
