use Rattle.std.proofs.Common.{sym, subst}
use Rattle.answers.specs.Answers.{Gives}
use Rattle.game_core.specs.declared.game.Game.TheVariants.{Extensive}
use Rattle.refusals.specs.declared.refusal.Refusal.TheVariants as refusal
use Rattle.two_player_tools.specs.TwoPlayers.{rows_by, table_form_within, form_in}
use Rattle.two_player_tools.proofs.StrategicFormLemmas.{form-goes_on}
use Rattle.two_player_tools.proofs.forms.form_in.Goals as goal

pub returns-in_ok-reduced-in-Extensive : goal.returns-in_ok-reduced-in-Extensive
returns-in_ok-reduced-in-Extensive c =
    let rows = rows_by c.args.method in
    let tree = c.in-Extensive.tree in
    let form = c.in_ok-reduced-in-Extensive.reduced in
    let r = c.table_form_within-in-Extensive.result in
    subst (λ game. Gives refusal.Memory (form_in rows c.args.strategic game) r) (sym c.in-Extensive.is)
    (subst (λ strategic. Gives refusal.Memory (form_in rows strategic (Extensive tree)) r) (sym c.if-strategic.true)
    (form-goes_on (table_form_within rows) r tree form c.table.result.now c.in_ok-reduced-in-Extensive.ensures.answer c.table.ensures c.table_form_within-in-Extensive.ensures))
