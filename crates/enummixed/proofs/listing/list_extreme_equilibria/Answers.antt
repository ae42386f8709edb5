use Rattle.answers.specs.Answers.{refused_by}
use Rattle.answers.proofs.AnswerLemmas.{gives_bind_as, gives_exit}
use Rattle.game_core.specs.Table.{game_of}
use Rattle.enumpure.specs.Stops.{within_text_limit}
use Rattle.enumpure.specs.declared.listing.ListStop.TheVariants as list_stops
use Rattle.enummixed.specs.ExtremeText.{IsExtremeEquilibriaText, extreme_pairs}
use Rattle.enummixed.specs.Pairs.{pairs_of}
use Rattle.enummixed.specs.Told.{text_stop}
use Rattle.enummixed.specs.declared.stop.MixedStop.TheVariants as stops
use Rattle.enummixed.proofs.StageLemmas.{told-end}
use Rattle.enummixed.proofs.listing.list_extreme_equilibria.Goals as goal

pub returns-in_err-extreme : goal.returns-in_err-extreme
returns-in_err-extreme g c =
    let game = game_of c.args.table.now in
    gives_exit stops.Memory (extreme_pairs game) (λ _. refused_by text_stop (within_text_limit (IsExtremeEquilibriaText game))) c.in_err-extreme.field-0.0 c.from_residual.result (λ text. text.items) c.in_err-extreme.ensures.answer c.from_residual.ensures.1

pub returns-in_err-text : goal.returns-in_err-text
returns-in_err-text g c =
    let game = game_of c.args.table.now in
    let r = c.from_residual-in_err-text.result in
    gives_bind_as stops.Memory (extreme_pairs game) (λ _. refused_by text_stop (within_text_limit (IsExtremeEquilibriaText game))) (pairs_of c.in_ok-extreme.extreme) r (λ text. text.items) c.in_ok-extreme.ensures.answer
    (told-end list_stops.Memory text_stop (within_text_limit (IsExtremeEquilibriaText game)) c.in_err-text.field-0.0 r (λ text. text.items) (c.in_err-text.ensures game c.in_ok-extreme.ensures.answer) c.from_residual-in_err-text.ensures.1)
