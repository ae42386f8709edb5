use Rattle.std.proofs.Common.{Ok, Err, subst}
use Rattle.answers.specs.Answers.{Gives, refused_by}
use Rattle.answers.proofs.AnswerLemmas.{gives_bind_as, gives_exit}
use Rattle.game_core.specs.Table.{game_of}
use Rattle.enumpure.specs.Stops.{within_text_limit}
use Rattle.enumpure.specs.declared.listing.ListStop.TheVariants as list_stops
use Rattle.enummixed.specs.ExtremeText.{IsExtremeEquilibriaText, extreme_pairs}
use Rattle.enummixed.specs.Pairs.{pairs_of}
use Rattle.enummixed.specs.Told.{text_stop}
use Rattle.enummixed.specs.declared.stop.MixedStop.TheVariants as stops
use Rattle.enummixed.proofs.StageLemmas.{told-end}
use Rattle.enummixed.proofs.listing.list_equilibria_of_kept.Goals as goal

pub returns-in_err-extreme : goal.returns-in_err-extreme
returns-in_err-extreme g c =
    let game = game_of c.args.table.now in
    let kept = game_of c.args.kept.now.table in
    let stop = c.in_err-extreme.field-0.0 in
    gives_exit stops.Memory (extreme_pairs kept) (λ _. refused_by text_stop (within_text_limit (IsExtremeEquilibriaText game))) stop c.from_residual.result (λ text. text.items)
    (subst (λ t. Gives stops.Memory (extreme_pairs (game_of t)) (Err stop)) c.table.ensures c.in_err-extreme.ensures.answer) c.from_residual.ensures.1

pub returns-in_err-spread_text : goal.returns-in_err-spread_text
returns-in_err-spread_text g c =
    let game = game_of c.args.table.now in
    let kept = game_of c.args.kept.now.table in
    let pairs = pairs_of c.in_ok-extreme.extreme in
    let r = c.from_residual-in_err-spread_text.result in
    let found : extreme_pairs kept (Ok pairs) = subst (λ t. extreme_pairs (game_of t) (Ok pairs)) c.table.ensures c.in_ok-extreme.ensures.answer in
    gives_bind_as stops.Memory (extreme_pairs kept) (λ _. refused_by text_stop (within_text_limit (IsExtremeEquilibriaText game))) pairs r (λ text. text.items) found
    (told-end list_stops.Memory text_stop (within_text_limit (IsExtremeEquilibriaText game)) c.in_err-spread_text.field-0.0 r (λ text. text.items) (c.in_err-spread_text.ensures found) c.from_residual-in_err-spread_text.ensures.1)

pub returns : goal.returns
returns g c =
    let pairs = pairs_of c.in_ok-extreme.extreme in
    let found : extreme_pairs (game_of c.args.kept.now.table) (Ok pairs) = subst (λ t. extreme_pairs (game_of t) (Ok pairs)) c.table.ensures c.in_ok-extreme.ensures.answer in
    (pairs, found, c.in_ok-spread_text.ensures {u = tt} found)
