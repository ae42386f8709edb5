use Rattle.std.proofs.Common.{rules, ◌≡◌, ap, subst, Ok, Err}
use Rattle.answers.specs.Answers.{Gives, only}
use Rattle.answers.proofs.AnswerLemmas.{gives_told_exit}
use Rattle.game_core.specs.MadeTables.{made_table}
use Rattle.game_core.specs.Table.{game_of}
use Rattle.enummixed.specs.ExtremeText.{extreme_pairs}
use Rattle.enummixed.specs.Pairs.{pairs_of}
use Rattle.enummixed.specs.declared.stop.MixedStop.TheVariants as mixed_stop
use Rattle.refusals.specs.Told.{mixed_refusal}
use Rattle.gambit_tools.specs.Make.{counts_text}
use Rattle.gambit_tools.proofs.make.make.Goals as goal

pub returns-in_err-found : goal.returns-in_err-found
returns-in_err-found g c =
    let stop = c.in_err-found.field-0.0 in
    gives_told_exit mixed_stop.Memory mixed_refusal (extreme_pairs (game_of (made_table c.args.number c.args.rows c.args.columns))) (λ pairs. only (counts_text pairs)) stop c.from_residual-in_err-found.result (λ text. text.items)
    (subst (λ table. Gives mixed_stop.Memory (extreme_pairs (game_of table)) (Err stop)) c.in_ok-table.ensures c.in_err-found.ensures.answer) c.from_residual-in_err-found.ensures.1

pub returns : goal.returns
returns g c =
    let pairs = pairs_of c.in_ok-found.found in
    let text : c.into_bytes.result.items ≡ counts_text pairs = search (rules, c.into_bytes.ensures.value, c.in_ok-counts_text.ensures) in
    (pairs, subst (λ table. extreme_pairs (game_of table) (Ok pairs)) c.in_ok-table.ensures c.in_ok-found.ensures.answer, ap Ok text)
