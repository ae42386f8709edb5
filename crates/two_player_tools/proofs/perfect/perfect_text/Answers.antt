use Rattle.std.proofs.Common.{◌≡◌, ◌∙◌, Ok, length, ap, sym}
use Rattle.answers.specs.Answers.{◌>>=◌, only, refused_by}
use Rattle.answers.proofs.AnswerLemmas.{gives_bind_as, gives_exit}
use Rattle.game_theory.specs.Lines.{line_text}
use Rattle.game_core.specs.declared.game.Game.TheVariants.{Extensive}
use Rattle.perfect_recall.specs.Found.{recall_of}
use Rattle.refusals.specs.Told.{recall_refusal}
use Rattle.refusals.specs.declared.refusal.Refusal.TheVariants as refusal
use Rattle.two_player_tools.specs.Perfect.{perfect_in}
use Rattle.two_player_tools.specs.TwoPlayers.{two_players}
use Rattle.two_player_tools.proofs.perfect.perfect_text.Goals as goal

pub returns-in_err-behaviour : goal.returns-in_err-behaviour
returns-in_err-behaviour c =
    let t = c.args.tree.now in
    let method = c.args.method in
    let r = c.from_residual-in_err-behaviour.result in
    let count : length c.players.result.now ≡ length t.players = ap length c.players.ensures.players in
    gives_bind_as refusal.Memory (two_players (Extensive t)) (λ _. refused_by recall_refusal (recall_of t) >>= λ _. (perfect_in method t >>= λ entries. only (line_text entries))) tt r (λ text. text.items) (λ other. c.in_ok-two_players_of.ensures (λ same. other (sym count ∙ same)))
    (gives_bind_as refusal.Memory (refused_by recall_refusal (recall_of t)) (λ _. perfect_in method t >>= λ entries. only (line_text entries)) c.in_ok-find_recall.field-0 r (λ text. text.items) c.in_ok-find_recall.ensures
    (gives_exit refusal.Memory (perfect_in method t) (λ entries. only (line_text entries)) c.in_err-behaviour.field-0.0 r (λ text. text.items) c.in_err-behaviour.ensures c.from_residual-in_err-behaviour.ensures.1))

pub returns : goal.returns
returns c =
    let count : length c.players.result.now ≡ length c.args.tree.now.players = ap length c.players.ensures.players in
    (tt, (λ other. c.in_ok-two_players_of.ensures (λ same. other (sym count ∙ same))), (c.in_ok-find_recall.field-0, c.in_ok-find_recall.ensures, (c.in_ok-behaviour.behaviour, c.in_ok-behaviour.ensures, ap Ok (c.in_ok-line.ensures ∙ ap line_text c.entries.ensures))))
