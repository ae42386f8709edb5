use Rattle.std.proofs.Common.{subst, option_map, string_bytes, Ok, Err}
use Rattle.std.proofs.lemmas.Result.{err_from_is_err_and}
use Rattle.answers.specs.Answers.{Gives, map_ok}
use Rattle.gambit_tools.specs.Check.{verdicts}
use Rattle.gambit_tools.specs.Games.{game_in}
use Rattle.refusals.specs.declared.refusal.Refusal.TheVariants as refusal
use Rattle.gambit_tools.proofs.CheckedLineLemmas.{IsAfterOne, both-read, first-refused, game-computed, second-refused, verdicts-computed}
use Rattle.gambit_tools.proofs.check.check.Goals as goal

pub returns-in_err-bytes : goal.returns-in_err-bytes
returns-in_err-bytes g c =
    let p = err_from_is_err_and c.from_residual.result c.from_residual.ensures.1 in
    let e = c.in_err-bytes.ensures in
    rw (p.1, p.2) (first-refused c.args.strategic (string_bytes c.args.game) (option_map string_bytes c.args.lines) (g.I.Inputs.seen c.args.inputs.now) (g.I.Inputs.seen c.read_input.new.inputs) c.in_err-bytes.field-0.0
    e.refused e.counts e.selections e.ends e.held)

pub returns-in_err-lines : goal.returns-in_err-lines
returns-in_err-lines g c =
    let p = err_from_is_err_and c.from_residual-in_err-lines.result c.from_residual-in_err-lines.ensures.1 in
    let o = c.in_ok-bytes.ensures in
    let e = c.in_err-lines.ensures in
    let before = g.I.Inputs.seen c.args.inputs.now in
    let between = g.I.Inputs.seen c.read_input.new.inputs in
    let one : IsAfterOne before between = record { opening = o.open_faults; reading = o.read_faults; once = o.selections; ends = o.ends; stay = o.held; absent = o.absent } in
    rw (p.1, p.2) (second-refused c.args.strategic (string_bytes c.args.game) (option_map string_bytes c.args.lines) before between (g.I.Inputs.seen c.read_input-2.new.inputs) c.in_ok-bytes.bytes.items
    c.in_err-lines.field-0.0 one o.bytes o.within_limit e.refused e.counts e.selections e.ends e.held)

pub returns-in_err-game : goal.returns-in_err-game
returns-in_err-game g c =
    let p = err_from_is_err_and c.from_residual-in_err-game.result c.from_residual-in_err-game.ensures.1 in
    let o = c.in_ok-bytes.ensures in
    let e = c.in_ok-lines.ensures in
    let before = g.I.Inputs.seen c.args.inputs.now in
    let between = g.I.Inputs.seen c.read_input.new.inputs in
    let after = g.I.Inputs.seen c.read_input-2.new.inputs in
    let bytes = c.in_ok-bytes.bytes.items in
    let lines = c.in_ok-lines.lines.items in
    let one : IsAfterOne before between = record { opening = o.open_faults; reading = o.read_faults; once = o.selections; ends = o.ends; stay = o.held; absent = o.absent } in
    rw (p.1, p.2) (game-computed c.args.strategic (string_bytes c.args.game) (option_map string_bytes c.args.lines) before after bytes lines c.in_err-game.field-0.0
    (both-read c.args.strategic (string_bytes c.args.game) (option_map string_bytes c.args.lines) before between after bytes lines one o.bytes e.bytes o.is_there e.is_there o.within_limit e.within_limit e.read e.counts e.selections e.ends e.held)
    (subst (λ b. Gives refusal.Memory (game_in b) (Err c.in_err-game.field-0.0)) c.deref.ensures.value c.in_err-game.ensures))

pub returns : goal.returns
returns g c =
    let o = c.in_ok-bytes.ensures in
    let e = c.in_ok-lines.ensures in
    let before = g.I.Inputs.seen c.args.inputs.now in
    let between = g.I.Inputs.seen c.read_input.new.inputs in
    let after = g.I.Inputs.seen c.read_input-2.new.inputs in
    let bytes = c.in_ok-bytes.bytes.items in
    let lines = c.in_ok-lines.lines.items in
    let one : IsAfterOne before between = record { opening = o.open_faults; reading = o.read_faults; once = o.selections; ends = o.ends; stay = o.held; absent = o.absent } in
    let answer = map_ok c.verdicts.result (λ text. text.items) in
    verdicts-computed c.args.strategic (string_bytes c.args.game) (option_map string_bytes c.args.lines) before after bytes lines c.in_ok-game.game answer
    (both-read c.args.strategic (string_bytes c.args.game) (option_map string_bytes c.args.lines) before between after bytes lines one o.bytes e.bytes o.is_there e.is_there o.within_limit e.within_limit e.read e.counts e.selections e.ends e.held)
    (subst (λ b. game_in b (Ok c.in_ok-game.game)) c.deref.ensures.value c.in_ok-game.ensures)
    (subst (λ l. Gives refusal.Memory (verdicts c.args.strategic c.in_ok-game.game l) answer) c.deref-2.ensures.value c.verdicts.ensures)
