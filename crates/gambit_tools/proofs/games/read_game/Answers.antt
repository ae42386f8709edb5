use Rattle.std.proofs.Common.{◌≡◌, subst, ◌∷◌, [], List, ℕ, option_map, string_bytes, Ok, Err, Result}
use Rattle.std.proofs.lemmas.Result.{err_from_is_err_and}
use Rattle.answers.specs.Answers.{Gives}
use Rattle.outside.specs.Inputs.{InputName, InputsSeen}
use Rattle.words.specs.Words.{Command}
use Rattle.gambit_tools.specs.Commands.{inputs_of}
use Rattle.gambit_tools.specs.Games.{game_in}
use Rattle.gambit_tools.specs.Reading.{ReadsGame, RefuseGame}
use Rattle.game_core.specs.declared.game.Game.{Game}
use Rattle.refusals.specs.declared.refusal.Refusal.{Refusal}
use Rattle.refusals.specs.declared.refusal.Refusal.TheVariants as refusal
use Rattle.gambit_tools.proofs.OneInputLemmas.{IsRead, game-computed, refused-computed, text-computed}
use Rattle.gambit_tools.proofs.games.read_game.Goals as goal

pub returns-in_err-bytes : goal.returns-in_err-bytes
returns-in_err-bytes g c =
    let p = err_from_is_err_and c.from_residual.result c.from_residual.ensures.1 in
    let name = option_map string_bytes c.args.file in
    let before = g.I.Inputs.seen c.args.inputs.now in
    let after = g.I.Inputs.seen c.read_input.new.inputs in
    let e = c.in_err-bytes.ensures in
    let refuse : RefuseGame name before after c.in_err-bytes.field-0.0 = λ command one. refused-computed command name before after c.in_err-bytes.field-0.0 one e.refused e.counts e.selections e.ends e.held in
    rw (p.1, p.2) refuse

pub returns : goal.returns
returns g c = (
    let name = option_map string_bytes c.args.file in
    let before = g.I.Inputs.seen c.args.inputs.now in
    let after = g.I.Inputs.seen c.read_input.new.inputs in
    let bytes = c.in_ok-bytes.bytes.items in
    let gives = subst (λ b. Gives refusal.Memory (game_in b) c.game_in.result) c.deref.ensures.value c.game_in.ensures in
    go name before after bytes c.game_in.result (λ command one. record { one = one; are = c.in_ok-bytes.ensures.bytes; there = c.in_ok-bytes.ensures.is_there; few = c.in_ok-bytes.ensures.within_limit; read = c.in_ok-bytes.ensures.read; ends = c.in_ok-bytes.ensures.ends; counts = c.in_ok-bytes.ensures.counts; once = c.in_ok-bytes.ensures.selections; stay = c.in_ok-bytes.ensures.held }) gives)
  where
    go : (name : InputName) (before after : InputsSeen) (bytes : List ℕ) (result : Result Game Refusal) → ((command : Command) → inputs_of command ≡ name ∷ [] → IsRead command name before after bytes)
        → Gives refusal.Memory (game_in bytes) result → ReadsGame name before after result
    go name before after bytes (Ok game) read k = λ command answer one g. text-computed command name before after bytes game answer (read command one) k g
    go name before after bytes (Err r) read k = λ command one. game-computed command name before after bytes r (read command one) k
