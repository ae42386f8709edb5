-- What reading the game in one input does for the commands that read that input alone.
use Rattle.std.specs.Prelude.{◌≡◌, [], ◌∷◌, Result, Err, MatchResult}
use Rattle.answers.specs.Answers.{Gives}
use Rattle.outside.specs.Inputs.{InputName, InputsSeen}
use Rattle.game_core.specs.declared.game.Game.{Game}
use Rattle.words.specs.Words.{Command}
use Rattle.gambit_tools.specs.Commands.{inputs_of, tool_of}
use Rattle.gambit_tools.specs.Outcome.{RunAnswer, IsComputed}
use Rattle.refusals.specs.declared.refusal.Refusal.{Refusal}
use Rattle.refusals.specs.declared.refusal.Refusal.TheVariants as refusal

-- where there is no game, each of them is refused so
abbrev pub RefuseGame : InputName → InputsSeen → InputsSeen → Refusal → Type 0
RefuseGame name before after r =
    (command : Command) → inputs_of command ≡ name ∷ [] → IsComputed command before after (Err r)

-- where there is one, each answers what its tool answers for it
abbrev pub ReadGame : InputName → InputsSeen → InputsSeen → Game → Type 0
ReadGame name before after game =
    (command : Command) (answer : RunAnswer) → inputs_of command ≡ name ∷ []
    → Gives refusal.Memory (tool_of command game) answer → IsComputed command before after answer

-- either of these
abbrev pub ReadsGame : InputName → InputsSeen → InputsSeen → Result Game Refusal → Type 0
ReadsGame name before after result =
    MatchResult result (ReadGame name before after) (RefuseGame name before after)
