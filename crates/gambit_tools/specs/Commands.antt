-- What a command reads and answers. Each tool has a line in `inputs_of`; one that reads a game and
-- nothing else has a line in `tool_of`, and each other one in `answer_of`.
use Rattle.std.specs.Prelude.{ℕ, List, [], ◌∷◌, Some, slice_index_or}
use Rattle.answers.specs.Answers.{Answer, ◌>>=◌}
use Rattle.game_core.specs.declared.game.Game.{Game}
use Rattle.outside.specs.Inputs.{InputName}
use Rattle.words.specs.Words.{Command, Enumpure, Enummixed, Lcp, Lp, Convert, Check, Make}
use Rattle.gambit_tools.specs.Check.{check}
use Rattle.gambit_tools.specs.Convert.{convert}
use Rattle.gambit_tools.specs.Enummixed.{enummixed}
use Rattle.gambit_tools.specs.Enumpure.{enumpure}
use Rattle.gambit_tools.specs.Games.{game_in}
use Rattle.two_player_tools.specs.Perfect.{lcp_tool, lp_tool}
use Rattle.gambit_tools.specs.Make.{make}
use Rattle.refusals.specs.declared.refusal.Refusal.{Refusal}

-- the inputs that a command names, in the order in which they are read
abbrev pub inputs_of : Command → List InputName
inputs_of (Enumpure strategic agents perfect file) = file ∷ []
inputs_of (Enummixed all workers file) = file ∷ []
inputs_of (Lcp strategic perfect file) = file ∷ []
inputs_of (Lp strategic prices perfect file) = file ∷ []
inputs_of (Convert layout row column file) = file ∷ []
inputs_of (Check strategic game lines) = Some game ∷ lines ∷ []
inputs_of (Make number rows columns workers) = []

-- what the tool of a command that reads one game answers for it
abbrev pub tool_of : Command → Game → Answer Refusal (List ℕ)
tool_of (Enumpure strategic agents perfect file) game = enumpure strategic agents perfect game
tool_of (Enummixed all workers file) game = enummixed all game
tool_of (Lcp strategic perfect file) game = lcp_tool strategic perfect game
tool_of (Lp strategic prices perfect file) game = lp_tool strategic prices perfect game
tool_of (Convert layout row column file) game = convert layout row column game
tool_of _ game = λ answer. ⊥

-- what a command's tool answers for the game in a text
abbrev pub game_answer : Command → List ℕ → Answer Refusal (List ℕ)
game_answer command bytes = do
  game ← game_in bytes
  tool_of command game

-- The answer of a command by the contents of its inputs: the order of the stages is the order of
-- refusals.
abbrev pub answer_of : Command → List (List ℕ) → Answer Refusal (List ℕ)
answer_of (Check strategic game lines) contents =
    check strategic (slice_index_or contents 0 []) (slice_index_or contents 1 [])
answer_of (Make number rows columns workers) contents = make number rows columns
answer_of command contents = game_answer command (slice_index_or contents 0 [])
