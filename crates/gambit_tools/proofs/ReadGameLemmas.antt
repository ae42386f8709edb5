-- What is read is a game.
use Rattle.std.proofs.Common.{ℕ, inl, inr, sym, subst, List, Ok}
use Rattle.answers.proofs.AnswerLemmas.{ok_same}
use Rattle.game_core.specs.TokenList.{TokenList}
use Rattle.game_core.specs.declared.game.Game.{Game}
use Rattle.game_core.specs.declared.game.Game.TheVariants.{Strategic, Extensive}
use Rattle.two_player_tools.specs.GameTypes.{IsGame}
use Rattle.gambit_tools.specs.Games.{game_in, game_of_tokens}

game_of-valid : (tokens : TokenList) (game : Game) → game_of_tokens tokens (Ok game) → IsGame game
game_of-valid tokens game (inl (begins, h)) = subst IsGame (sym (ok_same game (Extensive h.0) h.2)) h.1.describe.partial
game_of-valid tokens game (inr (begins, h)) = subst IsGame (sym (ok_same game (Strategic h.0) h.2)) h.1.1

pub game_in-valid : (bytes : List ℕ) (game : Game) → game_in bytes (Ok game) → IsGame game
game_in-valid bytes game h = game_of-valid h.0 game h.2
