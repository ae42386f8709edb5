-- The game that the bytes of an input stand for, in stages: tokens, and a table or a tree.
use Rattle.std.specs.Prelude.{ℕ, ◌<◌, ◌≡◌, List, ◌∷◌, length, codes}
use Rattle.answers.specs.Answers.{Answer, only, refuse_where, by_case, ◌>>=◌, ◌>>◌, refused_by}
use Rattle.game_core.specs.declared.game.Game.{Game}
use Rattle.game_core.specs.declared.game.Game.TheVariants.{Strategic, Extensive}
use Rattle.game_core.specs.TokenList.{TokenList, bare}
use Rattle.game_text.specs.Stops.{tokens_of}
use Rattle.game_core.specs.declared.token.Token.{Token}
use Rattle.game_core.specs.declared.token.Token.TheVariants.{Word}
use Rattle.nfg_reader.specs.Stops.{table_in}
use Rattle.efg_reader.specs.Stops.{tree_in}
use Rattle.gambit_tools.specs.Input.{most_bytes}
use Rattle.refusals.specs.Told.{text_refusal, nfg_refusal, efg_refusal}
use Rattle.refusals.specs.declared.refusal.Refusal.{Refusal}
use Rattle.refusals.specs.declared.refusal.Refusal.TheVariants as refusal

-- refuses an input above the limit
abbrev pub within_bytes : List ℕ → Answer Refusal (Unit {0})
within_bytes bytes = refuse_where (most_bytes < length bytes) refusal.TooLong

-- the tokens of bytes within the limit on inputs
abbrev pub tokens_in : List ℕ → Answer Refusal TokenList
tokens_in bytes = do
  within_bytes bytes
  refused_by text_refusal (tokens_of bytes)

-- the tokens begin as those of a file of a tree
abbrev pub BeginsAsTree : List Token → Type 0
BeginsAsTree tokens = (rest : List Token) × (tokens ≡ Word (codes "EFG") ∷ rest)

-- the game of a tree's file
abbrev pub tree_game : TokenList → Answer Refusal Game
tree_game tokens = do
  tree ← refused_by efg_refusal (tree_in tokens)
  only (Extensive tree)

-- the game of a table's file
abbrev pub table_game : TokenList → Answer Refusal Game
table_game tokens = do
  table ← refused_by nfg_refusal (table_in tokens)
  only (Strategic table)

-- the game of the tokens: the first of them decides of which form it is
abbrev pub game_of_tokens : TokenList → Answer Refusal Game
game_of_tokens tokens =
    by_case (BeginsAsTree (bare tokens.list)) (tree_game tokens) (table_game tokens)

-- the game of an input's bytes
abbrev pub game_in : List ℕ → Answer Refusal Game
game_in bytes = do
  tokens ← tokens_in bytes
  game_of_tokens tokens
