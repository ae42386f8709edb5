-- The bytes of an input have an answer: a game, or why they stand for none.
use Rattle.std.proofs.Common.{ℕ, ◌<◌, ◌^◌, List, [], length, Ok, arith}
use Rattle.answers.specs.Answers.{only, refuse_where, refused_by}
use Rattle.answers.specs.Answered.{IsAnswered}
use Rattle.answers.proofs.AnsweredLemmas.{bind-answered, by_case-answered, only-answered, refuse_where-answered, refused_by-answered}
use Rattle.game_core.specs.declared.game.Game.TheVariants.{Strategic, Extensive}
use Rattle.game_core.specs.TokenList.{TokenList, bare}
use Rattle.game_text.specs.Stops.{tokens_of}
use Rattle.game_text.proofs.AnsweredTokenLemmas.{tokens_of-answered, tokens-few}
use Rattle.nfg_reader.specs.Stops.{table_in}
use Rattle.nfg_reader.proofs.AnsweredTableLemmas.{table_in-answered}
use Rattle.efg_reader.specs.Stops.{tree_in}
use Rattle.efg_reader.proofs.AnsweredTreeLemmas.{tree_in-answered}
use Rattle.refusals.specs.Told.{text_refusal, nfg_refusal, efg_refusal}
use Rattle.refusals.specs.declared.refusal.Refusal.TheVariants as refusal
use Rattle.gambit_tools.specs.Games.{BeginsAsTree, tokens_in, tree_game, table_game, game_of_tokens, game_in}
use Rattle.gambit_tools.specs.Input.{most_bytes}

-- the tokens of an input
tokens_in-answered : (bytes : List ℕ) → IsAnswered (tokens_in bytes)
tokens_in-answered bytes =
    bind-answered (refuse_where (most_bytes < length bytes) refusal.TooLong) (λ _. refused_by text_refusal (tokens_of bytes))
    (refuse_where-answered (most_bytes < length bytes) refusal.TooLong)
    (λ _ _. refused_by-answered text_refusal (tokens_of bytes) (tokens_of-answered bytes))

-- they are fewer than 2^32, since they are no more than the bytes
tokens_in-few : (bytes : List ℕ) (tokens : TokenList) → tokens_in bytes (Ok tokens) → length tokens.list < 2 ^ 32
tokens_in-few bytes tokens h = omega (arith, h.1, tokens-few 0 bytes [] tokens.list h.2.in_order)

-- the game of a table's file
table_game-answered : (tokens : TokenList) → IsAnswered (table_game tokens)
table_game-answered tokens =
    bind-answered (refused_by nfg_refusal (table_in tokens)) (λ table. only (Strategic table))
    (refused_by-answered nfg_refusal (table_in tokens) (table_in-answered tokens))
    (λ table _. only-answered (Strategic table))

-- the game of a tree's file
tree_game-answered : (tokens : TokenList) → length tokens.list < 2 ^ 32 → IsAnswered (tree_game tokens)
tree_game-answered tokens few =
    bind-answered (refused_by efg_refusal (tree_in tokens)) (λ tree. only (Extensive tree))
    (refused_by-answered efg_refusal (tree_in tokens) (tree_in-answered tokens few))
    (λ tree _. only-answered (Extensive tree))

pub game_in-answered : (bytes : List ℕ) → IsAnswered (game_in bytes)
game_in-answered bytes =
    bind-answered (tokens_in bytes) game_of_tokens (tokens_in-answered bytes)
    (λ tokens h. by_case-answered (BeginsAsTree (bare tokens.list)) (tree_game tokens) (table_game tokens) (λ _. tree_game-answered tokens (tokens_in-few bytes tokens h)) (λ _. table_game-answered tokens))
