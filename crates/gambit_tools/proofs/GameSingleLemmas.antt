-- An input's bytes stand for at most one game.
use Rattle.std.proofs.Common.{ℕ, ◌<◌, List, length}
use Rattle.answers.specs.Answers.{IsSingle, refuse_where, only, refused_by}
use Rattle.answers.proofs.AnswerLemmas.{bind-single, by_case-single, only-single, refuse_where-single, refused_by-single}
use Rattle.game_core.specs.declared.game.Game.TheVariants.{Strategic, Extensive}
use Rattle.game_text.specs.Stops.{tokens_of}
use Rattle.game_text.proofs.OneListLaws.{tokens_of-single}
use Rattle.game_core.specs.TokenList.{TokenList, bare}
use Rattle.nfg_reader.specs.Stops.{table_in}
use Rattle.nfg_reader.proofs.OneAnswerLaws.{table_in-single}
use Rattle.efg_reader.specs.Stops.{tree_in}
use Rattle.efg_reader.proofs.FileStopLemmas.{tree_in-single}
use Rattle.refusals.specs.Told.{text_refusal, nfg_refusal, efg_refusal}
use Rattle.refusals.specs.declared.refusal.Refusal.TheVariants as refusal
use Rattle.gambit_tools.specs.Games.{BeginsAsTree, tokens_in, tree_game, table_game, game_of_tokens, game_in}
use Rattle.gambit_tools.specs.Input.{most_bytes}

tokens_in-single : (bytes : List ℕ) → IsSingle (tokens_in bytes)
tokens_in-single bytes =
    bind-single (refuse_where (most_bytes < length bytes) refusal.TooLong) (λ _. refused_by text_refusal (tokens_of bytes))
    (refuse_where-single (most_bytes < length bytes) refusal.TooLong)
    (λ _ _. refused_by-single text_refusal (tokens_of bytes) (tokens_of-single bytes))

table_game-single : (tokens : TokenList) → IsSingle (table_game tokens)
table_game-single tokens =
    bind-single (refused_by nfg_refusal (table_in tokens)) (λ table. only (Strategic table))
    (refused_by-single nfg_refusal (table_in tokens) (table_in-single tokens))
    (λ table _. only-single (Strategic table))

tree_game-single : (tokens : TokenList) → IsSingle (tree_game tokens)
tree_game-single tokens =
    bind-single (refused_by efg_refusal (tree_in tokens)) (λ tree. only (Extensive tree))
    (refused_by-single efg_refusal (tree_in tokens) (tree_in-single tokens))
    (λ tree _. only-single (Extensive tree))

pub game_in-single : (bytes : List ℕ) → IsSingle (game_in bytes)
game_in-single bytes =
    bind-single (tokens_in bytes) game_of_tokens (tokens_in-single bytes)
    (λ tokens _. by_case-single (BeginsAsTree (bare tokens.list)) (tree_game tokens) (table_game tokens) (λ _. tree_game-single tokens) (λ _. table_game-single tokens))
