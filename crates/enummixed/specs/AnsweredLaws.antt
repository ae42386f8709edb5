-- That a game has an answer, as statements. Each is proved by a function of src/lib.rt.
use Rattle.std.specs.Prelude.{◌<◌, All}
use Rattle.answers.specs.Answered.{IsAnswered}
use Rattle.game_theory.specs.Profiles.{Game}
use Rattle.game_core.specs.Table.{GameTable, IsTable, game_of}
use Rattle.kept_strategies.specs.Kept.{KeptForm, IsKeptForm}
use Rattle.enummixed.specs.ExtremeText.{extreme_pairs, extreme_text, kept_text}

-- A game, each of whose players has a strategy, has an answer: a list of pairs, or why it has none.
abbrev pub ExtremePairsAreAnswered : Type 0
ExtremePairsAreAnswered =
    (game : Game) → All (λ n. 0 < n) game.strategies → IsAnswered (extreme_pairs game)

-- Such a game has a text, or a reason why it has none. So has a table, where its text is found by
-- the pairs of the table over the kept strategies.
pub record ExtremeTextsAreAnswered : Type 0 where
  pub own : (game : Game) → All (λ n. 0 < n) game.strategies → IsAnswered (extreme_text game)
  pub by_kept : (table : GameTable) (kept : KeptForm) → IsTable table → IsKeptForm table kept
      → IsAnswered (kept_text (game_of table) (game_of kept.table))
