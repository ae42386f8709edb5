-- The law of made tables.
use Rattle.std.specs.Prelude.{ℕ, ◌+◌, ◌*◌, ◌<◌, ◌≡◌, pos}
use Rattle.rational.specs.Rational.{whole}
use Rattle.game_core.specs.Table.{game_of}
use Rattle.game_core.specs.MadeTables.{drawn, made_table}

-- at profile k player i is paid draw 2 * k + i + 1
abbrev pub MadeTablesPayDraws : Type 0
MadeTablesPayDraws =
    (seed rows columns i k : ℕ) → i < 2 → k < rows * columns
    → (game_of (made_table seed rows columns)).pays i k ≡ whole (pos (drawn seed (2 * k + i + 1)))
