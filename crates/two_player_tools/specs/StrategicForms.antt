-- The strategic form of a game: that of a table is the table itself, and that of a tree the table
-- of its reduced form.
use Rattle.answers.specs.Answers.{Answer, only, ◌>>=◌, refused_by}
use Rattle.game_core.specs.Table.{GameTable}
use Rattle.game_core.specs.declared.game.Game.{Game}
use Rattle.game_core.specs.declared.game.Game.TheVariants.{Strategic, Extensive}
use Rattle.reduced_form.specs.Stops.{reduced_form_of}
use Rattle.refusals.specs.Told.{form_refusal}
use Rattle.refusals.specs.declared.refusal.Refusal.{Refusal}

-- the table of a game's strategic form; or why a tree has no reduced form
abbrev pub strategic_table : Game → Answer Refusal GameTable
strategic_table (Strategic table) = only table
strategic_table (Extensive tree) = do
  form ← refused_by form_refusal (reduced_form_of tree)
  only form.table
