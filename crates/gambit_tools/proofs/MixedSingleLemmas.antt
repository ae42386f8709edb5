-- The tool `enummixed` has at most one answer.
use Rattle.std.proofs.Common.{Bool, true, false}
use Rattle.answers.specs.Answers.{IsSingle, refused_by, ◌>>=◌}
use Rattle.answers.proofs.AnswerLemmas.{bind-single, refused_by-single}
use Rattle.game_core.specs.Table.{GameTable, game_of}
use Rattle.game_core.specs.declared.game.Game.{Game}
use Rattle.kept_strategies.specs.Kept.{kept_of}
use Rattle.kept_strategies.proofs.KeptSingleLemmas.{kept_of-single}
use Rattle.enummixed.specs.ExtremeText.{extreme_text, kept_text}
use Rattle.enummixed.proofs.VertexPairLemmas.{texts-single}
use Rattle.refusals.specs.Told.{kept_refusal, mixed_refusal}
use Rattle.gambit_tools.specs.Enummixed.{enummixed, table_text}
use Rattle.two_player_tools.specs.StrategicForms.{strategic_table}
use Rattle.two_player_tools.proofs.StrategicFormLemmas.{strategic_table-single}
use Rattle.two_player_tools.specs.TwoPlayers.{two_players}
use Rattle.two_player_tools.proofs.FormSingleLemmas.{two_players-single}

table_text-single : (all : Bool) (table : GameTable) → IsSingle (table_text all table)
table_text-single true table = refused_by-single mixed_refusal (extreme_text (game_of table)) (texts-single (game_of table) (game_of table))
table_text-single false table =
    bind-single (refused_by kept_refusal (kept_of table)) (λ kept. refused_by mixed_refusal (kept_text (game_of table) (game_of kept.table)))
    (refused_by-single kept_refusal (kept_of table) (kept_of-single table))
    (λ kept _. refused_by-single mixed_refusal (kept_text (game_of table) (game_of kept.table)) (texts-single (game_of table) (game_of kept.table)))

pub enummixed-single : (all : Bool) (game : Game) → IsSingle (enummixed all game)
enummixed-single all game =
    bind-single (two_players game) (λ _. strategic_table game >>= table_text all) (two_players-single game)
    (λ _ _. bind-single (strategic_table game) (table_text all) (strategic_table-single game) (λ table _. table_text-single all table))
