use Rattle.std.proofs.Common.{length, refl, ap}
use Rattle.game_core.specs.Table.{game_of}
use Rattle.enumpure.specs.Replies.{IsColumnOf}
use Rattle.enumpure.proofs.ColumnLemmas.{IsColumnOf-table}
use Rattle.enumpure.proofs.replies.keep_best_of_player.Goals as goal
use Rattle.enumpure.proofs.replies.keep_best_of_player.Goals.{After-strategy_count}

-- the column is the player's in the table's game
is_column : (c : After-strategy_count) → IsColumnOf (game_of c.args.table.now) c.args.player record { numbers = c.payoffs.result; offset = c.args.player; step = length c.players.result.now } (length c.args.all_best.now) c.args.stride c.strategy_count.result
is_column c =
    IsColumnOf-table c.args.table.now c.args.player _ _ _ _ c.payoffs.ensures.valid c.requires.player c.payoffs.ensures.payoffs refl (ap length c.players.ensures.players) c.requires.best_replies c.requires.stride c.strategy_count.ensures.count

pub keep_best_replies-requires : goal.keep_best_replies-requires
keep_best_replies-requires c = (game_of c.args.table.now, c.args.player, is_column (goal.at.keep_best_replies-requires c).After-strategy_count)

pub returns : goal.returns
returns c = c.keep_best_replies.ensures (game_of c.args.table.now) c.args.player (is_column (goal.at.returns c).After-strategy_count)
