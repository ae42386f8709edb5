use Rattle.std.proofs.Common.{ap, arith, length}
use Rattle.game_core.proofs.TableCountLemmas.{few_players}
use Rattle.two_player_tools.proofs.forms.player_count.Goals as goal

pub overflow_cast-result : goal.overflow_cast-result
overflow_cast-result c = omega (arith, few_players c.in-Strategic.table c.players.ensures.valid, ap length c.players.ensures.players)
