use Rattle.game_core.proofs.GameLemmas.{pays_draws}
use Rattle.game_core.proofs.made_table.made_tables_pay_draws.Goals as goal

pub returns : goal.returns
returns c = pays_draws
