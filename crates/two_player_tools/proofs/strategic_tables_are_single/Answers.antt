use Rattle.two_player_tools.proofs.StrategicFormLemmas.{strategic_table-single}
use Rattle.two_player_tools.proofs.strategic_tables_are_single.Goals as goal

pub returns : goal.returns
returns c = strategic_table-single
