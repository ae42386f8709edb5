use Rattle.two_player_tools.proofs.AnsweredFormLemmas.{strategic_table-answered}
use Rattle.two_player_tools.proofs.strategic_tables_are_answered.Goals as goal

pub returns : goal.returns
returns c = strategic_table-answered
