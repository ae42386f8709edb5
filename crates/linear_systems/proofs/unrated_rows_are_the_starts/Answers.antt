use Rattle.linear_systems.proofs.LastRowLemmas.{last_row}
use Rattle.linear_systems.proofs.unrated_rows_are_the_starts.Goals as goal

pub returns : goal.returns
returns c = last_row
