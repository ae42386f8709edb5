use Rattle.subgames.proofs.CutValueLemmas.{cuts_keep_values}
use Rattle.subgames.proofs.laws.cuts_keep_values.Goals as goal

pub returns : goal.returns
returns c = cuts_keep_values
