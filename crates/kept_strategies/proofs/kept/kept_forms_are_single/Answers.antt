use Rattle.kept_strategies.proofs.KeptSingleLemmas.{kept_of-single}
use Rattle.kept_strategies.proofs.kept.kept_forms_are_single.Goals as goal

pub returns : goal.returns
returns c = kept_of-single
