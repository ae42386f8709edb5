use Rattle.kept_strategies.proofs.AnsweredFormLemmas.{kept_of-answered}
use Rattle.kept_strategies.proofs.kept.kept_forms_are_answered.Goals as goal

pub returns : goal.returns
returns c = kept_of-answered
