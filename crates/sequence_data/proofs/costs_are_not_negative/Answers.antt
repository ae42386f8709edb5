use Rattle.sequence_data.proofs.GainLemmas.{costs_positive_one, costs_positive_two}
use Rattle.sequence_data.proofs.costs_are_not_negative.Goals as goal

pub returns-clause-one : goal.returns-clause-one
returns-clause-one c = costs_positive_one

pub returns-clause-two : goal.returns-clause-two
returns-clause-two c = costs_positive_two
