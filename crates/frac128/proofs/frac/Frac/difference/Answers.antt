use Rattle.frac128.proofs.DifferenceLemmas.{difference_answer}
use Rattle.frac128.proofs.frac.Frac.difference.Goals as goal

pub returns : goal.returns
returns c = difference_answer c.args.self c.args.other c.neg.result c.sum.result c.neg.ensures c.sum.ensures
