use Rattle.reduced_strategies.proofs.CompletionLemmas.{completions-pay}
use Rattle.reduced_strategies.proofs.completions_pay_the_cell.Goals as goal

pub returns : goal.returns
returns c = completions-pay
