use Rattle.gambit_tools.proofs.RangeLaws.{range-unfit}
use Rattle.gambit_tools.proofs.tools.ranges_do_not_fit.Goals as goal

pub returns : goal.returns
returns c = range-unfit
