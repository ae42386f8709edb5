use Rattle.rational.proofs.DenominatorLemmas.{den_pos}
use Rattle.frac128.proofs.PartLemmas.{read_den, read_fits}
use Rattle.frac128.proofs.frac.Frac.den.Goals as goal

pub returns-clause-value : goal.returns-clause-value
returns-clause-value c = read_den c.self.inside c.args.self c.self.invariant c.self.view_is

pub returns-clause-positive : goal.returns-clause-positive
returns-clause-positive c = den_pos c.args.self

pub returns-clause-fits : goal.returns-clause-fits
returns-clause-fits c = (read_fits c.self.inside c.args.self c.self.invariant c.self.view_is).den
