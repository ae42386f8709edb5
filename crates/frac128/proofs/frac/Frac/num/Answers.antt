use Rattle.frac128.proofs.PartLemmas.{read_num, read_fits}
use Rattle.frac128.proofs.frac.Frac.num.Goals as goal

pub returns-clause-value : goal.returns-clause-value
returns-clause-value c = read_num c.self.inside c.args.self c.self.invariant c.self.view_is

pub returns-clause-fits : goal.returns-clause-fits
returns-clause-fits c = read_fits c.self.inside c.args.self c.self.invariant c.self.view_is
