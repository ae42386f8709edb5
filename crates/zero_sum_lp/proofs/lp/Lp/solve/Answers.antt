use Rattle.zero_sum_lp.proofs.OptimumLemmas.{program_starts}
use Rattle.zero_sum_lp.proofs.lp.Lp.solve.Goals as goal

pub follow-requires-clause-start : goal.follow-requires-clause-start
follow-requires-clause-start g c = program_starts (record { first = c.self.inside.first; second = c.self.inside.second; tableau = c.self.inside.work }) c.self.invariant.0
