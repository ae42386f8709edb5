use Rattle.zero_sum_lp.specs.Programs.{raw_one}
use Rattle.lex_tableau.specs.Rows.{tableau}
use Rattle.sequence_data.specs.Data.{side_of}
use Rattle.zero_sum_lp.proofs.PlanReadLemmas.{weights_push, raw_one_is}
use Rattle.zero_sum_lp.proofs.optimum.Optimum.raw_one.Goals as goal

pub loop-q-preserved : goal.loop-q-preserved
loop-q-preserved c =
    weights_push c.loop-q.q (raw_one (side_of c.self.inside.first) (side_of c.self.inside.second) (tableau c.self.inside.work)) c.loop-q.raw.items c.push.new.self.items c.value.result c.loop-q.invariant (raw_one_is (record { first = c.self.inside.first; second = c.self.inside.second; tableau = c.self.inside.work }) c.self.invariant.0 c.now.result.now c.now.ensures.value c.self.inside.objective c.self.invariant.1 c.loop-q.q c.value.result c.value.ensures.value) c.in_ok-push.ensures.items
