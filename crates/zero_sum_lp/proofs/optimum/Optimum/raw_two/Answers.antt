use Rattle.std.proofs.Common.{◌+◌, ◌<◌, ◌∙◌, ap, List, length, subst}
use Rattle.sequence_data.specs.declared.types.SetRow.{SetRow}
use Rattle.zero_sum_lp.specs.Programs.{raw_two}
use Rattle.lex_tableau.specs.Rows.{tableau}
use Rattle.sequence_data.specs.Data.{side_of}
use Rattle.zero_sum_lp.proofs.OptimumLemmas.{read_row, read_other}
use Rattle.zero_sum_lp.proofs.PlanReadLemmas.{weights_push, raw_two_is, slack_variable}
use Rattle.zero_sum_lp.proofs.optimum.Optimum.raw_two.Goals as goal

pub objective_entry-requires-clause-row_in : goal.objective_entry-requires-clause-row_in
objective_entry-requires-clause-row_in c = read_row (record { first = c.self.inside.first; second = c.self.inside.second; tableau = c.self.inside.work }) c.self.invariant.0 c.now.result.now c.now.ensures.value c.self.inside.objective c.self.invariant.1

pub objective_entry-requires-clause-other : goal.objective_entry-requires-clause-other
objective_entry-requires-clause-other c =
    read_other (record { first = c.self.inside.first; second = c.self.inside.second; tableau = c.self.inside.work }) c.self.invariant.0 c.now.result.now c.now.ensures.value c.self.inside.objective c.self.invariant.1 ((length c.sets.result.now) + 1 + c.loop-q.q + 1) (slack_variable c.self.inside.first c.self.inside.second (length c.sets.result.now) c.loop-q.q (ap (λ (xs : List SetRow). length xs) c.sets.ensures) (subst (λ n. c.loop-q.q < n) (c.sequences-q-end.ensures ∙ c.self.invariant.0.second.sequences_are) c.loop-q-test.true)).1

pub loop-q-preserved : goal.loop-q-preserved
loop-q-preserved c =
    weights_push c.loop-q.q (raw_two (side_of c.self.inside.first) (side_of c.self.inside.second) (tableau c.self.inside.work)) c.loop-q.raw.items c.push.new.self.items c.objective_entry.result c.loop-q.invariant (raw_two_is (record { first = c.self.inside.first; second = c.self.inside.second; tableau = c.self.inside.work }) c.self.invariant.0 c.now.result.now c.now.ensures.value c.self.inside.objective c.self.invariant.1 c.loop-q.q c.objective_entry.result ((length c.sets.result.now) + 1 + c.loop-q.q + 1) (slack_variable c.self.inside.first c.self.inside.second (length c.sets.result.now) c.loop-q.q (ap (λ (xs : List SetRow). length xs) c.sets.ensures) (subst (λ n. c.loop-q.q < n) (c.sequences-q-end.ensures ∙ c.self.invariant.0.second.sequences_are) c.loop-q-test.true)).0 c.objective_entry.ensures) c.in_ok-push.ensures.items
