use Rattle.zero_sum_lp.specs.Programs.{raw_one}
use Rattle.lex_tableau.specs.Rows.{tableau}
use Rattle.sequence_data.specs.Data.{side_of}
use Rattle.zero_sum_lp.specs.PlanLists.{AreWeights}
use Rattle.zero_sum_lp.proofs.optimum.Optimum.raw_one.Given as goal

abbrev pub invariant-loop-q : goal.invariant-loop-q
invariant-loop-q l = AreWeights l.q (raw_one (side_of l.self-inside.first) (side_of l.self-inside.second) (tableau l.self-inside.work)) l.raw.items
