use Rattle.std.specs.List.{range_with_len}
use Rattle.answers.proofs.AnswerLemmas.{refused_by-single}
use Rattle.frac128.specs.FirstUnfit.{all_fit}
use Rattle.frac128.proofs.FirstUnfitLemmas.{all_fit-single}
use Rattle.pure_payoffs.specs.Steps.{steps_at}
use Rattle.pure_payoffs.specs.Stops.{node_players, steps_of}
use Rattle.pure_payoffs.specs.declared.stop.PayoffStop.TheVariants as stops
use Rattle.pure_payoffs.specs.declared.stop.ValueStop.TheVariants as value_stops
use Rattle.pure_payoffs.proofs.laws.values_are_single.Goals as goal

pub returns : goal.returns
returns c = record {
  at_one = λ t choice k.
      refused_by-single (λ stop. stops.Range stop.0 stop.1)
      (all_fit (λ i. steps_at t choice i k) (range_with_len 0 t.players))
      (all_fit-single (λ i. steps_at t choice i k) (range_with_len 0 t.players));
  at_several = λ t choice nodes.
      refused_by-single (λ stop. value_stops.Range stop.0.0 stop.0.1 stop.1)
      (all_fit (steps_of t choice) (node_players t nodes))
      (all_fit-single (steps_of t choice) (node_players t nodes));
}
