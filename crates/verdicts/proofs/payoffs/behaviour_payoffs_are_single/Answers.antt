use Rattle.std.specs.List.{range_with_len}
use Rattle.answers.proofs.AnswerLemmas.{refused_by-single}
use Rattle.frac128.specs.FirstUnfit.{all_fit}
use Rattle.frac128.proofs.FirstUnfitLemmas.{all_fit-single}
use Rattle.verdicts.specs.TreeSteps.{behaviour_steps_at}
use Rattle.pure_payoffs.specs.declared.stop.PayoffStop.TheVariants as stops
use Rattle.verdicts.proofs.payoffs.behaviour_payoffs_are_single.Goals as goal

pub returns : goal.returns
returns c = λ t b.
    refused_by-single (λ stop. stops.Range stop.0 stop.1)
    (all_fit (λ i. behaviour_steps_at t b i 0) (range_with_len 0 t.players))
    (all_fit-single (λ i. behaviour_steps_at t b i 0) (range_with_len 0 t.players))
