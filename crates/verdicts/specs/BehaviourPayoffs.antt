-- Whether the steps of what behaviour pays all players of a tree fit. Players count from 0.
use Rattle.std.specs.List.{range_with_len}
use Rattle.answers.specs.Answers.{Answer, IsSingle, refused_by}
use Rattle.frac128.specs.FirstUnfit.{all_fit}
use Rattle.game_theory.specs.Trees.{Tree}
use Rattle.game_theory.specs.Behaviour.{Behaviour}
use Rattle.verdicts.specs.TreeSteps.{behaviour_steps_at}
use Rattle.pure_payoffs.specs.declared.stop.PayoffStop.{PayoffStop}
use Rattle.pure_payoffs.specs.declared.stop.PayoffStop.TheVariants as stops

-- the steps of what behaviour pays all players fit; or the first that does not, with its player
abbrev pub behaviour_payoffs_fit : Tree → Behaviour → Answer PayoffStop (Unit {0})
behaviour_payoffs_fit t b =
    refused_by (λ stop. stops.Range stop.0 stop.1)
    (all_fit (λ i. behaviour_steps_at t b i 0) (range_with_len 0 t.players))

-- Behaviour has at most one answer.
abbrev pub BehaviourPayoffsAreSingle : Type 0
BehaviourPayoffsAreSingle = (t : Tree) (b : Behaviour) → IsSingle (behaviour_payoffs_fit t b)
