use Rattle.std.proofs.Common.{◌≡◌, All, length, take}
use Rattle.std.specs.List.{range_with_len}
use Rattle.frac128.specs.FirstUnfit.{StepsFit}
use Rattle.game_theory.specs.Behaviour.{Behaviour, payoff}
use Rattle.game_theory.specs.Lines.{listed}
use Rattle.verdicts.specs.TreeBehaviours.{Reads, game_of}
use Rattle.verdicts.specs.TreeSteps.{behaviour_steps_at}
use Rattle.verdicts.proofs.payoffs.payoffs_on.Given as goal

-- the players so far are paid this, and their steps fit
abbrev pub invariant-loop-player : goal.invariant-loop-player
invariant-loop-player l = (b : Behaviour) → Reads l.played b →
    (l.payoffs.items ≡ listed l.player-counter (payoff (game_of l.played) b))
    × All (StepsFit (λ i. behaviour_steps_at (game_of l.played) b i 0)) (take l.player-counter (range_with_len 0 (length l.played.tree.now.players)))
