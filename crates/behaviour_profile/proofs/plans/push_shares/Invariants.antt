use Rattle.std.proofs.Common.{◌≡◌, ◌++◌, All, take}
use Rattle.game_theory.specs.Lines.{listed}
use Rattle.frac128.specs.FirstUnfit.{StepsFit}
use Rattle.behaviour_profile.specs.Shares.{actions_of, share_at, steps_at}
use Rattle.behaviour_profile.proofs.plans.push_shares.Given as goal

abbrev pub invariant-loop-action : goal.invariant-loop-action
invariant-loop-action l =
    record {
      shares : l.entries.items ≡ l.initial.entries.items ++ listed l.action (share_at l.plan l.row);
      fit : All (StepsFit (steps_at l.plan l.row)) (take l.action (actions_of l.row));
    }
