use Rattle.std.proofs.Common.{◌≡◌, ◌++◌, All, length, take}
use Rattle.std.specs.List.{range_with_len}
use Rattle.frac128.specs.FirstUnfit.{StepsFit}
use Rattle.game_theory.specs.Behaviour.{pure, value}
use Rattle.game_theory.specs.Lines.{listed}
use Rattle.pure_payoffs.specs.Steps.{steps_at}
use Rattle.pure_payoffs.specs.Plays.{choice_of, game_of}
use Rattle.pure_payoffs.specs.Shortcuts.{KeepShortcuts}
use Rattle.pure_payoffs.proofs.payoff.Play.push_values.Given as goal

abbrev pub invariant-loop-player : goal.invariant-loop-player
invariant-loop-player l =
    record {
      keep : KeepShortcuts (game_of l.self) (choice_of l.self) l.entries;
      values : l.values.items ≡ l.initial.values.items ++ listed l.player-counter (λ i. value (game_of l.self) (pure (choice_of l.self)) i l.node);
      fit : All (StepsFit (λ i. steps_at (game_of l.self) (choice_of l.self) i l.node)) (take l.player-counter (range_with_len 0 (length l.self.tree.now.players)));
    }
