use Rattle.std.proofs.Common.{◌≡◌, ◌++◌, All, take}
use Rattle.frac128.specs.FirstUnfit.{StepsFit}
use Rattle.pure_payoffs.specs.Plays.{choice_of, game_of}
use Rattle.pure_payoffs.specs.Shortcuts.{KeepShortcuts}
use Rattle.pure_payoffs.specs.Stops.{node_players, node_values, steps_of}
use Rattle.pure_payoffs.proofs.payoff.Play.push_each.Given as goal

abbrev pub invariant-loop-node : goal.invariant-loop-node
invariant-loop-node l =
    record {
      keep : KeepShortcuts (game_of l.self) (choice_of l.self) l.entries;
      values : l.values.items ≡ l.initial.values.items ++ node_values (game_of l.self) (choice_of l.self) (take l.node-index l.nodes);
      fit : All (StepsFit (steps_of (game_of l.self) (choice_of l.self))) (node_players (game_of l.self) (take l.node-index l.nodes));
    }
