use Rattle.std.proofs.Common.{◌≡◌, ◌++◌, take}
use Rattle.std.specs.List.{flat_map}
use Rattle.convert_tables.specs.Layouts.{later_payoff_text}
use Rattle.convert_tables.proofs.cells.push_later_payoffs.Given as goal

abbrev pub invariant-loop-player : goal.invariant-loop-player
invariant-loop-player l = l.text.items ≡ l.initial.text.items ++ flat_map (later_payoff_text l.table l.number) (take l.player-index l.players)
