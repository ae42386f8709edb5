use Rattle.std.proofs.Common.{◌≡◌}
use Rattle.convert_tables.specs.Layouts.{other_players}
use Rattle.convert_tables.proofs.convert.other_players.Given as goal

abbrev pub invariant-loop-player : goal.invariant-loop-player
invariant-loop-player l = l.others.items ≡ other_players l.player l.row l.column
