use Rattle.std.proofs.Common.{◌≡◌, [], replicate}
use Rattle.game_core.proofs.made_table.empty_names.Given as goal

abbrev pub invariant-loop : goal.invariant-loop
invariant-loop l = l.names.items ≡ replicate l.counter []
