use Rattle.std.proofs.Common.{◌≡◌, length}
use Rattle.worked_tableaux.proofs.pairings.vertices.Given as goal

abbrev pub invariant-loop : goal.invariant-loop
invariant-loop l = length l.list.items ≡ l.counter
