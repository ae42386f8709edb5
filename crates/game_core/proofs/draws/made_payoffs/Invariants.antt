use Rattle.std.proofs.Common.{◌≡◌}
use Rattle.game_core.specs.MadeTables.{made_payoffs, state}
use Rattle.game_core.proofs.draws.made_payoffs.Given as goal

abbrev pub invariant-loop : goal.invariant-loop
invariant-loop l = record {
  state_is : l.state ≡ state l.seed l.counter;
  so_far : l.payoffs.items ≡ made_payoffs l.seed l.counter;
}
