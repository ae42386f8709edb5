use Rattle.std.proofs.Common.{◌≡◌}
use Rattle.zero_sum_lp.specs.Parts.{second_prices}
use Rattle.game_theory.specs.Lines.{listed}
use Rattle.two_player_tools.proofs.prices.second_prices.Given as goal

-- the prices so far
abbrev pub invariant-loop-set : goal.invariant-loop-set
invariant-loop-set l = l.prices.items ≡ listed l.set (second_prices l.optimum)
