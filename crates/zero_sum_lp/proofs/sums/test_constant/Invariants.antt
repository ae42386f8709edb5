use Rattle.std.proofs.Common.{ℕ, ◌<◌, ◌≡◌, get_or}
use Rattle.rational.specs.Rational.{zero_ℚ}
use Rattle.zero_sum_lp.proofs.sums.test_constant.Given as goal

abbrev pub invariant-loop-k : goal.invariant-loop-k
invariant-loop-k l = (j : ℕ) → j < l.k → get_or l.sums j zero_ℚ ≡ get_or l.sums 0 zero_ℚ
