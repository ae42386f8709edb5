use Rattle.std.proofs.Common.{◌≡◌, length}
use Rattle.game_text.specs.Digits.{without_trailing_zeros}
use Rattle.game_text.proofs.sizes.without_trailing_zeros.Given as goal

abbrev pub invariant-loop-rest : goal.invariant-loop-rest
invariant-loop-rest l = without_trailing_zeros l.rest ≡ without_trailing_zeros l.fn.digits

abbrev pub decreases-loop-rest : goal.decreases-loop-rest
decreases-loop-rest l = length l.rest
