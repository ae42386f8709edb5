use Rattle.std.proofs.Common.{◌≡◌}
use Rattle.rational.specs.Gcd.{gcd as gcd_of}
use Rattle.frac128.proofs.euclid.gcd_64.Given as goal

abbrev pub invariant-loop-y : goal.invariant-loop-y
invariant-loop-y l = gcd_of l.x l.y ≡ gcd_of l.fn.a l.fn.b

abbrev pub decreases-loop-y : goal.decreases-loop-y
decreases-loop-y l = l.y
