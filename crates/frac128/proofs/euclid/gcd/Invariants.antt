use Rattle.std.proofs.Common.{◌≡◌}
use Rattle.rational.specs.Gcd.{gcd as gcd_of}
use Rattle.frac128.proofs.euclid.gcd.Given as goal

abbrev pub invariant-loop-x : goal.invariant-loop-x
invariant-loop-x l = gcd_of l.x l.y ≡ gcd_of l.fn.a l.fn.b

abbrev pub decreases-loop-x : goal.decreases-loop-x
decreases-loop-x l = l.y
