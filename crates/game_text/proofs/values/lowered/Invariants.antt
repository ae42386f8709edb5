use Rattle.std.proofs.Common.{◌≡◌, ◌*◌, ◌^◌}
use Rattle.rational.specs.Rational.{frac}
use Rattle.game_text.proofs.values.lowered.Given as goal

abbrev pub invariant-loop-left : goal.invariant-loop-left
invariant-loop-left l =
    frac l.lowest.num (l.lowest.den * 10 ^ l.left) ≡ frac l.fn.fraction.num (l.fn.fraction.den * 10 ^ l.fn.power)

abbrev pub decreases-loop-left : goal.decreases-loop-left
decreases-loop-left l = l.left
