-- The text of a rational number.
use Rattle.std.specs.Prelude.{ℕ, ◌==◌, if◌then◌else◌, List, [], ◌++◌, codes}
use Rattle.std.specs.Fmt.{decimal, signed_decimal}
use Rattle.rational.specs.Rational.{ℚ}

-- the numerator, and after `/` the denominator where that is not 1
abbrev pub number_text : ℚ → List ℕ
number_text q = signed_decimal q.num ++ (if q.den == 1 then [] else codes "/" ++ decimal q.den)
