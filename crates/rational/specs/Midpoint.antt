-- Halves and midpoints of rationals.
use Rattle.std.specs.Prelude.{pos}
use Rattle.rational.specs.Rational.{ℚ, frac, ◌+ℚ◌, ◌*ℚ◌}

-- one half
abbrev pub half : ℚ
half = frac (pos 1) 2

-- the number halfway between a and b
abbrev pub midpoint : ℚ → ℚ → ℚ
midpoint a b = half *ℚ (a +ℚ b)
