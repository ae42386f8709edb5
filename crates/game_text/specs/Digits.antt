-- Decimal digits.
use Rattle.std.specs.Prelude.{ℕ, ◌<◌, ◌==◌, if◌then◌else◌, List, [], ◌∷◌, length, reverse}
use Rattle.std.specs.Char.{IsAsciiDigit}
use Rattle.std.specs.List.{AllByRecursion}

-- one or more decimal digits
pub record AreDigits (text : List ℕ) : Type 0 where
  pub digits : AllByRecursion IsAsciiDigit text
  pub some : 0 < length text

-- the digits from the first that is not 0 on
abbrev pub without_leading_zeros : List ℕ → List ℕ
without_leading_zeros [] = []
without_leading_zeros (digit ∷ digits) =
    if digit == 48 then without_leading_zeros digits else digit ∷ digits

-- the digits up to the last that is not 0
abbrev pub without_trailing_zeros : List ℕ → List ℕ
without_trailing_zeros digits = reverse (without_leading_zeros (reverse digits))
