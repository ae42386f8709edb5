-- The numbers of game files: their texts, their values, and the limits on them.
-- Source: Gambit's descriptions of its `.nfg` and `.efg` formats; the limits are this project's
-- own.
use Rattle.std.specs.Prelude.{ℕ, ◌+◌, ◌^◌, ◌<◌, ◌≤◌, ◌≡◌, ◌≢◌, ◌⊎◌, ℤ, pos, negsuc, nat_abs, Bool, true, false, List, [], ◌∷◌, ◌++◌, length}
use Rattle.std.specs.Char.{IsAsciiDigit}
use Rattle.std.specs.List.{AllByRecursion}
use Rattle.std.specs.Str.Parse.{digits_value}
use Rattle.rational.specs.Rational.{ℚ, frac, whole, ◌*ℚ◌}
use Rattle.frac128.specs.Fraction.{with_sign}
use Rattle.frac128.specs.Short.{IsShort}
use Rattle.game_text.specs.Digits.{AreDigits, without_leading_zeros, without_trailing_zeros}

-- what the text of a number says
pub data NumberForm : Type 0 where
  -- digits over digits
  Fraction : (negative : Bool) (top bottom : List ℕ) → NumberForm
  -- digits before and after the point, and an exponent of ten
  Decimal : (negative : Bool) (before after : List ℕ) (exponent : ℤ) → NumberForm

-- an optional sign
abbrev pub IsSign : List ℕ → Bool → Type 0
IsSign text negative =
    ((text ≡ []) × (negative ≡ false)) ⊎ ((text ≡ 43 ∷ []) × (negative ≡ false))
    ⊎ ((text ≡ 45 ∷ []) × (negative ≡ true))

-- the digits before and after the point: digits with an optional point and further digits or none
-- after it, or a point and at least one digit
abbrev pub IsMantissa : List ℕ → List ℕ → List ℕ → Type 0
IsMantissa text before after =
    (AreDigits before × (after ≡ []) × (text ≡ before))
    ⊎ (AllByRecursion IsAsciiDigit before × AllByRecursion IsAsciiDigit after
    × (0 < length before + length after) × (text ≡ before ++ 46 ∷ after))

-- nothing, which is the exponent 0, or `e` or `E`, an optional sign and at least one digit
abbrev pub IsExponent : List ℕ → ℤ → Type 0
IsExponent text exponent =
    ((text ≡ []) × (exponent ≡ pos 0))
    ⊎ ((letter : ℕ) × ((letter ≡ 101) ⊎ (letter ≡ 69)) × (sign digits : List ℕ) × (negative : Bool)
    × IsSign sign negative × AreDigits digits × (text ≡ letter ∷ sign ++ digits)
    × (exponent ≡ with_sign negative (digits_value 10 digits)))

-- the text is written in this form
abbrev pub IsWritten : List ℕ → NumberForm → Type 0
IsWritten text (Fraction negative top bottom) =
    (sign : List ℕ) × IsSign sign negative × AreDigits top × AreDigits bottom
    × (digits_value 10 bottom ≢ 0) × (text ≡ sign ++ top ++ 47 ∷ bottom)
IsWritten text (Decimal negative before after exponent) =
    (sign mantissa power : List ℕ) × IsSign sign negative × IsMantissa mantissa before after
    × IsExponent power exponent × (text ≡ sign ++ mantissa ++ power)

-- ten to a whole power
abbrev pub ten_to : ℤ → ℚ
ten_to (pos n) = whole (pos (10 ^ n))
ten_to (negsuc n) = frac (pos 1) (10 ^ (n + 1))

-- the value of a form
abbrev pub form_value : NumberForm → ℚ
form_value (Fraction negative top bottom) =
    frac (with_sign negative (digits_value 10 top)) (digits_value 10 bottom)
form_value (Decimal negative before after exponent) =
    frac (with_sign negative (digits_value 10 (before ++ after))) (10 ^ length after)
    *ℚ ten_to exponent

-- The form is within the limits: an exponent from -18 to 18, at most 36 digits when the leading
-- zeros, and the trailing zeros after the point, are struck, and parts of the value below 2^63.
abbrev pub IsWithinLimits : NumberForm → Type 0
IsWithinLimits (Fraction negative top bottom) =
    (length (without_leading_zeros top) ≤ 36) × (length (without_leading_zeros bottom) ≤ 36)
    × IsShort (form_value (Fraction negative top bottom))
IsWithinLimits (Decimal negative before after exponent) =
    (nat_abs exponent ≤ 18)
    × (length (without_leading_zeros (before ++ without_trailing_zeros after)) ≤ 36)
    × IsShort (form_value (Decimal negative before after exponent))

-- the text of a number that is accepted, with its value
pub record IsNumber (text : List ℕ) (value : ℚ) : Type 0 where
  pub form : NumberForm
  pub is_written : IsWritten text form
  pub is_within : IsWithinLimits form
  pub is_value : value ≡ form_value form

-- the text has a number's form, which passes a limit
pub record IsTooLarge (text : List ℕ) : Type 0 where
  pub form : NumberForm
  pub is_written : IsWritten text form
  pub is_beyond : ¬ (IsWithinLimits form)

-- the text has no number's form
abbrev pub IsNoNumber : List ℕ → Type 0
IsNoNumber text = (form : NumberForm) → IsWritten text form → ⊥
