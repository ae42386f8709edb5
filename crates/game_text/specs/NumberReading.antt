-- Reading a number, as functions of its text, and what is answered.
use Rattle.std.specs.Prelude.{ℕ, ◌^◌, ◌<◌, ◌≤◌, ◌≡◌, Bool, false, if◌then◌else◌, not, ◌&&◌, ◌||◌, ◌==◌, nat_lt, List, [], ◌∷◌, length, drop, Option, Some, None, Result, Ok, Err, MatchOption}
use Rattle.std.specs.Char.{is_ascii_digit}
use Rattle.std.specs.List.{list_all, prefix_len, take_while}
use Rattle.std.specs.Str.Parse.{digits_value}
use Rattle.rational.specs.Rational.{ℚ}
use Rattle.frac128.specs.Fraction.{with_sign}
use Rattle.game_text.specs.Digits.{without_leading_zeros}
use Rattle.frac128.specs.Short.{IsShort}
use Rattle.game_text.specs.Numbers.{NumberForm, Fraction, Decimal, IsWithinLimits, form_value}
use Rattle.game_text.specs.declared.number.NumberFault.{NumberFault}
use Rattle.game_text.specs.declared.number.NumberFault.TheVariants as faults

-- ---- parts at the front of a text
-- whether a minus comes first
abbrev pub is_minus : List ℕ → Bool
is_minus [] = false
is_minus (b ∷ bytes) = b == 45

-- the bytes after an optional sign
abbrev pub after_sign : List ℕ → List ℕ
after_sign [] = []
after_sign (b ∷ bytes) = if b == 43 || b == 45 then bytes else b ∷ bytes

-- the bytes from the first that fails the test
abbrev pub following : (ℕ → Bool) → List ℕ → List ℕ
following p bytes = drop (prefix_len p bytes) bytes

abbrev pub is_zero : ℕ → Bool
is_zero b = b == 48

-- ---- forms
-- whether these are digits, and at least one
unfoldable pub are_digits : List ℕ → Bool
are_digits text = list_all is_ascii_digit text && nat_lt 0 (length text)

-- the sign and the digits of an exponent, where one can be read; no digits stand for the exponent 0
unfoldable pub power_of : List ℕ → Option (Bool × List ℕ)
power_of [] = Some (false, [])
power_of (b ∷ bytes) =
    if (b == 101 || b == 69) && are_digits (after_sign bytes)
    then Some (is_minus bytes, after_sign bytes) else None

-- a decimal with this exponent, where it has one
abbrev pub with_power : Bool → List ℕ → List ℕ → Option (Bool × List ℕ) → Option NumberForm
with_power negative before after None = None
with_power negative before after (Some power) =
    Some (Decimal negative before after (with_sign power.0 (digits_value 10 power.1)))

-- a decimal, where it has digits and an exponent can be read
unfoldable pub decimal_of : Bool → List ℕ → List ℕ → List ℕ → Option NumberForm
decimal_of negative before after power =
    if nat_lt 0 (length before) || nat_lt 0 (length after)
    then with_power negative before after (power_of power) else None

-- a fraction, where it has digits above and below, and not zero below
unfoldable pub fraction_of : Bool → List ℕ → List ℕ → Option NumberForm
fraction_of negative top bottom =
    if nat_lt 0 (length top) && are_digits bottom && not (list_all is_zero bottom)
    then Some (Fraction negative top bottom) else None

-- the form of first digits and what comes after them
unfoldable pub form_with : Bool → List ℕ → List ℕ → Option NumberForm
form_with negative before [] = decimal_of negative before [] []
form_with negative before (b ∷ bytes) =
    if b == 47 then fraction_of negative before bytes
    else (if b == 46
    then decimal_of negative before (take_while is_ascii_digit bytes)
    (following is_ascii_digit bytes) else decimal_of negative before [] (b ∷ bytes))

-- ---- answers
-- the number that digits stand for, exactly where no more than 36 of them count
abbrev pub GivesSize : List ℕ → Option ℕ → Type 0
GivesSize digits answer =
    MatchOption answer (36 < length (without_leading_zeros digits))
    (λ n. (n ≡ digits_value 10 digits) × (n < 10 ^ 36)
    × (length (without_leading_zeros digits) ≤ 36))

-- the number, exactly where its parts are below 2^63
abbrev pub GivesShort : ℚ → Option ℚ → Type 0
GivesShort q answer = MatchOption answer (¬ (IsShort q)) (λ f. (f ≡ q) × IsShort q)

-- the value of the form, exactly where it is within the limits
abbrev pub GivesValue : NumberForm → Option ℚ → Type 0
GivesValue form answer =
    MatchOption answer (¬ (IsWithinLimits form)) (λ f. (f ≡ form_value form) × IsWithinLimits form)

-- the value of the form that was read, or the fault
abbrev pub Answers : Option NumberForm → Result ℚ NumberFault → Type 0
Answers None (Ok f) = ⊥
Answers None (Err fault) = fault ≡ faults.Bad
Answers (Some form) (Ok f) = (f ≡ form_value form) × IsWithinLimits form
Answers (Some form) (Err fault) = (fault ≡ faults.TooLarge) × (¬ (IsWithinLimits form))
