-- Digits of a numeral.
use Rattle.std.proofs.Common.{◌++◌, ◌≢◌, suc, ap₂, arith, ℕ, ◌≡◌, List, [], ◌∷◌, All, refl}
use Rattle.std.specs.Str.{IsUtf8}
use Rattle.std.specs.Bool.{Decides}
use Rattle.std.specs.Char.{IsAsciiDigit, is_ascii_digit}
use Rattle.std.specs.List.{list_all}
use Rattle.std.specs.Str.Parse.{AllDigits, IsNumeral}
use Rattle.std.proofs.lemmas.List.Elements.{All-from_recursion}
use Rattle.std.proofs.lemmas.Fmt.{IsAscii-from_digits}
use Rattle.std.proofs.lemmas.Str.{IsUtf8-from_ascii}
use Rattle.game_text.proofs.DigitLemmas.{numerals, passes_digits, digits_pass}

-- whether all are digits
pub digits_tested : (text : List ℕ) → Decides (list_all is_ascii_digit text) (AllDigits 10 text)
digits_tested text = (λ e. numerals.to text (passes_digits text e), λ h. digits_pass text (numerals.from text h))

-- the digits of a numeral
pub numeral_digits : (text : List ℕ) → AllDigits 10 text → All IsAsciiDigit text
numeral_digits text h = All-from_recursion IsAsciiDigit text (numerals.from text h)

-- a numeral is a text
pub numeral_text : (text : List ℕ) → IsNumeral 10 text → IsUtf8 text
numeral_text text n = IsUtf8-from_ascii text (IsAscii-from_digits text n.1)

-- no digit is a `/`
pub no_slash : (text : List ℕ) → AllDigits 10 text → All (λ b. b ≢ 47) text
no_slash text all k d l same = let digit = numeral_digits text all k d l in omega arith

-- a text is cut in at most one way at the first `/`
pub one_cut : (a b c d : List ℕ) → All (λ x. x ≢ 47) a → All (λ x. x ≢ 47) c → a ++ (47 ∷ b) ≡ c ++ (47 ∷ d) → (a ≡ c) × (b ≡ d)
one_cut [] b [] d h k e = (refl, cc)
one_cut [] b (y ∷ c) d h k e = let same : y ≡ 47 = cc in absurd (k 0 0 (omega arith) same)
one_cut (x ∷ a) b [] d h k e = let same : x ≡ 47 = cc in absurd (h 0 0 (omega arith) same)
one_cut (x ∷ a) b (y ∷ c) d h k e =
    let first : x ≡ y = cc in
    let rest : a ++ (47 ∷ b) ≡ c ++ (47 ∷ d) = cc in
    let later = one_cut a b c d (λ i z l. h (suc i) z (omega arith)) (λ i z l. k (suc i) z (omega arith)) rest in
    (ap₂ (λ u v. u ∷ v) first later.0, later.1)
