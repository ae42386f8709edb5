-- One more token after those that were read.
use Rattle.std.proofs.Common.{◌≡◌, ℕ, ◌+◌, ◌<◌, ◌≤◌, List, [], ◌∷◌, ◌++◌, length, sym, ap, ◌∙◌, append_assoc, length-append, arith}
use Rattle.std.specs.List.{AllByRecursion}
use Rattle.frac128.specs.Short.{IsShort}
use Rattle.game_text.specs.Numbers.{IsNumber, NumberForm, Fraction, Decimal, form_value, IsWithinLimits}
use Rattle.rational.specs.Rational.{ℚ}
use Rattle.game_core.specs.declared.token.Spanned.{Spanned}
use Rattle.game_core.specs.declared.token.Token.{Token}
use Rattle.game_core.specs.declared.token.Token.TheVariants.{Left, Right, Comma, Text, Word, Number}
use Rattle.game_text.specs.Tokens.{IsBlank, IsTokenAt, AreTokensBefore}
use Rattle.game_core.specs.Spacing.{AreSpaced, IsShortToken}

-- bytes that begin with blanks
abbrev pub BlanksBefore : List ℕ → List ℕ → Type 0
BlanksBefore bytes rest = (blanks : List ℕ) × AllByRecursion IsBlank blanks × (bytes ≡ blanks ++ rest)

-- one more token, and the blanks after it
pub tokens_push : (from : ℕ) (bytes : List ℕ) (tokens : List Spanned) (rest front back after : List ℕ) (one : Spanned) → AreTokensBefore from bytes tokens rest → rest ≡ front ++ back → IsTokenAt front back one.token
    → one.start + length rest ≡ from + length bytes → one.end ≡ one.start + length front → BlanksBefore back after → AreTokensBefore from bytes (tokens ++ one ∷ []) after
tokens_push from bytes [] rest front back after one h parts token start end blanks =
    let size : length bytes ≡ length h.0 + length rest = ap length h.2 ∙ length-append h.0 rest in
    (h.0, front, back, h.1, h.2 ∙ ap (λ t. h.0 ++ t) parts ∙ sym (append_assoc h.0 front back), token, omega arith, end, blanks)
tokens_push from bytes (first ∷ tokens) rest front back after one h parts token start end blanks =
    let size : length bytes ≡ length h.0 + length h.1 + length h.2 = ap length h.4 ∙ length-append (h.0 ++ h.1) h.2 ∙ ap (λ n. n + length h.2) (length-append h.0 h.1) in
    let first_start : first.start ≡ from + length h.0 = h.6 in
    let first_end : first.end ≡ first.start + length h.1 = h.7 in
    let next : one.start + length rest ≡ first.end + length h.2 = omega arith in
    (h.0, h.1, h.2, h.3, h.4, h.5, h.6, h.7, tokens_push first.end h.2 tokens rest front back after one h.8 parts token next end blanks)

-- a number within the limits is short
number_is_short : (text : List ℕ) (value : ℚ) → IsNumber text value → IsShort value
number_is_short text value h =
    let go : (form : NumberForm) → IsWithinLimits form → value ≡ form_value form → IsShort value = λ form. elim form as (λ f. IsWithinLimits f → value ≡ form_value f → IsShort value) [ Fraction negative top bottom ↦ λ w e. rw e w.2 | Decimal negative before after exponent ↦ λ w e. rw e w.2 ] in
    go h.form h.is_within h.is_value

-- the number of a token is short
pub token_is_short : (front back : List ℕ) (token : Token) → IsTokenAt front back token → IsShortToken token
token_is_short front back Left h = tt
token_is_short front back Right h = tt
token_is_short front back Comma h = tt
token_is_short front back (Text text) h = tt
token_is_short front back (Word word) h = tt
token_is_short front back (Number value) h = number_is_short front value h.2

-- one more span
pub are_spaced_push : (from to end : ℕ) (tokens : List Spanned) (one : Spanned) → AreSpaced from to tokens → to ≤ one.start → one.start < one.end → IsShortToken one.token → one.end ≤ end → AreSpaced from end (tokens ++ one ∷ [])
are_spaced_push from to end [] one h a b c d = (omega arith, b, c, d)
are_spaced_push from to end (first ∷ tokens) one h a b c d = (h.0, h.1, h.2, are_spaced_push first.end to end tokens one h.3 a b c d)
