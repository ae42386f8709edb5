-- The value of a decimal when its trailing zeros are struck, and what is answered for it.
use Rattle.std.proofs.Common.{◌≡◌, ℕ, ◌*◌, ◌≤◌, ◌^◌, Bool, List, ◌++◌, length, Option, Some, None, sym, ap, ap₂, ◌∙◌, subst, append_assoc, length-append, arith}
use Rattle.std.proofs.lemmas.Nat.{pow-add}
use Rattle.std.specs.Str.Parse.{digits_value}
use Rattle.rational.specs.Rational.{ℚ, frac, ◌*ℚ◌}
use Rattle.frac128.specs.Fraction.{with_sign}
use Rattle.frac128.proofs.ReductionLemmas.{nat_abs-with_sign}
use Rattle.game_text.specs.Digits.{without_leading_zeros, without_trailing_zeros}
use Rattle.frac128.specs.Short.{IsShort}
use Rattle.game_text.specs.Numbers.{Decimal, ten_to, form_value}
use Rattle.game_text.specs.NumberReading.{GivesShort, GivesValue}
use Rattle.game_text.proofs.DigitLemmas.{Struck, struck_after, digits_parts, zeros_after}
use Rattle.game_text.proofs.PowerLemmas.{common_factor, ten_pos}

-- trailing zeros after the point do not change the value
struck_value : (s : Bool) (before after kept : List ℕ) → Struck after kept → frac (with_sign s (digits_value 10 (before ++ kept))) (10 ^ length kept) ≡ frac (with_sign s (digits_value 10 (before ++ after))) (10 ^ length after)
struck_value s before after kept z =
    let digits : digits_value 10 (before ++ after) ≡ digits_value 10 (before ++ kept) * 10 ^ length z.zeros = ap (λ t. digits_value 10 (before ++ t)) z.is ∙ ap (digits_value 10) (sym (append_assoc before kept z.zeros)) ∙ digits_parts 0 (before ++ kept) z.zeros ∙ zeros_after _ z.zeros z.are_zeros in
    let places : 10 ^ length after ≡ 10 ^ length kept * 10 ^ length z.zeros = ap (λ t. 10 ^ length t) z.is ∙ ap (λ k. 10 ^ k) (length-append kept z.zeros) ∙ pow-add 10 (length kept) (length z.zeros) in
    sym (ap₂ (λ n d. frac (with_sign s n) d) digits places ∙ common_factor s (digits_value 10 (before ++ kept)) (10 ^ length kept) (10 ^ length z.zeros) (ten_pos (length kept)) (ten_pos (length z.zeros)))

-- what is answered for a decimal within the limits on digits and exponent
pub decimal_answer : (s f : Bool) (before after kept power : List ℕ) (n e : ℕ) (answer : Option ℚ) → kept ≡ without_trailing_zeros after → n ≡ digits_value 10 (before ++ kept) → length (without_leading_zeros (before ++ kept)) ≤ 36 → e ≡ digits_value 10 power → e ≤ 18 → GivesShort (frac (with_sign s n) (10 ^ length kept) *ℚ ten_to (with_sign f e)) answer → GivesValue (Decimal s before after (with_sign f (digits_value 10 power))) answer
decimal_answer s f before after kept power n e answer k m few p small h = by answer h
  where
    value : frac (with_sign s n) (10 ^ length kept) *ℚ ten_to (with_sign f e) ≡ form_value (Decimal s before after (with_sign f (digits_value 10 power)))
    value =
        ap₂ (λ x y. frac (with_sign s x) (10 ^ length kept) *ℚ ten_to (with_sign f y)) m p ∙ ap (λ x. x *ℚ ten_to (with_sign f (digits_value 10 power))) (struck_value s before after kept (subst (Struck after) (sym k) (struck_after after)))

    by : (o : Option ℚ) → GivesShort (frac (with_sign s n) (10 ^ length kept) *ℚ ten_to (with_sign f e)) o → GivesValue (Decimal s before after (with_sign f (digits_value 10 power))) o
    by None long = λ w. long (subst IsShort (sym value) w.2)
    by (Some q) short =
        (short.0 ∙ value, (omega (arith, nat_abs-with_sign f (digits_value 10 power), p), subst (λ t. length (without_leading_zeros (before ++ t)) ≤ 36) k few, subst IsShort value short.1))
