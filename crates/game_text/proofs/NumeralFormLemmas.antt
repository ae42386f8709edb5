-- The form that is read is the form that is written, and no other.
use Rattle.std.proofs.Common.{◌≡◌, ◌≢◌, ℕ, ◌+◌, ◌<◌, Bool, true, false, cond, not, ◌&&◌, ◌||◌, ◌==◌, ltb, List, [], ◌∷◌, ◌++◌, length, ℤ, pos, Option, Some, None, ◌⊎◌, inl, inr, refl, sym, ap, ap₂, ◌∙◌, subst, append_assoc, arith}
use Rattle.std.proofs.lemmas.Bool.{and_parts, and_from, or_cases}
use Rattle.std.proofs.lemmas.Bool.Decides.{Decides-eqb, nat_tests}
use Rattle.std.proofs.lemmas.List.Elements.{All-from_recursion}
use Rattle.std.proofs.lemmas.List.{append-nil, take-append-drop}
use Rattle.std.proofs.lemmas.Option.{cond_some, same_Some}
use Rattle.std.specs.Char.{IsAsciiDigit, is_ascii_digit}
use Rattle.std.specs.List.{All, AllByRecursion, list_all, prefix_len, take_while}
use Rattle.std.specs.Str.Parse.{digits_value}
use Rattle.lists.proofs.OptionLemmas.{either}
use Rattle.frac128.specs.Fraction.{with_sign}
use Rattle.game_text.specs.Digits.{AreDigits}
use Rattle.game_text.specs.Numbers.{NumberForm, Fraction, Decimal, IsSign, IsMantissa, IsExponent, IsWritten}
use Rattle.game_text.specs.NumberReading.{is_minus, after_sign, following, is_zero, are_digits, power_of, with_power, decimal_of, fraction_of, form_with}
use Rattle.game_text.proofs.DigitLemmas.{passes_digits, digits_pass, each_passes, front_digits, zeros_value, others_value}
use Rattle.game_text.proofs.PrefixLemmas.{Stops, front-is, following-is}

-- the form of a text, where it has one
unfoldable pub form_of : List ℕ → Option NumberForm
form_of text = form_with (is_minus text) (take_while is_ascii_digit (after_sign text)) (following is_ascii_digit (after_sign text))

-- no answer is no value
none_some : {A B : Type 0} (x : A) → None ≡ Some x → B
none_some x e = cc

-- a test that failed
not_true : (v : Bool) → not v ≡ true → v ≡ false
not_true true e = cc
not_true false e = refl

-- bytes that compare equal are equal
same_byte : (b d : ℕ) → (b == d) ≡ true → b ≡ d
same_byte b d e = (Decides-eqb b d).0 e

-- ---- signs
-- the first byte, if there is one, is no sign
abbrev pub Unsigned : List ℕ → Type 0
Unsigned [] = Unit {0}
Unsigned (b ∷ bytes) = ((b == 43) ≡ false) × ((b == 45) ≡ false)

record Signed (text : List ℕ) : Type 0 where
  sign : List ℕ
  is_sign : IsSign sign (is_minus text)
  is : text ≡ sign ++ after_sign text

-- a plus is a sign
plus_found : (b : ℕ) (bytes : List ℕ) → b ≡ 43 → Signed (b ∷ bytes)
plus_found b bytes e =
    subst (λ a. Signed (a ∷ bytes)) (sym e) (record { sign = 43 ∷ []; is_sign = inr (inl (refl, refl)); is = refl })

-- a minus is a sign
minus_found : (b : ℕ) (bytes : List ℕ) → b ≡ 45 → Signed (b ∷ bytes)
minus_found b bytes e =
    subst (λ a. Signed (a ∷ bytes)) (sym e) (record { sign = 45 ∷ []; is_sign = inr (inr (refl, refl)); is = refl })

-- where neither comes first, there is no sign
none_found : (b : ℕ) (bytes : List ℕ) → (b == 43) ≡ false → (b == 45) ≡ false → Signed (b ∷ bytes)
none_found b bytes e f =
    let rest : after_sign (b ∷ bytes) ≡ b ∷ bytes = rw (e, f) refl in
    record { sign = []; is_sign = inl (refl, f); is = sym rest }

-- a text is its sign and what comes after it
sign_found : (text : List ℕ) → Signed text
sign_found [] = record { sign = []; is_sign = inl (refl, refl); is = refl }
sign_found (b ∷ bytes) = plus (b == 43) refl (minus (b == 45) refl)
  where
    minus : (v : Bool) → (b == 45) ≡ v → (b == 43) ≡ false → Signed (b ∷ bytes)
    minus true e f = minus_found b bytes (same_byte b 45 e)
    minus false e f = none_found b bytes f e

    plus : (v : Bool) → (b == 43) ≡ v → ((b == 43) ≡ false → Signed (b ∷ bytes)) → Signed (b ∷ bytes)
    plus true e other = plus_found b bytes (same_byte b 43 e)
    plus false e other = other e

-- where there is no sign, nothing is split off
unsigned_again : (rest : List ℕ) → Unsigned rest → (is_minus rest ≡ false) × (after_sign rest ≡ rest)
unsigned_again [] h = (refl, refl)
unsigned_again (b ∷ bytes) h = (h.1, rw (h.0, h.1) refl)

-- a sign is split off again
sign_again : (sign rest : List ℕ) (negative : Bool) → IsSign sign negative → Unsigned rest → (is_minus (sign ++ rest) ≡ negative) × (after_sign (sign ++ rest) ≡ rest)
sign_again sign rest negative (inl h) u =
    let r = unsigned_again rest u in
    (ap (λ t. is_minus (t ++ rest)) h.0 ∙ r.0 ∙ sym h.1, ap (λ t. after_sign (t ++ rest)) h.0 ∙ r.1)
sign_again sign rest negative (inr (inl h)) u =
    (ap (λ t. is_minus (t ++ rest)) h.0 ∙ sym h.1, ap (λ t. after_sign (t ++ rest)) h.0)
sign_again sign rest negative (inr (inr h)) u =
    (ap (λ t. is_minus (t ++ rest)) h.0 ∙ sym h.1, ap (λ t. after_sign (t ++ rest)) h.0)

-- a digit is no sign
digit_unsigned : (b : ℕ) → IsAsciiDigit b → ((b == 43) ≡ false) × ((b == 45) ≡ false)
digit_unsigned b h = (grind (arith, nat_tests), grind (arith, nat_tests))

-- digits before what begins with no sign
digits_unsigned : (digits rest : List ℕ) → AllByRecursion IsAsciiDigit digits → Unsigned rest → Unsigned (digits ++ rest)
digits_unsigned [] rest h u = u
digits_unsigned (b ∷ digits) rest h u = digit_unsigned b h.0

-- digits begin with no sign
some_unsigned : (digits rest : List ℕ) → AreDigits digits → Unsigned (digits ++ rest)
some_unsigned [] rest h = absurd (omega (arith, h.some))
some_unsigned (b ∷ digits) rest h = digit_unsigned b h.digits.0

-- ---- digits
-- a text that is tested not to be empty
some_bytes : (text : List ℕ) → ltb 0 (length text) ≡ true → 0 < length text
some_bytes text e = grind (arith, nat_tests)

-- a text that is not empty passes the test
bytes_some : (text : List ℕ) → 0 < length text → ltb 0 (length text) ≡ true
bytes_some text h = grind (arith, nat_tests)

-- what passes the test are digits
pub digits_tested : (text : List ℕ) → are_digits text ≡ true → AreDigits text
unfolding are_digits
digits_tested text e =
    let p = and_parts (list_all is_ascii_digit text) (ltb 0 (length text)) e in
    record { digits = passes_digits text p.0; some = some_bytes text p.1 }

-- the same at each place
pub tested_digits : (text : List ℕ) → are_digits text ≡ true → All IsAsciiDigit text
tested_digits text e = All-from_recursion IsAsciiDigit text (digits_tested text e).digits

-- digits pass the test
digits_again : (text : List ℕ) → AreDigits text → are_digits text ≡ true
unfolding are_digits
digits_again text h = and_from _ _ (digits_pass text h.digits) (bytes_some text h.some)

-- ---- exponents
-- no digits stand for the exponent 0
no_digits : with_sign false (digits_value 10 []) ≡ pos 0
no_digits = refl

-- an exponent that is read is written so
pub power_found : (text : List ℕ) (power : Bool × List ℕ) → power_of text ≡ Some power → IsExponent text (with_sign power.0 (digits_value 10 power.1)) × AllByRecursion IsAsciiDigit power.1
unfolding power_of
power_found [] power e =
    let p : (false, []) ≡ power = same_Some _ power e in
    subst (λ (x : Bool × List ℕ). IsExponent [] (with_sign x.0 (digits_value 10 x.1)) × AllByRecursion IsAsciiDigit x.1) p (inl (refl, no_digits), tt)
power_found (b ∷ bytes) power e =
    let p = cond_some ((b == 101 || b == 69) && are_digits (after_sign bytes)) (is_minus bytes, after_sign bytes) power e in
    let q = and_parts (b == 101 || b == 69) (are_digits (after_sign bytes)) p.0 in
    let letter : (b ≡ 101) ⊎ (b ≡ 69) = elim (or_cases (b == 101) (b == 69) q.0) [ inl f ↦ inl (same_byte b 101 f) | inr f ↦ inr (same_byte b 69 f) ] in
    let s = sign_found bytes in
    let d = digits_tested (after_sign bytes) q.1 in
    subst (λ (x : Bool × List ℕ). IsExponent (b ∷ bytes) (with_sign x.0 (digits_value 10 x.1)) × AllByRecursion IsAsciiDigit x.1) p.1
    (inr (b, letter, s.sign, after_sign bytes, is_minus bytes, s.is_sign, d, ap (λ t. b ∷ t) s.is, refl), d.digits)

-- so the digits of an exponent are digits
pub power_digits : (text : List ℕ) (power : Bool × List ℕ) → power_of text ≡ Some power → All IsAsciiDigit power.1
power_digits text power e = All-from_recursion IsAsciiDigit power.1 (power_found text power e).1

-- the exponent that is read again
record Again (text : List ℕ) (exponent : ℤ) : Type 0 where
  power : Bool × List ℕ
  read : power_of text ≡ Some power
  is : exponent ≡ with_sign power.0 (digits_value 10 power.1)

-- the letter of an exponent passes the test
letter_test : (letter : ℕ) → (letter ≡ 101) ⊎ (letter ≡ 69) → (letter == 101 || letter == 69) ≡ true
letter_test letter (inl e) = rw e refl
letter_test letter (inr e) = rw e refl

-- a written exponent is read again
read_again : (letter : ℕ) (sign digits : List ℕ) (negative : Bool) → (letter ≡ 101) ⊎ (letter ≡ 69) → IsSign sign negative → AreDigits digits → power_of (letter ∷ (sign ++ digits)) ≡ Some (negative, digits)
unfolding power_of
read_again letter sign digits negative l s d =
    let u : Unsigned digits = subst Unsigned (append-nil digits) (some_unsigned digits [] d) in
    let r = sign_again sign digits negative s u in
    let t : are_digits (after_sign (sign ++ digits)) ≡ true = ap are_digits r.1 ∙ digits_again digits d in
    rw (letter_test letter l, t) (ap₂ (λ (v : Bool) (t : List ℕ). Some (v, t)) r.0 r.1)

-- any exponent is read again
power_again : (text : List ℕ) (exponent : ℤ) → IsExponent text exponent → Again text exponent
unfolding power_of
power_again text exponent (inl h) = record { power = (false, []); read = rw h.0 refl; is = h.1 }
power_again text exponent (inr h) = record {
  power = (h.4, h.3);
  read = ap power_of h.7 ∙ read_again h.0 h.2 h.3 h.4 h.1 h.5 h.6;
  is = h.8;
}

-- the letter of an exponent is no digit
letter_stops : (letter : ℕ) → (letter ≡ 101) ⊎ (letter ≡ 69) → is_ascii_digit letter ≡ false
letter_stops letter (inl e) = rw e refl
letter_stops letter (inr e) = rw e refl

-- an exponent begins with no digit and no sign
exponent_stops : (text : List ℕ) (exponent : ℤ) → IsExponent text exponent → Stops is_ascii_digit text
exponent_stops text exponent (inl h) = subst (Stops is_ascii_digit) (sym h.0) tt
exponent_stops text exponent (inr h) = subst (Stops is_ascii_digit) (sym h.7) (letter_stops h.0 h.1)

-- digits and the letter of an exponent are a decimal without a point
letter_after : (negative : Bool) (before bytes : List ℕ) (letter : ℕ) → (letter ≡ 101) ⊎ (letter ≡ 69) → form_with negative before (letter ∷ bytes) ≡ decimal_of negative before [] (letter ∷ bytes)
unfolding form_with
letter_after negative before bytes letter (inl e) = rw e refl
letter_after negative before bytes letter (inr e) = rw e refl

-- digits and an exponent are a decimal without a point
exponent_after : (negative : Bool) (before text : List ℕ) (exponent : ℤ) → IsExponent text exponent → form_with negative before text ≡ decimal_of negative before [] text
unfolding form_with
exponent_after negative before text exponent (inl h) = rw h.0 refl
exponent_after negative before text exponent (inr h) =
    ap (form_with negative before) h.7 ∙ letter_after negative before (h.2 ++ h.3) h.0 h.1 ∙ ap (decimal_of negative before []) (sym h.7)

-- ---- decimals
-- there are digits where the test passes
some_digits : (before after : List ℕ) → (ltb 0 (length before) || ltb 0 (length after)) ≡ true → 0 < length before + length after
some_digits before after e =
    elim (or_cases (ltb 0 (length before)) (ltb 0 (length after)) e) [ inl f ↦ omega (arith, some_bytes before f) | inr f ↦ omega (arith, some_bytes after f) ]

-- the test passes where there are digits
digits_some : (before after : List ℕ) → 0 < length before + length after → (ltb 0 (length before) || ltb 0 (length after)) ≡ true
digits_some before after h = grind (arith, nat_tests)

-- a decimal that is read has an exponent
with_power_found : (negative : Bool) (before after : List ℕ) (o : Option (Bool × List ℕ)) (form : NumberForm) → with_power negative before after o ≡ Some form → (power : Bool × List ℕ) × (o ≡ Some power) × (Decimal negative before after (with_sign power.0 (digits_value 10 power.1)) ≡ form)
with_power_found negative before after None form e = none_some form e
with_power_found negative before after (Some power) form e = (power, refl, same_Some _ form e)

-- a decimal that is read is written so
decimal_found : (sign mantissa before after power text : List ℕ) (negative : Bool) (form : NumberForm) → IsSign sign negative → (0 < length before + length after → IsMantissa mantissa before after) → text ≡ sign ++ mantissa ++ power → decimal_of negative before after power ≡ Some form → IsWritten text form
unfolding decimal_of
decimal_found sign mantissa before after power text negative form s m is e =
    elim (either (ltb 0 (length before) || ltb 0 (length after)) (with_power negative before after (power_of power)) None (Some form) e) [
      | inl h ↦
          let p = with_power_found negative before after (power_of power) form h.1 in
          subst (IsWritten text) p.2 (sign, mantissa, power, s, m (some_digits before after h.0), (power_found power p.0 p.1).0, is)
      | inr h ↦ none_some form h.1
    ]

-- a written decimal is read again
decimal_again : (before after power : List ℕ) (negative : Bool) (exponent : ℤ) → 0 < length before + length after → IsExponent power exponent → decimal_of negative before after power ≡ Some (Decimal negative before after exponent)
unfolding decimal_of
decimal_again before after power negative exponent some h =
    let a = power_again power exponent h in
    rw (digits_some before after some, a.read) (ap (λ x. Some (Decimal negative before after x)) (sym a.is))

-- ---- fractions
-- digits that are not all zeros stand for no zero
divisor_counts : (bottom : List ℕ) → AllByRecursion IsAsciiDigit bottom → list_all is_zero bottom ≡ false → digits_value 10 bottom ≢ 0
divisor_counts bottom all e z = let some : 0 < digits_value 10 bottom = others_value bottom all e in omega arith

-- the same, of digits that were tested
pub tested_divisor : (bottom : List ℕ) → are_digits bottom ≡ true → list_all is_zero bottom ≡ false → digits_value 10 bottom ≢ 0
tested_divisor bottom e f = divisor_counts bottom (digits_tested bottom e).digits f

-- digits that do not stand for 0 are not all zeros
counts_divisor : (bottom : List ℕ) → digits_value 10 bottom ≢ 0 → list_all is_zero bottom ≡ false
counts_divisor bottom ne = by (list_all is_zero bottom) refl
  where
    by : (v : Bool) → list_all is_zero bottom ≡ v → v ≡ false
    by true e = absurd (ne (zeros_value bottom e))
    by false e = refl

-- a fraction that is read is written so
fraction_found : (sign top bottom text : List ℕ) (negative : Bool) (form : NumberForm) → IsSign sign negative → AllByRecursion IsAsciiDigit top → text ≡ sign ++ top ++ 47 ∷ bottom → fraction_of negative top bottom ≡ Some form → IsWritten text form
unfolding fraction_of
fraction_found sign top bottom text negative form s all is e =
    let p = cond_some (ltb 0 (length top) && are_digits bottom && not (list_all is_zero bottom)) (Fraction negative top bottom) form e in
    let q = and_parts (ltb 0 (length top) && are_digits bottom) (not (list_all is_zero bottom)) p.0 in
    let r = and_parts (ltb 0 (length top)) (are_digits bottom) q.0 in
    let d = digits_tested bottom r.1 in
    subst (IsWritten text) p.1 (sign, s, record { digits = all; some = some_bytes top r.0 }, d, divisor_counts bottom d.digits (not_true _ q.1), is)

-- a written fraction is read again
fraction_again : (top bottom : List ℕ) (negative : Bool) → AreDigits top → AreDigits bottom → digits_value 10 bottom ≢ 0 → fraction_of negative top bottom ≡ Some (Fraction negative top bottom)
unfolding fraction_of
fraction_again top bottom negative t b ne =
    rw (bytes_some top t.some, digits_again bottom b, counts_divisor bottom ne) refl

-- ---- forms
-- digits before and after a point
with_point : (before after : List ℕ) → AllByRecursion IsAsciiDigit before → AllByRecursion IsAsciiDigit after → 0 < length before + length after → IsMantissa (before ++ 46 ∷ after) before after
with_point before after p q some = inr (p, q, some, refl)

-- digits without a point
without_point : (before : List ℕ) → AllByRecursion IsAsciiDigit before → 0 < length before + 0 → IsMantissa before before []
without_point before p some = inl (record { digits = p; some = omega (arith, some) }, refl, refl)

-- what is read of the first digits and what comes after them is written so
rest_found : (sign before rest text : List ℕ) (negative : Bool) (form : NumberForm) → IsSign sign negative → AllByRecursion IsAsciiDigit before → text ≡ sign ++ before ++ rest → form_with negative before rest ≡ Some form → IsWritten text form
unfolding form_with
rest_found sign before [] text negative form s all is e =
    decimal_found sign before before [] [] text negative form s (without_point before all) is e
rest_found sign before (b ∷ bytes) text negative form s all is e =
    elim (either (b == 47) (fraction_of negative before bytes) (cond (b == 46) (decimal_of negative before (take_while is_ascii_digit bytes) (following is_ascii_digit bytes)) (decimal_of negative before [] (b ∷ bytes))) (Some form) e) [
      | inl h ↦ fraction_found sign before bytes text negative form s all (is ∙ ap (λ a. sign ++ before ++ (a ∷ bytes)) (same_byte b 47 h.0)) h.1
      | inr h ↦
          elim (either (b == 46) (decimal_of negative before (take_while is_ascii_digit bytes) (following is_ascii_digit bytes)) (decimal_of negative before [] (b ∷ bytes)) (Some form) h.1) [
            | inl k ↦
                let after = take_while is_ascii_digit bytes in
                let power = following is_ascii_digit bytes in
                let split : b ∷ bytes ≡ (46 ∷ after) ++ power = ap₂ (λ (a : ℕ) (t : List ℕ). a ∷ t) (same_byte b 46 k.0) (sym (take-append-drop (prefix_len is_ascii_digit bytes) bytes)) in
                let regroup : sign ++ before ++ ((46 ∷ after) ++ power) ≡ sign ++ (before ++ 46 ∷ after) ++ power = simp append_assoc in
                decimal_found sign (before ++ 46 ∷ after) before after power text negative form s (with_point before after all (front_digits bytes)) (is ∙ ap (λ t. sign ++ before ++ t) split ∙ regroup) k.1
            | inr k ↦ decimal_found sign before before [] (b ∷ bytes) text negative form s (without_point before all) is k.1
          ]
    ]

-- what is read is written so
pub form_found : (text : List ℕ) (form : NumberForm) → form_of text ≡ Some form → IsWritten text form
unfolding form_of
form_found text form e =
    let s = sign_found text in
    let bytes = after_sign text in
    let split : text ≡ s.sign ++ take_while is_ascii_digit bytes ++ following is_ascii_digit bytes = s.is ∙ ap (λ t. s.sign ++ t) (sym (take-append-drop (prefix_len is_ascii_digit bytes) bytes)) ∙ sym (append_assoc s.sign (take_while is_ascii_digit bytes) (following is_ascii_digit bytes)) in
    rest_found s.sign (take_while is_ascii_digit bytes) (following is_ascii_digit bytes) text (is_minus text) form s.is_sign (front_digits bytes) split e

-- the sign and the first digits are read again
front_again : (sign before rest text : List ℕ) (negative : Bool) → IsSign sign negative → AllByRecursion IsAsciiDigit before → Stops is_ascii_digit rest → Unsigned (before ++ rest) → text ≡ sign ++ (before ++ rest) → form_of text ≡ form_with negative before rest
unfolding form_of
front_again sign before rest text negative s all stops u is =
    let r = sign_again sign (before ++ rest) negative s u in
    let minus : is_minus text ≡ negative = ap is_minus is ∙ r.0 in
    let bytes : after_sign text ≡ before ++ rest = ap after_sign is ∙ r.1 in
    rw (minus, bytes, front-is is_ascii_digit before rest (each_passes before all) stops, following-is is_ascii_digit before rest (each_passes before all) stops) refl

-- a decimal without a point is read again
plain_again : (sign before power text : List ℕ) (negative : Bool) (exponent : ℤ) → IsSign sign negative → AreDigits before → IsExponent power exponent → text ≡ sign ++ (before ++ power) → form_of text ≡ Some (Decimal negative before [] exponent)
plain_again sign before power text negative exponent s d p is =
    front_again sign before power text negative s d.digits (exponent_stops power exponent p) (some_unsigned before power d) is ∙ exponent_after negative before power exponent p ∙ decimal_again before [] power negative exponent (omega (arith, d.some)) p

-- what comes after a point is read as digits and an exponent
point_after : (before after power : List ℕ) (negative : Bool) → AllByRecursion IsAsciiDigit after → Stops is_ascii_digit power → form_with negative before (46 ∷ (after ++ power)) ≡ decimal_of negative before after power
unfolding form_with
point_after before after power negative all stops =
    ap₂ (decimal_of negative before) (front-is is_ascii_digit after power (each_passes after all) stops) (following-is is_ascii_digit after power (each_passes after all) stops)

-- a decimal with a point is read again
point_again : (sign before after power text : List ℕ) (negative : Bool) (exponent : ℤ) → IsSign sign negative → AllByRecursion IsAsciiDigit before → AllByRecursion IsAsciiDigit after → 0 < length before + length after → IsExponent power exponent → text ≡ sign ++ (before ++ (46 ∷ (after ++ power))) → form_of text ≡ Some (Decimal negative before after exponent)
point_again sign before after power text negative exponent s b a some p is =
    front_again sign before (46 ∷ (after ++ power)) text negative s b refl (digits_unsigned before (46 ∷ (after ++ power)) b (refl, refl)) is ∙ point_after before after power negative a (exponent_stops power exponent p) ∙ decimal_again before after power negative exponent some p

-- a slash is read as that of a fraction
slash_after : (top bottom : List ℕ) (negative : Bool) → form_with negative top (47 ∷ bottom) ≡ fraction_of negative top bottom
unfolding form_with
slash_after top bottom negative = refl

-- what is written so is read so
pub form_again : (text : List ℕ) (form : NumberForm) → IsWritten text form → form_of text ≡ Some form
form_again text (Fraction negative top bottom) w =
    front_again w.0 top (47 ∷ bottom) text negative w.1 w.2.digits refl (some_unsigned top (47 ∷ bottom) w.2) (w.5 ∙ append_assoc w.0 top (47 ∷ bottom)) ∙ slash_after top bottom negative ∙ fraction_again top bottom negative w.2 w.3 w.4
form_again text (Decimal negative before after exponent) w =
    elim w.4 [
      | inl m ↦
          plain_again w.0 before w.2 text negative exponent w.3 m.0 w.5 (w.6 ∙ ap (λ t. w.0 ++ t ++ w.2) m.2 ∙ append_assoc w.0 before w.2) ∙ ap (λ t. Some (Decimal negative before t exponent)) (sym m.1)
      | inr m ↦
          let regroup : w.0 ++ (before ++ 46 ∷ after) ++ w.2 ≡ w.0 ++ (before ++ (46 ∷ (after ++ w.2))) = simp append_assoc in
          point_again w.0 before after w.2 text negative exponent w.3 m.0 m.1 m.2 w.5 (w.6 ∙ ap (λ t. w.0 ++ t ++ w.2) m.3 ∙ regroup)
    ]

-- a text has at most one form
pub one_form : (text : List ℕ) (one other : NumberForm) → IsWritten text one → IsWritten text other → one ≡ other
one_form text one other p q = same_Some one other (sym (form_again text one p) ∙ form_again text other q)
