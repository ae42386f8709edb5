-- Digits, the numbers that they stand for, and the zeros before and after them.
use Rattle.std.proofs.Common.{◌≡◌, ℕ, suc, ◌+◌, ◌*◌, ◌-◌, ◌<◌, ◌≤◌, ◌^◌, Bool, true, false, cond, ◌&&◌, ◌==◌, List, [], ◌∷◌, ◌++◌, length, get_or, reverse, take, drop, refl, sym, ap, ◌∙◌, subst, lit<, one-add, arith, rules, Option, Some, None, MatchOption}
use Rattle.std.proofs.Math.Nat.{pow-suc, pow-le-pow_right}
use Rattle.std.proofs.lemmas.Bool.{and_parts, and_from}
use Rattle.std.proofs.lemmas.Bool.Decides.{Decides-eqb, nat_tests}
use Rattle.std.proofs.lemmas.List.{take-append-drop, take_more, reverse-append, reverse-reverse}
use Rattle.std.proofs.lemmas.List.Elements.{All-append, All-from_recursion, recursion_from_All}
use Rattle.std.proofs.lemmas.Str.Parse.{IsNumeralModel, numerals_by_value, digits_value_short}
use Rattle.std.proofs.lemmas.Str.{digit_value_digit}
use Rattle.std.specs.Char.{IsAsciiDigit, digit_value, is_ascii_digit}
use Rattle.std.specs.List.{All, AllByRecursion, list_all, prefix_len, take_while}
use Rattle.std.specs.Str.Parse.{digits_value, digits_value_after}
use Rattle.lists.proofs.ElementLemmas.{All-parts}
use Rattle.game_text.specs.Digits.{without_leading_zeros, without_trailing_zeros}
use Rattle.game_text.specs.NumberReading.{GivesSize, is_zero, following}
use Rattle.game_text.proofs.PrefixLemmas.{Stops, front-passes, following-stops}

-- ---- tests of digits
-- a digit passes the test
digit_passes : (b : ℕ) → IsAsciiDigit b → is_ascii_digit b ≡ true
digit_passes b h = grind (arith, nat_tests)

-- a byte that passes is a digit
passes_digit : (b : ℕ) → is_ascii_digit b ≡ true → IsAsciiDigit b
passes_digit b e = (grind (arith, nat_tests), grind (arith, nat_tests))

-- bytes that all pass are digits
pub passes_digits : (text : List ℕ) → list_all is_ascii_digit text ≡ true → AllByRecursion IsAsciiDigit text
passes_digits [] e = tt
passes_digits (b ∷ text) e = let p = and_parts (is_ascii_digit b) (list_all is_ascii_digit text) e in (passes_digit b p.0, passes_digits text p.1)

-- digits all pass
pub digits_pass : (text : List ℕ) → AllByRecursion IsAsciiDigit text → list_all is_ascii_digit text ≡ true
digits_pass [] h = refl
digits_pass (b ∷ text) h = and_from _ _ (digit_passes b h.0) (digits_pass text h.1)

-- each of the digits passes the test
pub each_passes : (text : List ℕ) → AllByRecursion IsAsciiDigit text → AllByRecursion (λ b. is_ascii_digit b ≡ true) text
each_passes [] h = tt
each_passes (b ∷ text) h = (digit_passes b h.0, each_passes text h.1)

-- where each byte passes, they are digits
passes_each : (text : List ℕ) → AllByRecursion (λ b. is_ascii_digit b ≡ true) text → AllByRecursion IsAsciiDigit text
passes_each [] h = tt
passes_each (b ∷ text) h = (passes_digit b h.0, passes_each text h.1)

-- the digits at the front of a text are digits
pub front_digits : (text : List ℕ) → AllByRecursion IsAsciiDigit (take_while is_ascii_digit text)
front_digits text = passes_each _ (front-passes is_ascii_digit text)

-- the same at each place
pub leading_digits : (text : List ℕ) → All IsAsciiDigit (take_while is_ascii_digit text)
leading_digits text = All-from_recursion IsAsciiDigit _ (front_digits text)

-- ---- parts of a list
-- what holds of both parts holds of the list
join_all : (P : ℕ → Type 0) (xs ys : List ℕ) → AllByRecursion P xs → AllByRecursion P ys → AllByRecursion P (xs ++ ys)
join_all P [] ys h k = k
join_all P (x ∷ xs) ys h k = (h.0, join_all P xs ys h.1 k)

-- what holds of a list holds of it backwards
all_reversed : (P : ℕ → Type 0) (xs : List ℕ) → AllByRecursion P xs → AllByRecursion P (reverse xs)
all_reversed P [] h = tt
all_reversed P (x ∷ xs) h =
    subst (AllByRecursion P) (sym (reverse-append (x ∷ []) xs)) (join_all P (reverse xs) (x ∷ []) (all_reversed P xs h.1) (h.0, tt))

-- ---- more digits
-- more digits make a number no smaller
digits_grow : (n : ℕ) (digits : List ℕ) → n ≤ digits_value_after 10 n digits
digits_grow n [] = omega arith
digits_grow n (d ∷ digits) = omega (arith, digits_grow (n * 10 + digit_value d) digits)

-- the first digits are read first
pub digits_parts : (n : ℕ) (xs ys : List ℕ) → digits_value_after 10 n (xs ++ ys) ≡ digits_value_after 10 (digits_value_after 10 n xs) ys
digits_parts n [] ys = refl
digits_parts n (x ∷ xs) ys = digits_parts (n * 10 + digit_value x) xs ys

-- the first digits alone stand for no more
pub digits_front : (n i : ℕ) (digits : List ℕ) → digits_value_after 10 n (take i digits) ≤ digits_value_after 10 n digits
digits_front n i digits =
    let e : digits_value_after 10 n digits ≡ digits_value_after 10 (digits_value_after 10 n (take i digits)) (drop i digits) = ap (digits_value_after 10 n) (sym (take-append-drop i digits)) ∙ digits_parts n (take i digits) (drop i digits) in
    omega (arith, e, digits_grow (digits_value_after 10 n (take i digits)) (drop i digits))

-- one more digit
pub digits_more : (n i : ℕ) (digits : List ℕ) → i < length digits → IsAsciiDigit (get_or digits i 0) → digits_value_after 10 n (take (i + 1) digits) ≡ 10 * digits_value_after 10 n (take i digits) + (get_or digits i 0 - 48)
digits_more n i digits below digit =
    let value = digit_value_digit (get_or digits i 0) digit in
    let last = ap (digits_value_after 10 n) (take_more digits i 0 below) ∙ digits_parts n (take i digits) (get_or digits i 0 ∷ []) in
    omega (arith, last, value)

-- digits after others make the number no smaller
pub before_grows : (xs ys : List ℕ) → digits_value 10 xs ≤ digits_value 10 (xs ++ ys)
before_grows xs ys = omega (arith, digits_parts 0 xs ys, digits_grow (digits_value 10 xs) ys)

-- a number with digits after it is at least itself times a power of ten
digits_above : (n : ℕ) (digits : List ℕ) → n * 10 ^ length digits ≤ digits_value_after 10 n digits
digits_above n [] = omega arith
digits_above n (d ∷ digits) =
    let ih : (n * 10 + digit_value d) * 10 ^ length digits ≤ digits_value_after 10 (n * 10 + digit_value d) digits = digits_above (n * 10 + digit_value d) digits in
    let e : 10 ^ suc (length digits) ≡ 10 ^ length digits * 10 = pow-suc 10 (length digits) in
    rw e (omega (arith, ih))

-- ---- zeros
-- zeros after a number multiply it
pub zeros_after : (n : ℕ) (zeros : List ℕ) → AllByRecursion (λ b. is_zero b ≡ true) zeros → digits_value_after 10 n zeros ≡ n * 10 ^ length zeros
zeros_after n [] h = omega arith
zeros_after n (z ∷ zeros) h =
    let z-is : z ≡ 48 = (Decides-eqb z 48).0 h.0 in
    let first : n * 10 + digit_value z ≡ n * 10 = omega (arith, z-is, digit_value_digit z (omega (arith, z-is), omega (arith, z-is))) in
    let e : 10 ^ suc (length zeros) ≡ 10 ^ length zeros * 10 = pow-suc 10 (length zeros) in
    ap (λ m. digits_value_after 10 m zeros) first ∙ zeros_after (n * 10) zeros h.1 ∙ rw e (omega arith)

-- zeros alone stand for 0
zeros_are_zero : (zeros : List ℕ) → AllByRecursion (λ b. is_zero b ≡ true) zeros → digits_value 10 zeros ≡ 0
zeros_are_zero zeros h = zeros_after 0 zeros h ∙ omega arith

-- where the test passes, each byte is a zero
all_zeros : (digits : List ℕ) → list_all is_zero digits ≡ true → AllByRecursion (λ b. is_zero b ≡ true) digits
all_zeros [] e = tt
all_zeros (d ∷ digits) e = let p = and_parts (is_zero d) (list_all is_zero digits) e in (p.0, all_zeros digits p.1)

-- zeros alone stand for 0
pub zeros_value : (digits : List ℕ) → list_all is_zero digits ≡ true → digits_value 10 digits ≡ 0
zeros_value digits e = zeros_are_zero digits (all_zeros digits e)

-- a zero before digits does not count
first_zero : (d : ℕ) (digits : List ℕ) → is_zero d ≡ true → digits_value 10 (d ∷ digits) ≡ digits_value 10 digits
first_zero d digits e = let d-is : d ≡ 48 = (Decides-eqb d 48).0 e in let z : 0 * 10 + digit_value d ≡ 0 = omega (arith, d-is, digit_value_digit d (omega (arith, d-is), omega (arith, d-is))) in ap (λ n. digits_value_after 10 n digits) z

-- another digit before digits does
first_counts : (d : ℕ) (digits : List ℕ) → IsAsciiDigit d → is_zero d ≡ false → 0 < digits_value 10 (d ∷ digits)
first_counts d digits h e =
    let value = digit_value_digit d h in
    let some : 1 ≤ 0 * 10 + digit_value d = grind (arith, nat_tests) in
    omega (arith, some, digits_grow (0 * 10 + digit_value d) digits)

-- other digits do not
pub others_value : (digits : List ℕ) → AllByRecursion IsAsciiDigit digits → list_all is_zero digits ≡ false → 0 < digits_value 10 digits
others_value [] all e = cc
others_value (d ∷ digits) all e =
    let E : Bool → Type 0 = λ v. is_zero d ≡ v → (v && list_all is_zero digits) ≡ false → 0 < digits_value 10 (d ∷ digits) in
    let by : (v : Bool) → E v = λ v. elim v as E [ true ↦ λ z f. subst (λ n. 0 < n) (sym (first_zero d digits z)) (others_value digits all.1 f) | false ↦ λ z f. first_counts d digits all.0 z ] in
    by (is_zero d) refl e

-- striking the leading zeros leaves what is after them
struck : (digits : List ℕ) → without_leading_zeros digits ≡ following is_zero digits
struck [] = refl
struck (d ∷ digits) =
    elim (d == 48) as (λ v. cond v (without_leading_zeros digits) (d ∷ digits) ≡ drop (cond v (1 + prefix_len is_zero digits) 0) (d ∷ digits)) [ true ↦ rw one-add (struck digits) | false ↦ refl ]

-- striking leading zeros keeps the number
struck-value : (digits : List ℕ) → digits_value 10 digits ≡ digits_value 10 (without_leading_zeros digits)
struck-value digits =
    ap (digits_value 10) (sym (take-append-drop (prefix_len is_zero digits) digits)) ∙ digits_parts 0 (take_while is_zero digits) (following is_zero digits) ∙ ap (λ n. digits_value_after 10 n (following is_zero digits)) (zeros_are_zero _ (front-passes is_zero digits)) ∙ ap (digits_value 10) (sym (struck digits))

-- what is left are digits
struck-digits : (digits : List ℕ) → AllByRecursion IsAsciiDigit digits → AllByRecursion IsAsciiDigit (without_leading_zeros digits)
struck-digits digits h =
    subst (AllByRecursion IsAsciiDigit) (sym (struck digits)) (All-parts IsAsciiDigit (take_while is_zero digits) (following is_zero digits) (subst (AllByRecursion IsAsciiDigit) (sym (take-append-drop (prefix_len is_zero digits) digits)) h)).1

-- what is left begins with no zero
struck-stops : (digits : List ℕ) → Stops is_zero (without_leading_zeros digits)
struck-stops digits = subst (Stops is_zero) (sym (struck digits)) (following-stops is_zero digits)

-- digits are those of the standard library
pub numerals : IsNumeralModel (AllByRecursion IsAsciiDigit) (digits_value 10)
numerals = numerals_by_value (AllByRecursion IsAsciiDigit) (search rules)

-- more than k digits, of which the first is not 0, stand for at least ten to k
many_digits : (k : ℕ) (digits : List ℕ) → AllByRecursion IsAsciiDigit digits → Stops is_zero digits → k < length digits → 10 ^ k ≤ digits_value 10 digits
many_digits k [] all s h = absurd (omega (arith, h))
many_digits k (d ∷ digits) all s h =
    let low = all.0.0 in
    let value = digit_value_digit d all.0 in
    let first : 0 * 10 + digit_value d ≡ d - 49 + 1 = grind (arith, nat_tests) in
    let more : (d - 49 + 1) * 10 ^ length digits ≤ digits_value_after 10 (0 * 10 + digit_value d) digits = subst (λ n. n * 10 ^ length digits ≤ digits_value_after 10 (0 * 10 + digit_value d) digits) first (digits_above (0 * 10 + digit_value d) digits) in
    let le : 10 ^ k ≤ 10 ^ length digits = pow-le-pow_right (lit< tt) (omega (arith, h)) in
    omega (arith, more, le)

-- more than k digits that count
pub long_value : (k : ℕ) (digits : List ℕ) → AllByRecursion IsAsciiDigit digits → k < length (without_leading_zeros digits) → 10 ^ k ≤ digits_value 10 digits
long_value k digits all h = rw struck-value (many_digits k (without_leading_zeros digits) (struck-digits digits all) (struck-stops digits) h)

-- at most k digits that count
pub short_value : (k : ℕ) (digits : List ℕ) → AllByRecursion IsAsciiDigit digits → length (without_leading_zeros digits) ≤ k → digits_value 10 digits < 10 ^ k
short_value k digits all h = rw struck-value (digits_value_short numerals (without_leading_zeros digits) k (struck-digits digits all) h)

-- ---- trailing zeros
-- the zeros that are struck at the end
pub record Struck (digits kept : List ℕ) : Type 0 where
  pub zeros : List ℕ
  pub are_zeros : AllByRecursion (λ b. is_zero b ≡ true) zeros
  pub is : digits ≡ kept ++ zeros

-- striking trailing zeros takes zeros away
pub struck_after : (digits : List ℕ) → Struck digits (without_trailing_zeros digits)
struck_after digits =
    let r = reverse digits in
    let split : r ≡ take_while is_zero r ++ without_leading_zeros r = sym (take-append-drop (prefix_len is_zero r) r) ∙ ap (λ t. take_while is_zero r ++ t) (sym (struck r)) in
    record {
      zeros = reverse (take_while is_zero r);
      are_zeros = all_reversed _ _ (front-passes is_zero r);
      is = sym (reverse-reverse digits) ∙ ap reverse split ∙ reverse-append (take_while is_zero r) (without_leading_zeros r);
    }

-- what is left are digits
pub kept_digits : (digits kept : List ℕ) → Struck digits kept → All IsAsciiDigit digits → All IsAsciiDigit kept
kept_digits digits kept s all =
    All-from_recursion IsAsciiDigit kept (All-parts IsAsciiDigit kept s.zeros (subst (AllByRecursion IsAsciiDigit) s.is (recursion_from_All IsAsciiDigit digits all))).0

-- ---- the limit on digits
-- a number from ten to 36 on has more than 36 digits that count
value_long : (digits : List ℕ) → All IsAsciiDigit digits → 10 ^ 36 ≤ digits_value 10 digits → 36 < length (without_leading_zeros digits)
value_long digits all h =
    let short : length (without_leading_zeros digits) ≤ 36 → digits_value 10 digits < 10 ^ 36 = short_value 36 digits (recursion_from_All IsAsciiDigit digits all) in
    grind arith

-- a number below ten to 36 has no more than 36
value_short : (digits : List ℕ) → All IsAsciiDigit digits → digits_value 10 digits < 10 ^ 36 → length (without_leading_zeros digits) ≤ 36
value_short digits all h =
    let long : 36 < length (without_leading_zeros digits) → 10 ^ 36 ≤ digits_value 10 digits = long_value 36 digits (recursion_from_All IsAsciiDigit digits all) in
    grind arith

-- what is answered for a number that is compared with ten to 36
pub size_answer : (digits : List ℕ) (answer : Option ℕ) → All IsAsciiDigit digits → MatchOption answer (10 ^ 36 ≤ digits_value 10 digits) (λ n. (n ≡ digits_value 10 digits) × (n < 10 ^ 36)) → GivesSize digits answer
size_answer digits None all h = value_long digits all h
size_answer digits (Some n) all h =
    (h.0, h.1, value_short digits all (subst (λ m. m < 10 ^ 36) h.0 h.1))

-- the same, where the digits are read one part after the other
pub both_answer : (before after : List ℕ) (n : ℕ) (answer : Option ℕ) → All IsAsciiDigit before → All IsAsciiDigit after → n ≡ digits_value 10 before → MatchOption answer (10 ^ 36 ≤ digits_value_after 10 n after) (λ m. (m ≡ digits_value_after 10 n after) × (m < 10 ^ 36)) → GivesSize (before ++ after) answer
both_answer before after n answer p q e h =
    let same : digits_value_after 10 n after ≡ digits_value 10 (before ++ after) = ap (λ m. digits_value_after 10 m after) e ∙ sym (digits_parts 0 before after) in
    size_answer (before ++ after) answer (All-append IsAsciiDigit before after p q) (subst (λ v. MatchOption answer (10 ^ 36 ≤ v) (λ m. (m ≡ v) × (m < 10 ^ 36))) same h)

-- and where the first part is too long
pub before_long : (before after : List ℕ) → All IsAsciiDigit before → All IsAsciiDigit after → 10 ^ 36 ≤ digits_value 10 before → 36 < length (without_leading_zeros (before ++ after))
before_long before after p q h =
    value_long (before ++ after) (All-append IsAsciiDigit before after p q) (omega (arith, h, before_grows before after))
