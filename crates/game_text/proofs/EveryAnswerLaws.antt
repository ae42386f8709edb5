-- Every text is a number, or one that passes a limit, or no number; every byte string is a list of tokens, or has a first fault.
use Rattle.std.proofs.Common.{◌≡◌, ◌≢◌, ℕ, zero, suc, ◌+◌, ◌-◌, ◌^◌, ◌<◌, ◌≤◌, Bool, true, false, ◌⊎◌, inl, inr, nat_abs, List, [], ◌∷◌, ◌++◌, length, take, drop, get_or, Option, Some, None, refl, sym, ap, ◌∙◌, append_assoc, length-append, one-add, arith}
use Rattle.std.proofs.lemmas.Bool.{cases_eq, both_ways}
use Rattle.std.proofs.lemmas.Bool.Decides.{leb_tells}
use Rattle.std.proofs.lemmas.List.{take-append-drop}
use Rattle.std.specs.List.{AllByRecursion, prefix_len}
use Rattle.rational.specs.Rational.{ℚ}
use Rattle.frac128.specs.Short.{IsShort}
use Rattle.game_core.specs.declared.token.Spanned.{Spanned}
use Rattle.game_core.specs.declared.token.Token.{Token}
use Rattle.game_core.specs.declared.token.Token.TheVariants.{Left, Right, Comma}
use Rattle.game_text.specs.declared.reading.TextKind.{TextKind}
use Rattle.game_text.specs.declared.reading.TextKind.TheVariants.{BadChar, OpenText, BadNumber, NumberTooLarge}
use Rattle.game_text.specs.Digits.{without_leading_zeros, without_trailing_zeros}
use Rattle.game_text.specs.Laws.{EverySourceHasAnAnswer, EveryTextHasAnAnswer}
use Rattle.game_text.specs.Numbers.{NumberForm, Fraction, Decimal, IsNumber, IsTooLarge, IsNoNumber, IsWithinLimits, form_value}
use Rattle.game_text.specs.Reading.{IsNext, is_bare, is_blank, is_letter, from_closing_quote}
use Rattle.game_text.specs.Tokens.{FirstIs, IsBlank, BeginsWithFault, AreTokensBefore}
use Rattle.game_text.proofs.ByteLemmas.{tells_bare}
use Rattle.game_text.proofs.ByteRunLemmas.{take_blanks, drop_blanks}
use Rattle.game_text.proofs.NextTokenLemmas.{IsFrontRun, closed_next, open_text, word_next, number_next, number_fault}
use Rattle.game_text.proofs.NumeralFormLemmas.{form_of, form_found, form_again}

-- ---- numbers
-- an order of numbers holds or not
at_most_or_not : (a b : ℕ) → (a ≤ b) ⊎ ¬ (a ≤ b)
at_most_or_not a b = elim (leb_tells a b) [ inl h ↦ inl h.1 | inr h ↦ inr (λ k. omega arith) ]

-- of three facts each holds or not, and so do they together
three : {A B C : Type 0} → A ⊎ ¬ A → B ⊎ ¬ B → C ⊎ ¬ C → (A × B × C) ⊎ ¬ (A × B × C)
three (inl a) (inl b) (inl c) = inl (a, b, c)
three (inl a) (inl b) (inr n) = inr (λ h. n h.2)
three (inl a) (inr n) c = inr (λ h. n h.1)
three (inr n) b c = inr (λ h. n h.0)

-- a value is short or not
short_or_not : (q : ℚ) → IsShort q ⊎ ¬ (IsShort q)
short_or_not q = by (at_most_or_not (suc (nat_abs q.num)) (2 ^ 63)) (at_most_or_not (suc q.den) (2 ^ 63))
  where
    by : (suc (nat_abs q.num) ≤ 2 ^ 63) ⊎ ¬ (suc (nat_abs q.num) ≤ 2 ^ 63) → (suc q.den ≤ 2 ^ 63) ⊎ ¬ (suc q.den ≤ 2 ^ 63) → IsShort q ⊎ ¬ (IsShort q)
    by (inl n) (inl d) = inl (record { num = n; den = d })
    by (inl n) (inr d) = inr (λ h. d h.den)
    by (inr n) d = inr (λ h. n h.num)

-- a form is within the limits or not
within_or_not : (form : NumberForm) → IsWithinLimits form ⊎ ¬ (IsWithinLimits form)
within_or_not (Fraction negative top bottom) =
    three (at_most_or_not (length (without_leading_zeros top)) 36) (at_most_or_not (length (without_leading_zeros bottom)) 36) (short_or_not (form_value (Fraction negative top bottom)))
within_or_not (Decimal negative before after exponent) =
    three (at_most_or_not (nat_abs exponent) 18) (at_most_or_not (length (without_leading_zeros (before ++ without_trailing_zeros after))) 36) (short_or_not (form_value (Decimal negative before after exponent)))

pub every_text : EveryTextHasAnAnswer
every_text text = by (form_of text) refl
  where
    by : (form : Option NumberForm) → form_of text ≡ form → ((value : ℚ) × IsNumber text value) ⊎ IsTooLarge text ⊎ IsNoNumber text
    by None e = inr (inr (λ form w. let again : form_of text ≡ Some form = form_again text form w in cc))
    by (Some form) e =
        elim (within_or_not form) [
          | inl h ↦ inl (form_value form, record { form = form; is_written = form_found text form e; is_within = h; is_value = refl })
          | inr h ↦ inr (inl (record { form = form; is_written = form_found text form e; is_beyond = h }))
        ]

-- ---- what comes next
-- a token and the bytes after it come next, or a fault
abbrev Comes : List ℕ → Type 0
Comes bytes = ((after : List ℕ) × (token : Token) × IsNext bytes after token) ⊎ ((kind : TextKind) × BeginsWithFault bytes kind)

-- after a quote
text_comes : (bytes closing : List ℕ) → from_closing_quote bytes ≡ closing → Comes (34 ∷ bytes)
text_comes bytes [] e = inr (OpenText, open_text bytes [] (sym e) (omega arith))
text_comes bytes (c ∷ rest) e = inl (rest, _, closed_next bytes rest c e)

-- a run
run_comes : (bytes run rest : List ℕ) → IsFrontRun bytes run rest → Comes bytes
run_comes bytes run rest h = by (is_letter (get_or run 0 0)) refl
  where
    by : (v : Bool) → is_letter (get_or run 0 0) ≡ v → Comes bytes
    by true e = inl (rest, _, word_next bytes run rest run h e refl)
    by false e =
        elim (every_text run) [
          | inl n ↦ inl (rest, _, number_next bytes run rest n.0 h e n.1)
          | inr (inl n) ↦ inr (NumberTooLarge, number_fault bytes run rest NumberTooLarge h e n)
          | inr (inr n) ↦ inr (BadNumber, number_fault bytes run rest BadNumber h e n)
        ]

-- a bare byte begins a run
front_run : (b : ℕ) (bytes : List ℕ) → is_bare b ≡ true → IsFrontRun (b ∷ bytes) (take (prefix_len is_bare (b ∷ bytes)) (b ∷ bytes)) (drop (prefix_len is_bare (b ∷ bytes)) (b ∷ bytes))
front_run b bytes e =
    let some : 1 ≤ length (take (prefix_len is_bare (b ∷ bytes)) (b ∷ bytes)) = rw (e, one-add) (omega arith) in
    record { front = refl; back = refl; some = some }

-- where no blank comes, a token does, or a fault
comes : (b : ℕ) (bytes : List ℕ) → ¬ (IsBlank b) → Comes (b ∷ bytes)
comes b bytes dark = by (cases_eq b 123) (cases_eq b 125) (cases_eq b 44) (cases_eq b 34)
  where
    bare : b ≢ 123 → b ≢ 125 → b ≢ 44 → b ≢ 34 → (v : Bool) → is_bare b ≡ v → Comes (b ∷ bytes)
    bare left right comma quote true e = run_comes (b ∷ bytes) _ _ (front_run b bytes e)
    bare left right comma quote false e =
        inr (
          BadChar,
          record {
            no_blank = dark;
            no_brace = (left, right);
            no_comma = comma;
            no_quote = quote;
            not_bare = λ k. both_ways (is_bare b) e ((tells_bare b).1 k);
          },
        )

    mark : (token : Token) → IsNext (b ∷ bytes) bytes token → Comes (b ∷ bytes)
    mark token next = inl (bytes, token, next)

    by : (b ≡ 123) ⊎ (b ≡ 123 → ⊥) → (b ≡ 125) ⊎ (b ≡ 125 → ⊥) → (b ≡ 44) ⊎ (b ≡ 44 → ⊥) → (b ≡ 34) ⊎ (b ≡ 34 → ⊥) → Comes (b ∷ bytes)
    by (inl e) _ _ _ = mark Left (record { front = b ∷ []; parts = refl; some = omega arith; is_token = ap (λ a. a ∷ []) e })
    by (inr left) (inl e) _ _ = mark Right (record { front = b ∷ []; parts = refl; some = omega arith; is_token = ap (λ a. a ∷ []) e })
    by (inr left) (inr right) (inl e) _ = mark Comma (record { front = b ∷ []; parts = refl; some = omega arith; is_token = ap (λ a. a ∷ []) e })
    by (inr left) (inr right) (inr comma) (inl e) = rw e (text_comes bytes (from_closing_quote bytes) refl)
    by (inr left) (inr right) (inr comma) (inr quote) = bare left right comma quote (is_bare b) refl

-- ---- all tokens
-- tokens, and a fault after them
record FaultAfter (from : ℕ) (bytes : List ℕ) : Type 0 where
  tokens : List Spanned
  rest : List ℕ
  kind : TextKind
  are_tokens : AreTokensBefore from bytes tokens rest
  within : length rest ≤ length bytes
  is_fault : BeginsWithFault rest kind

-- tokens to the end, or a fault after some
abbrev Answered : ℕ → List ℕ → Type 0
Answered from bytes = ((tokens : List Spanned) × AreTokensBefore from bytes tokens []) ⊎ FaultAfter from bytes

-- one more token in front
more : (from : ℕ) (bytes blanks rest after : List ℕ) (token : Token) → AllByRecursion IsBlank blanks → bytes ≡ blanks ++ rest → (next : IsNext rest after token) → Answered (from + length blanks + length next.front) after → Answered from bytes
more from bytes blanks rest after token all parts next answered =
    let start = from + length blanks in
    let one : Spanned = record { token = token; start = start; end = start + length next.front } in
    let are : bytes ≡ blanks ++ next.front ++ after = parts ∙ ap (λ t. blanks ++ t) next.parts ∙ sym (append_assoc blanks next.front after) in
    let sizes : length bytes ≡ length blanks + length next.front + length after = ap length are ∙ length-append (blanks ++ next.front) after ∙ ap (λ n. n + length after) (length-append blanks next.front) in
    elim answered [
      | inl h ↦ inl (one ∷ h.0, (blanks, next.front, after, all, are, next.is_token, refl, refl, h.1))
      | inr h ↦ inr (record {
        tokens = one ∷ h.tokens;
        rest = h.rest;
        kind = h.kind;
        are_tokens = (blanks, next.front, after, all, are, next.is_token, refl, refl, h.are_tokens);
        within = omega (arith, h.within);
        is_fault = h.is_fault;
      })
    ]

-- blanks and what comes after them, where an answer of fewer bytes is known
step : (from : ℕ) (bytes blanks rest : List ℕ) → ((at : ℕ) (after : List ℕ) → length after < length bytes → Answered at after) → AllByRecursion IsBlank blanks → bytes ≡ blanks ++ rest → ¬ (FirstIs IsBlank rest) → Answered from bytes
step from bytes blanks [] later all parts dark = inl ([], (blanks, all, parts))
step from bytes blanks (b ∷ rest) later all parts dark =
    let sizes : length bytes ≡ length blanks + length (b ∷ rest) = ap length parts ∙ length-append blanks (b ∷ rest) in
    elim (comes b rest dark) [
      | inl next ↦
          let less : length next.0 < length bytes = omega (arith, next.2.some, ap length next.2.parts ∙ length-append next.2.front next.0) in
          more from bytes blanks (b ∷ rest) next.0 next.1 all parts next.2 (later _ next.0 less)
      | inr fault ↦ inr (record { tokens = []; rest = b ∷ rest; kind = fault.0; are_tokens = (blanks, all, parts); within = omega arith; is_fault = fault.1 })
    ]

-- the answer of bytes of which there are fewer than so many
answered : (most from : ℕ) (bytes : List ℕ) → length bytes < most → Answered from bytes
answered zero from bytes h = absurd (omega arith)
answered (suc most) from bytes h =
    let n = prefix_len is_blank bytes in
    step from bytes (take n bytes) (drop n bytes) (λ at after less. answered most at after (omega arith)) (take_blanks bytes) (sym (take-append-drop n bytes)) (drop_blanks bytes)

pub every_source : EverySourceHasAnAnswer
every_source bytes =
    elim (answered (suc (length bytes)) 0 bytes (omega arith)) [
      | inl h ↦ inl (record { list = h.0; length = length bytes }, record { in_order = h.1; to_the_end = refl })
      | inr h ↦ inr (
        length bytes - length h.rest,
        h.kind,
        record {
          tokens = h.tokens;
          rest = h.rest;
          are_tokens = h.are_tokens;
          is_at = omega (arith, h.within);
          is_fault = h.is_fault;
        },
      )
    ]
