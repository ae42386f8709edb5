-- A byte string has at most one list of tokens, and at most one first fault.
use Rattle.std.proofs.Common.{◌≡◌, ◌≢◌, ℕ, ◌+◌, ◌<◌, ◌≤◌, List, [], ◌∷◌, ◌++◌, length, drop, Ok, Err, refl, sym, ap, subst, ◌∙◌, append_assoc, arith}
use Rattle.std.proofs.lemmas.List.{append_cancel_right}
use Rattle.std.specs.List.{AllByRecursion, prefix_len}
use Rattle.answers.specs.Answers.{IsSingle}
use Rattle.rational.specs.Rational.{ℚ}
use Rattle.game_text.specs.Numbers.{NumberForm, IsNumber, IsTooLarge, form_value, IsWithinLimits}
use Rattle.game_core.specs.TokenList.{TokenList, token_parts}
use Rattle.game_core.specs.declared.token.Spanned.{Spanned}
use Rattle.game_core.specs.declared.token.Token.{Token}
use Rattle.game_core.specs.declared.token.Token.TheVariants.{Left, Right, Comma, Text, Word, Number}
use Rattle.game_text.specs.declared.reading.TextKind.{TextKind}
use Rattle.game_text.specs.declared.reading.TextKind.TheVariants.{BadChar, OpenText, BadNumber, NumberTooLarge}
use Rattle.game_text.specs.Tokens.{FirstIs, IsBlank, IsRun, IsTokenAt, BeginsWithFault, AreTokens, AreTokensBefore, IsFirstFault}
use Rattle.game_text.specs.declared.reading.TextFault.{TextFault}
use Rattle.game_text.specs.declared.reading.TextStop.TheVariants as text_stop
use Rattle.game_text.specs.Reading.{is_bare, spelled, from_closing_quote}
use Rattle.game_text.specs.Stops.{tokens_of}
use Rattle.game_text.proofs.FirstByteLemmas.{kind_at, kind_of_fault, kind_at-token, kind_at-fault, kind_no_blank}
use Rattle.game_text.proofs.QuotedLemmas.{spelled-text}
use Rattle.game_text.proofs.ByteRunLemmas.{drop-run}
use Rattle.game_text.proofs.NumeralFormLemmas.{one_form}

-- ---- numbers
-- a text is a number of at most one value
one_value : (text : List ℕ) (one other : ℚ) → IsNumber text one → IsNumber text other → one ≡ other
one_value text one other h k =
    h.is_value ∙ ap form_value (one_form text h.form k.form h.is_written k.is_written) ∙ sym k.is_value

-- a number within the limits is not too large
not_too_large : (text : List ℕ) (value : ℚ) → IsNumber text value → IsTooLarge text → ⊥
not_too_large text value h k =
    let same = one_form text h.form k.form h.is_written k.is_written in
    let P : NumberForm → Type 0 = λ form. IsWithinLimits form in
    k.is_beyond (subst P same h.is_within)

-- ---- one token
-- one run comes
run_once : (run rest front back : List ℕ) → IsRun run rest → IsRun front back → run ++ rest ≡ front ++ back → (run ≡ front) × (rest ≡ back)
run_once run rest front back h k e =
    let same : rest ≡ back = sym (drop-run run rest h) ∙ ap (λ t. drop (prefix_len is_bare t) t) e ∙ drop-run front back k in
    (append_cancel_right run front back (let f : run ++ back ≡ run ++ rest = rw same refl in f ∙ e), same)

-- one quoted text comes
text_once : (front back again following text other : List ℕ) → IsTokenAt front back (Text text) → IsTokenAt again following (Text other) → front ++ back ≡ again ++ following → (front ≡ again) × (back ≡ following) × (text ≡ other)
text_once front back again following text other h k e =
    let whole : (inner rest : List ℕ) → (34 ∷ inner ++ 34 ∷ []) ++ rest ≡ 34 ∷ (inner ++ 34 ∷ rest) = λ inner rest. ap (λ t. 34 ∷ t) (append_assoc inner (34 ∷ []) rest) in
    let one : front ++ back ≡ 34 ∷ (h.0 ++ 34 ∷ back) = ap (λ t. t ++ back) h.1 ∙ whole h.0 back in
    let two : again ++ following ≡ 34 ∷ (k.0 ++ 34 ∷ following) = ap (λ t. t ++ following) k.1 ∙ whole k.0 following in
    let inside : h.0 ++ 34 ∷ back ≡ k.0 ++ 34 ∷ following = ap (λ t. drop 1 t) (sym one ∙ e ∙ two) in
    let first = spelled-text h.0 text back h.2 in
    let second = spelled-text k.0 other following k.2 in
    let same : back ≡ following = ap (λ t. drop 1 t) (sym first.1 ∙ ap from_closing_quote inside ∙ second.1) in
    let fronts : front ≡ again = append_cancel_right front again following (let f : front ++ following ≡ front ++ back = rw same refl in f ∙ e) in
    (fronts, same, sym first.0 ∙ ap spelled inside ∙ second.0)

-- one brace or comma comes
mark_once : (b : ℕ) (front back again following : List ℕ) → front ≡ b ∷ [] → again ≡ b ∷ [] → front ++ back ≡ again ++ following → (front ≡ again) × (back ≡ following)
mark_once b front back again following h k e =
    let one : b ∷ back ≡ b ∷ following = sym (ap (λ t. t ++ back) h) ∙ e ∙ ap (λ t. t ++ following) k in
    (h ∙ sym k, ap (λ t. drop 1 t) one)

-- two tokens at one place, which have one kind
same_kind : (front back again following : List ℕ) (one other : Token) → (token_parts one).0 ≡ (token_parts other).0 → IsTokenAt front back one → IsTokenAt again following other → front ++ back ≡ again ++ following
    → (front ≡ again) × (back ≡ following) × (one ≡ other)
same_kind front back again following Left Left i h k e = let m = mark_once 123 front back again following h k e in (m.0, m.1, refl)
same_kind front back again following Right Right i h k e = let m = mark_once 125 front back again following h k e in (m.0, m.1, refl)
same_kind front back again following Comma Comma i h k e = let m = mark_once 44 front back again following h k e in (m.0, m.1, refl)
same_kind front back again following (Text text) (Text other) i h k e =
    let m = text_once front back again following text other h k e in
    (m.0, m.1, ap Text m.2)
same_kind front back again following (Word word) (Word other) i h k e =
    let m = run_once front back again following h.0 k.0 e in
    (m.0, m.1, ap Word (h.2 ∙ m.0 ∙ sym k.2))
same_kind front back again following (Number value) (Number other) i h k e =
    let m = run_once front back again following h.0 k.0 e in
    let moved : IsNumber again value = rw (sym m.0) h.2 in
    (m.0, m.1, ap Number (one_value again value other moved k.2))
same_kind front back again following _ _ i h k e = cc

-- one token comes
token_once : (front back again following : List ℕ) (one other : Token) → IsTokenAt front back one → IsTokenAt again following other → front ++ back ≡ again ++ following → (front ≡ again) × (back ≡ following) × (one ≡ other)
token_once front back again following one other h k e =
    same_kind front back again following one other (sym (kind_at-token front back one h) ∙ ap kind_at e ∙ kind_at-token again following other k) h k e

-- ---- where tokens end
-- neither a blank nor a token comes
pub record ComesNoToken (rest : List ℕ) : Type 0 where
  pub no_blank : ¬ (FirstIs IsBlank rest)
  pub no_token : (front back : List ℕ) (token : Token) → rest ≡ front ++ back → IsTokenAt front back token → ⊥

-- the kinds of tokens
token_kind : (token : Token) → (token_parts token).0 < 6
token_kind Left = omega arith
token_kind Right = omega arith
token_kind Comma = omega arith
token_kind (Text text) = omega arith
token_kind (Word word) = omega arith
token_kind (Number value) = omega arith

-- at the end
nothing_comes : ComesNoToken []
nothing_comes = record {
  no_blank = λ h. h;
  no_token = λ front back token e h.
      let k : 8 ≡ (token_parts token).0 = ap kind_at e ∙ kind_at-token front back token h in
      absurd (omega (arith, token_kind token));
}

-- the kinds of faults
fault_kind : (kind : TextKind) → (3 ≤ kind_of_fault kind) × (kind_of_fault kind ≢ 4) × (kind_of_fault kind < 7)
fault_kind BadChar = (omega arith, λ e. omega arith, omega arith)
fault_kind OpenText = (omega arith, λ e. omega arith, omega arith)
fault_kind BadNumber = (omega arith, λ e. omega arith, omega arith)
fault_kind NumberTooLarge = (omega arith, λ e. omega arith, omega arith)

-- a token of this kind is no fault of this kind
token_no_fault : (rest front back : List ℕ) (token : Token) (kind : TextKind) → (token_parts token).0 ≡ kind_of_fault kind → rest ≡ front ++ back → IsTokenAt front back token → BeginsWithFault rest kind → ⊥
token_no_fault rest front back (Text text) OpenText i e h k =
    k.1 h.0 text back (e ∙ ap (λ t. t ++ back) h.1 ∙ ap (λ t. 34 ∷ t) (append_assoc h.0 (34 ∷ []) back)) h.2
token_no_fault rest front back (Number value) BadNumber i e h k =
    let m = run_once k.0 k.1 front back k.3 h.0 (sym k.2 ∙ e) in
    let moved : IsNumber k.0 value = rw m.0 h.2 in
    k.5 moved.form moved.is_written
token_no_fault rest front back (Number value) NumberTooLarge i e h k =
    let m = run_once k.0 k.1 front back k.3 h.0 (sym k.2 ∙ e) in
    let moved : IsNumber k.0 value = rw m.0 h.2 in
    not_too_large k.0 value moved k.5
token_no_fault rest front back token kind i e h k = omega (arith, fault_kind kind)

-- at a fault
fault_comes : (rest : List ℕ) (kind : TextKind) → BeginsWithFault rest kind → ComesNoToken rest
fault_comes rest kind h =
    let i = kind_at-fault rest kind h in record {
      no_blank = kind_no_blank rest (λ k. omega (arith, i, (fault_kind kind).2));
      no_token = λ front back token e t. token_no_fault rest front back token kind (sym (kind_at-token front back token t) ∙ sym (ap kind_at e) ∙ i) e t h;
    }

-- two faults of one number at one place
same_fault : (rest : List ℕ) (kind other : TextKind) → kind_of_fault kind ≡ kind_of_fault other → BeginsWithFault rest kind → BeginsWithFault rest other → kind ≡ other
same_fault rest BadChar BadChar i h k = refl
same_fault rest OpenText OpenText i h k = refl
same_fault rest BadNumber BadNumber i h k = refl
same_fault rest NumberTooLarge NumberTooLarge i h k = refl
same_fault rest BadNumber NumberTooLarge i h k =
    let m = run_once k.0 k.1 h.0 h.1 k.3 h.3 (sym k.2 ∙ h.2) in
    let moved : IsTooLarge h.0 = rw (sym m.0) k.5 in
    absurd (h.5 moved.form moved.is_written)
same_fault rest NumberTooLarge BadNumber i h k =
    let m = run_once h.0 h.1 k.0 k.1 h.3 k.3 (sym h.2 ∙ k.2) in
    let moved : IsTooLarge k.0 = rw (sym m.0) h.5 in
    absurd (k.5 moved.form moved.is_written)
same_fault rest _ _ i h k = cc

-- one fault stands at one place
fault_once : (rest : List ℕ) (kind other : TextKind) → BeginsWithFault rest kind → BeginsWithFault rest other → kind ≡ other
fault_once rest kind other h k =
    same_fault rest kind other (sym (kind_at-fault rest kind h) ∙ kind_at-fault rest other k) h k

-- ---- all tokens
-- the blanks at the front are one list
blanks_once : (one other rest following : List ℕ) → AllByRecursion IsBlank one → AllByRecursion IsBlank other → one ++ rest ≡ other ++ following → ¬ (FirstIs IsBlank rest) → ¬ (FirstIs IsBlank following) → (one ≡ other) × (rest ≡ following)
blanks_once [] [] rest following h k e n m = (refl, e)
blanks_once [] (b ∷ other) rest following h k e n m = absurd (n (rw e k.0))
blanks_once (b ∷ one) [] rest following h k e n m = absurd (m (rw (sym e) h.0))
blanks_once (b ∷ one) (c ∷ other) rest following h k e n m =
    let tails : one ++ rest ≡ other ++ following = cc in
    let heads : b ≡ c = cc in
    let more = blanks_once one other rest following h.1 k.1 tails n m in
    (rw (heads, more.0) refl, more.1)

-- no token begins with a blank
token_no_blank : (front back : List ℕ) (token : Token) → IsTokenAt front back token → ¬ (FirstIs IsBlank (front ++ back))
token_no_blank front back token h =
    kind_no_blank (front ++ back) (λ k. omega (arith, k, kind_at-token front back token h, token_kind token))

-- a token with its span is its parts
same_spanned : (one other : Spanned) → one.token ≡ other.token → one.start ≡ other.start → one.end ≡ other.end → one ≡ other
same_spanned one other t s e =
    let P : Token → ℕ → ℕ → Spanned = λ t s e. record { token = t; start = s; end = e } in
    ap (λ t. P t one.start one.end) t ∙ ap (λ s. P other.token s one.end) s ∙ ap (λ e. P other.token other.start e) e

-- the same tokens up to the same rest
pub tokens_once : (from : ℕ) (bytes : List ℕ) (one other : List Spanned) (rest following : List ℕ) → AreTokensBefore from bytes one rest → AreTokensBefore from bytes other following → ComesNoToken rest → ComesNoToken following
    → (one ≡ other) × (rest ≡ following)
tokens_once from bytes [] [] rest following h k n m =
    (refl, (blanks_once h.0 k.0 rest following h.1 k.1 (sym h.2 ∙ k.2) n.no_blank m.no_blank).1)
tokens_once from bytes [] (other ∷ others) rest following h k n m =
    let b = blanks_once h.0 k.0 rest (k.1 ++ k.2) h.1 k.3 (sym h.2 ∙ k.4 ∙ append_assoc k.0 k.1 k.2) n.no_blank (token_no_blank k.1 k.2 other.token k.5) in
    absurd (n.no_token k.1 k.2 other.token b.1 k.5)
tokens_once from bytes (one ∷ ones) [] rest following h k n m =
    let b = blanks_once h.0 k.0 (h.1 ++ h.2) following h.3 k.1 (sym (append_assoc h.0 h.1 h.2) ∙ sym h.4 ∙ k.2) (token_no_blank h.1 h.2 one.token h.5) m.no_blank in
    absurd (m.no_token h.1 h.2 one.token (sym b.1) h.5)
tokens_once from bytes (one ∷ ones) (other ∷ others) rest following h k n m =
    let b = blanks_once h.0 k.0 (h.1 ++ h.2) (k.1 ++ k.2) h.3 k.3 (sym (append_assoc h.0 h.1 h.2) ∙ sym h.4 ∙ k.4 ∙ append_assoc k.0 k.1 k.2) (token_no_blank h.1 h.2 one.token h.5) (token_no_blank k.1 k.2 other.token k.5) in
    let t = token_once h.1 h.2 k.1 k.2 one.token other.token h.5 k.5 b.1 in
    let starts : one.start ≡ other.start = h.6 ∙ ap (λ x. from + length x) b.0 ∙ sym k.6 in
    let ends : one.end ≡ other.end = h.7 ∙ ap (λ x. one.start + length x) t.0 ∙ ap (λ s. s + length k.1) starts ∙ sym k.7 in
    let P : ℕ → List ℕ → Type 0 = λ end back. AreTokensBefore end back others following in
    let moved : AreTokensBefore one.end h.2 others following = subst (λ end. P end h.2) (sym ends) (subst (λ back. P other.end back) (sym t.1) k.8) in
    let more = tokens_once one.end h.2 ones others rest following h.8 moved n m in
    let heads : one ≡ other = same_spanned one other t.2 starts ends in
    (rw (heads, more.0) refl, more.1)

-- ---- the laws
pub one_list : (bytes : List ℕ) (one other : TokenList) → AreTokens bytes one → AreTokens bytes other → one ≡ other
one_list bytes one other h k =
    let lists = (tokens_once 0 bytes one.list other.list [] [] h.in_order k.in_order nothing_comes nothing_comes).0 in
    let P : List Spanned → ℕ → TokenList = λ list length. record { list = list; length = length } in
    ap (λ list. P list one.length) lists ∙ ap (λ length. P other.list length) (h.to_the_end ∙ sym k.to_the_end)

pub no_list : (bytes : List ℕ) (at : ℕ) (kind : TextKind) (tokens : TokenList) → IsFirstFault bytes at kind → AreTokens bytes tokens → ⊥
no_list bytes at kind tokens h k =
    let ends = (tokens_once 0 bytes h.tokens tokens.list h.rest [] h.are_tokens k.in_order (fault_comes h.rest kind h.is_fault) nothing_comes).1 in
    let i : 8 ≡ kind_of_fault kind = sym (ap kind_at ends) ∙ kind_at-fault h.rest kind h.is_fault in
    omega (arith, (fault_kind kind).2)

pub one_fault : (bytes : List ℕ) (at place : ℕ) (kind other : TextKind) → IsFirstFault bytes at kind → IsFirstFault bytes place other → (at ≡ place) × (kind ≡ other)
one_fault bytes at place kind other h k =
    let rests = (tokens_once 0 bytes h.tokens k.tokens h.rest k.rest h.are_tokens k.are_tokens (fault_comes h.rest kind h.is_fault) (fault_comes k.rest other k.is_fault)).1 in
    let sizes : length h.rest ≡ length k.rest = ap length rests in
    let moved : BeginsWithFault h.rest other = rw rests k.is_fault in
    (omega (arith, h.is_at, k.is_at), fault_once h.rest kind other h.is_fault moved)

-- ---- one answer
equal_faults : (one other : TextFault) → (one.at ≡ other.at) × (one.kind ≡ other.kind) → one ≡ other
equal_faults one other e = rw (e.0, e.1) refl

pub tokens_of-single : (bytes : List ℕ) → IsSingle (tokens_of bytes)
tokens_of-single bytes (Ok one) (Ok other) h k = ap Ok (one_list bytes one other h k)
tokens_of-single bytes (Ok one) (Err (text_stop.Fault fault)) h k = absurd (no_list bytes fault.at fault.kind one k h)
tokens_of-single bytes (Err (text_stop.Fault fault)) (Ok other) h k = absurd (no_list bytes fault.at fault.kind other h k)
tokens_of-single bytes (Err (text_stop.Fault one)) (Err (text_stop.Fault other)) h k =
    ap (λ fault. Err (text_stop.Fault fault)) (equal_faults one other (one_fault bytes one.at other.at one.kind other.kind h k))
tokens_of-single bytes (Err text_stop.Memory) other h k = absurd h
tokens_of-single bytes one (Err text_stop.Memory) h k = absurd k
