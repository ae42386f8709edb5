-- The token that comes next, and the bytes after it.
use Rattle.std.proofs.Common.{◌≡◌, ℕ, ◌-◌, ◌<◌, ◌≤◌, true, false, List, [], ◌∷◌, ◌++◌, length, take, drop, get_or, refl, sym, ap, ◌∙◌, append_assoc, arith}
use Rattle.std.proofs.lemmas.List.{take-append-drop, take_all}
use Rattle.std.proofs.lemmas.Bool.{both_ways}
use Rattle.std.specs.List.{prefix_len}
use Rattle.rational.specs.Rational.{ℚ}
use Rattle.game_text.specs.Numbers.{IsNumber}
use Rattle.game_core.specs.declared.token.Token.TheVariants.{Text, Word, Number}
use Rattle.game_text.specs.declared.reading.TextKind.{TextKind}
use Rattle.game_text.specs.declared.reading.TextKind.TheVariants.{BadChar, OpenText, BadNumber, NumberTooLarge}
use Rattle.game_text.specs.Tokens.{FirstIs, IsLetter, IsRun, BeginsWithFault}
use Rattle.game_text.specs.Reading.{IsNext, RefusesNumber, is_letter, is_bare, spelled, from_closing_quote}
use Rattle.game_text.proofs.ByteLemmas.{tells_letter}
use Rattle.game_text.proofs.QuotedLemmas.{text_closes, text_is_open}
use Rattle.game_text.proofs.ByteRunLemmas.{run_is}

-- ---- texts
-- a text that a quote closes
pub closed_next : (bytes rest : List ℕ) (c : ℕ) → from_closing_quote bytes ≡ c ∷ rest → IsNext (34 ∷ bytes) rest (Text (spelled bytes))
closed_next bytes rest c e =
    let h = text_closes bytes rest c e in record {
      front = 34 ∷ (h.inner ++ 34 ∷ []);
      parts = ap (λ t. 34 ∷ t) (h.parts ∙ sym (append_assoc h.inner (34 ∷ []) rest));
      some = omega arith;
      is_token = (h.inner, refl, h.spells);
    }

-- the text that comes next, where a quote closes it
pub text_next : (bytes closing text : List ℕ) → text ≡ spelled bytes → closing ≡ from_closing_quote bytes → 1 ≤ length closing → IsNext (34 ∷ bytes) (take (length closing - 1) (drop 1 closing)) (Text text)
text_next bytes [] text t e h = absurd (omega arith)
text_next bytes (c ∷ rest) text t e h =
    let size : length rest ≤ length (c ∷ rest) - 1 = omega arith in
    rw (t, take_all (length (c ∷ rest) - 1) rest size) (closed_next bytes rest c (sym e))

-- no text comes, where no quote closes it
pub open_text : (bytes closing : List ℕ) → closing ≡ from_closing_quote bytes → length closing < 1 → BeginsWithFault (34 ∷ bytes) OpenText
open_text bytes [] e h = (refl, λ inner text rest p s. text_is_open bytes inner text rest (sym e) (ap (λ t. drop 1 t) p) s)
open_text bytes (c ∷ closing) e h = absurd (omega arith)

-- ---- runs
-- the first byte of a run, by test and by fact
begins_with_letter : (run : List ℕ) → 1 ≤ length run → is_letter (get_or run 0 0) ≡ true → FirstIs IsLetter run
begins_with_letter [] h e = absurd (omega arith)
begins_with_letter (b ∷ run) h e = (tells_letter b).0 e

begins_with_none : (run : List ℕ) → is_letter (get_or run 0 0) ≡ false → ¬ (FirstIs IsLetter run)
begins_with_none [] e h = h
begins_with_none (b ∷ run) e h = both_ways (is_letter b) e ((tells_letter b).1 h)

-- the longest front of bare bytes, which has some, and the bytes after it
pub record IsFrontRun (bytes run rest : List ℕ) : Type 0 where
  pub front : run ≡ take (prefix_len is_bare bytes) bytes
  pub back : rest ≡ drop (prefix_len is_bare bytes) bytes
  pub some : 1 ≤ length run

-- the run and the bytes after it
parts_of : (bytes run rest : List ℕ) → IsFrontRun bytes run rest → bytes ≡ run ++ rest
parts_of bytes run rest h =
    let n = prefix_len is_bare bytes in
    let whole : take n bytes ++ drop n bytes ≡ bytes = take-append-drop n bytes in
    rw (h.front, h.back) (sym whole)

is_run : (bytes run rest : List ℕ) → IsFrontRun bytes run rest → IsRun run rest
is_run bytes run rest h = run_is bytes run rest h.front h.back h.some

-- a word comes next
pub word_next : (bytes run rest word : List ℕ) → IsFrontRun bytes run rest → is_letter (get_or run 0 0) ≡ true → word ≡ run → IsNext bytes rest (Word word)
word_next bytes run rest word h e w = record {
  front = run;
  parts = parts_of bytes run rest h;
  some = h.some;
  is_token = (is_run bytes run rest h, begins_with_letter run h.some e, w);
}

-- a number comes next
pub number_next : (bytes run rest : List ℕ) (value : ℚ) → IsFrontRun bytes run rest → is_letter (get_or run 0 0) ≡ false → IsNumber run value → IsNext bytes rest (Number value)
number_next bytes run rest value h e v = record {
  front = run;
  parts = parts_of bytes run rest h;
  some = h.some;
  is_token = (is_run bytes run rest h, begins_with_none run e, v);
}

-- a run comes next that is refused
pub number_fault : (bytes run rest : List ℕ) (kind : TextKind) → IsFrontRun bytes run rest → is_letter (get_or run 0 0) ≡ false → RefusesNumber run kind → BeginsWithFault bytes kind
number_fault bytes run rest BadChar h e r = absurd r
number_fault bytes run rest OpenText h e r = absurd r
number_fault bytes run rest BadNumber h e r = (run, rest, parts_of bytes run rest h, is_run bytes run rest h, begins_with_none run e, r)
number_fault bytes run rest NumberTooLarge h e r = (run, rest, parts_of bytes run rest h, is_run bytes run rest h, begins_with_none run e, r)
