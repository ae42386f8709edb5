-- Lines that are read back: from parts to their line, and back.
use Rattle.std.proofs.Common.{ne_eqb, take, drop, take-append-drop, true, false, refl, sym, ap, ap₂, subst, ◌∙◌, ℕ, ◌≡◌, ◌==◌, ◌<◌, codes, List, [], ◌∷◌, ◌++◌, length, All, Result, Ok, Err, inl, inr, arith, length-append}
use Rattle.std.specs.Char.{IsAsciiDigit}
use Rattle.std.specs.List.{AllZip, slice_split, join_with_byte}
use Rattle.std.proofs.lemmas.List.Elements.{All-append, All-cons, All-weaker, All-same}
use Rattle.std.proofs.lemmas.List.Splits.{slice_split_none, slice_split_at, join_with_byte-slice_split}
use Rattle.std.specs.Str.{bytes_eq}
use Rattle.std.proofs.lemmas.Slice.Eq.{bytes_eq-Decides}
use Rattle.rational.specs.Rational.{ℚ}
use Rattle.answers.specs.Answers.{Gives, IsSingle}
use Rattle.ne_printer.specs.ReadLines.{IsWholeNumber, IsFraction, AreEntries, IsLine, entries_in, line_in}
use Rattle.ne_printer.specs.declared.reading.LineStop.{LineStop}
use Rattle.ne_printer.specs.declared.reading.LineStop.TheVariants as stops
use Rattle.ne_printer.proofs.NumeralLemmas.{numeral_digits}
use Rattle.ne_printer.proofs.FractionLemmas.{one_fraction}

-- a number has no comma
number_no_comma : (text : List ℕ) (n : ℕ) → IsWholeNumber text n → All (λ b. (b == 44) ≡ false) text
number_no_comma text n h =
    All-weaker IsAsciiDigit (λ b. (b == 44) ≡ false) (λ b digit. ne_eqb b 44 (λ same. omega arith)) text (numeral_digits text h.numeral.is_numeral.1)

-- a fraction has none
no_comma : (text : List ℕ) (q : ℚ) → IsFraction text q → All (λ b. (b == 44) ≡ false) text
no_comma text q (inl f) = number_no_comma text f.0 f.1
no_comma text q (inr f) =
    All-same (λ b. (b == 44) ≡ false) text (f.top ++ 47 ∷ f.bottom) f.text_is
    (All-append (λ b. (b == 44) ≡ false) f.top (47 ∷ f.bottom) (number_no_comma f.top f.num f.top_is) (All-cons (λ b. (b == 44) ≡ false) 47 f.bottom refl (number_no_comma f.bottom f.den f.bottom_is)))

-- nor is it empty
fraction_some : (text : List ℕ) (q : ℚ) → IsFraction text q → 0 < length text
fraction_some text q (inl f) = omega (arith, f.1.numeral.is_numeral.0)
fraction_some text q (inr f) = omega (arith, ap length f.text_is, length-append f.top (47 ∷ f.bottom))

-- fractions with commas between them, cut at the commas
split_joined : (part : List ℕ) (parts : List (List ℕ)) (entries : List ℚ) → AllZip IsFraction (part ∷ parts) entries → slice_split (λ b. b == 44) (join_with_byte 44 (part ∷ parts)) ≡ part ∷ parts
split_joined part parts [] h = absurd h
split_joined part [] (q ∷ entries) h = slice_split_none (λ b. b == 44) part (no_comma part q h.0)
split_joined part (next ∷ parts) (q ∷ entries) h =
    slice_split_at (λ b. b == 44) part 44 (join_with_byte 44 (next ∷ parts)) (no_comma part q h.0) refl ∙ ap (λ v. part ∷ v) (split_joined next parts entries h.1)

-- which are some text
joined_some : (part : List ℕ) (parts : List (List ℕ)) (entries : List ℚ) → AllZip IsFraction (part ∷ parts) entries → length (join_with_byte 44 (part ∷ parts)) ≡ 0 → ⊥
joined_some part parts [] h none = h
joined_some part [] (q ∷ entries) h none = omega (arith, fraction_some part q h.0)
joined_some part (next ∷ parts) (q ∷ entries) h none = omega (arith, length-append part (44 ∷ join_with_byte 44 (next ∷ parts)))

-- where they are none, there are no entries
nothing_told : (parts : List (List ℕ)) (entries : List ℚ) → length (join_with_byte 44 parts) ≡ 0 → AllZip IsFraction parts entries → [] ≡ entries
nothing_told [] [] none h = refl
nothing_told [] (q ∷ entries) none h = absurd h
nothing_told (part ∷ parts) entries none h = absurd (joined_some part parts entries h none)

-- what stands after the start of a line
pub after_start : (line text : List ℕ) → bytes_eq (take 3 line) (codes "NE,") ≡ true → text ≡ drop 3 line → line ≡ codes "NE," ++ text
after_start line text same rest =
    sym (take-append-drop 3 line) ∙ ap₂ (λ a b. a ++ b) ((bytes_eq-Decides (take 3 line) (codes "NE,")).0 same) (sym rest)

-- a line, from its entries
line_from : (line text : List ℕ) (entries : List ℚ) → line ≡ codes "NE," ++ text → AreEntries text entries → IsLine line entries
line_from line text entries e h = record {
  parts = slice_split (λ b. b == 44) text;
  is_line = e ∙ ap (λ v. codes "NE," ++ v) (sym (join_with_byte-slice_split 44 text));
  are_fractions = h;
}

-- the entries, from a line that goes on after its start
line_to : (line text : List ℕ) (entries : List ℚ) → line ≡ codes "NE," ++ text → 0 < length text → (parts : List (List ℕ)) → line ≡ codes "NE," ++ join_with_byte 44 parts → AllZip IsFraction parts entries → AreEntries text entries
line_to line text entries e some [] joined h =
    let empty : text ≡ [] = cc in
    absurd (omega (arith, ap length empty))
line_to line text entries e some (part ∷ parts) joined h =
    let same : text ≡ join_with_byte 44 (part ∷ parts) = cc in
    subst (λ ps. AllZip IsFraction ps entries) (sym (ap (slice_split (λ b. b == 44)) same ∙ split_joined part parts entries h)) h

-- what is read of a line that goes on after its start
pub line_gives : (line text : List ℕ) → line ≡ codes "NE," ++ text → 0 < length text → (answer : Result (List ℚ) LineStop) → Gives stops.Memory (entries_in text) answer → Gives stops.Memory (line_in line) answer
line_gives line text e some (Ok entries) h = line_from line text entries e h
line_gives line text e some (Err stops.Bad) (inl h) = inl h
line_gives line text e some (Err stops.Bad) (inr h) = inr (λ entries k. h entries (line_to line text entries e some k.parts k.is_line k.are_fractions))
line_gives line text e some (Err stops.Memory) h = inl refl

-- the line with no entries
pub empty_line : (line text : List ℕ) → line ≡ codes "NE," ++ text → length text ≡ 0 → IsLine line []
empty_line line [] e none = record { parts = []; is_line = e; are_fractions = tt }
empty_line line (b ∷ text) e none = absurd (omega arith)

-- the parts of a line have at most one list of entries
parts_told : (parts : List (List ℕ)) (one other : List ℚ) → AllZip IsFraction parts one → AllZip IsFraction parts other → one ≡ other
parts_told [] [] [] h k = refl
parts_told [] [] (r ∷ other) h k = absurd k
parts_told [] (q ∷ one) other h k = absurd h
parts_told (part ∷ parts) [] other h k = absurd h
parts_told (part ∷ parts) (q ∷ one) [] h k = absurd k
parts_told (part ∷ parts) (q ∷ one) (r ∷ other) h k = ap₂ (λ v vs. v ∷ vs) (one_fraction part q r h.0 k.0) (parts_told parts one other h.1 k.1)

-- a line has at most one list of entries
entries_told : (line : List ℕ) (parts others : List (List ℕ)) (one other : List ℚ) → line ≡ codes "NE," ++ join_with_byte 44 parts → line ≡ codes "NE," ++ join_with_byte 44 others → AllZip IsFraction parts one → AllZip IsFraction others other → one ≡ other
entries_told line [] others [] other e d h k =
    let empty : join_with_byte 44 others ≡ [] = cc in
    nothing_told others other (ap length empty) k
entries_told line [] others (q ∷ one) other e d h k = absurd h
entries_told line (part ∷ parts) [] one other e d h k =
    let empty : join_with_byte 44 (part ∷ parts) ≡ [] = cc in
    absurd (joined_some part parts one h (ap length empty))
entries_told line (part ∷ parts) (next ∷ others) one other e d h k =
    let joined : join_with_byte 44 (part ∷ parts) ≡ join_with_byte 44 (next ∷ others) = cc in
    let same : part ∷ parts ≡ next ∷ others = sym (split_joined part parts one h) ∙ ap (slice_split (λ b. b == 44)) joined ∙ split_joined next others other k in
    parts_told (part ∷ parts) one other h (subst (λ ps. AllZip IsFraction ps other) (sym same) k)

-- a line has at most one answer
pub line_told : (line : List ℕ) → IsSingle (line_in line)
line_told line (Ok one) (Ok other) h k = ap Ok (entries_told line h.parts k.parts one other h.is_line k.is_line h.are_fractions k.are_fractions)
line_told line (Ok one) (Err stops.Bad) h k = absurd (k one h)
line_told line (Ok one) (Err stops.Memory) h k = absurd k
line_told line (Err stops.Bad) (Ok other) h k = absurd (h other k)
line_told line (Err stops.Bad) (Err stops.Bad) h k = refl
line_told line (Err stops.Bad) (Err stops.Memory) h k = absurd k
line_told line (Err stops.Memory) other h k = absurd h
