-- The text of a fraction is that fraction.
use Rattle.std.proofs.Common.{ℕ, ℤ, pos, negsuc, nat_abs, ◌≤ℤ◌, refl, sym, ap, subst, ◌∙◌, ◌^◌, ◌≡◌, ◌==◌, ◌<◌, if◌then◌else◌, codes, List, [], ◌∷◌, ◌++◌, map, All, inl, inr, ⊎_elim, arith, ne_eqb, append_assoc}
use Rattle.std.specs.Fmt.{decimal, signed_decimal}
use Rattle.std.specs.List.{AllZip, join_with_byte}
use Rattle.std.proofs.lemmas.Bool.{cases_lt}
use Rattle.std.proofs.lemmas.Fmt.{decimal_is_IsNumeral_wide, length-decimal-le_wide}
use Rattle.std.proofs.lemmas.Int.{ints}
use Rattle.std.proofs.lemmas.List.{append-nil, append_cancel_right}
use Rattle.std.proofs.lemmas.List.Elements.{All-head, All-tail}
use Rattle.rational.specs.Rational.{ℚ, frac, whole}
use Rattle.rational.proofs.DenominatorLemmas.{den_pos}
use Rattle.rational.proofs.FractionLemmas.{frac_self}
use Rattle.rational.proofs.PartLemmas.{whole-own_num}
use Rattle.game_theory.specs.Lines.{line_text}
use Rattle.rational.specs.Text.{number_text}
use Rattle.ne_printer.specs.ReadLines.{IsWholeNumber, IsFraction, IsEntry, IsLine}

-- the decimal of a number is that number
decimal_number : (n : ℕ) → n < 2 ^ 127 → IsWholeNumber (decimal n) n
decimal_number n few =
    let digits = decimal_is_IsNumeral_wide n (omega arith) in
    record {
      numeral = record { is_numeral = digits.0; short = length-decimal-le_wide 39 n (omega arith) (omega arith) (omega arith) };
      value = sym digits.1;
      few = omega arith;
    }

-- an entry's text, by its numerator
text_is : (q : ℚ) (n : ℕ) → q.num ≡ pos n → number_text q ≡ decimal n ++ (if q.den == 1 then [] else codes "/" ++ decimal q.den)
text_is q n e = ap (λ z. signed_decimal z ++ (if q.den == 1 then [] else codes "/" ++ decimal q.den)) e

-- the text of an entry is that fraction
text_reads : (q : ℚ) (n : ℕ) → q.num ≡ pos n → n < 2 ^ 127 → q.den < 2 ^ 127 → IsFraction (number_text q) q
text_reads q n e num den =
    ⊎_elim
    (λ more. let tail = ap (λ t. decimal n ++ (if t then [] else codes "/" ++ decimal q.den)) (ne_eqb q.den 1 (λ one. omega arith)) in
    inr (record {
      top = decimal n;
      bottom = decimal q.den;
      num = n;
      den = q.den;
      text_is = text_is q n e ∙ tail;
      top_is = decimal_number n num;
      bottom_is = decimal_number q.den den;
      not_zero = λ zero. omega arith;
      value = sym (frac_self q) ∙ ap (λ z. frac z q.den) e;
    }))
    (λ few. let one : q.den ≡ 1 = omega (arith, den_pos q) in
    let tail = ap (λ d. decimal n ++ (if d == 1 then [] else codes "/" ++ decimal d)) one ∙ append-nil (decimal n) in
    let same : number_text q ≡ decimal n = text_is q n e ∙ tail in
    inl (n, subst (λ t. IsWholeNumber t n) (sym same) (decimal_number n num), sym (whole-own_num q one) ∙ ap whole e))
    (cases_lt 1 q.den)

-- a number that is not negative
positive : (z : ℤ) → pos 0 ≤ℤ z → z ≡ pos (nat_abs z)
positive (pos n) h = refl
positive (negsuc n) h = absurd (omega (arith, ints))

-- the text of an entry is that entry
entry_reads : (q : ℚ) → IsEntry q → IsFraction (number_text q) q
entry_reads q h = text_reads q (nat_abs q.num) (positive q.num h.not_negative) h.fits.num h.fits.den

-- the texts of entries are those entries
entries_read : (entries : List ℚ) → All IsEntry entries → AllZip IsFraction (map number_text entries) entries
entries_read [] h = tt
entries_read (q ∷ entries) h = (entry_reads q (All-head IsEntry q entries h), entries_read entries (All-tail IsEntry q entries h))

-- a line without its line feed
pub line_reads : (entries : List ℚ) → All IsEntry entries → (line : List ℕ) → line ++ 10 ∷ [] ≡ line_text entries → IsLine line entries
line_reads entries h line e = record {
  parts = map number_text entries;
  is_line = append_cancel_right line (codes "NE," ++ join_with_byte 44 (map number_text entries)) (10 ∷ []) (e ∙ sym (append_assoc (codes "NE,") (join_with_byte 44 (map number_text entries)) (10 ∷ [])));
  are_fractions = entries_read entries h;
}
