-- The text of a line, as it grows entry by entry.
use Rattle.std.proofs.Common.{ℕ, ◌+◌, ◌≡◌, pos, ℤ, nat_abs, to_z, of_z, FitsSigned, ◌≤ℤ◌, List, [], ◌∷◌, ◌++◌, map, codes, ap, ap₂, ◌∙◌, append_assoc, arith, ◌==◌, if◌then◌else◌}
use Rattle.std.specs.Int.{w128}
use Rattle.std.proofs.lemmas.Int.{ints}
use Rattle.std.specs.List.{join_with_byte}
use Rattle.std.specs.Fmt.{decimal, signed_decimal}
use Rattle.std.proofs.lemmas.Fmt.{decimal_digit}
use Rattle.std.proofs.lemmas.List.{append-nil}
use Rattle.rational.specs.Rational.{ℚ}
use Rattle.game_theory.specs.Lines.{line_text}
use Rattle.rational.specs.Text.{number_text}
use Rattle.ne_printer.specs.Entries.{entries_text, line_start, BeginsWith}

-- the text of a whole number from 0 to 9, by its numerator as it is cast
pub number_text_cast : (q : ℚ) (z : ℤ) → z ≡ q.num → FitsSigned w128 z → pos 0 ≤ℤ z → z ≤ℤ pos 9 → q.den ≡ 1 → number_text q ≡ (48 + nat_abs (to_z w128 (of_z w128 z))) ∷ []
number_text_cast q z e fits low high den =
    let n : ℕ = nat_abs (to_z w128 (of_z w128 z)) in
    let num : q.num ≡ pos n = omega (arith, ints) in
    ap₂ (λ v w. signed_decimal v ++ (if w == 1 then [] else codes "/" ++ decimal w)) num den ∙ append-nil (decimal n) ∙ decimal_digit n (omega (arith, ints))

-- commas before all entries, and commas between them
commas : (q : ℚ) (qs : List ℚ) → entries_text (q ∷ qs) ≡ 44 ∷ join_with_byte 44 (map number_text (q ∷ qs))
commas q [] = ap (λ v. 44 ∷ v) (append-nil (number_text q))
commas q (r ∷ qs) = ap (λ v. 44 ∷ number_text q ++ v) (commas r qs)

-- the text with a line, from its parts
pub line_text-joined : (old : List ℕ) (qs : List ℚ) → ((old ++ line_start qs) ++ entries_text qs) ++ 10 ∷ [] ≡ old ++ line_text qs
line_text-joined old [] = simp append_assoc
line_text-joined old (q ∷ qs) = ap (λ v. ((old ++ codes "NE") ++ v) ++ 10 ∷ []) (commas q qs) ∙ simp append_assoc

-- one that goes on where another does
pub begins_on : (old text new : List ℕ) → BeginsWith old text → BeginsWith text new → BeginsWith old new
begins_on old text new h k = (h.0 ++ k.0, k.1 ∙ ap (λ v. v ++ k.0) h.1 ∙ append_assoc old h.0 k.0)
