-- Lines that are read back: a line feed is no part of them.
use Rattle.std.specs.Prelude.{ℕ, ◌-◌, ◌≤◌, ◌≤ℤ◌, ◌^◌, ◌≡◌, ◌≢◌, ◌⊎◌, ◌==◌, pos, List, [], ◌∷◌, ◌++◌, length, codes, Ok, Err}
use Rattle.std.specs.List.{All, AllZip, join_with_byte, slice_split}
use Rattle.std.specs.Str.Parse.{IsNumeral, digits_value}
use Rattle.answers.specs.Answers.{Answer, IsSingle}
use Rattle.rational.specs.Rational.{ℚ, frac, whole}
use Rattle.game_theory.specs.Lines.{line_text}
use Rattle.frac128.specs.Fraction.{Fits}
use Rattle.ne_printer.specs.declared.reading.LineStop.{LineStop}
use Rattle.ne_printer.specs.declared.reading.LineStop.TheVariants as stops

-- 1 to 39 digits
pub record IsShortNumeral (text : List ℕ) : Type 0 where
  pub is_numeral : IsNumeral 10 text
  pub short : length text ≤ 39

-- a number: 1 to 39 digits, and not above 2^127 - 1
pub record IsWholeNumber (text : List ℕ) (n : ℕ) : Type 0 where
  pub numeral : IsShortNumeral text
  pub value : n ≡ digits_value 10 text
  pub few : n ≤ 2 ^ 127 - 1

-- two numbers with `/` between them, the second not 0
pub record IsQuotient (text : List ℕ) (q : ℚ) : Type 0 where
  pub top : List ℕ
  pub bottom : List ℕ
  pub num : ℕ
  pub den : ℕ
  pub text_is : text ≡ top ++ 47 ∷ bottom
  pub top_is : IsWholeNumber top num
  pub bottom_is : IsWholeNumber bottom den
  pub not_zero : den ≢ 0
  pub value : q ≡ frac (pos num) den

-- a fraction: a number, or two with `/` between them
abbrev pub IsFraction : List ℕ → ℚ → Type 0
IsFraction text q = ((n : ℕ) × IsWholeNumber text n × (q ≡ whole (pos n))) ⊎ IsQuotient text q

-- fractions with single commas between them
abbrev pub AreEntries : List ℕ → List ℚ → Type 0
AreEntries text entries = AllZip IsFraction (slice_split (λ b. b == 44) text) entries

-- what is read from fractions with single commas between them
abbrev pub entries_in : List ℕ → Answer LineStop (List ℚ)
entries_in text (Ok entries) = AreEntries text entries
entries_in text (Err stops.Bad) = (entries : List ℚ) → AreEntries text entries → ⊥
entries_in text (Err stops.Memory) = ⊥

-- a line: `NE,`, and fractions with single commas between them
pub record IsLine (line : List ℕ) (entries : List ℚ) : Type 0 where
  pub parts : List (List ℕ)
  pub is_line : line ≡ codes "NE," ++ join_with_byte 44 parts
  pub are_fractions : AllZip IsFraction parts entries

-- what is read from a line
abbrev pub line_in : List ℕ → Answer LineStop (List ℚ)
line_in line (Ok entries) = IsLine line entries
line_in line (Err stops.Bad) = (entries : List ℚ) → IsLine line entries → ⊥
line_in line (Err stops.Memory) = ⊥

-- a number that a line tells: not negative, and one that a fraction holds
pub record IsEntry (q : ℚ) : Type 0 where
  pub not_negative : pos 0 ≤ℤ q.num
  pub fits : Fits q

-- A line has at most one answer: its entries, or that it has none.
abbrev pub LinesAreSingle : Type 0
LinesAreSingle = (line : List ℕ) → IsSingle (line_in line)

-- The line of entries, without its line feed, is read as they are.
abbrev pub LinesReadBack : Type 0
LinesReadBack =
    (entries : List ℚ) → All IsEntry entries
    → (line : List ℕ) → line ++ 10 ∷ [] ≡ line_text entries → IsLine line entries
