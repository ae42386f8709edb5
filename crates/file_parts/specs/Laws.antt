-- That the reading functions read exactly what the productions derive. `sound`: what is read stands
-- there. `complete`: what stands there is read, whatever follows.
use Rattle.std.specs.Prelude.{ℕ, ◌≤◌, ◌≡◌, List, ◌∷◌, ◌++◌, length, Ok, Some}
use Rattle.rational.specs.Rational.{ℚ}
use Rattle.game_core.specs.declared.token.Token.{Token}
use Rattle.game_core.specs.declared.token.Token.TheVariants.{Text}
use Rattle.file_parts.specs.Parts.{whole_number, IsHeader, braced_texts, AreNumbers}
use Rattle.file_parts.specs.Reading.{whole_at}
use Rattle.file_parts.specs.Parsing.{parse_names, parse_payoffs, parse_title}

-- a whole number is read where one stands
pub record WholeNumbersAreRead : Type 0 where
  pub sound : (n : ℕ) (tokens rest : List Token)
      → whole_at tokens ≡ Some (n, rest) → tokens ≡ whole_number n ∷ rest
  pub complete : (n : ℕ) (rest : List Token) → whole_at (whole_number n ∷ rest) ≡ Some (n, rest)

-- names are read where one or more texts stand in braces
pub record NamesAreRead (K : Type 0) : Type 0 where
  pub sound : (kind : K) (tokens rest : List Token) (names : List (List ℕ))
      → parse_names kind tokens ≡ Ok (names, rest)
      → (1 ≤ length names) × (tokens ≡ braced_texts names ++ rest)
  pub complete : (kind : K) (rest : List Token) (names : List (List ℕ))
      → 1 ≤ length names → parse_names kind (braced_texts names ++ rest) ≡ Ok (names, rest)

-- so many payoffs are read where so many numbers stand
pub record PayoffsAreRead (K : Type 0) : Type 0 where
  pub sound : (kind : K) (n : ℕ) (tokens rest : List Token) (payoffs : List ℚ)
      → parse_payoffs kind n tokens ≡ Ok (payoffs, rest)
      → (front : List Token) × AreNumbers front payoffs × (length payoffs ≡ n)
      × (tokens ≡ front ++ rest)
  pub complete : (kind : K) (front rest : List Token) (payoffs : List ℚ)
      → AreNumbers front payoffs
      → parse_payoffs kind (length payoffs) (front ++ rest) ≡ Ok (payoffs, rest)

-- a title is read where one stands after the header of its format
pub record TitlesAreRead (K : Type 0) : Type 0 where
  pub sound : (kind : K) (word : List ℕ) (version : ℕ) (tokens rest : List Token) (title : List ℕ)
      → parse_title kind word version tokens ≡ Ok (title, rest)
      → (header : List Token) × IsHeader word version header
      × (tokens ≡ header ++ Text title ∷ rest)
  pub complete : (kind : K) (word : List ℕ) (version : ℕ) (header rest : List Token)
      (title : List ℕ) → IsHeader word version header
      → parse_title kind word version (header ++ Text title ∷ rest) ≡ Ok (title, rest)
