-- The lexicographic row among the first rows, and the order of two rows' quotients.
use Rattle.std.specs.Prelude.{ℕ, ◌<◌, ◌≡◌, suc, List, [], get_or, Option, MatchOption}
use Rattle.std.specs.declared.cmp.Ordering.{Ordering}
use Rattle.std.specs.declared.cmp.Ordering.TheVariants.{Less, Equal, Greater}
use Rattle.rational.specs.Rational.{ℚ, ◌*ℚ◌, inv_ℚ, zero_ℚ, ◌≤ℚ◌, ◌<ℚ◌}
use Rattle.linear_systems.specs.Tableau.{Tableau}
use Rattle.linear_systems.specs.Lex.{IsLexLess, IsLexPositive}
use Rattle.linear_systems.specs.Rows.{key, HasDistinctVariables, IsLexicographicRow, IsLexicographicRowAmong}
use Rattle.lex_tableau.specs.Rows.{WholeTableau, tableau, tableau_of}

-- the variables of a list, one after the other
abbrev pub variable_at : List ℕ → ℕ → ℕ
variable_at starts q = get_or starts q 0

-- entry p of row i's key, divided by the row's entry in column c
abbrev pub quotient_of : List ℕ → Tableau → ℕ → ℕ → ℕ → ℚ
quotient_of starts t c i p = key (variable_at starts) t i p *ℚ inv_ℚ (t.cell i c)

-- the order of two numbers
abbrev pub Compares : ℚ → ℚ → Ordering → Type 0
Compares a b Less = a <ℚ b
Compares a b Equal = a ≡ b
Compares a b Greater = b <ℚ a

-- the order of two sequences by their first n entries
abbrev pub LexCompares : ℕ → (ℕ → ℚ) → (ℕ → ℚ) → Ordering → Type 0
LexCompares n f g Less = IsLexLess n f g
LexCompares n f g Equal = (p : ℕ) → p < n → f p ≡ g p
LexCompares n f g Greater = IsLexLess n g f

-- the lexicographic row among the first k rows, or none where none of them has a positive entry
abbrev pub IsBest : ℕ → ℕ → List ℕ → Tableau → ℕ → Option ℕ → Type 0
IsBest k m starts t c o =
    MatchOption o ((i : ℕ) → i < k → t.cell i c ≤ℚ zero_ℚ)
    (λ r. IsLexicographicRowAmong k m (variable_at starts) t c r)

-- the rated row that leaves where a column enters: the lexicographic one
abbrev pub IsLeavingRow : WholeTableau → ℕ → ℕ → Type 0
IsLeavingRow n col row =
    IsLexicographicRow n.rated (variable_at n.starts) (tableau n) col row

-- the row that leaves where a column enters, or none where no rated row has a positive entry there
abbrev pub IsRatioRow : WholeTableau → ℕ → Option ℕ → Type 0
IsRatioRow n col o = IsBest n.rated n.rated n.starts (tableau n) col o

-- the keys of the rated rows are lexicographically positive
abbrev pub HasPositiveKeys : WholeTableau → Type 0
HasPositiveKeys n =
    (i : ℕ) → i < n.rated → IsLexPositive (suc n.rated) (key (variable_at n.starts) (tableau n) i)

-- where the row is the one that leaves, keys that are all positive stay so
abbrev pub KeepsPositiveKeys : WholeTableau → ℕ → ℕ → WholeTableau → Type 0
KeepsPositiveKeys n row col new = IsLeavingRow n col row → HasPositiveKeys n → HasPositiveKeys new

-- no variable stands twice among these, whatever the numbers
abbrev pub HasEachOnce : List ℕ → List ℕ → Type 0
HasEachOnce basics nonbasics = HasDistinctVariables (tableau_of basics nonbasics [])
