-- The lines of pairs of places, where each list has its scaled points, and their order
use Rattle.std.specs.Prelude.{ℕ, ◌≡◌, List, [], ◌∷◌, ◌++◌, length, get_or, map, IsPermutation, IsSortedBy}
use Rattle.std.specs.List.{range_with_len}
use Rattle.std.specs.declared.cmp.Ordering.{Ordering}
use Rattle.std.specs.Ordering.{is_lt, nat_cmp}
use Rattle.std.specs.Cmp.Lexicographic.{slice_cmp}
use Rattle.rational.specs.Rational.{ℚ}
use Rattle.rational.specs.Tests.{cmp_ℚ}
use Rattle.game_theory.specs.Lines.{lines_text}

-- the line of a pair
abbrev pub line_of : List (List ℚ) → List (List ℚ) → ℕ × ℕ → List ℚ
line_of firsts seconds p = get_or firsts p.0 [] ++ get_or seconds p.1 []

-- the greater number first
abbrev pub greater_first : ℚ → ℚ → Ordering
greater_first x y = cmp_ℚ y x

-- the points at two places: at the first entry that differs the greater comes first
abbrev pub place_order : List (List ℚ) → ℕ → ℕ → Ordering
place_order points i j = slice_cmp greater_first (get_or points i []) (get_or points j [])

-- the places of all points, in the order of these
pub record ArePlacesInOrder (points : List (List ℚ)) (places : List ℕ) : Type 0 where
  pub permutation : IsPermutation (range_with_len 0 (length points)) places
  pub sorted : IsSortedBy (λ i j. is_lt (place_order points i j)) places

-- ranks are in the order of their points; a place without a point has the rank 0
abbrev pub AreRanks : List (List ℚ) → List ℕ → Type 0
AreRanks points ranks =
    (i j : ℕ) → nat_cmp (get_or ranks i 0) (get_or ranks j 0) ≡ place_order points i j

-- the two points of a pair
abbrev pub points_of : List (List ℚ) → List (List ℚ) → ℕ × ℕ → List (List ℚ)
points_of firsts seconds p = get_or firsts p.0 [] ∷ get_or seconds p.1 [] ∷ []

-- the first points decide, and then the second ones: at the first entry that differs the greater
-- comes first
abbrev pub pair_order : List (List ℚ) → List (List ℚ) → ℕ × ℕ → ℕ × ℕ → Ordering
pair_order firsts seconds p q =
    slice_cmp (slice_cmp greater_first) (points_of firsts seconds p) (points_of firsts seconds q)

-- the lines of pairs in the order of their points, each with the entries of the wide points at its
-- places
pub record IsTextInOrder (pairs : List (ℕ × ℕ)) (firsts seconds wide wide' : List (List ℚ))
    (text : List ℕ) : Type 0 where
  pub sorted : List (ℕ × ℕ)
  pub permutation : IsPermutation pairs sorted
  pub in_order : IsSortedBy (λ p q. is_lt (pair_order firsts seconds p q)) sorted
  pub is_text : text ≡ lines_text (map (line_of wide wide') sorted)
