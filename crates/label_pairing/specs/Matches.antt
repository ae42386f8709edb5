-- Which masks of a list complete a mask. The list is given by the low and the high words of its
-- masks.
use Rattle.std.specs.Prelude.{ℕ, ◌<◌, ◌≡◌, ◌+◌, ◌*◌, ◌/◌, ◌&&◌, Bool, false, List, length, map, get_or, count_by, nat_eq, bit_or}
use Rattle.std.specs.List.{filter, range_with_len}
use Rattle.linear_systems.specs.Vertices.{MarkedPoint}

-- a mask's two words together with two further words have exactly the bits of all
abbrev pub completes : List ℕ → List ℕ → ℕ → ℕ → Bool
completes mask all low high =
    nat_eq (bit_or (get_or mask 0 0) low) (get_or all 0 0)
    && nat_eq (bit_or (get_or mask 1 0) high) (get_or all 1 0)

-- it is told for each place whether the words there complete the mask
pub record AreMatches (mask all low high : List ℕ) (found : List Bool) : Type 0 where
  pub so_many : length found ≡ length low
  pub are_matches : (i : ℕ) (d : Bool) → i < length low
      → get_or found i d ≡ completes mask all (get_or low i 0) (get_or high i 0)

-- how many masks complete a mask
abbrev pub partner_count : List ℕ → List ℕ → List ℕ → List ℕ → ℕ
partner_count mask all low high =
    count_by (λ i. completes mask all (get_or low i 0) (get_or high i 0))
    (range_with_len 0 (length low))

-- a word has all bits of another
abbrev pub HasBitsOf : ℕ → ℕ → Type 0
HasBitsOf word other = bit_or word other ≡ word

-- for each block of eight words one with all their bits
pub record AreUnions (words unions : List ℕ) : Type 0 where
  pub so_many : length unions ≡ length words / 8
  pub have : (block i : ℕ) → block < length words / 8 → i < 8
      → HasBitsOf (get_or unions block 0) (get_or words (8 * block + i) 0)

-- these are the words of the marks
pub record AreWords (marks : List MarkedPoint) (low high : List ℕ) : Type 0 where
  pub lows : low ≡ map (λ mark. mark.low) marks
  pub highs : high ≡ map (λ mark. mark.high) marks

-- place i with each place that is found
abbrev pub flagged_pairs : ℕ → List Bool → List (ℕ × ℕ)
flagged_pairs i found =
    filter (λ p. get_or found p.1 false) (map (λ j. (i, j)) (range_with_len 0 (length found)))

-- place i with each place whose mask completes the mask
abbrev pub partner_pairs : ℕ → List ℕ → List ℕ → List ℕ → List ℕ → List (ℕ × ℕ)
partner_pairs i mask all low high =
    filter (λ p. completes mask all (get_or low p.1 0) (get_or high p.1 0))
    (map (λ j. (i, j)) (range_with_len 0 (length low)))
