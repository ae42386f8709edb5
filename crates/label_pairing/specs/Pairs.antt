-- The pairs of marked points that together have all labels: each variable is 0 at one of the two
-- (von Stengel 2002)
use Rattle.std.specs.Prelude.{ℕ, Bool, List, [], ◌∷◌, length, get_or}
use Rattle.std.specs.List.{filter, range_with_len}
use Rattle.lists.specs.Products.{cartesian_product}
use Rattle.linear_systems.specs.Vertices.{MarkedPoint}
use Rattle.label_pairing.specs.Matches.{completes}

-- the masks of two marks together have exactly the bits of all
abbrev pub are_together : List ℕ → MarkedPoint → MarkedPoint → Bool
are_together all one two = completes (one.low ∷ one.high ∷ []) all two.low two.high

-- the mark at a place
abbrev pub mark_at : List MarkedPoint → ℕ → MarkedPoint
mark_at marks i = get_or marks i (record { low = 0; high = 0; point = [] })

-- all places in two lists with so many elements, in ascending order
abbrev pub places : ℕ → ℕ → List (ℕ × ℕ)
places m n = cartesian_product (range_with_len 0 m) (range_with_len 0 n)

-- the places at which the two marks together have all bits, in ascending order
abbrev pub all_pairs : List ℕ → List MarkedPoint → List MarkedPoint → List (ℕ × ℕ)
all_pairs all first second =
    filter (λ p. are_together all (mark_at first p.0) (mark_at second p.1))
    (places (length first) (length second))

-- the most pairs
abbrev pub most_pairs : ℕ
most_pairs = 1048576
