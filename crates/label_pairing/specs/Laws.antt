-- The laws of pairs, as statements. Each is proved by a function of src/lib.rt.
use Rattle.std.specs.Prelude.{ℕ, ◌<◌, ◌≡◌, ◌⊎◌, ◌↔◌, List, [], ◌∷◌, Contains, length, true}
use Rattle.std.specs.List.{AllPairs}
use Rattle.answers.specs.Answers.{IsSingle}
use Rattle.linear_systems.specs.Vertices.{MarkedPoint}
use Rattle.extreme_equilibria.specs.PairLines.{low_labels, high_labels, HaveAllLabels}
use Rattle.label_pairing.specs.Pairs.{mark_at, are_together, all_pairs}
use Rattle.label_pairing.specs.Stops.{pairs_in}

-- these are places of the two lists, and the marks there together have all n labels
pub record IsPair (n : ℕ) (first second : List MarkedPoint) (i j : ℕ) : Type 0 where
  pub in_first : i < length first
  pub in_second : j < length second
  pub labels : HaveAllLabels n (mark_at first i) (mark_at second j)

-- All pairs of n labels are exactly the pairs, and those of any bits the places that pass the test,
-- in ascending order: so none stands twice.
pub record PairsAreExactlyThose : Type 0 where
  pub exactly : (n : ℕ) (first second : List MarkedPoint) (i j : ℕ)
      → Contains (all_pairs (low_labels n ∷ high_labels n ∷ []) first second) (i, j)
      ↔ IsPair n first second i j
  pub passing : (all : List ℕ) (first second : List MarkedPoint) (i j : ℕ)
      → Contains (all_pairs all first second) (i, j)
      ↔ ((i < length first) × (j < length second)
      × (are_together all (mark_at first i) (mark_at second j) ≡ true))
  pub ascending : (all : List ℕ) (first second : List MarkedPoint)
      → AllPairs (λ p q. (p.0 < q.0) ⊎ ((p.0 ≡ q.0) × (p.1 < q.1)))
      (all_pairs all first second)

-- Two lists have at most one answer: a list of pairs, or too many.
abbrev pub PairsAreSingle : Type 0
PairsAreSingle =
    (all : List ℕ) (first second : List MarkedPoint) → IsSingle (pairs_in all first second)
