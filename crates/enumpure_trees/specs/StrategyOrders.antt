-- How a player's strategies are put in order: numbered, and sorted by their completed lists.
use Rattle.std.specs.Prelude.{ℕ, ◌<◌, ◌≡◌, List, [], length, map, slice_index_or}
use Rattle.std.specs.List.{range_with_len}
use Rattle.std.specs.List.Sorted.{IsPermutation}
use Rattle.enumpure_trees.specs.Orders.{completed_of, IsOrder}

-- Lists of one length, which differ also when they are completed.
pub record AreToldApart (strategies : List (List ℕ)) : Type 0 where
  pub long : ℕ
  pub are_long : (d : ℕ) → d < length strategies → length (slice_index_or strategies d []) ≡ long
  pub tell : (d e : ℕ) → d < length strategies → e < length strategies
      → completed_of strategies d ≡ completed_of strategies e → d ≡ e

-- the first strategies, each with its number
abbrev pub first_numbered : List (List ℕ) → ℕ → List (ℕ × List ℕ)
first_numbered strategies n = map (λ d. (d, slice_index_or strategies d [])) (range_with_len 0 n)

-- the order of a player's strategies, with each of their numbers once
pub record IsSortedOrder (strategies : List (List ℕ)) (order : List ℕ) : Type 0 where
  pub is_order : IsOrder strategies order
  pub is_permutation : IsPermutation (range_with_len 0 (length strategies)) order

-- such an order for each player
pub record AreSortedOrders (strategies : List (List (List ℕ))) (orders : List (List ℕ))
    : Type 0 where
  pub one_for_each : length orders ≡ length strategies
  pub are_sorted : (i : ℕ) → i < length strategies
      → IsSortedOrder (slice_index_or strategies i []) (slice_index_or orders i [])
