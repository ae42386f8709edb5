-- A player's strategies in the order of their lines.
use Rattle.std.specs.Prelude.{ℕ, ◌-◌, ◌<◌, ◌≡◌, List, [], length, map, slice_index, slice_index_or, slice_get, All, Contains, Some}
use Rattle.lists.specs.Orders.{ComesBefore}

-- the actions of a strategy, counted from 0, with the first action where it has none
abbrev pub completed_list : List ℕ → List ℕ
completed_list choices = map (λ c. c - 1) choices

-- the completed list of the strategy with a number
abbrev pub completed_of : List (List ℕ) → ℕ → List ℕ
completed_of strategies number = completed_list (slice_index_or strategies number [])

-- the numbers of a player's strategies, each once, with ascending completed lists
pub record IsOrder (strategies : List (List ℕ)) (order : List ℕ) : Type 0 where
  pub one_for_each : length order ≡ length strategies
  pub are_numbers : All (λ number. number < length strategies) order
  pub all : (number : ℕ) → number < length strategies → Contains order number
  pub ascending : (d e : ℕ) → d < e → e < length order
      → ComesBefore (completed_of strategies (slice_index order d))
      (completed_of strategies (slice_index order e))

-- an order for each player
pub record AreOrders (strategies : List (List (List ℕ))) (orders : List (List ℕ)) : Type 0 where
  pub one_for_each : length orders ≡ length strategies
  pub are_orders : (i : ℕ) (order : List ℕ) → slice_get orders i ≡ Some order
      → IsOrder (slice_index_or strategies i []) order
