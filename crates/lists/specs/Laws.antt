-- What is proved of the order of lists.
use Rattle.std.specs.Prelude.{ℕ, ◌≡◌, List, Contains}
use Rattle.lists.specs.Orders.{ComesBefore, AreAscending}

-- the order is strict, and two lists in order with the same members are equal
pub record ListsAreOrdered : Type 0 where
  pub irreflexive : (x : List ℕ) → ComesBefore x x → ⊥
  pub transitive : (x y z : List ℕ) → ComesBefore x y → ComesBefore y z → ComesBefore x z
  pub determined : (xs ys : List (List ℕ)) → AreAscending xs → AreAscending ys
      → ((z : List ℕ) → Contains xs z → Contains ys z)
      → ((z : List ℕ) → Contains ys z → Contains xs z) → xs ≡ ys
