-- The places of numbers among those of the same owner.
use Rattle.std.specs.Prelude.{ℕ, ◌+◌, ◌≡◌, List, length, slice_get, slice_index, slice_index_or, slice_set, Option, Some, None}
use Rattle.game_theory.specs.OwnSets.{numbers_with}

-- one more number counts as its owner's
abbrev pub counted : List ℕ → Option ℕ → List ℕ
counted counts None = counts
counted counts (Some i) = slice_set counts i (slice_index counts i + 1)

-- each number, from 0 on, has its place among its owner's own numbers
pub record ArePlacesAmong (owners : List (Option ℕ)) (places : List ℕ) : Type 0 where
  pub one_for_each : length places ≡ length owners
  pub are_places : (k i : ℕ) → slice_get owners k ≡ Some (Some i)
      → slice_index places k ≡ length (numbers_with (λ l. slice_index_or owners l None) i k)
