-- The game that is left when strategies are removed.
use Rattle.std.specs.Prelude.{ℕ, ◌<◌, ◌≡◌, List, [], length, map, slice_index, slice_index_or, Contains}
use Rattle.rational.specs.Rational.{ℚ, zero_ℚ}
use Rattle.rational.specs.Sum.{entry_at}
use Rattle.game_theory.specs.Profiles.{Game, profile_count, number_of, profile_at, strategies_at}
use Rattle.game_theory.specs.Mixed.{Mixed}
use Rattle.extreme_equilibria.specs.Elimination.{IsKept, AreKept}

-- both players' kept strategies
pub record AreKeptLists (g : Game) (kept : List (List ℕ)) : Type 0 where
  pub one_for_each : length kept ≡ length g.strategies
  pub are_kept : (i : ℕ) → i < length kept → AreKept g i (slice_index_or kept i [])

-- the game over the kept strategies: each profile pays what it pays in the game
abbrev pub kept_table : Game → List (List ℕ) → Game
kept_table g kept = record {
  strategies = map length kept;
  pays = λ i k.
      g.pays i (number_of g.strategies (strategies_at kept (profile_at (map length kept) k)));
}

-- the probabilities of the kept strategies
abbrev pub at_kept : List (List ℕ) → Mixed → Mixed
at_kept kept m i place = m i (slice_index (slice_index_or kept i []) place)

-- the removed strategies have probability 0
abbrev pub IsZeroAtRemoved : Game → Mixed → Type 0
IsZeroAtRemoved g m =
    (i s : ℕ) → i < length g.strategies → s < slice_index g.strategies i → ¬ IsKept g i s
    → m i s ≡ zero_ℚ

-- the entries of a point at a player's kept strategies among n, and 0 at the others
pub record IsSpreadPoint (n : ℕ) (places : List ℕ) (point wide : List ℚ) : Type 0 where
  pub size : length wide ≡ n
  pub at_places : (k : ℕ) → k < length places
      → entry_at wide (slice_index places k) ≡ entry_at point k
  pub elsewhere : (s : ℕ) → (Contains places s → ⊥) → entry_at wide s ≡ zero_ℚ

-- two games with the same numbers of strategies and the same payoffs at each profile
pub record HaveSameCells (g h : Game) : Type 0 where
  pub strategies : g.strategies ≡ h.strategies
  pub cells : (i k : ℕ) → i < length g.strategies → k < profile_count g.strategies
      → g.pays i k ≡ h.pays i k
