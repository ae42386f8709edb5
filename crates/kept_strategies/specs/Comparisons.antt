-- What is known of pairs of a player's strategies while strictly dominated ones are looked for, in
-- a game of two players. Strategies count from 0.
use Rattle.std.specs.Prelude.{ℕ, ◌+◌, ◌*◌, ◌<◌, ◌≡◌, List, length, slice_index, Contains}
use Rattle.rational.specs.Rational.{◌<ℚ◌}
use Rattle.game_theory.specs.Profiles.{Game}
use Rattle.extreme_equilibria.specs.TwoPlayers.{pays_against}

-- player i gets more for strategy r than for s against strategy t of the other player
abbrev pub IsAheadAt : Game → ℕ → ℕ → ℕ → ℕ → Type 0
IsAheadAt g i s r t = pays_against g i s t <ℚ pays_against g i r t

-- and against each of these that comes before one
abbrev pub IsAheadBefore : Game → ℕ → List ℕ → ℕ → ℕ → ℕ → Type 0
IsAheadBefore g i others s r first = (t : ℕ) → Contains others t → t < first → IsAheadAt g i s r t

-- the first of these against which r pays no more
pub record IsFirstNotAhead (g : Game) (i : ℕ) (others : List ℕ) (s r first : ℕ) : Type 0 where
  pub is_other : Contains others first
  pub not_ahead : ¬ IsAheadAt g i s r first
  pub ahead_before : IsAheadBefore g i others s r first

-- For each pair of player i's strategies, row by row: the second pays more than the first against
-- each of these before the number that is kept for the pair.
pub record AreAhead (g : Game) (i : ℕ) (others firsts : List ℕ) : Type 0 where
  pub each_pair : length firsts ≡ slice_index g.strategies i * slice_index g.strategies i
  pub ahead : (s r : ℕ) → s < slice_index g.strategies i → r < slice_index g.strategies i
      → IsAheadBefore g i others s r
      (slice_index firsts (s * slice_index g.strategies i + r))
