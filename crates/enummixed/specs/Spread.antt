-- Points over the kept strategies of a player, over all strategies
use Rattle.std.specs.Prelude.{ℕ, ◌<◌, ◌≡◌, ◌≢◌, List, [], length, get_or}
use Rattle.rational.specs.Rational.{ℚ}
use Rattle.extreme_equilibria.specs.KeptTable.{IsSpreadPoint}

-- a point with one entry for each of the kept strategies is spread over n, and another is left out
pub record IsSpreadOrEmpty (n : ℕ) (places : List ℕ) (point wide : List ℚ) : Type 0 where
  pub spread : length point ≡ length places → IsSpreadPoint n places point wide
  pub empty : length point ≢ length places → wide ≡ []

-- each point is spread so, at its place
pub record AreSpreadPoints (n : ℕ) (places : List ℕ) (points wide : List (List ℚ)) : Type 0 where
  pub count : length wide ≡ length points
  pub each : (i : ℕ) → i < length points
      → IsSpreadOrEmpty n places (get_or points i []) (get_or wide i [])
