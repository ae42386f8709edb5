-- Games of two players in which strictly dominated strategies are removed, round by round. Source:
-- Gale, Kuhn and Tucker 1950; Luce and Raiffa 1957.
use Rattle.std.specs.Prelude.{ℕ, zero, suc, ◌<◌, List, slice_index}
use Rattle.lists.specs.Listed.{AreListed}
use Rattle.rational.specs.Rational.{◌<ℚ◌}
use Rattle.game_theory.specs.Profiles.{Game}
use Rattle.extreme_equilibria.specs.TwoPlayers.{other, pays_against}

-- Among these own strategies of player i and these of the other, strategy s is strictly dominated:
-- an own one pays more against each of the others.
pub record IsDominated (g : Game) (i : ℕ) (own others : ℕ → Type 0) (s : ℕ) : Type 0 where
  pub by : ℕ
  pub is_own : own by
  pub pays_more : (t : ℕ) → others t → pays_against g i s t <ℚ pays_against g i by t

-- The strategies of player i that are kept after n rounds: at first all, and in each round those
-- that are not strictly dominated among the kept ones. Both players' removals of a round are found
-- before any is made.
abbrev pub IsKeptAfter : Game → ℕ → ℕ → ℕ → Type 0
IsKeptAfter g zero i s = s < slice_index g.strategies i
IsKeptAfter g (suc n) i s =
    IsKeptAfter g n i s × ¬ IsDominated g i (IsKeptAfter g n i) (IsKeptAfter g n (other i)) s

-- a strategy that no round removes
abbrev pub IsKept : Game → ℕ → ℕ → Type 0
IsKept g i s = (n : ℕ) → IsKeptAfter g n i s

-- the strategies of player i that are kept after n rounds, in order
abbrev pub AreKeptAfter : Game → ℕ → ℕ → List ℕ → Type 0
AreKeptAfter g n i strategies = AreListed (IsKeptAfter g n i) strategies

-- the kept strategies of player i, in order
abbrev pub AreKept : Game → ℕ → List ℕ → Type 0
AreKept g i strategies = AreListed (IsKept g i) strategies
