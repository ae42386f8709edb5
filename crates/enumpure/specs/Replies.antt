-- Best replies at pure profiles, by the profiles' numbers.
use Rattle.std.specs.Prelude.{ℕ, ◌+◌, ◌*◌, ◌<◌, ◌≡◌, ◌↔◌, Bool, false, IsTrue, List, length, slice_index, slice_index_or, slice_set}
use Rattle.rational.specs.Rational.{ℚ, ◌≤ℚ◌}
use Rattle.rational.specs.Sum.{entry_at}
use Rattle.game_theory.specs.Profiles.{Game, profile_count, number_of, profile_at, stride}
use Rattle.enumpure.specs.declared.replies.Column.{Column}

-- the number of the profile in which player i plays strategy s, and the others as in the profile
-- with number k
abbrev pub exchanged : List ℕ → ℕ → ℕ → ℕ → ℕ
exchanged ns k i s = number_of ns (slice_set (profile_at ns k) i s)

-- at the profile with number k player i has no strategy with a greater payoff
abbrev pub PlaysBestReply : Game → ℕ → ℕ → Type 0
PlaysBestReply g i k =
    (s : ℕ) → s < slice_index g.strategies i → g.pays i (exchanged g.strategies k i s) ≤ℚ g.pays i k

-- whether best replies are played at a number
abbrev pub plays_best : List Bool → ℕ → Bool
plays_best best_replies k = slice_index_or best_replies k false

-- the greatest of n numbers, which stand the stride apart
pub record IsGreatestInLine (pays : ℕ → ℚ) (first stride n : ℕ) (best : ℚ) : Type 0 where
  pub upper : (s : ℕ) → s < n → pays (first + stride * s) ≤ℚ best
  pub attained : (s : ℕ) × (s < n) × (best ≡ pays (first + stride * s))

-- of the profiles that stand the stride apart only those stay whose payoff reaches the best; what
-- is said of other profiles does not change
pub record KeepsBestInLine (pays : ℕ → ℚ) (first stride n : ℕ) (best : ℚ) (old new : List Bool)
    : Type 0 where
  pub in_line : (s : ℕ) → s < n → IsTrue (plays_best new (first + stride * s))
      ↔ (IsTrue (plays_best old (first + stride * s)) × (best ≤ℚ pays (first + stride * s)))
  pub others : (k : ℕ) → ((s : ℕ) → s < n → k ≡ first + stride * s → ⊥)
      → plays_best new k ≡ plays_best old k

-- the profiles that stay are those at which player i plays a best reply
abbrev pub KeepsBestReplies : Game → ℕ → List Bool → List Bool → Type 0
KeepsBestReplies g i old new =
    (k : ℕ) → k < profile_count g.strategies
    → IsTrue (plays_best new k) ↔ (IsTrue (plays_best old k) × PlaysBestReply g i k)

-- ---- columns
-- the index of profile k in a column
abbrev pub column_index : Column → ℕ → ℕ
column_index column k = column.offset + column.step * k

-- what profile k pays in a column
abbrev pub column_pays : Column → ℕ → ℚ
column_pays column k = entry_at column.numbers.now (column_index column k)

-- profile k is in a column
abbrev pub HasProfile : Column → ℕ → Type 0
HasProfile column k = column_index column k < length column.numbers.now

-- a column has what the profiles of a game pay player i: how many profiles there are, how far those
-- of the player's strategies stand apart, and how many strategies the player has
pub record IsColumnOf (g : Game) (i : ℕ) (column : Column) (profiles apart strategies : ℕ)
    : Type 0 where
  pub player : i < length g.strategies
  pub of_each : profiles ≡ profile_count g.strategies
  pub apart_is : apart ≡ stride g.strategies i
  pub strategies_is : strategies ≡ slice_index g.strategies i
  pub long_enough : (k : ℕ) → k < profiles → HasProfile column k
  pub pays : (k : ℕ) → k < profiles → column_pays column k ≡ g.pays i k

-- ---- all players
-- for each profile whether each player plays a best reply
pub record AreMutualBestReplies (g : Game) (best_replies : List Bool) : Type 0 where
  pub of_each : length best_replies ≡ profile_count g.strategies
  pub all_best : (k : ℕ) → k < profile_count g.strategies → IsTrue (plays_best best_replies k)
      ↔ ((i : ℕ) → i < length g.strategies → PlaysBestReply g i k)
