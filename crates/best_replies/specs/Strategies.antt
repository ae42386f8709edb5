-- What each strategy pays against the others, on a game in strategic form. Source: Nash 1951.
use Rattle.std.specs.Prelude.{ℕ, ◌<◌, ◌==◌, if◌then◌else◌, true, false, List, slice_index}
use Rattle.rational.specs.Rational.{ℚ, ◌*ℚ◌, ◌<ℚ◌, zero_ℚ, one_ℚ}
use Rattle.rational.specs.Sum.{sum_to}
use Rattle.game_theory.specs.Profiles.{Game, profile_count, profile_at}
use Rattle.game_theory.specs.Mixed.{Mixed, probability, payoff, reply}
use Rattle.best_replies.specs.Greatest.{IsFirstGreatest}

-- a mixed profile in which player i's own strategies count 1
abbrev pub own_as_one : Mixed → ℕ → Mixed
own_as_one m i j s = if j == i then one_ℚ else m j s

-- the weight of a pure profile for player i: the product of the others' probabilities
abbrev pub weight : Mixed → ℕ → List ℕ → ℚ
weight m i profile = probability (own_as_one m i) profile

-- what strategy s of player i is worth at the first n profiles: the sum, over those in which it is
-- played, of weight times payoff
abbrev pub value_below : Game → Mixed → ℕ → ℕ → ℕ → ℚ
value_below g m i s n =
    sum_to n (λ k.
    elim (slice_index (profile_at g.strategies k) i == s) [
      | true ↦ weight m i (profile_at g.strategies k) *ℚ g.pays i k
      | false ↦ zero_ℚ
    ])

-- what strategy s of player i is worth: that at all profiles
abbrev pub strategy_value : Game → Mixed → ℕ → ℕ → ℚ
strategy_value g m i s = value_below g m i s (profile_count g.strategies)

-- the first strategy of player i that is worth most
abbrev pub IsBestStrategy : Game → Mixed → ℕ → ℕ → Type 0
IsBestStrategy g m i s = IsFirstGreatest (slice_index g.strategies i) (strategy_value g m i) s

-- a strategy of player i such that the reply with it pays more than the profile
pub record HasBetterStrategy (g : Game) (m : Mixed) (i : ℕ) : Type 0 where
  pub strategy : ℕ
  pub within : strategy < slice_index g.strategies i
  pub pays_more : payoff g m i <ℚ payoff g (reply m i strategy) i
