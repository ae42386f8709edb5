-- Whether a mixed profile of a table is an equilibrium, and the steps of arithmetic in which that
-- is tested. Source: Nash 1951.
use Rattle.std.specs.Prelude.{ℕ, ◌<◌, ◌≡◌, ◌==◌, not, if◌then◌else◌, List, [], ◌∷◌, ◌++◌, length, map, slice_index, All, Option, Some, None}
use Rattle.std.specs.List.{filter, flat_map, range_with_len}
use Rattle.rational.specs.Rational.{ℚ, ◌*ℚ◌, ◌≤ℚ◌, ◌<ℚ◌, zero_ℚ, one_ℚ}
use Rattle.rational.specs.Sum.{sum_to}
use Rattle.rational.specs.Tests.{eq_ℚ}
use Rattle.frac128.specs.Steps.{added_product_steps, step_of, Step, StepFits, IsFirstUnfit}
use Rattle.frac128.specs.declared.steps.Op.TheVariants.{Mul}
use Rattle.game_theory.specs.Profiles.{Game, profile_count, profile_at}
use Rattle.game_theory.specs.Mixed.{Mixed, payoff as payoff_of}
use Rattle.game_theory.specs.Lines.{entries}
use Rattle.game_core.specs.Table.{GameTable, game_of, strategy_counts}
use Rattle.best_replies.specs.Strategies.{weight, value_below, strategy_value, IsBestStrategy}
use Rattle.verdicts.specs.declared.tables.BetterReply.{BetterReply}
use Rattle.verdicts.specs.declared.tables.TableVerdict.{TableVerdict}
use Rattle.verdicts.specs.declared.tables.TableVerdict.TheVariants.{Equilibrium, Better, Range}

-- ---- steps
-- a number is multiplied by each factor in order
abbrev pub product_steps : ℚ → List ℚ → List Step
product_steps p [] = []
product_steps p (q ∷ qs) = step_of Mul p q ∷ product_steps (p *ℚ q) qs

-- the product of a weight and a number is added to a sum, where the weight is not 0
abbrev pub weighed_steps : ℚ → ℚ → ℚ → List Step
weighed_steps w number sum =
    if eq_ℚ w zero_ℚ then [] else added_product_steps sum w number

-- the probabilities with which the players other than i play a profile, in order
abbrev pub others_probabilities : Mixed → ℕ → List ℕ → List ℚ
others_probabilities m i profile =
    map (λ j. m j (slice_index profile j))
    (filter (λ j. not (j == i)) (range_with_len 0 (length profile)))

-- those are multiplied, from 1 on
abbrev pub table_weight_steps : Mixed → ℕ → List ℕ → List Step
table_weight_steps m i profile = product_steps one_ℚ (others_probabilities m i profile)

-- the steps at profile k: those of its weight, and its payoff counts with that weight
abbrev pub profile_steps : Game → Mixed → ℕ → ℕ → ℕ → List Step
profile_steps g m i s k =
    table_weight_steps m i (profile_at g.strategies k)
    ++ weighed_steps (weight m i (profile_at g.strategies k)) (g.pays i k) (value_below g m i s k)

-- there are none where the strategy is not played
abbrev pub steps_at : Game → Mixed → ℕ → ℕ → ℕ → List Step
steps_at g m i s k =
    if slice_index (profile_at g.strategies k) i == s then profile_steps g m i s k else []

-- the steps of what strategy s is worth: those at all profiles, in table order
abbrev pub strategy_steps : Game → Mixed → ℕ → ℕ → List Step
strategy_steps g m i s =
    flat_map (steps_at g m i s) (range_with_len 0 (profile_count g.strategies))

-- what the first n strategies of player i add to the payoff
abbrev pub payoff_below : Game → Mixed → ℕ → ℕ → ℚ
payoff_below g m i n = sum_to n (λ s. m i s *ℚ strategy_value g m i s)

-- what strategy s is worth counts with its probability
abbrev pub strategy_payoff_steps : Game → Mixed → ℕ → ℕ → List Step
strategy_payoff_steps g m i s =
    weighed_steps (m i s) (strategy_value g m i s) (payoff_below g m i s)

-- the steps of player i's payoff
abbrev pub payoff_steps : Game → Mixed → ℕ → List Step
payoff_steps g m i =
    flat_map (strategy_payoff_steps g m i) (range_with_len 0 (slice_index g.strategies i))

-- the steps of what player i's strategies are worth
abbrev pub value_steps : Game → Mixed → ℕ → List Step
value_steps g m i = flat_map (strategy_steps g m i) (range_with_len 0 (slice_index g.strategies i))

-- all steps of player i
abbrev pub table_player_steps : Game → Mixed → ℕ → List Step
table_player_steps g m i = value_steps g m i ++ payoff_steps g m i

-- ---- verdicts
-- player i passes: the steps fit, and no strategy is worth more than the payoff
pub record PassesTable (g : Game) (m : Mixed) (i : ℕ) : Type 0 where
  pub fit : All StepFits (table_player_steps g m i)
  pub no_more : (s : ℕ) → s < slice_index g.strategies i
      → strategy_value g m i s ≤ℚ payoff_of g m i

-- a player's steps fit, and this first best strategy is worth more than the payoff
pub record IsBetterReply (g : Game) (m : Mixed) (player : ℕ) (payoff best : ℚ) (reply : ℕ)
    : Type 0 where
  pub fit : All StepFits (table_player_steps g m player)
  pub is_best : IsBestStrategy g m player reply
  pub payoff_is : payoff ≡ payoff_of g m player
  pub best_is : best ≡ strategy_value g m player reply
  pub pays_more : payoff <ℚ best

-- what is found for one player
abbrev pub IsFound : Game → Mixed → ℕ → Option BetterReply → Type 0
IsFound g m player None = PassesTable g m player
IsFound g m player (Some b) = IsBetterReply g m player b.payoff b.best b.reply

-- the first player who has a better reply, where the steps of those before fit
pub record IsFirstBetter (g : Game) (m : Mixed) (player : ℕ) (payoff best : ℚ) (reply : ℕ)
    : Type 0 where
  pub is_player : player < length g.strategies
  pub earlier : (i : ℕ) → i < player → PassesTable g m i
  pub better : IsBetterReply g m player payoff best reply

-- the first step that does not fit, at a player before whom none has a better reply
pub record IsRangeStop (g : Game) (m : Mixed) (step : Step) : Type 0 where
  pub player : ℕ
  pub is_player : player < length g.strategies
  pub earlier : (i : ℕ) → i < player → PassesTable g m i
  pub first_unfit : IsFirstUnfit (table_player_steps g m player) step

-- the verdict of a mixed profile, players in order
abbrev pub IsTableVerdict : Game → Mixed → TableVerdict → Type 0
IsTableVerdict g m Equilibrium = (i : ℕ) → i < length g.strategies → PassesTable g m i
IsTableVerdict g m (Better player payoff best reply) = IsFirstBetter g m player payoff best reply
IsTableVerdict g m (Range step) = IsRangeStop g m step

-- the verdict of the entries of a mixed profile
abbrev pub table_verdict : GameTable → List ℚ → TableVerdict → Type 0
table_verdict table list verdict =
    (m : Mixed) × (list ≡ entries (strategy_counts table) m)
    × IsTableVerdict (game_of table) m verdict
