-- What the check of a player's strategies in a table reads.
use Rattle.std.specs.Prelude.{ℕ, zero, suc, ◌+◌, ◌<◌, ◌≤◌, ◌≡◌, ◌==◌, if◌then◌else◌, List, [], ◌∷◌, ◌++◌, Result, length, sum, take, slice_index, get_or}
use Rattle.rational.specs.Rational.{ℚ, ◌*ℚ◌, one_ℚ}
use Rattle.frac128.specs.Steps.{StepsGive}
use Rattle.frac128.specs.declared.steps.Unfit.{Unfit}
use Rattle.game_theory.specs.Mixed.{Mixed, probability}
use Rattle.game_theory.specs.Profiles.{Game, stride}
use Rattle.game_core.specs.Table.{GameTable, game_of, strategy_counts}
use Rattle.behaviour_profile.specs.EntryTests.{mixed_of}
use Rattle.best_replies.specs.Strategies.{own_as_one}
use Rattle.verdicts.specs.TableChecks.{product_steps}
use Rattle.verdicts.specs.declared.tables.Decider.{Decider}
use Rattle.verdicts.specs.declared.tables.Deciders.{Deciders}
use Rattle.verdicts.specs.declared.tables.TableReplies.{TableReplies}

-- ---- the players by whom weights differ or are not 1
-- how many players are listed at most
abbrev pub most_listed : ℕ
most_listed = 20

-- each player from j on, up to `end`, has one strategy, with the probability 1
pub record PlayForSure (counts : List ℕ) (m : Mixed) (j end : ℕ) : Type 0 where
  pub one_strategy : (k : ℕ) → j ≤ k → k < end → slice_index counts k ≡ 1
  pub for_sure : (k : ℕ) → j ≤ k → k < end → m k 0 ≡ one_ℚ

-- the decider at a place
abbrev pub decider_at : List Decider → ℕ → Decider
decider_at listed n = get_or listed n (record { player = 0; first = 0 })

-- the player after the first n of the list
abbrev pub player_after : List Decider → ℕ → ℕ
player_after listed zero = 0
player_after listed (suc n) = suc (decider_at listed n).player

-- this player, with this first entry, is the next from player j on by whom weights may differ
pub record IsNextDecider (counts : List ℕ) (m : Mixed) (j : ℕ) (d : Decider) : Type 0 where
  pub in_order : j ≤ d.player
  pub between : PlayForSure counts m j d.player
  pub first_is : d.first ≡ sum (take d.player counts)

-- those who are listed follow each other, and then comes the end
pub record AreDeciders (t : GameTable) (entries : List ℚ) (d : Deciders) : Type 0 where
  pub few : d.count ≤ most_listed
  pub within : d.count ≤ length d.listed
  pub are_players : (n : ℕ) → n < d.count → (decider_at d.listed n).player < length t.players
  pub each : (n : ℕ) → n < d.count
      → IsNextDecider (strategy_counts t) (mixed_of (strategy_counts t) entries)
      (player_after d.listed n) (decider_at d.listed n)
  pub end_within : d.end.player ≤ length (strategy_counts t)
  pub end_next : IsNextDecider (strategy_counts t) (mixed_of (strategy_counts t) entries)
      (player_after d.listed d.count) d.end

-- ---- the player and the others
-- The mixed profile has an entry for each strategy of each player, and the player is one of the
-- table's, with this first entry and this stride.
pub record AreTableReplies (r : TableReplies) : Type 0 where
  pub entries : length r.mixed.now ≡ sum (strategy_counts r.table.now)
  pub is_player : r.player < length r.table.now.players
  pub first_is : r.first ≡ sum (take r.player (strategy_counts r.table.now))
  pub stride_is : r.stride ≡ stride (strategy_counts r.table.now) r.player
  pub deciders : AreDeciders r.table.now r.mixed.now r.deciders.now

-- the game of the table
abbrev pub table_game_at : TableReplies → Game
table_game_at r = game_of r.table.now

-- the mixed profile
abbrev pub mixed_at : TableReplies → Mixed
mixed_at r = mixed_of (strategy_counts r.table.now) r.mixed.now

-- ---- the weight of a profile
-- the probabilities with which players j and later, other than i, play their strategies
abbrev pub others_from : Mixed → ℕ → ℕ → List ℕ → List ℚ
others_from m i j [] = []
others_from m i j (s ∷ strategies) =
    (if j == i then [] else m j s ∷ []) ++ others_from m i (suc j) strategies

-- the probabilities of the players from j on
abbrev pub mixed_from : Mixed → ℕ → Mixed
mixed_from m j k s = m (j + k) s

-- a product is multiplied by what those other than i, from player j on, play these strategies with
abbrev pub GiveFrom : Mixed → ℕ → ℕ → List ℕ → ℚ → Result ℚ Unfit → Type 0
GiveFrom m i j strategies product r =
    StepsGive (product_steps product (others_from m i j strategies))
    (product *ℚ probability (mixed_from (own_as_one m i) j) strategies) r
