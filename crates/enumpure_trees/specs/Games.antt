-- The games that are played at a node: by agents, one for each player's set, or by the players.
-- Those who choose, strategies and choices count from 0.
use Rattle.std.specs.Prelude.{ℕ, ◌+◌, ◌*◌, ◌<◌, ◌≡◌, ◌↔◌, Bool, true, false, IsTrue, List, All, length, map, slice_index, unwrap_or}
use Rattle.std.specs.List.{range_with_len}
use Rattle.enumpure.specs.Replies.{IsColumnOf, PlaysBestReply, plays_best}
use Rattle.enumpure.specs.declared.replies.Column.{Column}
use Rattle.game_theory.specs.OwnSets.{action_counts, own_counts, player_sets}
use Rattle.game_theory.specs.Profiles.{Game, profile_count, stride}
use Rattle.game_theory.specs.Trees.{Tree}
use Rattle.enumpure_trees.specs.declared.passing.Columns.{Columns}

-- for each of those who choose the player whose values count: for an agent its set's owner
abbrev pub choosers : (agents : Bool) → Tree → List ℕ
choosers true t = map (λ s. unwrap_or (t.owner s) 0) (player_sets t)
choosers false t = range_with_len 0 t.players

-- how many strategies a player has: one action at each own set
abbrev pub strategy_count : Tree → ℕ → ℕ
strategy_count t i = profile_count (own_counts t i)

-- how many strategies each of those who choose has: an agent the actions at its set
abbrev pub strategy_counts : (agents : Bool) → Tree → List ℕ
strategy_counts true t = action_counts t
strategy_counts false t = map (strategy_count t) (range_with_len 0 t.players)

-- all play best replies at the profile with number n
abbrev pub AllPlayBest : Game → ℕ → Type 0
AllPlayBest g n = (j : ℕ) → j < length g.strategies → PlaysBestReply g j n

-- of the profiles those stay that pass
abbrev pub KeepsThose : (passes : ℕ → Type 0) → (old new : List Bool) → Type 0
KeepsThose passes old new =
    (n : ℕ) → n < length old
    → IsTrue (plays_best new n) ↔ (IsTrue (plays_best old n) × passes n)

-- ---- the games at nodes, and the columns of their payoffs
-- one who chooses plays a best reply in the game at each of so many nodes
abbrev pub PlaysBestAtAll : (games : ℕ → Game) (nodes j n : ℕ) → Type 0
PlaysBestAtAll games nodes j n = (p : ℕ) → p < nodes → PlaysBestReply (games p) j n

-- what the profiles pay player i at node p
abbrev pub column_at : Columns → (p i : ℕ) → Column
column_at columns p i = record {
  numbers = columns.numbers;
  offset = p * columns.players + i;
  step = columns.nodes * columns.players;
}

-- a player's columns have what so many profiles of the games at the nodes pay one who chooses
abbrev pub HasColumns : (games : ℕ → Game) (j : ℕ) → Columns
    → (player profiles apart strategies : ℕ) → Type 0
HasColumns games j columns player profiles apart strategies =
    (p : ℕ) → p < columns.nodes
    → IsColumnOf (games p) j (column_at columns p player) profiles apart strategies

-- columns have what so many profiles of the games at the nodes pay those who choose
pub record AreColumnsOf (games : ℕ → Game) (choosers strategies : List ℕ) (columns : Columns)
    (profiles : ℕ) : Type 0 where
  pub of_each : profiles ≡ profile_count strategies
  pub one_for_each : length choosers ≡ length strategies
  pub some_strategy : All (λ n. 0 < n) strategies
  pub players : All (λ i. i < columns.players) choosers
  pub strategies_are : (p : ℕ) → p < columns.nodes → strategies ≡ (games p).strategies
  pub has_columns : (j : ℕ) → j < length choosers
      → HasColumns games j columns (slice_index choosers j) profiles
      (stride strategies j) (slice_index strategies j)
