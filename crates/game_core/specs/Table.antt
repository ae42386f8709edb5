-- What contracts see of a table, and the strategic game that it stands for.
use Rattle.std.specs.Prelude.{ℕ, ◌+◌, ◌*◌, ◌<◌, ◌≤◌, ◌≡◌, List, length, map, All, refl}
use Rattle.std.specs.Coded.{Coded, code_by, coded×, coded_ℕ, coded_list}
use Rattle.rational.specs.Rational.{ℚ}
use Rattle.rational.specs.Sum.{entry_at}
use Rattle.rational.proofs.CodeLemmas.{code_ℚ}
use Rattle.game_theory.specs.Profiles.{Game, profile_count}

-- a title, the players' names, each player's strategies' names, and one payoff per player for each
-- profile in file order
pub record GameTable : Type 0 where
  pub title : List ℕ
  pub players : List (List ℕ)
  pub strategies : List (List (List ℕ))
  pub payoffs : List ℚ

-- a table is stored as its four lists
abbrev pub code_of_table : Coded GameTable
code_of_table =
    code_by (List ℕ × (List (List ℕ) × (List (List (List ℕ)) × List ℚ)))
    (coded× (coded_list coded_ℕ)
    (coded× (coded_list (coded_list coded_ℕ))
    (coded× (coded_list (coded_list (coded_list coded_ℕ))) (coded_list code_ℚ))))
    (λ t. (t.title, (t.players, (t.strategies, t.payoffs))))
    (λ p. record { title = p.0; players = p.1.0; strategies = p.1.1.0; payoffs = p.1.1.1 })
    (λ _. refl)

-- how many strategies each player has
abbrev pub strategy_counts : GameTable → List ℕ
strategy_counts t = map length t.strategies

-- the most payoffs that a table has
abbrev pub most_payoffs : ℕ
most_payoffs = 1048576

-- each player has at least one strategy, and each profile one payoff per player
pub record IsTable (t : GameTable) : Type 0 where
  pub strategies_of_each : length t.strategies ≡ length t.players
  pub some_strategy : All (λ names. 0 < length names) t.strategies
  pub payoffs_of_each : length t.payoffs ≡ length t.players * profile_count (strategy_counts t)
  pub few_payoffs : length t.payoffs ≤ most_payoffs

-- the game that a table stands for
abbrev pub game_of : GameTable → Game
game_of t =
    record {
      strategies = strategy_counts t;
      pays = λ i k. entry_at t.payoffs (k * length t.players + i);
    }
