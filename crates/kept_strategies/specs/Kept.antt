-- The table over the strategies that are kept where strictly dominated ones are removed, and why
-- there is none. Source: Luce and Raiffa 1957. Players, strategies and profiles count from 0.
use Rattle.std.specs.Prelude.{ℕ, ◌≡◌, ◌≢◌, List, [], ◌∷◌, length, map, slice_index_or, sum, refl}
use Rattle.std.specs.List.{zip}
use Rattle.std.specs.Coded.{Coded, code_by, coded×, coded_ℕ, coded_list}
use Rattle.answers.specs.Answers.{Answer, ◌>>◌, refuse_where, refused_by, such_that}
use Rattle.extreme_equilibria.specs.KeptTable.{AreKeptLists, kept_table, HaveSameCells}
use Rattle.game_core.specs.Table.{GameTable, IsTable, code_of_table, game_of, strategy_counts}
use Rattle.game_core.specs.Limits.{within}
use Rattle.game_core.specs.declared.too_large.What.TheVariants as what
use Rattle.kept_strategies.specs.declared.kept_stop.KeptStop.{KeptStop}
use Rattle.kept_strategies.specs.declared.kept_stop.KeptStop.TheVariants as stops

-- the strategies of both players that are kept, and the table over them
pub record KeptForm : Type 0 where
  pub first : List ℕ
  pub second : List ℕ
  pub table : GameTable

-- kept strategies are stored with their table
abbrev pub code_of_kept : Coded KeptForm
code_of_kept =
    code_by (List ℕ × (List ℕ × GameTable))
    (coded× (coded_list coded_ℕ) (coded× (coded_list coded_ℕ) code_of_table))
    (λ k. (k.first, (k.second, k.table)))
    (λ p. record { first = p.0; second = p.1.0; table = p.1.1 }) (λ _. refl)

-- both players' kept strategies
abbrev pub kept_lists : KeptForm → List (List ℕ)
kept_lists kept = kept.first ∷ kept.second ∷ []

-- the players' names at these places
abbrev pub kept_names : List (List (List ℕ)) → List (List ℕ) → List (List (List ℕ))
kept_names players lists =
    map (λ p. map (λ place. slice_index_or p.0 place []) p.1) (zip players lists)

-- The table over the kept strategies: they have their names, and each profile pays what it pays in
-- the whole table.
pub record IsKeptForm (table : GameTable) (kept : KeptForm) : Type 0 where
  pub are_kept : AreKeptLists (game_of table) (kept_lists kept)
  pub is_table : IsTable kept.table
  pub title_is : kept.table.title ≡ table.title
  pub players_are : kept.table.players ≡ table.players
  pub names_are : kept.table.strategies ≡ kept_names table.strategies (kept_lists kept)
  pub same_cells : HaveSameCells (game_of kept.table) (kept_table (game_of table) (kept_lists kept))

-- the most strategies of both players together
abbrev pub most_strategies : ℕ
most_strategies = 512

-- The table over the kept strategies of a table of two players, who together have few enough; or
-- why they are not looked for.
abbrev pub kept_of : GameTable → Answer KeptStop KeptForm
kept_of table =
    refuse_where (length table.players ≢ 2) (stops.NotTwoPlayers (length table.players))
    >> (refused_by stops.TooLarge (within what.Labels most_strategies (sum (strategy_counts table)))
    >> such_that (IsKeptForm table))
