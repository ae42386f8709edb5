-- Layouts of a table in which one player's strategies are the rows and another's the columns.
-- Players and strategies count from 0.
use Rattle.std.specs.Prelude.{ℕ, suc, ◌==◌, ◌&&◌, not, if◌then◌else◌, List, [], ◌∷◌, ◌++◌, length, codes, slice_index, slice_index_or, slice_set}
use Rattle.std.specs.List.{filter, flat_map, range_with_len}
use Rattle.std.specs.Fmt.{decimal}
use Rattle.game_theory.specs.Profiles.{profile_count, profile_at, number_of}
use Rattle.rational.specs.Text.{number_text}
use Rattle.game_core.specs.Table.{GameTable, game_of, strategy_counts}
use Rattle.convert_tables.specs.declared.marks.Style.{Style}
use Rattle.convert_tables.specs.declared.marks.Style.TheVariants.{Html, Sgame}
use Rattle.convert_tables.specs.declared.marks.Mark.TheVariants.{HeadingStart, HeadingEnd, ColumnStart, ColumnEnd, ColumnsEnd, RowStart, RowNameEnd, CellStart, CellEnd, RowEnd, LastRowEnd, TableEnd}
use Rattle.convert_tables.specs.Marks.{mark_text}
use Rattle.convert_tables.specs.Names.{name_text, marked_text}

-- the players besides the row player and the column player, in order
abbrev pub other_players : ℕ → ℕ → ℕ → List ℕ
other_players players row column =
    filter (λ i. not (i == row) && not (i == column)) (range_with_len 0 players)

-- the numbers of strategies, where the row player and the column player choose nothing
abbrev pub others_counts : GameTable → ℕ → ℕ → List ℕ
others_counts t row column = slice_set (slice_set (strategy_counts t) row 1) column 1

-- the profile of the others with a number: the strategies of all players, 0 for the row player and
-- the column player
abbrev pub others_profile : GameTable → ℕ → ℕ → ℕ → List ℕ
others_profile t row column k = profile_at (others_counts t row column) k

-- how many strategies a player has
abbrev pub strategy_count : GameTable → ℕ → ℕ
strategy_count t i = slice_index (strategy_counts t) i

-- a player's name
abbrev pub player_name : GameTable → ℕ → List ℕ
player_name t i = slice_index_or t.players i []

-- the names of a player's strategies
abbrev pub strategy_names : GameTable → ℕ → List (List ℕ)
strategy_names t i = slice_index_or t.strategies i []

-- the name of a player's strategy
abbrev pub strategy_name : GameTable → ℕ → ℕ → List ℕ
strategy_name t i s = slice_index_or (strategy_names t i) s []

-- one player's payoff at the profile with a number
abbrev pub payoff_text : GameTable → ℕ → ℕ → List ℕ
payoff_text t number i = number_text ((game_of t).pays i number)

-- a payoff after another one of the same profile
abbrev pub later_payoff_text : GameTable → ℕ → ℕ → List ℕ
later_payoff_text t number i = codes "," ++ payoff_text t number i

-- the payoffs at the profile with a number: the row player's, the column player's and the others'
abbrev pub payoffs_text : GameTable → ℕ → ℕ → ℕ → List ℕ
payoffs_text t row column number =
    payoff_text t number row
    ++ flat_map (later_payoff_text t number) (column ∷ other_players (length t.players) row column)

-- the cell with the payoffs at the profile with a number
abbrev pub cell_text : Style → GameTable → ℕ → ℕ → ℕ → List ℕ
cell_text style t row column number =
    mark_text style CellStart ++ payoffs_text t row column number ++ mark_text style CellEnd

-- the number of the profile in row r and column c, where the others play a profile
abbrev pub cell_number : GameTable → ℕ → ℕ → List ℕ → ℕ → ℕ → ℕ
cell_number t row column profile r c =
    number_of (strategy_counts t) (slice_set (slice_set profile row r) column c)

-- the cells of row r, column by column
abbrev pub cells_text : Style → GameTable → ℕ → ℕ → List ℕ → ℕ → List ℕ
cells_text style t row column profile r =
    flat_map (λ c. cell_text style t row column (cell_number t row column profile r c))
    (range_with_len 0 (strategy_count t column))

-- what ends row r of so many rows
abbrev pub row_end : Style → ℕ → ℕ → List ℕ
row_end style rows r = mark_text style (if suc r == rows then LastRowEnd else RowEnd)

-- row r: the strategy's name and the cells
abbrev pub row_text : Style → GameTable → ℕ → ℕ → List ℕ → ℕ → List ℕ
row_text style t row column profile r =
    marked_text style RowStart (strategy_name t row r) RowNameEnd
    ++ cells_text style t row column profile r
    ++ row_end style (strategy_count t row) r

-- all rows, in order
abbrev pub rows_text : Style → GameTable → ℕ → ℕ → List ℕ → List ℕ
rows_text style t row column profile =
    flat_map (row_text style t row column profile) (range_with_len 0 (strategy_count t row))

-- the name of one of the column player's strategies, as the head of its column
abbrev pub column_text : Style → List ℕ → List ℕ
column_text style name = marked_text style ColumnStart name ColumnEnd

-- the start of a game of sgame: how many rows and columns it has, and whose they are
abbrev pub sgame_start : GameTable → ℕ → ℕ → List ℕ
sgame_start t row column =
    codes "\\begin{game}{" ++ decimal (strategy_count t row)
    ++ codes "}{" ++ decimal (strategy_count t column)
    ++ codes "}[" ++ name_text Sgame (player_name t row)
    ++ codes "][" ++ name_text Sgame (player_name t column) ++ codes "]\n"

-- what stands before the columns' names
abbrev pub table_start : Style → GameTable → ℕ → ℕ → List ℕ
table_start Html t row column = codes "<table>\n<tr><th></th>"
table_start Sgame t row column = sgame_start t row column

-- the table's start and the heads of its columns
abbrev pub columns_text : Style → GameTable → ℕ → ℕ → List ℕ
columns_text style t row column =
    table_start style t row column
    ++ flat_map (column_text style) (strategy_names t column) ++ mark_text style ColumnsEnd

-- a player and the strategy that is chosen
abbrev pub chosen_text : Style → GameTable → List ℕ → ℕ → List ℕ
chosen_text style t profile i =
    name_text style (player_name t i) ++ codes "="
    ++ name_text style (strategy_name t i (slice_index profile i))

-- the same after another player
abbrev pub later_chosen_text : Style → GameTable → List ℕ → ℕ → List ℕ
later_chosen_text style t profile i = codes ", " ++ chosen_text style t profile i

-- the heading with the profile of the others, where there are any
abbrev pub heading : Style → GameTable → List ℕ → List ℕ → List ℕ
heading style t profile [] = []
heading style t profile (i ∷ rest) =
    mark_text style HeadingStart ++ chosen_text style t profile i
    ++ flat_map (later_chosen_text style t profile) rest ++ mark_text style HeadingEnd

-- the table in which the others play a profile
abbrev pub table_text : Style → GameTable → ℕ → ℕ → List ℕ → List ℕ
table_text style t row column profile =
    heading style t profile (other_players (length t.players) row column)
    ++ columns_text style t row column
    ++ rows_text style t row column profile
    ++ mark_text style TableEnd

-- the game's title, which stands in HTML alone
abbrev pub title_text : Style → List ℕ → List ℕ
title_text Html title = codes "<h1>" ++ name_text Html title ++ codes "</h1>\n"
title_text Sgame title = []

-- the tables of all profiles of the others, in order
abbrev pub tables_text : Style → GameTable → ℕ → ℕ → List ℕ
tables_text style t row column =
    flat_map (λ k. table_text style t row column (others_profile t row column k))
    (range_with_len 0 (profile_count (others_counts t row column)))

-- the title, and a table for each profile of the others, the first of whom changes fastest
abbrev pub layout : Style → GameTable → ℕ → ℕ → List ℕ
layout style t row column = title_text style t.title ++ tables_text style t row column
