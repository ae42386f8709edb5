-- The sequence form of a tree and of a table, and why there is none. Source: von Stengel 1996;
-- Koller, Megiddo and von Stengel 1996.
use Rattle.std.specs.Prelude.{ℕ, suc, ◌≢◌, List, length, map, slice_index}
use Rattle.std.specs.List.{range_with_len}
use Rattle.answers.specs.Answers.{Answer, refuse_where, ◌>>◌}
use Rattle.rational.specs.Rational.{one_ℚ}
use Rattle.game_theory.specs.Profiles.{profile_count, profile_at}
use Rattle.game_theory.specs.Trees.{Tree}
use Rattle.game_core.specs.Table.{GameTable, game_of, strategy_counts}
use Rattle.game_core.specs.Tree.{GameTree}
use Rattle.game_core.specs.TreeGame.{game_of_tree}
use Rattle.sequence_data.specs.Data.{FormData, IsFormOf, form_of_leaves}
use Rattle.sequence_data.specs.declared.stop.SeqStop.{SeqStop}
use Rattle.sequence_data.specs.declared.stop.SeqStop.TheVariants as stops
use Rattle.sequence_data.specs.declared.types.Leaf.{Leaf}
use Rattle.sequence_form.specs.Paths.{tree_leaves, paths_in}
use Rattle.sequence_form.specs.Sequences.{tree_side, start_side}

-- refuses any number of players but two
abbrev pub of_two_players : ℕ → Answer SeqStop (Unit {0})
of_two_players n = refuse_where (n ≢ 2) (stops.NotTwoPlayers n)

-- ---- trees
-- the form over a tree's sides and leaves
abbrev pub IsTreeForm : Tree → FormData → Type 0
IsTreeForm t = IsFormOf (tree_side t 0) (tree_side t 1) (tree_leaves t)

-- the form of a tree of two players, where the steps of all nodes and then of all leaves fit; or
-- why it has none
abbrev pub tree_form : GameTree → Answer SeqStop FormData
tree_form t = do
  of_two_players (length t.players)
  paths_in (game_of_tree t)
  form_of_leaves (tree_side (game_of_tree t) 0) (tree_side (game_of_tree t) 1)
      (tree_leaves (game_of_tree t))

-- ---- tables
-- the profile with number k as a leaf: each strategy's sequence is its number plus 1
abbrev pub profile_leaf : GameTable → ℕ → Leaf
profile_leaf t k = let profile : List ℕ = profile_at (strategy_counts t) k in
    record {
      place = k;
      row = suc (slice_index profile 0);
      column = suc (slice_index profile 1);
      chance = one_ℚ;
      one = (game_of t).pays 0 k;
      two = (game_of t).pays 1 k;
    }

-- the profiles of a table
abbrev pub table_leaves : GameTable → List Leaf
table_leaves t = map (profile_leaf t) (range_with_len 0 (profile_count (strategy_counts t)))

-- the form of a table of two players, where the steps of all profiles fit; or why it has none
abbrev pub table_form : GameTable → Answer SeqStop FormData
table_form t = do
  of_two_players (length t.players)
  form_of_leaves (start_side (slice_index (strategy_counts t) 0))
      (start_side (slice_index (strategy_counts t) 1)) (table_leaves t)
