-- That checks have an answer.
use Rattle.std.specs.Prelude.{ℕ, List}
use Rattle.answers.specs.Answered.{IsAnswered}
use Rattle.game_theory.specs.Recall.{AllRecall}
use Rattle.game_core.specs.Table.{GameTable, IsTable}
use Rattle.game_core.specs.Tree.{GameTree, IsGameTree}
use Rattle.game_core.specs.TreeGame.{game_of_tree}
use Rattle.ne_checker.specs.LineChecks.{table_check, tree_check}

-- a table and a text have an answer
abbrev pub TableChecksAreAnswered : Type 0
TableChecksAreAnswered =
    (table : GameTable) (text : List ℕ) → IsTable table → IsAnswered (table_check table text)

-- so have a tree in which all players recall and a text
abbrev pub TreeChecksAreAnswered : Type 0
TreeChecksAreAnswered =
    (tree : GameTree) (text : List ℕ) → IsGameTree tree → AllRecall (game_of_tree tree)
    → IsAnswered (tree_check tree text)
