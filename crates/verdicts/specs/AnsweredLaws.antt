-- That profiles have verdicts.
use Rattle.std.specs.Prelude.{ℕ, List}
use Rattle.answers.specs.Answered.{HasSome}
use Rattle.game_theory.specs.Behaviour.{Behaviour}
use Rattle.game_theory.specs.Lines.{entries}
use Rattle.game_theory.specs.Mixed.{Mixed}
use Rattle.game_theory.specs.Recall.{AllRecall}
use Rattle.game_theory.specs.TreeEntries.{tree_entries}
use Rattle.game_core.specs.Table.{GameTable, IsTable, strategy_counts}
use Rattle.game_core.specs.Tree.{GameTree, IsGameTree}
use Rattle.game_core.specs.TreeGame.{game_of_tree}
use Rattle.verdicts.specs.TableChecks.{table_verdict}
use Rattle.verdicts.specs.TreeVerdicts.{tree_verdict}
use Rattle.verdicts.specs.declared.trees.TreeVerdict.{TreeVerdict}

-- a mixed profile of a table has a verdict
abbrev pub TableVerdictsExist : Type 0
TableVerdictsExist =
    (table : GameTable) (m : Mixed) → IsTable table
    → HasSome (table_verdict table (entries (strategy_counts table) m))

-- behaviour on a tree in which all players recall has a verdict, with a reply
abbrev pub TreeVerdictsExist : Type 0
TreeVerdictsExist =
    (tree : GameTree) (b : Behaviour) → IsGameTree tree → AllRecall (game_of_tree tree)
    → HasSome (λ (v : TreeVerdict × List ℕ).
    tree_verdict tree (tree_entries (game_of_tree tree) b) v.0 v.1)
