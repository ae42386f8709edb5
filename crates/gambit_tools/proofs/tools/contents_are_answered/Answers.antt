use Rattle.words.proofs.RangeLemmas.{ranges}
use Rattle.gambit_tools.proofs.AnsweredCommandLemmas.{answer_of-answered}
use Rattle.gambit_tools.proofs.tools.contents_are_answered.Goals as goal

pub returns : goal.returns
returns c words command contents e =
    answer_of-answered (record {
      game_trees = c.trees_are_game_trees.ensures;
      recalls = c.recalls_are_answered.ensures;
      forms = c.forms_are_answered.ensures;
      strategic_tables = c.strategic_tables_are_answered.ensures;
      lp = c.solutions_are_answered.ensures.lp;
      lcp = c.solutions_are_answered.ensures.lcp;
      table_checks = c.table_checks_are_answered.ensures;
      tree_checks = c.tree_checks_are_answered.ensures;
    }) command contents (ranges words command e)
