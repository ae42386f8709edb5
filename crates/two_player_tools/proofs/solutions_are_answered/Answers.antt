use Rattle.two_player_tools.proofs.AnsweredToolLemmas.{lcp_tool-answered, lp_tool-answered}
use Rattle.two_player_tools.proofs.solutions_are_answered.Goals as goal

pub returns-clause-lp : goal.returns-clause-lp
returns-clause-lp c =
    lp_tool-answered c.sets_stand_in_one_cut.ensures (record { game_tree = c.trees_are_game_trees.ensures; numbered = c.sets_are_numbered_by_first_nodes.ensures })

pub returns-clause-lcp : goal.returns-clause-lcp
returns-clause-lcp c =
    lcp_tool-answered c.sets_stand_in_one_cut.ensures (record { game_tree = c.trees_are_game_trees.ensures; numbered = c.sets_are_numbered_by_first_nodes.ensures })
