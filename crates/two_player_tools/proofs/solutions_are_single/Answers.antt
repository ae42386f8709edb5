use Rattle.two_player_tools.proofs.ToolLemmas.{lcp_tool-single, lp_tool-single}
use Rattle.two_player_tools.proofs.solutions_are_single.Goals as goal

pub returns-clause-lp : goal.returns-clause-lp
returns-clause-lp c =
    lp_tool-single c.sets_stand_in_one_cut.ensures (record { game_tree = c.trees_are_game_trees.ensures; numbered = c.sets_are_numbered_by_first_nodes.ensures }) c.recalls_are_single.ensures

pub returns-clause-lcp : goal.returns-clause-lcp
returns-clause-lcp c =
    lcp_tool-single c.sets_stand_in_one_cut.ensures (record { game_tree = c.trees_are_game_trees.ensures; numbered = c.sets_are_numbered_by_first_nodes.ensures }) c.recalls_are_single.ensures
