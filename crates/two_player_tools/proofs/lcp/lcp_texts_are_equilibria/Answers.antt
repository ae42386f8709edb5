use Rattle.two_player_tools.proofs.ToolLemmas.{lcp_tool-texts}
use Rattle.two_player_tools.proofs.lcp.lcp_texts_are_equilibria.Goals as goal

pub returns : goal.returns
returns c =
    lcp_tool-texts c.sets_stand_in_one_cut.ensures (record { game_tree = c.trees_are_game_trees.ensures; numbered = c.sets_are_numbered_by_first_nodes.ensures })
