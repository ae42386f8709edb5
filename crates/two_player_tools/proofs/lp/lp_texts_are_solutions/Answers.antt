use Rattle.two_player_tools.proofs.ToolLemmas.{lp_tool-texts}
use Rattle.two_player_tools.proofs.lp.lp_texts_are_solutions.Goals as goal

pub returns : goal.returns
returns c =
    lp_tool-texts c.sets_stand_in_one_cut.ensures (record { game_tree = c.trees_are_game_trees.ensures; numbered = c.sets_are_numbered_by_first_nodes.ensures })
