use Rattle.game_core.proofs.tree.Tree.stands_for_game_tree.Goals as goal

pub returns-clause-numbered : goal.returns-clause-numbered
returns-clause-numbered c = c.sets_are_numbered_by_first_nodes.ensures c.args.self.now c.title.ensures.valid
