use Rattle.sequence_form.proofs.Laws.{tree_stands}
use Rattle.sequence_form.proofs.tree_forms_stand_for_trees.Goals as goal

pub returns : goal.returns
returns c = tree_stands
