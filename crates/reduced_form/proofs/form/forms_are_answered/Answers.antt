use Rattle.reduced_form.proofs.AnsweredFormLemmas.{form_of-answered}
use Rattle.reduced_form.proofs.form.forms_are_answered.Goals as goal

pub returns : goal.returns
returns c = λ tree valid. form_of-answered tree (c.trees_are_game_trees.ensures tree valid)
