use Rattle.std.proofs.Common.{◌≡◌, All, length}
use Rattle.frac128.specs.FirstUnfit.{StepsFit}
use Rattle.game_core.specs.TreeGame.{game_of_tree}
use Rattle.enumpure_trees.specs.Values.{value_steps}
use Rattle.enumpure_trees.proofs.ValueListLemmas.{first_indices, first_values}
use Rattle.enumpure_trees.proofs.values.choice_values.Given as goal

-- the values of the choices so far, whose steps all fit
abbrev pub invariant-loop-choice : goal.invariant-loop-choice
invariant-loop-choice l = record {
  tree : l.shortcuts ≡ l.tree;
  digits : length l.profile.items ≡ length l.counts;
  long : length l.actions.items ≡ length l.tree.sets;
  values : l.values.items ≡ first_values (game_of_tree l.tree) l.nodes l.choice;
  fit : All (StepsFit (value_steps (game_of_tree l.tree))) (first_indices (game_of_tree l.tree) l.nodes l.choice);
}
