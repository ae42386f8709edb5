use Rattle.std.proofs.Common.{◌≡◌, ◌≤◌, take}
use Rattle.game_core.specs.TreeGame.{game_of_tree}
use Rattle.reduced_form.specs.Limits.{choices_of}
use Rattle.reduced_form.specs.Limits.{most_choices}
use Rattle.reduced_form.proofs.limits.check_choices.Given as goal

abbrev pub invariant-loop-player : goal.invariant-loop-player
invariant-loop-player l = record {
  choices_are : l.choices ≡ choices_of (game_of_tree l.tree) (take l.player l.counts);
  few : l.choices ≤ most_choices;
}
