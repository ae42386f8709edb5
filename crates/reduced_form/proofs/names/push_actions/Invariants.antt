use Rattle.std.proofs.Common.{◌≡◌, ◌++◌, take}
use Rattle.std.specs.List.{flat_map}
use Rattle.reduced_form.specs.ReducedForm.{action_text}
use Rattle.reduced_form.proofs.names.push_actions.Given as goal

abbrev pub invariant-loop-action : goal.invariant-loop-action
invariant-loop-action l = l.name.items ≡ l.initial.name.items ++ flat_map action_text (take l.action-index l.choices)
