use Rattle.std.proofs.Common.{◌≡◌, map, take}
use Rattle.reduced_form.specs.ReducedForm.{strategy_name}
use Rattle.reduced_form.proofs.names.names_of_one.Given as goal

abbrev pub invariant-loop-choices : goal.invariant-loop-choices
invariant-loop-choices l = l.names.items ≡ map strategy_name (map (λ v. v.items) (take l.choices-index l.strategies))
