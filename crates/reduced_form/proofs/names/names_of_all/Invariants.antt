use Rattle.std.proofs.Common.{◌≡◌, map, take}
use Rattle.reduced_form.specs.ReducedForm.{strategy_name}
use Rattle.reduced_form.proofs.names.names_of_all.Given as goal

abbrev pub invariant-loop-list : goal.invariant-loop-list
invariant-loop-list l = map (λ v. v.items) l.names.items ≡ map (map strategy_name) (map (λ v. map (λ w. w.items) v.items) (take l.list-index l.lists))
