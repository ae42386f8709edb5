-- How sets and outcomes that are read so far are stored as numbers and lists.
use Rattle.std.specs.Prelude.{ℕ, List, Option, refl}
use Rattle.std.specs.Coded.{Coded, code_by, coded×, coded_ℕ, coded_list, coded_option}
use Rattle.rational.specs.Rational.{ℚ}
use Rattle.rational.proofs.CodeLemmas.{code_ℚ}
use Rattle.game_core.specs.declared.tree.Action.{Action}
use Rattle.game_core.specs.TreeCodes.{code_of_action}
use Rattle.written_trees.specs.Building.{PartialSet, PartialOutcome}

-- a set is stored as its five parts
abbrev pub code_of_partial_set : Coded PartialSet
code_of_partial_set =
    code_by (Option ℕ × (ℕ × (Option (List ℕ) × (List Action × List ℕ))))
    (coded× (coded_option coded_ℕ)
    (coded× coded_ℕ
    (coded× (coded_option (coded_list coded_ℕ))
    (coded× (coded_list code_of_action) (coded_list coded_ℕ)))))
    (λ s. (s.owner, (s.label, (s.name, (s.actions, s.members)))))
    (λ p. record {
      owner = p.0;
      label = p.1.0;
      name = p.1.1.0;
      actions = p.1.1.1.0;
      members = p.1.1.1.1;
    }) (λ _. refl)

-- an outcome is stored as its three parts
abbrev pub code_of_partial_outcome : Coded PartialOutcome
code_of_partial_outcome =
    code_by (ℕ × (Option (List ℕ) × List ℚ))
    (coded× coded_ℕ (coded× (coded_option (coded_list coded_ℕ)) (coded_list code_ℚ)))
    (λ o. (o.label, (o.name, o.payoffs)))
    (λ p. record { label = p.0; name = p.1.0; payoffs = p.1.1 }) (λ _. refl)
