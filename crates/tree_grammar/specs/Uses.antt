-- What the reader keeps of sets and outcomes, in the words of the tree that is partial.
use Rattle.std.specs.Prelude.{◌≡◌, List, map}
use Rattle.written_trees.specs.Described.{SetKey}
use Rattle.written_trees.specs.Building.{PartialSet, PartialOutcome}
use Rattle.tree_grammar.specs.declared.sets.KeptSet.{KeptSet}
use Rattle.tree_grammar.specs.declared.sets.Sets.TheInside.{Inside as KeptSets}
use Rattle.tree_grammar.specs.declared.outcomes.KeptOutcome.{KeptOutcome}
use Rattle.tree_grammar.specs.declared.outcomes.Outcomes.TheInside.{Inside as KeptOutcomes}

-- a set, as far as it was used
abbrev pub partial_set : KeptSet → PartialSet
partial_set set =
    record {
      owner = set.owner;
      label = set.label;
      name = set.name;
      actions = set.actions.items;
      members = set.members.items;
    }

-- the sets, as far as they were used
abbrev pub partial_sets : KeptSets → List PartialSet
partial_sets sets = map partial_set sets.list.items

-- the keys are those of the sets in order
pub record AreSets (sets : KeptSets) : Type 0 where
  pub keys_are : map {B = SetKey} (λ key. (key.owner, key.label)) sets.keys.keys
      ≡ map {B = SetKey} (λ set. (set.owner, set.label)) sets.list.items

-- an outcome, as far as it was used
abbrev pub partial_outcome : KeptOutcome → PartialOutcome
partial_outcome outcome =
    record { label = outcome.label; name = outcome.name; payoffs = outcome.payoffs.items }

-- the outcomes, as far as they were used
abbrev pub partial_outcomes : KeptOutcomes → List PartialOutcome
partial_outcomes outcomes = map partial_outcome outcomes.list.items

-- the labels are those of the outcomes in order
pub record AreOutcomes (outcomes : KeptOutcomes) : Type 0 where
  pub labels_are : outcomes.labels.keys ≡ map (λ outcome. outcome.label) outcomes.list.items
