-- A set that a node uses: a first use begins it, and a later use goes on with it.
use Rattle.std.proofs.Common.{◌≡◌, ℕ, Bool, true, false, List, [], ◌∷◌, ◌++◌, slice_get, slice_set, Option, Some, None, if◌then◌else◌, refl, sym, ap, ◌∙◌}
use Rattle.game_core.specs.declared.tree.Action.{Action}
use Rattle.game_core.specs.declared.token.Token.{Token}
use Rattle.game_core.specs.declared.token.Token.TheVariants.{Left}
use Rattle.file_parts.specs.Reading.{optional_text_at, count_at}
use Rattle.written_trees.specs.Described.{SetKey, key_of}
use Rattle.written_trees.specs.Written.{SetUse}
use Rattle.written_trees.specs.Building.{PartialSet, set_place, use_set, may_be_first, repeats_actions}
use Rattle.tree_grammar.proofs.PartValueLemmas.{action_list_at, optional_at, set_use_at, first_list_at, set_part_at}
use Rattle.tree_grammar.proofs.ActionListLemmas.{first_without, that_comes}
use Rattle.lists.specs.Options.{◌>>=◌}
use Rattle.std.specs.Option.{option_or}

-- a set of a first use, and a set that is used again
abbrev pub partial_by : ℕ → SetKey → Option (List ℕ) → List Action → PartialSet
partial_by k key name actions = record { owner = key.0; label = key.1; name = name; actions = actions; members = k ∷ [] }

abbrev pub used_by : ℕ → Option (List ℕ) → PartialSet → PartialSet
used_by k name set = record { owner = set.owner; label = set.label; name = option_or set.name name; actions = set.actions; members = set.members ++ k ∷ [] }

-- what a step gives
abbrev pub Step : Type 0
Step = Option ((List PartialSet × ℕ) × List Token)

-- the step that begins a set, and the one that goes on with a set
abbrev pub partial_step : ℕ → List PartialSet → ℕ → SetKey → Option (List ℕ) → List Action × List Token → Step
partial_step k sets place key name x = Some ((sets ++ partial_by k key name x.0 ∷ [], place), x.1)

abbrev pub used_step : ℕ → List PartialSet → ℕ → Option (List ℕ) → PartialSet → List Token → Step
used_step k sets place name set rest = Some ((slice_set sets place (used_by k name set), place), rest)

-- a use of a set with this key
abbrev pub use_of : SetKey → Option (List ℕ) → Option (List Action) → SetUse
use_of key name actions = record { owner = key.0; label = key.1; name = name; actions = actions }

-- what follows a use that was read
abbrev pub step_after : ℕ → List PartialSet → SetUse × List Token → Step
step_after k sets used = use_set k sets used.0 >>= λ more. Some ((more, set_place sets (key_of used.0)), used.1)

-- a list that may come, as the use of a set has it
abbrev pub with_list : SetKey → Option (List ℕ) → Option (List Action) × List Token → Option (SetUse × List Token)
with_list key name list = Some (use_of key name list.0, list.1)

-- the number and the name come first
pub step_is : (k : ℕ) (sets : List PartialSet) (owner : Option ℕ) (label : ℕ) (name : Option (List ℕ)) (tokens following after : List Token) → count_at tokens ≡ Some (label, following) → (name, after) ≡ optional_text_at following
    → set_part_at k sets owner tokens ≡ ((optional_at (action_list_at owner) after >>= with_list (owner, label) name) >>= step_after k sets)
unfolding set_part_at set_use_at
step_is k sets owner label name tokens following after l n = rw (l, ← n) refl

-- a test stands before what follows it
test_first : {A B : Type 0} (test : Bool) (x : A) (f : A → Option B) → (if test then f x else None) ≡ ((if test then Some x else None) >>= f)
test_first true x f = refl
test_first false x f = refl

-- ---- a first use
-- a list that has to come, and may stand first
abbrev pub first_then : Option ℕ → (List Action × List Token → Step) → Option (List Action) × List Token → Step
first_then owner f list = list.0 >>= λ actions. if may_be_first owner actions then f (actions, list.1) else None

-- the list is tested where it is read
first_tested : (owner : Option ℕ) (f : List Action × List Token → Step) (reading : Option (List Action × List Token)) → ((reading >>= that_comes) >>= first_then owner f) ≡ ((reading >>= λ actions. if may_be_first owner actions.0 then Some actions else None) >>= f)
first_tested owner f None = refl
first_tested owner f (Some x) = test_first (may_be_first owner x.0) x f

pub first_comes : (owner : Option ℕ) (f : List Action × List Token → Step) (tokens : List Token) → (optional_at (action_list_at owner) tokens >>= first_then owner f) ≡ (first_list_at owner tokens >>= f)
unfolding first_list_at
first_comes owner f (Left ∷ inner) = first_tested owner f (action_list_at owner (Left ∷ inner))
first_comes owner f tokens = sym (ap (λ (r : Option (List Action × List Token)). r >>= f) (first_without owner tokens refl))

-- the set is partial
pub begins : (k : ℕ) (sets : List PartialSet) (key : SetKey) (name : Option (List ℕ)) (reading : Option (Option (List Action) × List Token)) → slice_get sets (set_place sets key) ≡ None
    → ((reading >>= with_list key name) >>= step_after k sets) ≡ (reading >>= first_then key.0 (partial_step k sets (set_place sets key) key name))
begins k sets key name None none = refl
begins k sets key name (Some list) none = by list.0 list.1
  where
    by : (actions : Option (List Action)) (rest : List Token) → step_after k sets (use_of key name actions, rest) ≡ first_then key.0 (partial_step k sets (set_place sets key) key name) (actions, rest)
    by None rest = rw none refl
    by (Some actions) rest =
        rw none (sym (test_first (may_be_first key.0 actions) (sets ++ partial_by k key name actions ∷ []) (λ more. Some ((more, set_place sets key), rest))))

-- ---- a later use
-- the set goes on
pub goes_on : (k : ℕ) (sets : List PartialSet) (key : SetKey) (name : Option (List ℕ)) (set : PartialSet) (reading : Option (Option (List Action) × List Token)) → slice_get sets (set_place sets key) ≡ Some set
    → ((reading >>= with_list key name) >>= step_after k sets) ≡ ((reading >>= λ list. if repeats_actions set.actions list.0 then Some list.1 else None) >>= used_step k sets (set_place sets key) name set)
goes_on k sets key name set None at = refl
goes_on k sets key name set (Some list) at =
    let test : Bool = repeats_actions set.actions list.0 in
    rw at (sym (test_first test (slice_set sets (set_place sets key) (used_by k name set)) (λ more. Some ((more, set_place sets key), list.1))) ∙ test_first test list.1 (used_step k sets (set_place sets key) name set))
