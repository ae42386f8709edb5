-- A node as the code reads it: its choice, its outcome, and then its place.
use Rattle.std.proofs.Common.{◌≡◌, ℕ, List, [], ◌∷◌, length, Option, Some, None, option_map, refl, ◌∙◌}
use Rattle.lists.specs.Options.{◌>>=◌}
use Rattle.game_core.specs.declared.tree.Kind.{Kind}
use Rattle.game_core.specs.declared.token.Token.{Token}
use Rattle.written_trees.specs.Written.{SetUse, OutcomeUse, WrittenNode}
use Rattle.written_trees.specs.Described.{key_of, kind_of_use}
use Rattle.written_trees.specs.Building.{PartialTree, PartialSet, PartialOutcome, Branching, use_some_set, use_some_outcome, set_place, outcome_place, add_at, add_node}
use Rattle.tree_grammar.specs.TreeParsing.{grown_at, grown}
use Rattle.tree_grammar.proofs.PartValueLemmas.{choice_at, choice_part_at, outcome_use_at, outcome_part_at, with_outcome, node_at, next_at}

-- ---- a node in steps
-- what a step of the choice, and of the outcome, gives
abbrev pub ChoiceStep : Type 0
ChoiceStep = (List PartialSet × (Kind × Option ℕ)) × List Token

abbrev pub OutcomeStep : Type 0
OutcomeStep = (List PartialOutcome × Option ℕ) × List Token

-- something beside another thing
abbrev pub paired : {A B : Type 0} → B → A → Option (A × B)
paired y x = Some (x, y)

-- the tree with sets and outcomes that a node made
abbrev pub with_uses : PartialTree → List PartialSet → List PartialOutcome → PartialTree
with_uses partial sets outcomes = record { nodes = partial.nodes; sets = sets; outcomes = outcomes; branchings = partial.branchings }

-- the node after its choice and its outcome
abbrev pub with_both : PartialTree → ChoiceStep → OutcomeStep → Option (PartialTree × List Token)
with_both partial c o = grown (with_uses partial c.0.0 o.0.0) c.0.1.0 c.0.1.1 o.0.1 >>= paired o.1

-- the steps one after another
abbrev pub in_steps : ℕ → PartialTree → List Token → Option (PartialTree × List Token)
in_steps players partial tokens =
    choice_part_at players (length partial.nodes) partial.sets tokens
    >>= λ c. outcome_part_at players partial.outcomes c.1
    >>= λ o. with_both partial c o

-- a choice, and an outcome, with the tokens after them
abbrev Choice : Type 0
Choice = Option SetUse × List Token

abbrev Paid : Type 0
Paid = Option OutcomeUse × List Token

-- the number of a set, and of an outcome
abbrev set_of : PartialTree → Choice → Option ℕ
set_of partial c = option_map (λ u. set_place partial.sets (key_of u)) c.0

abbrev outcome_of : PartialTree → Paid → Option ℕ
outcome_of partial u = option_map (λ x. outcome_place partial.outcomes x.label) u.0

-- what a choice makes of the sets
abbrev chosen : PartialTree → Choice → List PartialSet → ChoiceStep
chosen partial c sets = ((sets, (kind_of_use c.0, set_of partial c)), c.1)

abbrev maybe_chosen : PartialTree → Choice → List PartialSet → Option ChoiceStep
maybe_chosen partial c sets = Some (chosen partial c sets)

-- a node of a choice and an outcome
abbrev as_node : Choice → Paid → Option (WrittenNode × List Token)
as_node c u = Some (record { set = c.0; outcome = u.0 }, u.1)

-- the outcome's step
abbrev outcome_after : ℕ → PartialTree → Option Paid → Option OutcomeStep
outcome_after players partial U = U >>= λ u. with_outcome partial.outcomes u.0 >>= paired u.1

-- the tree that has grown by a node with these sets and outcomes
abbrev grown_by : PartialTree → Choice → Paid → List Branching → List PartialSet → List PartialOutcome → Option (PartialTree × List Token)
grown_by partial c u branchings sets outcomes = grown_at (with_uses partial sets outcomes) (kind_of_use c.0) (set_of partial c) (outcome_of partial u) branchings >>= paired u.1

-- the uses, where a branch is open or not
place_step : (partial : PartialTree) (c : Choice) (u : Paid) (branchings : List Branching) (S : Option (List PartialSet)) (O : Option (List PartialOutcome))
    → use_some_set (length partial.nodes) partial.sets c.0 ≡ S → use_some_outcome partial.outcomes u.0 ≡ O
    → (add_at partial (record { set = c.0; outcome = u.0 }) branchings >>= paired u.1) ≡ (S >>= λ sets. O >>= λ outcomes. grown_by partial c u branchings sets outcomes)
place_step partial c u [] None O s o = refl
place_step partial c u [] (Some sets) None s o = refl
place_step partial c u [] (Some sets) (Some outcomes) s o = refl
place_step partial c u (b ∷ rest) None O s o = rw s refl
place_step partial c u (b ∷ rest) (Some sets) None s o = rw (s, o) refl
place_step partial c u (b ∷ rest) (Some sets) (Some outcomes) s o = rw (s, o) refl

-- the outcome is read after the choice
outcome_later : (partial : PartialTree) (c : Choice) (u : Paid) (S : Option (List PartialSet)) (O : Option (List PartialOutcome))
    → (S >>= λ sets. O >>= λ outcomes. grown_by partial c u partial.branchings sets outcomes)
    ≡ (S >>= λ sets. ((O >>= paired (outcome_of partial u)) >>= paired u.1) >>= λ o. with_both partial (chosen partial c sets) o)
outcome_later partial c u None O = refl
outcome_later partial c u (Some sets) None = refl
outcome_later partial c u (Some sets) (Some outcomes) = refl

-- the outcome may be read before the choice is added to the sets, or after that
outcome_step : (players : ℕ) (partial : PartialTree) (c : Choice) (U : Option Paid) (S : Option (List PartialSet)) → use_some_set (length partial.nodes) partial.sets c.0 ≡ S
    → ((U >>= as_node c) >>= λ n. add_node partial n.0 >>= paired n.1) ≡ (S >>= λ sets. outcome_after players partial U >>= λ o. with_both partial (chosen partial c sets) o)
outcome_step players partial c None None s = refl
outcome_step players partial c None (Some sets) s = refl
outcome_step players partial c (Some u) S s = place_step partial c u partial.branchings S (use_some_outcome partial.outcomes u.0) s refl ∙ outcome_later partial c u S (use_some_outcome partial.outcomes u.0)

-- the choice's step
choice_later : (players : ℕ) (partial : PartialTree) (c : Choice) (S : Option (List PartialSet))
    → (S >>= λ sets. outcome_after players partial (outcome_use_at players c.1) >>= λ o. with_both partial (chosen partial c sets) o)
    ≡ ((S >>= maybe_chosen partial c) >>= λ x. outcome_after players partial (outcome_use_at players x.1) >>= λ o. with_both partial x o)
choice_later players partial c None = refl
choice_later players partial c (Some sets) = refl

-- a node's parts, in both orders
both_orders : (players : ℕ) (partial : PartialTree) (C : Option Choice)
    → ((C >>= λ c. outcome_use_at players c.1 >>= as_node c) >>= λ n. add_node partial n.0 >>= paired n.1)
    ≡ ((C >>= λ c. use_some_set (length partial.nodes) partial.sets c.0 >>= maybe_chosen partial c) >>= λ x. outcome_after players partial (outcome_use_at players x.1) >>= λ o. with_both partial x o)
both_orders players partial None = refl
both_orders players partial (Some c) = outcome_step players partial c (outcome_use_at players c.1) (use_some_set (length partial.nodes) partial.sets c.0) refl ∙ choice_later players partial c (use_some_set (length partial.nodes) partial.sets c.0)

-- a node is read in steps
pub next_in_steps : (players : ℕ) (partial : PartialTree) (tokens : List Token) → next_at players partial tokens ≡ in_steps players partial tokens
unfolding next_at node_at choice_part_at outcome_part_at
next_in_steps players partial tokens = both_orders players partial (choice_at players tokens)
