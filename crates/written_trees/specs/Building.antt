-- How a tree grows, node by node, as functions: what is partial so far, and what a further node
-- makes of it.
use Rattle.std.specs.Prelude.{ℕ, suc, ◌-◌, ◌^◌, ◌&&◌, if◌then◌else◌, nat_abs, nat_eq, nat_lt, nat_le, Bool, true, List, [], ◌∷◌, ◌++◌, length, map, slice_get, slice_set, slice_index_or, option_map, unwrap_or, ◌+ℤ◌, Option, Some, None}
use Rattle.std.specs.List.{position_or_len, flat_map}
use Rattle.std.specs.Cmp.Lexicographic.{pointwise}
use Rattle.std.specs.Option.{option_or}
use Rattle.lists.specs.Options.{◌>>=◌}
use Rattle.rational.specs.Rational.{ℚ, ◌+ℚ◌, zero_ℚ, one_ℚ}
use Rattle.rational.specs.Tests.{le_test, eq_ℚ}
use Rattle.frac128.specs.Steps.{num_beside}
use Rattle.game_core.specs.declared.tree.Action.{Action}
use Rattle.game_core.specs.declared.tree.Kind.{Kind}
use Rattle.game_core.specs.declared.tree.Node.{Node}
use Rattle.game_core.specs.declared.too_large.What.{What}
use Rattle.game_core.specs.declared.too_large.What.TheVariants.{Nodes, Depth}
use Rattle.game_core.specs.Tree.{GameTree, InformationSet, TreeOutcome, OpenBranch, most_nodes, most_depth, branches_from}
use Rattle.written_trees.specs.Written.{SetUse, OutcomeUse, WrittenNode}
use Rattle.written_trees.specs.Described.{SetKey, key_of, same_set, kind_of_use}

-- ---- sets
-- a set as far as it was used: its name may still come
pub record PartialSet : Type 0 where
  pub owner : Option ℕ
  pub label : ℕ
  pub name : Option (List ℕ)
  pub actions : List Action
  pub members : List ℕ

-- what tells a set from others: its owner and its number
abbrev pub key_of_partial : PartialSet → SetKey
key_of_partial set = (set.owner, set.label)

-- the place of the set with this key, or where it will stand
abbrev pub set_place : List PartialSet → SetKey → ℕ
set_place sets key = position_or_len (λ set. same_set key (key_of_partial set)) sets

-- whether a sum fits
abbrev pub add_test : ℚ → ℚ → Bool
add_test a b =
    nat_lt (nat_abs (num_beside a b)) (2 ^ 127) && (nat_lt (nat_abs (num_beside b a)) (2 ^ 127)
    && (nat_lt (nat_abs (num_beside a b +ℤ num_beside b a)) (2 ^ 127)
    && nat_lt (a +ℚ b).den (2 ^ 127)))

-- whether a probability may come after others with this sum: it is not negative, the sum fits, and
-- is at most 1
unfoldable pub may_follow : ℚ → ℚ → Bool
may_follow sum prob = le_test zero_ℚ prob && (add_test sum prob && le_test (sum +ℚ prob) one_ℚ)

-- whether probabilities may come after others with this sum, and end with 1
abbrev pub adds_up : ℚ → List Action → Bool
adds_up sum [] = eq_ℚ sum one_ℚ
adds_up sum (action ∷ actions) = may_follow sum action.prob && adds_up (sum +ℚ action.prob) actions

-- whether a first list may stand for this owner
abbrev pub may_be_first : Option ℕ → List Action → Bool
may_be_first None actions = adds_up zero_ℚ actions
may_be_first (Some i) actions = true

-- whether a later list repeats the first
abbrev pub repeats_actions : List Action → Option (List Action) → Bool
repeats_actions actions None = true
repeats_actions actions (Some list) =
    pointwise eq_ℚ (map (λ action. action.prob) list) (map (λ action. action.prob) actions)

-- the set of a first use by node k
abbrev pub new_set : ℕ → SetUse → List Action → PartialSet
new_set k used actions =
    record {
      owner = used.owner;
      label = used.label;
      name = used.name;
      actions = actions;
      members = k ∷ [];
    }

-- a set that node k uses again
abbrev pub used_set : ℕ → SetUse → PartialSet → PartialSet
used_set k used set =
    record {
      owner = set.owner;
      label = set.label;
      name = option_or set.name used.name;
      actions = set.actions;
      members = set.members ++ k ∷ [];
    }

-- the sets after the set with this place is used again, or a new one is made where there is none
abbrev pub with_use : ℕ → List PartialSet → SetUse → Option PartialSet → Option (List PartialSet)
with_use k sets used None =
    used.actions >>= λ actions. if may_be_first used.owner actions
    then Some (sets ++ new_set k used actions ∷ []) else None
with_use k sets used (Some set) =
    if repeats_actions set.actions used.actions
    then Some (slice_set sets (set_place sets (key_of used)) (used_set k used set)) else None

-- the sets after node k uses one of them
abbrev pub use_set : ℕ → List PartialSet → SetUse → Option (List PartialSet)
use_set k sets used = with_use k sets used (slice_get sets (set_place sets (key_of used)))

-- ---- outcomes
-- an outcome as far as it was used: its name may still come
pub record PartialOutcome : Type 0 where
  pub label : ℕ
  pub name : Option (List ℕ)
  pub payoffs : List ℚ

-- the place of the outcome with this number, or where it will stand
abbrev pub outcome_place : List PartialOutcome → ℕ → ℕ
outcome_place outcomes label = position_or_len (λ outcome. nat_eq label outcome.label) outcomes

-- whether later payoffs repeat the first
abbrev pub repeats_payoffs : List ℚ → Option (List ℚ) → Bool
repeats_payoffs payoffs None = true
repeats_payoffs payoffs (Some list) = pointwise eq_ℚ list payoffs

-- the outcome of a first use
abbrev pub new_outcome : OutcomeUse → List ℚ → PartialOutcome
new_outcome used payoffs = record { label = used.label; name = used.name; payoffs = payoffs }

-- an outcome that is used again
abbrev pub used_outcome : OutcomeUse → PartialOutcome → PartialOutcome
used_outcome used outcome =
    record {
      label = outcome.label;
      name = option_or outcome.name used.name;
      payoffs = outcome.payoffs;
    }

-- the outcomes after this one is used again, or a new one is made where there is none
abbrev pub with_outcome_use : List PartialOutcome → OutcomeUse → Option PartialOutcome
    → Option (List PartialOutcome)
with_outcome_use outcomes used None =
    used.payoffs >>= λ payoffs. Some (outcomes ++ new_outcome used payoffs ∷ [])
with_outcome_use outcomes used (Some outcome) =
    if repeats_payoffs outcome.payoffs used.payoffs
    then Some (slice_set outcomes (outcome_place outcomes used.label) (used_outcome used outcome))
    else None

-- the outcomes after a node uses one of them
abbrev pub use_outcome : List PartialOutcome → OutcomeUse → Option (List PartialOutcome)
use_outcome outcomes used =
    with_outcome_use outcomes used (slice_get outcomes (outcome_place outcomes used.label))

-- ---- open branches
-- A node some of whose actions lead nowhere yet: the node (nothing before the root), the first such
-- action, how many actions it has, and how many edges below the root what follows lies.
pub record Branching : Type 0 where
  pub node : Option ℕ
  pub next : ℕ
  pub count : ℕ
  pub depth : ℕ

-- the open branches of these nodes, the first one first
abbrev pub open_branches : List Branching → List OpenBranch
open_branches branchings = flat_map (λ b. branches_from b.node b.next (b.count - b.next)) branchings

-- the branchings after the first open branch is taken
abbrev pub take_branch : Branching → List Branching → List Branching
take_branch b rest =
    if nat_lt (suc b.next) b.count
    then record { node = b.node; next = suc b.next; count = b.count; depth = b.depth } ∷ rest
    else rest

-- the branchings after node k with so many actions, whose children lie at this depth, is added
abbrev pub add_branches : ℕ → ℕ → ℕ → List Branching → List Branching
add_branches k count depth rest =
    if nat_lt 0 count then record { node = Some k; next = 0; count = count; depth = depth } ∷ rest
    else rest

-- ---- the tree
-- a tree as far as it is written: its nodes in prefix order, the sets and the outcomes in the order
-- of their first use, and the nodes with open branches, the one with the first of them first
pub record PartialTree : Type 0 where
  pub nodes : List Node
  pub sets : List PartialSet
  pub outcomes : List PartialOutcome
  pub branchings : List Branching

-- nothing but the root's branch
abbrev pub root_alone : PartialTree
root_alone =
    record {
      nodes = [];
      sets = [];
      outcomes = [];
      branchings = record { node = None; next = 0; count = 1; depth = 0 } ∷ [];
    }

-- the sets after a node that may use one
abbrev pub use_some_set : ℕ → List PartialSet → Option SetUse → Option (List PartialSet)
use_some_set k sets None = Some sets
use_some_set k sets (Some used) = use_set k sets used

-- the outcomes after a node that may use one
abbrev pub use_some_outcome : List PartialOutcome → Option OutcomeUse → Option (List PartialOutcome)
use_some_outcome outcomes None = Some outcomes
use_some_outcome outcomes (Some used) = use_outcome outcomes used

-- how many actions a set has, and none at an end
abbrev pub partial_count : List PartialSet → Option ℕ → ℕ
partial_count sets None = 0
partial_count sets (Some s) = slice_index_or (map (λ set. length set.actions) sets) s 0

-- the sets with the one that a node uses, who chooses there, and that set's place
abbrev pub UsedSet : Type 0
UsedSet = List PartialSet × (Kind × Option ℕ)

-- the tree with one more node of these parts, at the first open branch
abbrev pub with_parts : PartialTree → Branching → List Branching → UsedSet
    → List PartialOutcome × Option ℕ → PartialTree
with_parts partial b rest choice outcome = record {
  nodes =
      partial.nodes
      ++ record {
        kind = choice.1.0;
        parent = b.node;
        branch = b.next;
        set = choice.1.1;
        outcome = outcome.1;
      } ∷ [];
  sets = choice.0;
  outcomes = outcome.0;
  branchings =
      add_branches (length partial.nodes) (partial_count choice.0 choice.1.1) (suc b.depth)
      (take_branch b rest);
}

-- the tree with one more written node
abbrev pub with_node : PartialTree → WrittenNode → Branching → List Branching → List PartialSet
    → List PartialOutcome → PartialTree
with_node partial written b rest sets outcomes =
    with_parts partial b rest (
      sets,
      (
        kind_of_use written.set,
        option_map (λ used. set_place partial.sets (key_of used)) written.set,
      ),
    )
    (outcomes, option_map (λ used. outcome_place partial.outcomes used.label) written.outcome)

-- a further node at the first of these branchings, where there is one and what it says agrees with
-- the others
abbrev pub add_at : PartialTree → WrittenNode → List Branching → Option PartialTree
add_at partial written [] = None
add_at partial written (b ∷ rest) =
    use_some_set (length partial.nodes) partial.sets written.set
    >>= λ sets. use_some_outcome partial.outcomes written.outcome
    >>= λ outcomes. Some (with_node partial written b rest sets outcomes)

-- a further node, where a branch is open and what it says agrees with the others
abbrev pub add_node : PartialTree → WrittenNode → Option PartialTree
add_node partial written = add_at partial written partial.branchings

-- the limit that a further node at the first of these branchings would pass
abbrev pub passed_at : PartialTree → List Branching → Option What
passed_at partial [] = None
passed_at partial (b ∷ rest) =
    if nat_le most_nodes (length partial.nodes) then Some Nodes else if nat_lt most_depth b.depth
    then Some Depth else None

-- the limit that a further node would pass
abbrev pub passed : PartialTree → Option What
passed partial = passed_at partial partial.branchings

-- a further node within the limits
abbrev pub within_limits : {A : Type 0} → Option What → Option A → Option A
within_limits None reading = reading
within_limits (Some what) reading = None

-- further nodes, one after another
abbrev pub add_nodes : PartialTree → List WrittenNode → Option PartialTree
add_nodes partial [] = Some partial
add_nodes partial (one ∷ written) =
    within_limits (passed partial) (add_node partial one) >>= λ next. add_nodes next written

-- a set of the whole tree, with the name that came, and else the empty one
abbrev pub finished_set : PartialSet → InformationSet
finished_set set =
    record {
      owner = set.owner;
      label = set.label;
      name = unwrap_or set.name [];
      actions = set.actions;
      members = set.members;
    }

-- an outcome of the whole tree, with the name that came, and else the empty one
abbrev pub finished_outcome : PartialOutcome → TreeOutcome
finished_outcome outcome =
    record { label = outcome.label; name = unwrap_or outcome.name []; payoffs = outcome.payoffs }

-- the tree as far as it is partial
abbrev pub tree_so_far : List ℕ → List (List ℕ) → PartialTree → GameTree
tree_so_far title players partial = record {
  title = title;
  players = players;
  nodes = partial.nodes;
  sets = map finished_set partial.sets;
  outcomes = map finished_outcome partial.outcomes;
}
