-- That building from written nodes gives what they describe, and sees each limit that is passed.
use Rattle.std.specs.Prelude.{ℕ, ◌<◌, ◌^◌, ◌≡◌, List, length, All, IfSome, Some}
use Rattle.game_core.specs.declared.too_large.What.{What}
use Rattle.game_core.specs.Tree.{GameTree, OpenBranch, IsBelow}
use Rattle.written_trees.specs.Written.{SetUse, OutcomeUse, WrittenNode}
use Rattle.written_trees.specs.Described.{IsActionList, Describe, PassesAt}
use Rattle.written_trees.specs.Building.{PartialTree, root_alone, add_nodes, passed, tree_so_far, open_branches}

-- a use of a set by one of so many players, or by chance
pub record IsSetUse (players : ℕ) (used : SetUse) : Type 0 where
  pub owner_within : IsBelow players used.owner
  pub is_list : IfSome used.actions (IsActionList used.owner)

-- a use of an outcome that pays so many players
abbrev pub IsOutcomeUse : ℕ → OutcomeUse → Type 0
IsOutcomeUse players used = IfSome used.payoffs (λ payoffs. length payoffs ≡ players)

-- a node of a game with so many players
pub record IsWrittenNode (players : ℕ) (node : WrittenNode) : Type 0 where
  pub set_is : IfSome node.set (IsSetUse players)
  pub outcome_is : IfSome node.outcome (IsOutcomeUse players)

-- what is built is described
abbrev pub BuiltIsDescribed : Type 0
BuiltIsDescribed =
    (title : List ℕ) (players : List (List ℕ)) (written : List WrittenNode) (partial : PartialTree)
    → length players < 2 ^ 32
    → All (IsWrittenNode (length players)) written → add_nodes root_alone written ≡ Some partial
    → Describe written (tree_so_far title players partial) (open_branches partial.branchings)

-- what is described is built
pub record IsBuilt (written : List WrittenNode) (t : GameTree)
    (free : List OpenBranch) : Type 0 where
  pub partial : PartialTree
  pub is_built : add_nodes root_alone written ≡ Some partial
  pub tree_is : t ≡ tree_so_far t.title t.players partial
  pub free_is : free ≡ open_branches partial.branchings

abbrev pub DescribedIsBuilt : Type 0
DescribedIsBuilt = (written : List WrittenNode) (t : GameTree) (free : List OpenBranch)
    → Describe written t free → IsBuilt written t free

-- a partial tree passes the limits that a further node of the tree so far would pass
pub record LimitsAreSeen (title : List ℕ) (players : List (List ℕ))
    (partial : PartialTree) : Type 0 where
  pub passes : (what : What) → passed partial ≡ Some what
      → PassesAt (tree_so_far title players partial) (open_branches partial.branchings) what
  pub passed_so : (what : What)
      → PassesAt (tree_so_far title players partial) (open_branches partial.branchings) what
      → passed partial ≡ Some what

abbrev pub LimitsAreExact : Type 0
LimitsAreExact =
    (written : List WrittenNode) (title : List ℕ) (players : List (List ℕ)) (partial : PartialTree)
    → add_nodes root_alone written ≡ Some partial → LimitsAreSeen title players partial
