-- What the reader keeps while it reads, in the words of the tree that is partial.
use Rattle.std.specs.Prelude.{ℕ, suc, ◌≤◌, ◌≡◌, List, [], ◌∷◌, length, map, reverse, Option, None, Some, Result, Ok, Err}
use mathlib.Core.Logic.{inl, inr}
use Rattle.std.specs.List.{AllByRecursion}
use Rattle.game_core.specs.Tree.{most_nodes, most_depth}
use Rattle.game_core.specs.declared.token.Token.{Token}
use Rattle.game_core.specs.declared.tree.Node.{Node}
use Rattle.file_parts.specs.declared.stop.PartStop.TheVariants as part_stops
use Rattle.written_trees.specs.Building.{PartialTree, PartialSet, PartialOutcome, Branching, take_branch}
use Rattle.efg_reader.specs.PartialCodes.{PartialNodes}
use Rattle.tree_grammar.specs.TreeParsing.{NodeStop}
use Rattle.efg_reader.specs.declared.builder.Branching.{Branching as Kept}
use Rattle.efg_reader.specs.declared.nodes.NodesStop.{NodesStop}
use Rattle.efg_reader.specs.declared.nodes.NodesStop.TheVariants.{Refused, Passed}

-- a node with open branches
abbrev pub branching_of : Kept → Branching
branching_of b = record { node = b.node; next = b.next; count = b.count; depth = b.depth }

-- the nodes with open branches, the last one first
abbrev pub branchings_of : List Kept → List Branching
branchings_of kept = reverse (map branching_of kept)

-- nodes, and those of them with open branches
abbrev pub nodes_of : List Node → List Kept → PartialNodes
nodes_of nodes kept = record { list = nodes; branchings = branchings_of kept }

-- the tree of these nodes, sets and outcomes, as far as it is partial
abbrev pub tree_of : PartialNodes → List PartialSet → List PartialOutcome → PartialTree
tree_of nodes sets outcomes =
    record { nodes = nodes.list; sets = sets; outcomes = outcomes; branchings = nodes.branchings }

-- a branching among so many nodes: each of its actions before the next led to one of them, and it
-- lies within the limit
pub record IsNear (nodes : ℕ) (b : Branching) : Type 0 where
  pub next_within : b.next ≤ nodes
  pub depth_within : b.depth ≤ suc most_depth

-- no more nodes than a tree may have, and near branchings
pub record AreNodes (nodes : PartialNodes) : Type 0 where
  pub few : length nodes.list ≤ most_nodes
  pub near : AllByRecursion (IsNear (length nodes.list)) nodes.branchings

-- no more sets than nodes, and no more outcomes
pub record IsBuilder (tree : PartialTree) : Type 0 where
  pub few_sets : length tree.sets ≤ length tree.nodes
  pub few_outcomes : length tree.outcomes ≤ length tree.nodes

-- the first open branch was taken, where there was one
abbrev pub HasTaken : List Branching → Option Kept → List Branching → Type 0
HasTaken [] taken after = (taken ≡ None) × (after ≡ [])
HasTaken (b ∷ rest) None after = ⊥
HasTaken (b ∷ rest) (Some taken) after = (branching_of taken ≡ b) × (after ≡ take_branch b rest)

-- a stop is the reading's reason, unless memory ran out
abbrev pub IsStop : {Y : Type 0} → NodesStop → Result Y NodeStop → Type 0
IsStop (Refused (part_stops.Unexpected fault)) reading =
    (rest : List Token) × (reading ≡ Err (inl (fault.kind, rest))) × (length rest ≡ fault.left)
IsStop (Refused part_stops.Memory) reading = Unit {0}
IsStop (Passed what) reading = reading ≡ Err (inr what)

-- what a function of the code answered, seen by view, is what the reading gives, unless memory ran
-- out
abbrev pub ParsesNodes : {X Y : Type 0} → (X → Y) → Result X NodesStop → Result Y NodeStop → Type 0
ParsesNodes view (Ok x) reading = reading ≡ Ok (view x)
ParsesNodes view (Err stop) reading = IsStop stop reading
