-- What the tokens of a tree answer: the tree, or why it is not read.
use Rattle.std.specs.Prelude.{ℕ, zero, suc, ◌≡◌, ◌⊎◌, List, Ok, Err}
use Rattle.answers.specs.Answers.{Answer}
use Rattle.game_core.specs.Limits.{first_above}
use Rattle.game_core.specs.Tree.{GameTree, most_depth, most_nodes}
use Rattle.game_core.specs.declared.too_large.TooLarge.{TooLarge}
use Rattle.game_core.specs.declared.too_large.What.{What}
use Rattle.game_core.specs.declared.too_large.What.TheVariants.{Nodes, Depth}
use Rattle.game_core.specs.TokenList.{TokenList, bare}
use Rattle.game_core.specs.declared.token.Token.{Token}
use Rattle.tree_grammar.specs.TreeFile.{IsTreeFile, PassesLimit}
use Rattle.tree_faults.specs.FaultKinds.{IsFault}
use Rattle.tree_grammar.specs.declared.kinds.EfgKind.{EfgKind}
use Rattle.tree_grammar.specs.declared.kinds.EfgKind.TheVariants.{Unfinished}
use Rattle.file_parts.specs.Reading.{offset_of}
use Rattle.file_parts.specs.declared.stop.PartStop.{PartStop}
use Rattle.file_parts.specs.declared.stop.PartStop.TheVariants as part_stops
use Rattle.efg_reader.specs.declared.fault.EfgStop.{EfgStop}
use Rattle.efg_reader.specs.declared.nodes.NodesStop.{NodesStop}
use Rattle.efg_reader.specs.declared.nodes.NodesStop.TheVariants.{Refused, Passed}
use Rattle.efg_reader.specs.declared.fault.EfgStop.TheVariants as stops

-- a limit is passed, by the number of nodes or by the depth
abbrev pub IsPassed : List Token → TooLarge → Type 0
IsPassed tokens limit =
    ((limit ≡ first_above Nodes most_nodes) × PassesLimit tokens Nodes)
    ⊎ ((limit ≡ first_above Depth most_depth) × PassesLimit tokens Depth)

-- The tree of a file, within the limits of trees. A fault comes with its offset and its kind, where
-- the tokens have one and pass no limit; a limit comes where it is passed.
abbrev pub tree_in : TokenList → Answer EfgStop GameTree
tree_in tokens (Ok tree) = IsTreeFile (bare tokens.list) tree
tree_in tokens (Err (stops.Fault fault)) =
    IsFault tokens fault.kind fault.at × ((what : What) → PassesLimit (bare tokens.list) what → ⊥)
tree_in tokens (Err (stops.TooLarge limit)) = IsPassed (bare tokens.list) limit
tree_in tokens (Err stops.Memory) = ⊥

-- the stop that a part's becomes
abbrev pub IsEfgStop : PartStop EfgKind → TokenList → EfgStop → Type 0
IsEfgStop (part_stops.Unexpected fault) tokens stop =
    stop ≡ stops.Fault (record { at = offset_of tokens fault.left; kind = fault.kind })
IsEfgStop part_stops.Memory tokens stop = stop ≡ stops.Memory

-- the kind inside the nodes: where no token is left, they end too early
abbrev pub kind_in_nodes : EfgKind → ℕ → EfgKind
kind_in_nodes kind zero = Unfinished
kind_in_nodes kind (suc left) = kind

-- the stop that nodes become that are not read
abbrev pub IsNodesStop : NodesStop → TokenList → EfgStop → Type 0
IsNodesStop (Refused (part_stops.Unexpected fault)) tokens stop =
    stop
    ≡ stops.Fault
    (record { at = offset_of tokens fault.left; kind = kind_in_nodes fault.kind fault.left })
IsNodesStop (Refused part_stops.Memory) tokens stop = stop ≡ stops.Memory
IsNodesStop (Passed Nodes) tokens stop = stop ≡ stops.TooLarge (first_above Nodes most_nodes)
IsNodesStop (Passed _) tokens stop = stop ≡ stops.TooLarge (first_above Depth most_depth)
