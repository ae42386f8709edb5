-- What contracts see of the tree that is partial, and how it is stored as numbers and lists.
use Rattle.std.specs.Prelude.{ℕ, List, Option, refl}
use Rattle.std.specs.Coded.{Coded, code_by, coded×, coded_ℕ, coded_list, coded_option}
use Rattle.game_core.specs.declared.tree.Node.{Node}
use Rattle.game_core.specs.TreeCodes.{code_of_node}
use Rattle.written_trees.specs.Building.{PartialSet, PartialOutcome, Branching, PartialTree}
use Rattle.tree_grammar.specs.UseCodes.{code_of_partial_set, code_of_partial_outcome}

-- the nodes in prefix order, and those with open branches, the one with the first of them first
pub record PartialNodes : Type 0 where
  pub list : List Node
  pub branchings : List Branching

-- a node with open branches is stored as its four parts
abbrev pub code_of_branching : Coded Branching
code_of_branching =
    code_by (Option ℕ × (ℕ × (ℕ × ℕ)))
    (coded× (coded_option coded_ℕ) (coded× coded_ℕ (coded× coded_ℕ coded_ℕ)))
    (λ b. (b.node, (b.next, (b.count, b.depth))))
    (λ p. record { node = p.0; next = p.1.0; count = p.1.1.0; depth = p.1.1.1 }) (λ _. refl)

-- nodes are stored as their two lists
abbrev pub code_of_partial_nodes : Coded PartialNodes
code_of_partial_nodes =
    code_by (List Node × List Branching)
    (coded× (coded_list code_of_node) (coded_list code_of_branching)) (λ n. (n.list, n.branchings))
    (λ p. record { list = p.0; branchings = p.1 }) (λ _. refl)

-- a tree is stored as its four lists
abbrev pub code_of_partial_tree : Coded PartialTree
code_of_partial_tree =
    code_by (List Node × (List PartialSet × (List PartialOutcome × List Branching)))
    (coded× (coded_list code_of_node)
    (coded× (coded_list code_of_partial_set)
    (coded× (coded_list code_of_partial_outcome) (coded_list code_of_branching))))
    (λ t. (t.nodes, (t.sets, (t.outcomes, t.branchings))))
    (λ p. record { nodes = p.0; sets = p.1.0; outcomes = p.1.1.0; branchings = p.1.1.1 })
    (λ _. refl)
