-- Nodes one after another: the tree that they make, their tokens, and the branches that they leave open.
use Rattle.std.proofs.Common.{◌≡◌, ℕ, suc, ◌+◌, ◌-◌, ◌≤◌, true, false, List, [], ◌∷◌, ◌++◌, length, Some, None, nat_eq, refl, sym, ap, ◌∙◌, append_assoc, length-append, arith}
use Rattle.std.proofs.lemmas.Bool.Decides.{nat_tests}
use Rattle.std.proofs.lemmas.List.Elements.{All-nil, All-cons}
use Rattle.std.specs.Prelude.{All}
use Rattle.game_core.specs.declared.too_large.What.{What}
use Rattle.game_core.specs.declared.tree.Node.{Node}
use Rattle.written_trees.specs.Written.{WrittenNode}
use Rattle.written_trees.specs.Building.{PartialTree, Branching, open_branches, add_at, add_node, add_nodes, passed_at, passed, within_limits}
use Rattle.written_trees.specs.Laws.{IsWrittenNode}
use Rattle.written_trees.proofs.SoundTreeLemmas.{AreBranchings}
use Rattle.tree_grammar.specs.TreeFile.{IsNode, AreNodes}
use Rattle.tree_grammar.specs.TreeParsing.{is_whole}
use Rattle.tree_grammar.proofs.SetLaws.{IsBare}
use Rattle.tree_grammar.proofs.NodeLaws.{node_written, node_begins}
use Rattle.written_trees.proofs.StepLemmas.{allowed}
use Rattle.lists.proofs.OptionLemmas.{bind_some}
use Rattle.game_core.specs.declared.token.Token.{Token}

-- ---- one node more
-- a node comes first, and the tree grows by it
pub record BeginsWithNext (players : ℕ) (partial : PartialTree) (tokens : List Token) (x : PartialTree × List Token) : Type 0 where
  pub limit : passed partial ≡ None
  pub node : WrittenNode
  pub part : List Token
  pub is_node : IsNode players part node
  pub added : add_node partial node ≡ Some x.0
  pub is : tokens ≡ part ++ x.1

-- ---- nodes
-- nodes come first, and the tree grows by them
pub record BeginsWithNodes (players : ℕ) (partial : PartialTree) (tokens : List Token) (x : PartialTree × List Token) : Type 0 where
  pub written : List WrittenNode
  pub nodes : List Token
  pub are_nodes : AreNodes players nodes written
  pub added : add_nodes partial written ≡ Some x.0
  pub is : tokens ≡ nodes ++ x.1

-- no node
pub none_more : (players : ℕ) (partial : PartialTree) (tokens : List Token) → BeginsWithNodes players partial tokens (partial, tokens)
none_more players partial tokens = record { written = []; nodes = []; are_nodes = refl; added = refl; is = refl }

-- one more node in front
pub one_before : (players : ℕ) (partial : PartialTree) (tokens : List Token) (one x : PartialTree × List Token) → BeginsWithNext players partial tokens one → BeginsWithNodes players one.0 one.1 x → BeginsWithNodes players partial tokens x
one_before players partial tokens one x o m = record {
  written = o.node ∷ m.written;
  nodes = o.part ++ m.nodes;
  are_nodes = (o.part, m.nodes, refl, o.is_node, m.are_nodes);
  added = rw (o.limit, o.added) m.added;
  is = o.is ∙ ap (λ (r : List Token). o.part ++ r) m.is ∙ sym (append_assoc o.part m.nodes x.1);
}

-- where a node is added, a place is free
pub place_free : (partial next : PartialTree) (node : WrittenNode) (branchings : List Branching) → add_at partial node branchings ≡ Some next → nat_eq (length branchings) 0 ≡ false
place_free partial next node [] e = cc
place_free partial next node (b ∷ branchings) e = grind (arith, nat_tests)

-- one node is added, and then the others
pub record AreAdded (partial more : PartialTree) (one : WrittenNode) (written : List WrittenNode) : Type 0 where
  pub limit : passed partial ≡ None
  pub next : PartialTree
  pub added : add_node partial one ≡ Some next
  pub others : add_nodes next written ≡ Some more

-- the parts of adding nodes
pub parts_added : (partial more : PartialTree) (one : WrittenNode) (written : List WrittenNode) → add_nodes partial (one ∷ written) ≡ Some more → AreAdded partial more one written
parts_added partial more one written e =
    let a = bind_some (within_limits (passed partial) (add_node partial one)) (λ next. add_nodes next written) more e in
    let w = allowed (passed partial) (add_node partial one) a.0 a.1 in
    record { limit = w.0; next = a.0; added = w.1; others = a.2 }

-- nodes before what is bare are bare
pub nodes_bare : (players : ℕ) (nodes rest : List Token) (written : List WrittenNode) → AreNodes players nodes written → IsBare rest → IsBare (nodes ++ rest)
nodes_bare players nodes rest [] h bare = rw h bare
nodes_bare players nodes rest (one ∷ written) h bare =
    let word = node_begins players h.0 one h.3 in
    rw (h.2, word.is) (record { no_text = refl; no_list = refl })

-- nodes take tokens
pub nodes_take : (players : ℕ) (nodes : List Token) (written : List WrittenNode) → AreNodes players nodes written → length written ≤ length nodes
nodes_take players nodes [] h = omega arith
nodes_take players nodes (one ∷ written) h =
    let word = node_begins players h.0 one h.3 in
    let front : length h.0 ≡ suc (length word.tail) = ap length word.is in
    let back = nodes_take players h.1 written h.4 in
    let all : length nodes ≡ length h.0 + length h.1 = ap length h.2 ∙ length-append h.0 h.1 in
    omega arith

-- ---- the places
-- where each branching has an open branch and none is free, nothing branches
nothing_left : (nodes : List Node) (branchings : List Branching) → AreBranchings nodes branchings → open_branches branchings ≡ [] → branchings ≡ []
nothing_left nodes [] h e = refl
nothing_left nodes (b ∷ branchings) h e =
    let left : b.count - b.next ≡ suc (b.count - suc b.next) = omega (arith, h.0.some_branch) in
    let no = rw left at e in
    cc

-- a tree with no open branch is whole
pub whole_again : (partial : PartialTree) → AreBranchings partial.nodes partial.branchings → open_branches partial.branchings ≡ [] → is_whole partial ≡ true
whole_again partial h e = rw (nothing_left partial.nodes partial.branchings h e) refl

-- where nothing branches, no branch is open
pub no_branching : (branchings : List Branching) → nat_eq (length branchings) 0 ≡ true → open_branches branchings ≡ []
no_branching [] e = refl
no_branching (b ∷ branchings) e = absurd (grind (arith, nat_tests))

-- nodes of a file are nodes of a game with so many players
pub all_written : (players : ℕ) (nodes : List Token) (written : List WrittenNode) → AreNodes players nodes written → All (IsWrittenNode players) written
all_written players nodes [] h = All-nil (IsWrittenNode players)
all_written players nodes (one ∷ written) h = All-cons (IsWrittenNode players) one written (node_written players h.0 one h.3) (all_written players h.1 written h.4)

-- where a node would pass a limit, a place is free
pub limit_free : (partial : PartialTree) (what : What) (branchings : List Branching) → passed_at partial branchings ≡ Some what → nat_eq (length branchings) 0 ≡ false
limit_free partial what [] e = cc
limit_free partial what (b ∷ branchings) e = grind (arith, nat_tests)
