-- What a tree keeps while it is built.
use Rattle.std.proofs.Common.{◌≡◌, ℕ, suc, ◌+◌, ◌<◌, ◌≤◌, nat_lt, Bool, true, false, cond, List, [], ◌∷◌, ◌++◌, length, map, Option, Some, None, refl, sym, ◌∙◌, length-append, arith}
use Rattle.std.specs.List.{AllByRecursion}
use Rattle.std.proofs.lemmas.Bool.Decides.{nat_tests}
use Rattle.std.proofs.lemmas.List.Elements.{All-nil, All-weaker}
use Rattle.game_core.specs.declared.tree.Node.{Node}
use Rattle.game_core.specs.Tree.{IsBelow, OpenBranch, action_count, AreInPrefixOrder, most_nodes}
use Rattle.written_trees.specs.Written.{WrittenNode}
use Rattle.written_trees.specs.Building.{PartialSet, Branching, PartialTree, root_alone, open_branches, take_branch, add_branches, partial_count, finished_set, add_nodes}
use Rattle.written_trees.proofs.DepthLemmas.{HangsAt, AllLie, hangs_longer, lies_new, all_lie_more}
use Rattle.written_trees.proofs.MemberLemmas.{NameSets, HaveMembers}
use Rattle.written_trees.proofs.PlaceLemmas.{open_branches-take, open_branches-add, order_more, order_same}
use Rattle.written_trees.proofs.SetGrowthLemmas.{used_number, GrowsTo, grows, same_count, count_is, name_sets_more}
use Rattle.written_trees.proofs.StepLemmas.{new_node, Step, grown, built_so}

-- ---- branchings
-- a branching has an open branch, and its node lies one edge above it
pub record IsBranching (nodes : List Node) (b : Branching) : Type 0 where
  pub some_branch : b.next < b.count
  pub hangs : HangsAt nodes b.node b.depth

-- each is one
abbrev pub AreBranchings : List Node → List Branching → Type 0
AreBranchings nodes branchings = AllByRecursion (IsBranching nodes) branchings

-- they stay so when a node comes
branchings_longer : (nodes : List Node) (node : Node) (branchings : List Branching) → AreBranchings nodes branchings → AreBranchings (nodes ++ node ∷ []) branchings
branchings_longer nodes node [] h = tt
branchings_longer nodes node (b ∷ rest) h =
    (record { some_branch = h.0.some_branch; hangs = hangs_longer nodes (node ∷ []) b.node b.depth h.0.hangs }, branchings_longer nodes node rest h.1)

-- when the first place is taken
branchings-take : (nodes : List Node) (b : Branching) (rest : List Branching) → AreBranchings nodes (b ∷ rest) → AreBranchings nodes (take_branch b rest)
branchings-take nodes b rest h = go (nat_lt (suc b.next) b.count) refl
  where
    go : (v : Bool) → nat_lt (suc b.next) b.count ≡ v → AreBranchings nodes (cond v (record { node = b.node; next = suc b.next; count = b.count; depth = b.depth } ∷ rest) rest)
    go true e = (record { some_branch = grind (arith, nat_tests); hangs = h.0.hangs }, h.1)
    go false e = h.1

-- when a node with places comes
branchings-add : (nodes : List Node) (k count depth : ℕ) (rest : List Branching) → HangsAt nodes (Some k) depth → AreBranchings nodes rest → AreBranchings nodes (add_branches k count depth rest)
branchings-add nodes k count depth rest hangs h = go (nat_lt 0 count) refl
  where
    go : (v : Bool) → nat_lt 0 count ≡ v → AreBranchings nodes (cond v (record { node = Some k; next = 0; count = count; depth = depth } ∷ rest) rest)
    go true e = (record { some_branch = grind (arith, nat_tests); hangs = hangs }, h)
    go false e = h

-- a further node takes the first place, and brings its own
branchings_more : (nodes : List Node) (node : Node) (b : Branching) (rest : List Branching) (count : ℕ) → node.parent ≡ b.node → AreBranchings nodes (b ∷ rest) → AreBranchings (nodes ++ node ∷ []) (add_branches (length nodes) count (suc b.depth) (take_branch b rest))
branchings_more nodes node b rest count is h =
    branchings-add (nodes ++ node ∷ []) (length nodes) count (suc b.depth) (take_branch b rest) (b.depth, lies_new nodes node b.node b.depth is h.0.hangs, refl) (branchings-take (nodes ++ node ∷ []) b rest (branchings_longer nodes node (b ∷ rest) h))

-- ---- prefix order
-- the root's branch
abbrev pub root_branch : List OpenBranch
root_branch = (None, 0) ∷ []

-- nodes are in prefix order, with sets that are partial
abbrev pub AreInOrder : List PartialSet → List Node → List OpenBranch → Type 0
AreInOrder sets nodes free = AreInPrefixOrder (map finished_set sets) 0 nodes root_branch free

-- a node keeps its actions when another makes more of the sets
same_actions : (k : ℕ) (sets others : List PartialSet) (number : Option ℕ) → GrowsTo k sets number others → (node : Node) → IsBelow (length sets) node.set → action_count (map finished_set sets) node.set ≡ action_count (map finished_set others) node.set
same_actions k sets others number g node h = count_is sets node.set ∙ same_count k sets others number g node.set h ∙ sym (count_is others node.set)

-- so they stay in order
pub order_stays : (k : ℕ) (sets others : List PartialSet) (number : Option ℕ) (nodes : List Node) (free : List OpenBranch) → GrowsTo k sets number others → NameSets (length sets) nodes → AreInOrder sets nodes free → AreInOrder others nodes free
order_stays k sets others number nodes free g within h =
    let P = λ (node : Node). action_count (map finished_set sets) node.set ≡ action_count (map finished_set others) node.set in
    order_same (map finished_set sets) (map finished_set others) 0 nodes root_branch free (All-weaker (λ node. IsBelow (length sets) node.set) P (same_actions k sets others number g) nodes within) h

-- and were in order before
pub order_stayed : (k : ℕ) (sets others : List PartialSet) (number : Option ℕ) (nodes : List Node) (free : List OpenBranch) → GrowsTo k sets number others → NameSets (length sets) nodes → AreInOrder others nodes free → AreInOrder sets nodes free
order_stayed k sets others number nodes free g within h =
    let P = λ (node : Node). action_count (map finished_set others) node.set ≡ action_count (map finished_set sets) node.set in
    order_same (map finished_set others) (map finished_set sets) 0 nodes root_branch free (All-weaker (λ node. IsBelow (length sets) node.set) P (λ node w. sym (same_actions k sets others number g node w)) nodes within) h

-- the nodes with one more leave its actions' places free
order_grows : (sets : List PartialSet) (nodes : List Node) (node : Node) (b : Branching) (rest : List Branching) → b.next < b.count → node.parent ≡ b.node → node.branch ≡ b.next → AreInOrder sets nodes (open_branches (b ∷ rest))
    → AreInOrder sets (nodes ++ node ∷ []) (open_branches (add_branches (length nodes) (partial_count sets node.set) (suc b.depth) (take_branch b rest)))
order_grows sets nodes node b rest lt parent branch h =
    let before : AreInOrder sets nodes ((node.parent, node.branch) ∷ open_branches (take_branch b rest)) = rw (parent, branch, ← open_branches-take b rest lt) h in
    let after = order_more (map finished_set sets) 0 nodes node root_branch (open_branches (take_branch b rest)) before in
    let k : 0 + length nodes ≡ length nodes = omega arith in
    rw open_branches-add (rw (k, count_is sets node.set) at after)

-- ---- all of it
pub record IsSound (partial : PartialTree) : Type 0 where
  pub few_nodes : length partial.nodes ≤ most_nodes
  pub few_sets : length partial.sets ≤ length partial.nodes
  pub name_sets : NameSets (length partial.sets) partial.nodes
  pub have_members : HaveMembers partial.nodes partial.sets
  pub in_order : AreInOrder partial.sets partial.nodes (open_branches partial.branchings)
  pub are_branchings : AreBranchings partial.nodes partial.branchings
  pub lie : AllLie partial.nodes

-- nothing but the root's branch
sound-nothing : IsSound root_alone
sound-nothing = record {
  few_nodes = omega arith;
  few_sets = omega arith;
  name_sets = All-nil (λ node. IsBelow 0 node.set);
  have_members = λ s set e. absurd (cc);
  in_order = refl;
  are_branchings = (record { some_branch = omega arith; hangs = refl }, tt);
  lie = λ k lt. absurd (omega arith);
}

-- a further node
sound-more : (partial : PartialTree) (one : WrittenNode) (s : Step partial one) → IsSound partial → IsSound (grown partial one s)
sound-more partial one s h = record {
  few_nodes = omega (arith, length-append partial.nodes (node ∷ []), s.more_nodes);
  few_sets = omega (arith, length-append partial.nodes (node ∷ []), g.few, h.few_sets);
  name_sets = name_sets_more k partial.sets s.sets partial.nodes node g h.name_sets;
  have_members = g.have_members partial.nodes node refl refl h.name_sets h.have_members;
  in_order = order_grows s.sets partial.nodes node s.first s.rest branchings.0.some_branch refl refl (rw s.branchings_are at (order_stays k partial.sets s.sets number partial.nodes _ g h.name_sets h.in_order));
  are_branchings = branchings_more partial.nodes node s.first s.rest (partial_count s.sets number) refl branchings;
  lie = all_lie_more partial.nodes node s.first.depth h.lie branchings.0.hangs s.few_edges;
}
  where
    k : ℕ
    k = length partial.nodes

    number : Option ℕ
    number = used_number partial.sets one.set

    node : Node
    node = new_node partial one s.first

    g : GrowsTo k partial.sets number s.sets
    g = grows k partial.sets s.sets one.set s.sets_are

    branchings : AreBranchings partial.nodes (s.first ∷ s.rest)
    branchings = rw s.branchings_are at h.are_branchings

-- what is built is sound
pub sound : (written : List WrittenNode) (partial : PartialTree) → add_nodes root_alone written ≡ Some partial → IsSound partial
sound = built_so (λ written partial. IsSound partial) sound-nothing (λ written partial one s h. sound-more partial one s h)
