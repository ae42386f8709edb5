-- The limits are seen where they are.
use Rattle.std.proofs.Common.{◌≡◌, ℕ, suc, ◌<◌, ◌≤◌, nat_lt, nat_le, Bool, true, false, cond, List, [], ◌∷◌, length, Option, Some, None, refl, subst, arith}
use Rattle.std.proofs.lemmas.Bool.Decides.{nat_tests}
use Rattle.std.proofs.lemmas.Option.{same_Some}
use Rattle.game_core.specs.declared.tree.Node.{Node}
use Rattle.game_core.specs.declared.too_large.What.{What}
use Rattle.game_core.specs.declared.too_large.What.TheVariants.{Nodes, Depth}
use Rattle.game_core.specs.Tree.{GameTree, OpenBranch, most_nodes, most_depth}
use Rattle.written_trees.specs.Described.{LiesAt, PassesAt}
use Rattle.written_trees.specs.Building.{Branching, PartialTree, passed_at, open_branches, take_branch, tree_so_far}
use Rattle.written_trees.specs.Laws.{LimitsAreExact}
use Rattle.written_trees.proofs.DepthLemmas.{HangsAt, hangs_once, AllLie, few_edges_of}
use Rattle.written_trees.proofs.PlaceLemmas.{open_branches-take}
use Rattle.written_trees.proofs.SoundTreeLemmas.{AreBranchings, IsSound, sound}

-- how deep the first of some open branches lies
lies_at : (t : GameTree) (node : Option ℕ) (a d : ℕ) (more : List OpenBranch) → HangsAt t.nodes node d → LiesAt t ((node, a) ∷ more) d
lies_at t None a d more h = h
lies_at t (Some k) a d more h = h

-- and the other way round
hangs_at : (t : GameTree) (node : Option ℕ) (a d : ℕ) (more : List OpenBranch) → LiesAt t ((node, a) ∷ more) d → HangsAt t.nodes node d
hangs_at t None a d more h = h
hangs_at t (Some k) a d more h = h

-- what hangs at a node lies at most one edge too deep
hangs_few : (nodes : List Node) (place : Option ℕ) (d : ℕ) → AllLie nodes → HangsAt nodes place d → d ≤ suc most_depth
hangs_few nodes None d lie h = omega arith
hangs_few nodes (Some k) d lie (e, lies, below) = omega (arith, few_edges_of nodes e k lie lies)

module _ (title : List ℕ) (players : List (List ℕ)) (partial : PartialTree) (h : IsSound partial) where
  -- the tree
  abbrev tree : GameTree
  tree = tree_so_far title players partial

  -- what is passed at an open branch
  passes_at : (branchings : List Branching) → AreBranchings partial.nodes branchings → (what : What) → passed_at partial branchings ≡ Some what → PassesAt tree (open_branches branchings) what
  passes_at [] are what e = cc
  passes_at (b ∷ rest) are what e = rw (open_branches-take b rest are.0.some_branch) (go (nat_le most_nodes (length partial.nodes)) (nat_lt most_depth b.depth) refl refl e)
    where
      more : List OpenBranch
      more = open_branches (take_branch b rest)

      go : (v w : Bool) → nat_le most_nodes (length partial.nodes) ≡ v → nat_lt most_depth b.depth ≡ w → cond v (Some Nodes) (cond w (Some Depth) None) ≡ Some what → PassesAt tree ((b.node, b.next) ∷ more) what
      go true w p q is =
          let full : most_nodes ≤ length partial.nodes = grind (arith, nat_tests) in
          subst (PassesAt tree ((b.node, b.next) ∷ more)) (same_Some Nodes what is) (omega (arith, h.few_nodes), λ e. cc)
      go false true p q is =
          let deep : most_depth < b.depth = grind (arith, nat_tests) in
          let depth : b.depth ≡ suc most_depth = omega (arith, hangs_few partial.nodes b.node b.depth h.lie are.0.hangs) in
          subst (PassesAt tree ((b.node, b.next) ∷ more)) (same_Some Depth what is) (grind (arith, nat_tests), lies_at tree b.node b.next (suc most_depth) more (rw depth at are.0.hangs))
      go false false p q is = cc

  -- and the other way round
  passed_so_at : (branchings : List Branching) → AreBranchings partial.nodes branchings → (what : What) → PassesAt tree (open_branches branchings) what → passed_at partial branchings ≡ Some what
  passed_so_at [] are Nodes p = absurd (p.1 refl)
  passed_so_at [] are Depth p = absurd p.1
  passed_so_at (b ∷ rest) are Nodes p =
      let full : nat_le most_nodes (length partial.nodes) ≡ true = grind (arith, nat_tests) in
      rw full refl
  passed_so_at (b ∷ rest) are Depth p =
      let lies : LiesAt tree ((b.node, b.next) ∷ open_branches (take_branch b rest)) (suc most_depth) = rw (open_branches-take b rest are.0.some_branch) at p.1 in
      let depth : b.depth ≡ suc most_depth = hangs_once partial.nodes b.node b.depth (suc most_depth) are.0.hangs (hangs_at tree b.node b.next (suc most_depth) (open_branches (take_branch b rest)) lies) in
      let few : length partial.nodes < most_nodes = p.0 in
      let not_full : nat_le most_nodes (length partial.nodes) ≡ false = grind (arith, nat_tests) in
      let deep : nat_lt most_depth b.depth ≡ true = grind (arith, nat_tests) in
      rw (not_full, deep) refl
  passed_so_at branchings are what p = absurd p

-- the limits are seen where they are
pub limits_are_so : LimitsAreExact
limits_are_so written title players partial e =
    let h = sound written partial e in
    record { passes = passes_at title players partial h partial.branchings h.are_branchings; passed_so = passed_so_at title players partial h partial.branchings h.are_branchings }
