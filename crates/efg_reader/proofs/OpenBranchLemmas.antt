-- The nodes with open branches as the code keeps them, and as the tree grows.
use Rattle.std.proofs.Common.{◌≡◌, ◌≢◌, ℕ, zero, suc, ◌+◌, ◌<◌, ◌≤◌, nat_lt, nat_le, Bool, true, false, cond, List, [], ◌∷◌, ◌++◌, length, map, reverse, slice_set, slice_index_or, Option, Some, None, refl, sym, ap, ◌∙◌, subst, arith}
use Rattle.std.proofs.lemmas.Bool.Decides.{nat_tests}
use Rattle.std.proofs.lemmas.List.{reverse-append, map-append}
use Rattle.std.proofs.lemmas.List.Elements.{All-nil, All-cons}
use Rattle.std.specs.Prelude.{All}
use Rattle.std.specs.List.{AllByRecursion}
use Rattle.lists.proofs.ElementLemmas.{All-parts}
use Rattle.game_core.specs.declared.too_large.What.{What}
use Rattle.game_core.specs.declared.too_large.What.TheVariants.{Nodes, Depth}
use Rattle.game_core.specs.declared.tree.Kind.{Kind}
use Rattle.game_core.specs.declared.tree.Node.{Node}
use Rattle.game_core.specs.Tree.{most_nodes, most_depth}
use Rattle.written_trees.specs.Building.{PartialTree, PartialSet, PartialOutcome, Branching, take_branch, add_branches, partial_count, passed_at, passed}
use Rattle.efg_reader.specs.declared.builder.Branching.{Branching as Kept}
use Rattle.efg_reader.specs.States.{branching_of, branchings_of, nodes_of, tree_of, IsNear, HasTaken}
use Rattle.efg_reader.specs.PartialCodes.{PartialNodes}
use Rattle.tree_grammar.specs.TreeParsing.{grown_at, grown}

-- ---- a list kept in reverse
-- the last one kept is the first branching
pub branchings-push : (kept : List Kept) (one : Kept) → branchings_of (kept ++ one ∷ []) ≡ branching_of one ∷ branchings_of kept
branchings-push kept one = ap reverse (map-append branching_of kept (one ∷ [])) ∙ reverse-append (map branching_of kept) (branching_of one ∷ [])

-- a list that is not empty is a front and its last element, which may be written
pub record Ends {A : Type 0} (list : List A) (last : ℕ) : Type 0 where
  pub front : List A
  pub one : A
  pub is : list ≡ front ++ one ∷ []
  pub read : (d : A) → slice_index_or list last d ≡ one
  pub written : (value : A) → slice_set list last value ≡ front ++ value ∷ []

pub ends_with : {A : Type 0} (list : List A) (last : ℕ) → length list ≡ suc last → Ends list last
ends_with [] last e = absurd (omega arith)
ends_with (x ∷ []) zero e = record { front = []; one = x; is = refl; read = λ d. refl; written = λ value. refl }
ends_with (x ∷ []) (suc last) e = absurd (omega arith)
ends_with (x ∷ y ∷ list) zero e = absurd (omega arith)
ends_with (x ∷ y ∷ list) (suc last) e =
    let more = ends_with (y ∷ list) last (omega arith) in
    record { front = x ∷ more.front; one = more.one; is = ap (λ rest. x ∷ rest) more.is; read = more.read; written = λ value. ap (λ rest. x ∷ rest) (more.written value) }

-- a branching that has further open branches
abbrev pub with_next : Kept → Kept
with_next b = record { node = b.node; next = b.next + 1; count = b.count; depth = b.depth }

next_is : (b : Branching) (rest : List Branching) → b.next + 1 < b.count → take_branch b rest ≡ record { node = b.node; next = b.next + 1; count = b.count; depth = b.depth } ∷ rest
next_is b rest lt =
    let plus : b.next + 1 ≡ suc b.next = omega arith in
    let test : nat_lt (suc b.next) b.count ≡ true = grind (arith, nat_tests) in
    rw (test, plus) refl

-- the first place is taken where the last branching that is kept goes on
pub place_taken : (kept : List Kept) (last : ℕ) (taken goes_on : Kept) → length kept ≡ suc last → taken ≡ slice_index_or kept last taken → goes_on ≡ slice_index_or kept last goes_on → taken.next + 1 < taken.count
    → HasTaken (branchings_of kept) (Some taken) (branchings_of (slice_set kept last (with_next goes_on)))
place_taken kept last taken goes_on e t g lt =
    let h = ends_with kept last e in
    let one : taken ≡ h.one = t ∙ h.read taken in
    let other : goes_on ≡ h.one = g ∙ h.read goes_on in
    let start : branchings_of kept ≡ branching_of h.one ∷ branchings_of h.front = ap branchings_of h.is ∙ branchings-push h.front h.one in
    let after : branchings_of (slice_set kept last (with_next goes_on)) ≡ branching_of (with_next goes_on) ∷ branchings_of h.front = ap branchings_of (h.written (with_next goes_on)) ∙ branchings-push h.front (with_next goes_on) in
    let next = next_is (branching_of h.one) (branchings_of h.front) (rw one at lt) in
    subst (λ (start : List Branching). HasTaken start (Some taken) (branchings_of (slice_set kept last (with_next goes_on)))) (sym start)
    (ap branching_of one, after ∙ ap (λ (b : Kept). branching_of (with_next b) ∷ branchings_of h.front) other ∙ sym next)

-- an open branch is taken
pub some_taken : (branchings after : List Branching) → branchings ≢ [] → HasTaken branchings None after → ⊥
some_taken [] after some h = some refl
some_taken (b ∷ rest) after some h = h

-- what holds of each branching holds of each one that is kept
pub each_kept : (P : Branching → Type 0) (kept : List Kept) → AllByRecursion P (branchings_of kept) → All (λ b. P (branching_of b)) kept
each_kept P [] h = All-nil (λ b. P (branching_of b))
each_kept P (one ∷ kept) h =
    let turned : branchings_of (one ∷ kept) ≡ branchings_of kept ++ branching_of one ∷ [] = reverse-append (branching_of one ∷ []) (map branching_of kept) in
    let parts = All-parts P (branchings_of kept) (branching_of one ∷ []) (subst (AllByRecursion P) turned h) in
    All-cons (λ b. P (branching_of b)) one kept parts.1.0 (each_kept P kept parts.0)

-- ---- near branchings
-- as nodes are added
near-longer : (nodes : ℕ) (branchings : List Branching) → AllByRecursion (IsNear nodes) branchings → AllByRecursion (IsNear (suc nodes)) branchings
near-longer nodes [] h = tt
near-longer nodes (b ∷ rest) h = (record { next_within = omega (arith, h.0.next_within); depth_within = h.0.depth_within }, near-longer nodes rest h.1)

-- when the first place is taken
near-take : (nodes : ℕ) (b : Branching) (rest : List Branching) → AllByRecursion (IsNear nodes) (b ∷ rest) → AllByRecursion (IsNear (suc nodes)) (take_branch b rest)
near-take nodes b rest h = go (nat_lt (suc b.next) b.count)
  where
    go : (v : Bool) → AllByRecursion (IsNear (suc nodes)) (cond v (record { node = b.node; next = suc b.next; count = b.count; depth = b.depth } ∷ rest) rest)
    go true = (record { next_within = omega (arith, h.0.next_within); depth_within = h.0.depth_within }, near-longer nodes rest h.1)
    go false = near-longer nodes rest h.1

-- when a node with places comes
near-add : (nodes k count depth : ℕ) (rest : List Branching) → depth ≤ suc most_depth → AllByRecursion (IsNear nodes) rest → AllByRecursion (IsNear nodes) (add_branches k count depth rest)
near-add nodes k count depth rest le h = go (nat_lt 0 count)
  where
    go : (v : Bool) → AllByRecursion (IsNear nodes) (cond v (record { node = Some k; next = 0; count = count; depth = depth } ∷ rest) rest)
    go true = (record { next_within = omega arith; depth_within = le }, h)
    go false = h

-- no limit is passed
pub has_room : (partial : PartialTree) (b : Branching) (rest : List Branching) → passed_at partial (b ∷ rest) ≡ None → (length partial.nodes < most_nodes) × (b.depth ≤ most_depth)
has_room partial b rest e = first (nat_le most_nodes (length partial.nodes)) refl e
  where
    second : (w : Bool) → nat_lt most_depth b.depth ≡ w → ◌≡◌ {A = Option What} (cond w (Some Depth) None) None → b.depth ≤ most_depth
    second true f e = cc
    second false f e = grind (arith, nat_tests)

    first : (v : Bool) → nat_le most_nodes (length partial.nodes) ≡ v → ◌≡◌ {A = Option What} (cond v (Some Nodes) (cond (nat_lt most_depth b.depth) (Some Depth) None)) None → (length partial.nodes < most_nodes) × (b.depth ≤ most_depth)
    first true f e = cc
    first false f e = (grind (arith, nat_tests), second (nat_lt most_depth b.depth) refl e)

-- the branchings stay near as a node is added within the limits
pub near_grown : (partial : PartialTree) (b : Branching) (rest : List Branching) (k count : ℕ) → passed_at partial (b ∷ rest) ≡ None → AllByRecursion (IsNear (length partial.nodes)) (b ∷ rest)
    → AllByRecursion (IsNear (suc (length partial.nodes))) (add_branches k count (suc b.depth) (take_branch b rest))
near_grown partial b rest k count room h = near-add _ k count (suc b.depth) (take_branch b rest) (omega (arith, (has_room partial b rest room).1)) (near-take (length partial.nodes) b rest h)

-- the next action of each branching that is kept is a small number
pub few_next : (partial : PartialTree) (kept : List Kept) → passed_at partial (branchings_of kept) ≡ None → AllByRecursion (IsNear (length partial.nodes)) (branchings_of kept) → All (λ b. b.next < 4294967295) kept
few_next partial kept room near = each_kept (λ b. b.next < 4294967295) kept (go (branchings_of kept) room near)
  where
    small : (nodes : ℕ) (branchings : List Branching) → nodes < most_nodes → AllByRecursion (IsNear nodes) branchings → AllByRecursion (λ b. b.next < 4294967295) branchings
    small nodes [] lt h = tt
    small nodes (b ∷ rest) lt h = (omega (arith, h.0.next_within), small nodes rest lt h.1)

    go : (branchings : List Branching) → passed_at partial branchings ≡ None → AllByRecursion (IsNear (length partial.nodes)) branchings → AllByRecursion (λ b. b.next < 4294967295) branchings
    go [] room near = tt
    go (b ∷ rest) room near = small (length partial.nodes) (b ∷ rest) (has_room partial b rest room).0 near

-- the branchings after a node is added, as the code keeps them
pub near_after : (partial : PartialTree) (place : Kept) (taken added : List Kept) (k count : ℕ) (nodes : List Node) → length nodes ≡ suc (length partial.nodes) → passed_at partial partial.branchings ≡ None
    → AllByRecursion (IsNear (length partial.nodes)) partial.branchings → HasTaken partial.branchings (Some place) (branchings_of taken) → branchings_of added ≡ add_branches k count (place.depth + 1) (branchings_of taken)
    → AllByRecursion (IsNear (length nodes)) (branchings_of added)
near_after partial place taken added k count nodes longer room near was is = go partial.branchings room near was
  where
    go : (branchings : List Branching) → passed_at partial branchings ≡ None → AllByRecursion (IsNear (length partial.nodes)) branchings → HasTaken branchings (Some place) (branchings_of taken) → AllByRecursion (IsNear (length nodes)) (branchings_of added)
    go [] room near was = cc
    go (b ∷ rest) room near was =
        let deep : place.depth + 1 ≡ suc b.depth = omega (arith, ap (λ (b : Branching). b.depth) was.0) in
        let all : branchings_of added ≡ add_branches k count (suc b.depth) (take_branch b rest) = is ∙ rw (deep, was.1) refl in
        rw (longer, all) (near_grown partial b rest k count room near)

-- ---- a further node
-- the limits are those of the nodes alone
pub same_room : (nodes : PartialNodes) (sets others : List PartialSet) (outcomes more : List PartialOutcome) → passed (tree_of nodes sets outcomes) ≡ passed (tree_of nodes others more)
same_room nodes sets others outcomes more = go nodes.branchings
  where
    go : (branchings : List Branching) → passed_at (tree_of nodes sets outcomes) branchings ≡ passed_at (tree_of nodes others more) branchings
    go [] = refl
    go (b ∷ rest) = refl

-- where the first place is taken within the limits, it and the nodes lie below them
pub room_for : (partial : PartialTree) (place : Kept) (taken : List Branching) → passed partial ≡ None → HasTaken partial.branchings (Some place) taken → (length partial.nodes < most_nodes) × (place.depth ≤ most_depth)
room_for partial place taken room was = go partial.branchings room was
  where
    go : (branchings : List Branching) → passed_at partial branchings ≡ None → HasTaken branchings (Some place) taken → (length partial.nodes < most_nodes) × (place.depth ≤ most_depth)
    go [] room was = cc
    go (b ∷ rest) room was = let below = has_room partial b rest room in (below.0, omega (arith, below.1, ap (λ (b : Branching). b.depth) was.0))

-- the tree with a further node, as the code keeps it
pub grown_is : (nodes : PartialNodes) (sets : List PartialSet) (outcomes : List PartialOutcome) (kind : Kind) (set outcome : Option ℕ) (place : Kept) (taken added : List Kept) (list : List Node) (k count : ℕ) → k ≡ length nodes.list → count ≡ partial_count sets set
    → HasTaken nodes.branchings (Some place) (branchings_of taken) → branchings_of added ≡ add_branches k count (place.depth + 1) (branchings_of taken) → list ≡ nodes.list ++ record { kind = kind; parent = place.node; branch = place.next; set = set; outcome = outcome } ∷ []
    → grown (tree_of nodes sets outcomes) kind set outcome ≡ Some (tree_of (nodes_of list added) sets outcomes)
grown_is nodes sets outcomes kind set outcome place taken added list k count at counted was is longer = go nodes.branchings was
  where
    go : (branchings : List Branching) → HasTaken branchings (Some place) (branchings_of taken) → grown_at (tree_of nodes sets outcomes) kind set outcome branchings ≡ Some (tree_of (nodes_of list added) sets outcomes)
    go [] was = cc
    go (b ∷ rest) was =
        let deep : place.depth + 1 ≡ suc b.depth = omega (arith, ap (λ (b : Branching). b.depth) was.0) in
        let all : branchings_of added ≡ add_branches (length nodes.list) (partial_count sets set) (suc b.depth) (take_branch b rest) = is ∙ rw (deep, was.1, at, counted) refl in
        let nodes_are : list ≡ nodes.list ++ record { kind = kind; parent = b.node; branch = b.next; set = set; outcome = outcome } ∷ [] = longer ∙ ap (λ (b : Branching). nodes.list ++ record { kind = kind; parent = b.node; branch = b.next; set = set; outcome = outcome } ∷ []) was.0 in
        λ i. Some (record { nodes = sym nodes_are i; sets = sets; outcomes = outcomes; branchings = sym all i })
