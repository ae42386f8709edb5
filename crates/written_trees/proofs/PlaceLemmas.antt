-- The places that branchings leave free, and nodes in prefix order with one more.
use Rattle.std.proofs.Common.{◌≡◌, ℕ, zero, suc, ◌+◌, ◌-◌, ◌<◌, nat_lt, Bool, true, false, cond, List, [], ◌∷◌, ◌++◌, length, All, Some, refl, sym, ap, ◌∙◌, add-one, arith}
use Rattle.std.proofs.lemmas.Bool.Decides.{nat_tests}
use Rattle.std.proofs.lemmas.List.Elements.{All-head, All-tail}
use Rattle.game_core.specs.declared.tree.Node.{Node}
use Rattle.game_core.specs.Tree.{InformationSet, OpenBranch, branches_from, action_count, AreInPrefixOrder}
use Rattle.written_trees.specs.Building.{Branching, open_branches, take_branch, add_branches}

-- ---- open branches
-- the first open branch, and those that are free when it is taken
pub open_branches-take : (b : Branching) (rest : List Branching) → b.next < b.count → open_branches (b ∷ rest) ≡ (b.node, b.next) ∷ open_branches (take_branch b rest)
open_branches-take b rest lt = rw (more, add-one b.next) (go (nat_lt (suc b.next) b.count) refl)
  where
    more : b.count - b.next ≡ suc (b.count - suc b.next)
    more = omega arith

    go : (v : Bool) → nat_lt (suc b.next) b.count ≡ v → (b.node, b.next) ∷ (branches_from b.node (suc b.next) (b.count - suc b.next) ++ open_branches rest)
        ≡ (b.node, b.next) ∷ open_branches (cond v (record { node = b.node; next = suc b.next; count = b.count; depth = b.depth } ∷ rest) rest)
    go true e = refl
    go false e =
        let none : b.count - suc b.next ≡ 0 = grind (arith, nat_tests) in
        rw none refl

-- the places of a new node come first
pub open_branches-add : (k count depth : ℕ) (rest : List Branching) → open_branches (add_branches k count depth rest) ≡ branches_from (Some k) 0 count ++ open_branches rest
open_branches-add k zero depth rest = refl
open_branches-add k (suc n) depth rest =
    let some : nat_lt 0 (suc n) ≡ true = grind (arith, nat_tests) in
    let all : suc n - 0 ≡ suc n = omega arith in
    rw (some, all) refl

-- ---- prefix order
-- one more node takes the first open branch
pub order_more : (sets : List InformationSet) (k : ℕ) (nodes : List Node) (node : Node) (free before : List OpenBranch) → AreInPrefixOrder sets k nodes free ((node.parent, node.branch) ∷ before)
    → AreInPrefixOrder sets k (nodes ++ node ∷ []) free (branches_from (Some (k + length nodes)) 0 (action_count sets node.set) ++ before)
order_more sets k [] node [] before h = absurd (cc)
order_more sets k [] node (place ∷ free) before h =
    let e : k + 0 ≡ k = omega arith in
    (cc, rw e cc)
order_more sets k (one ∷ nodes) node [] before h = h
order_more sets k (one ∷ nodes) node (place ∷ free) before h =
    let e : k + suc (length nodes) ≡ suc k + length nodes = omega arith in
    (h.0, rw e (order_more sets (suc k) nodes node _ before h.1))

-- the nodes before the last, in prefix order, leave its place free, and others after it
pub order_less : (sets : List InformationSet) (k : ℕ) (nodes : List Node) (node : Node) (free rest : List OpenBranch) → AreInPrefixOrder sets k (nodes ++ node ∷ []) free rest
    → (before : List OpenBranch) × AreInPrefixOrder sets k nodes free ((node.parent, node.branch) ∷ before)
order_less sets k [] node [] rest h = absurd h
order_less sets k [] node (place ∷ free) rest h = (free, ap (λ p. p ∷ free) (sym h.0))
order_less sets k (one ∷ nodes) node [] rest h = absurd h
order_less sets k (one ∷ nodes) node (place ∷ free) rest h =
    let r = order_less sets (suc k) nodes node _ rest h.1 in
    (r.0, (h.0, r.1))

-- the nodes leave the same places free
pub order_once : (sets : List InformationSet) (k : ℕ) (nodes : List Node) (free one other : List OpenBranch) → AreInPrefixOrder sets k nodes free one → AreInPrefixOrder sets k nodes free other → one ≡ other
order_once sets k [] free one other a b = sym a ∙ b
order_once sets k (node ∷ nodes) [] one other a b = absurd a
order_once sets k (node ∷ nodes) (place ∷ free) one other a b = order_once sets (suc k) nodes _ one other a.1 b.1

-- what the order sees of the sets
pub order_same : (sets others : List InformationSet) (k : ℕ) (nodes : List Node) (free rest : List OpenBranch) → All (λ node. action_count sets node.set ≡ action_count others node.set) nodes → AreInPrefixOrder sets k nodes free rest → AreInPrefixOrder others k nodes free rest
order_same sets others k [] free rest same h = h
order_same sets others k (node ∷ nodes) [] rest same h = h
order_same sets others k (node ∷ nodes) (place ∷ free) rest same h =
    let P = λ (one : Node). action_count sets one.set ≡ action_count others one.set in
    let count = All-head P node nodes same in
    (h.0, order_same sets others (suc k) nodes _ rest (All-tail P node nodes same) (rw count at h.1))
