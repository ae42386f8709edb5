-- A set has fewer actions than the tree has nodes; and the numbers of actions of a player's own sets, one after another.
use Rattle.std.proofs.Common.{ℕ, zero, suc, ◌<◌, ◌≤◌, ◌^◌, ◌≡◌, Some, None, List, [], ◌∷◌, ◌++◌, length, map, get_or, slice_get, sym, ap, subst, ◌∙◌, arith}
use Rattle.std.proofs.lemmas.List.{length-append, get_or-map}
use Rattle.std.proofs.lemmas.List.FromFn.{length-map-range_with_len}
use Rattle.std.proofs.lemmas.Option.{slice_get-get_or}
use Rattle.game_core.specs.declared.tree.Node.{Node}
use Rattle.game_theory.specs.OwnSets.{own_sets}
use Rattle.game_core.specs.Tree.{GameTree, IsGameTree, InformationSet, OpenBranch, AreInPrefixOrder, action_count, branches_from, members_of}
use Rattle.game_core.specs.TreeGame.{game_of_tree}
use Rattle.game_theory.proofs.IndexLemmas.{numbers_with-tell}

-- there is a node for each place that is free
places-taken : (sets : List InformationSet) (k : ℕ) (nodes : List Node) (free : List OpenBranch) → AreInPrefixOrder sets k nodes free [] → length free ≤ length nodes
places-taken sets k [] free h = omega (arith, ap length h)
places-taken sets k (node ∷ nodes) [] h = absurd h
places-taken sets k (node ∷ nodes) (place ∷ free) h =
    let later = places-taken sets (suc k) nodes (branches_from (Some k) 0 (action_count sets node.set) ++ free) h.1 in
    omega (arith, length-append (branches_from (Some k) 0 (action_count sets node.set)) free)

-- a node has fewer actions than there are nodes
actions-few : (sets : List InformationSet) (k p : ℕ) (nodes : List Node) (free : List OpenBranch) → AreInPrefixOrder sets k nodes free [] → p < length nodes → action_count sets (get_or (map (λ node. node.set) nodes) p None) < length nodes
actions-few sets k p [] free h below = absurd (omega arith)
actions-few sets k p (node ∷ nodes) [] h below = absurd h
actions-few sets k zero (node ∷ nodes) (place ∷ free) h below =
    let taken = places-taken sets (suc k) nodes (branches_from (Some k) 0 (action_count sets node.set) ++ free) h.1 in
    omega (arith, length-append (branches_from (Some k) 0 (action_count sets node.set)) free, length-map-range_with_len {X = OpenBranch} (λ a. (Some k, a)) 0 (action_count sets node.set))
actions-few sets k (suc p) (node ∷ nodes) (place ∷ free) h below =
    let few = actions-few sets (suc k) p nodes (branches_from (Some k) 0 (action_count sets node.set) ++ free) h.1 (omega arith) in
    omega arith

-- the number of a set's actions is that of the game
pub actions-at : (t : GameTree) (s : ℕ) (set : InformationSet) → s < length t.sets → set ≡ get_or t.sets s set → action_count t.sets (Some s) ≡ length set.actions
actions-at t s set below is = get_or-map (λ x. length x.actions) t.sets s set 0 below ∙ ap (λ x. length x.actions) (sym is)

-- it is smaller than the number of nodes
pub actions-below : (t : GameTree) (s : ℕ) → IsGameTree t → s < length t.sets → action_count t.sets (Some s) < length t.nodes
actions-below t s valid below =
    let set = get_or t.sets s (record { owner = None; label = 0; name = []; actions = []; members = [] }) in
    let fits = valid.sets_fit s set (slice_get-get_or t.sets s _ below) in
    let some : 0 < length (members_of t.nodes s) = subst (λ xs. 0 < length xs) fits.members_are fits.some_member in
    let node = numbers_with-tell (game_of_tree t).set s (length t.nodes) 0 _ (slice_get-get_or (members_of t.nodes s) 0 0 some) in
    subst (λ named. action_count t.sets named < length t.nodes) node.1 (actions-few t.sets 0 _ t.nodes _ valid.in_prefix_order node.0)

-- it fits 32 bits
pub actions-fit : (t : GameTree) (s : ℕ) (set : InformationSet) → IsGameTree t → s < length t.sets → set ≡ get_or t.sets s set → length set.actions < 2 ^ 32
actions-fit t s set valid below is = omega (arith, actions-below t s valid below, actions-at t s set below is, valid.few_nodes)

-- a set in a list of a player's own sets is one of the tree
pub own_set-within : (t : GameTree) (i k : ℕ) (sets : List ℕ) → sets ≡ own_sets (game_of_tree t) i → k < length sets → get_or sets k 0 < length t.sets
own_set-within t i k sets are inside = (numbers_with-tell (game_of_tree t).owner i (length t.sets) k (get_or sets k 0) (ap (λ own. slice_get own k) (sym are) ∙ slice_get-get_or sets k 0 inside)).0
