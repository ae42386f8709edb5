-- What a tree stands for is a game tree.
use Rattle.std.proofs.Common.{◌≡◌, ◌<◌, ◌∙◌, sym, ap, subst, refl, ℕ, zero, suc, Option, Some, None, List, [], ◌∷◌, All, length, map, get_or, slice_get, arith}
use Rattle.std.specs.Prelude.{unwrap_or}
use Rattle.std.proofs.lemmas.List.{length-map}
use Rattle.std.proofs.lemmas.List.Elements.{All-get_or, All-map}
use Rattle.std.proofs.lemmas.Option.{slice_get-get_or, same_Some}
use Rattle.lists.proofs.ElementLemmas.{element}
use Rattle.rational.specs.Rational.{one_ℚ}
use Rattle.rational.specs.Sum.{sum_to, IsDistribution}
use Rattle.game_theory.specs.FirstNodes.{AreNumberedByFirstNodes}
use Rattle.game_theory.specs.Trees.{IsTree as is_game_tree, IsChild}
use Rattle.game_theory.proofs.IndexLemmas.{numbers_with-tell}
use Rattle.game_core.specs.declared.tree.Action.{Action}
use Rattle.game_core.specs.Tree.{GameTree, IsGameTree, InformationSet, IsBelow, ProbabilitiesFit, SetFits, action_count, probability_at}
use Rattle.game_core.specs.TreeGame.{game_of_tree}
use Rattle.game_core.proofs.PrefixOrderLemmas.{child_at, hangs_at, branch_at, root, same_node, within}

-- a part of the element at a place
pub part_of : {X Y : Type 0} (f : X → Y) (xs : List X) (k : ℕ) (x : X) (d : Y) → slice_get xs k ≡ Some x → get_or (map f xs) k d ≡ f x
part_of f [] k x d is = cc
part_of f (y ∷ xs) zero x d is = ap f (same_Some y x is)
part_of f (y ∷ xs) (suc k) x d is = part_of f xs k x d is

-- what holds of each element's part holds of the part at a place
pub part_has : {X Y : Type 0} (P : Y → Type 0) (f : X → Y) (xs : List X) (k : ℕ) (d : Y) → All (λ x. P (f x)) xs → k < length xs → P (get_or (map f xs) k d)
part_has P f xs k d h below = All-get_or P (map f xs) k d (rw length-map below) (All-map P f xs h)

-- a node with an action has a set
some_set : (sets : List InformationSet) (set : Option ℕ) (a : ℕ) → a < action_count sets set → (s : ℕ) × (set ≡ Some s) × (a < action_count sets (Some s))
some_set sets None a below = absurd (omega arith)
some_set sets (Some s) a below = (s, refl, below)

-- probabilities that are an owner's, where chance is the owner
chances : (owner : Option ℕ) (actions : List Action) → ProbabilitiesFit owner actions → owner ≡ None → IsDistribution (length actions) (probability_at actions)
chances owner actions h is = subst (λ o. ProbabilitiesFit o actions) is h

-- the set at a place fits
set_fits : (t : GameTree) → IsGameTree t → (s : ℕ) → s < length t.sets → (set : InformationSet) × (slice_get t.sets s ≡ Some set) × SetFits t s set
set_fits t valid s below = let found = element t.sets s below in (found.0, found.1, valid.sets_fit s found.0 found.1)

-- a child hangs at its parent's action
child_place : (t : GameTree) → IsGameTree t → (k a c : ℕ) → IsChild (game_of_tree t) k a c → branch_at t.nodes c ≡ (Some k, a)
child_place t valid k a c h =
    let at_node = (hangs_at t.sets t.nodes valid.in_prefix_order c h.0 h.1).2 in
    let parent = ap Some (sym (ap (λ o. unwrap_or o 0) at_node) ∙ h.2) in
    rw (at_node ∙ parent, h.3) refl

-- the probabilities of chance at a set
lottery : (t : GameTree) → IsGameTree t → (s : ℕ) → s < length t.sets → (game_of_tree t).owner s ≡ None → IsDistribution ((game_of_tree t).actions s) ((game_of_tree t).chance s)
lottery t valid s below chance =
    let set = set_fits t valid s below in
    let fits = chances _ _ set.2.probabilities (sym (part_of (λ set. set.owner) t.sets s set.0 None set.1) ∙ chance) in
    let count = part_of (λ set. length set.actions) t.sets s set.0 0 set.1 in
    let actions = part_of (λ set. set.actions) t.sets s set.0 [] set.1 in
    let sum : sum_to (length set.0.actions) (probability_at (get_or (map (λ set. set.actions) t.sets) s [])) ≡ one_ℚ = rw actions fits.sum_is_one in
    record {
      not_negative = λ a action. rw actions (fits.not_negative a (rw count at action));
      sum_is_one = rw count sum;
    }

-- what a tree stands for is a game tree
pub game_tree : (t : GameTree) → IsGameTree t → is_game_tree (game_of_tree t)
game_tree t valid =
    let order = valid.in_prefix_order in
    record {
      some_node = (root t.sets t.nodes order).0;
      sets_within = λ k s below is. within _ s _ (part_has (IsBelow (length t.sets)) (λ node. node.set) t.nodes k None (λ n d inside. (valid.nodes_fit n d inside).set_within) below) is;
      owners_within = λ s i below is. let set = set_fits t valid s below in within _ i _ set.2.owner_within (sym (part_of (λ set. set.owner) t.sets s set.0 None set.1) ∙ is);
      some_action = λ s below. let set = set_fits t valid s below in rw (part_of (λ set. length set.actions) t.sets s set.0 0 set.1) set.2.some_action;
      after_parent = λ c later inside. let place = hangs_at t.sets t.nodes order c later inside in rw place.2 place.1;
      led_to = λ c later inside. let place = hangs_at t.sets t.nodes order c later inside in rw place.2 (some_set t.sets _ _ place.3);
      some_child = λ k s a inside is action. let c = child_at t.sets t.nodes order k a inside (rw is action) in (c.0, (omega arith, c.2, ap (λ p. unwrap_or p.0 0) c.3, ap (λ p. p.1) c.3));
      one_child = λ k a c d first second. same_node t.sets t.nodes order c d first.1 second.1 (child_place t valid k a c first ∙ sym (child_place t valid k a d second));
      chance_distributions = lottery t valid;
    }

-- and its sets are numbered by their first nodes
pub numbered_by_first_nodes : (t : GameTree) → IsGameTree t → AreNumberedByFirstNodes (game_of_tree t)
numbered_by_first_nodes t valid k s r inside is below = valid.sets_in_order k s r (rw length-map inside) is below

-- each set of a tree has a node
pub set-used : (t : GameTree) → IsGameTree t → (r : ℕ) → r < length t.sets → (j : ℕ) × (j < length t.nodes) × ((game_of_tree t).set j ≡ Some r)
set-used t valid r below =
    let found = set_fits t valid r below in
    let first = slice_get-get_or found.0.members 0 0 found.2.some_member in
    let named = numbers_with-tell (game_of_tree t).set r (length t.nodes) 0 (get_or found.0.members 0 0) (ap (λ ms. slice_get ms 0) (sym found.2.members_are) ∙ first) in
    (get_or found.0.members 0 0, named.0, named.1)
