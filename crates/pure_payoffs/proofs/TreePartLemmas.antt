-- The parts of the game that a tree stands for, read from the tree's lists.
use Rattle.std.proofs.Common.{ℕ, ◌<◌, ◌≡◌, false, is_some, Option, Some, None, List, length, map, get_or, refl, sym, ap, subst, ◌∙◌}
use Rattle.std.proofs.lemmas.List.{get_or-map}
use Rattle.rational.specs.Rational.{ℚ, zero_ℚ}
use Rattle.game_core.specs.declared.tree.Kind.{Kind}
use Rattle.game_core.specs.declared.tree.Kind.TheVariants.{Move}
use Rattle.game_core.specs.declared.tree.Node.{Node}
use Rattle.game_core.specs.Tree.{GameTree, IsGameTree, kind_at, kind_of_owner}
use Rattle.game_core.specs.TreeGame.{game_of_tree, outcome_pays}

-- the set of a node
pub set-read : (t : GameTree) (nodes : List Node) (k : ℕ) (d : Node) → nodes ≡ t.nodes → k < length nodes → (game_of_tree t).set k ≡ (get_or nodes k d).set
set-read t nodes k d same below = ap (λ x. get_or (map (λ node. node.set) x) k None) (sym same) ∙ get_or-map (λ node. node.set) nodes k d None below

-- what a node's outcome pays a player
pays-read : (t : GameTree) (nodes : List Node) (k i : ℕ) (d : Node) (p : ℚ) → nodes ≡ t.nodes → k < length nodes → p ≡ outcome_pays t.outcomes (get_or nodes k d).outcome i → p ≡ (game_of_tree t).pays k i
pays-read t nodes k i d p same below is =
    is ∙ ap (λ o. outcome_pays t.outcomes o i) (sym (get_or-map (λ node. node.outcome) nodes k d None below) ∙ ap (λ x. get_or (map (λ node. node.outcome) x) k None) same)

-- an owner's number, from the kind
owner-read : (kind : Kind) (o : Option ℕ) (j : ℕ) → kind ≡ kind_of_owner o → kind ≡ Move j → o ≡ Some j
owner-read kind None j is move = cc
owner-read kind (Some i) j is move = cc

-- the owner of the set of a node at which a player moves
pub owner-of : (t : GameTree) (nodes : List Node) (k s j : ℕ) (d : Node) → IsGameTree t → nodes ≡ t.nodes → k < length nodes → (get_or nodes k d).kind ≡ Move j → (get_or nodes k d).set ≡ Some s → (game_of_tree t).owner s ≡ Some j
owner-of t nodes k s j d valid same below kind set =
    let here : k < length t.nodes = subst (λ x. k < length x) same below in
    let fit = valid.nodes_fit k d here in
    let node : get_or nodes k d ≡ get_or t.nodes k d = ap (λ x. get_or x k d) same in
    owner-read (Move j) ((game_of_tree t).owner s) j (sym kind ∙ ap (λ x. x.kind) node ∙ fit.kind_is ∙ ap (kind_at t.sets) (sym (ap (λ x. x.set) node) ∙ set)) refl

-- a node without an outcome pays nothing
pub pays-none : (t : GameTree) (nodes : List Node) (k i : ℕ) (d : Node) → nodes ≡ t.nodes → k < length nodes → is_some (get_or nodes k d).outcome ≡ false → (game_of_tree t).pays k i ≡ zero_ℚ
pays-none t nodes k i d same below none = sym (pays-read t nodes k i d zero_ℚ same below (sym (nothing (get_or nodes k d).outcome none)))
  where
    nothing : (o : Option ℕ) → is_some o ≡ false → outcome_pays t.outcomes o i ≡ zero_ℚ
    nothing None none = refl
    nothing (Some n) none = cc
