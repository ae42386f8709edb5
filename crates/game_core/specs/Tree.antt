-- What contracts see of a game tree, and what makes it one. Source: Gambit's description of its
-- `.efg` format, version 2; Kuhn 1953.
use Rattle.std.specs.Prelude.{ℕ, zero, suc, ◌<◌, ◌≤◌, ◌^◌, ◌≡◌, List, [], ◌∷◌, ◌++◌, length, map, slice_get, slice_index_or, All, IfSome, Option, Some, None}
use Rattle.std.specs.List.{range_with_len}
use Rattle.rational.specs.Rational.{ℚ, zero_ℚ}
use Rattle.rational.specs.Sum.{entry_at, IsDistribution}
use Rattle.game_theory.specs.FirstNodes.{AreNumberedByFirstUse}
use Rattle.game_theory.specs.OwnSets.{places_with}
use Rattle.game_core.specs.declared.tree.Action.{Action}
use Rattle.game_core.specs.declared.tree.Kind.{Kind}
use Rattle.game_core.specs.declared.tree.Kind.TheVariants.{Chance, Move, End}
use Rattle.game_core.specs.declared.tree.Node.{Node}

-- an information set: its owner (nothing for chance), the number and the name that a file gives it,
-- its actions and its nodes
pub record InformationSet : Type 0 where
  pub owner : Option ℕ
  pub label : ℕ
  pub name : List ℕ
  pub actions : List Action
  pub members : List ℕ

-- an outcome: the number and the name that a file gives it, and what it pays each player
pub record TreeOutcome : Type 0 where
  pub label : ℕ
  pub name : List ℕ
  pub payoffs : List ℚ

-- a title, the players' names, the nodes in prefix order, the information sets and the outcomes
pub record GameTree : Type 0 where
  pub title : List ℕ
  pub players : List (List ℕ)
  pub nodes : List Node
  pub sets : List InformationSet
  pub outcomes : List TreeOutcome

-- the number that a file gives set s; 0 where there is no such set
abbrev pub label_of : GameTree → ℕ → ℕ
label_of t s = slice_index_or (map (λ set. set.label) t.sets) s 0

-- the most nodes of a tree, and the most edges from the root to a node
abbrev pub most_nodes : ℕ
most_nodes = 65536

abbrev pub most_depth : ℕ
most_depth = 1024

-- how many actions there are at a node with this set: none at an end
abbrev pub action_count : List InformationSet → Option ℕ → ℕ
action_count sets None = 0
action_count sets (Some s) = slice_index_or (map (λ set. length set.actions) sets) s 0

-- where a node hangs: the node and the action that lead to it; nothing and 0 for the root
abbrev pub OpenBranch : Type 0
OpenBranch = Option ℕ × ℕ

-- the branches of so many actions of a node from one on
abbrev pub branches_from : Option ℕ → ℕ → ℕ → List OpenBranch
branches_from parent action n = map (λ a. (parent, a)) (range_with_len action n)

-- Nodes in prefix order, numbered from k on: each hangs at the first open branch, and the branches
-- of its own actions come before the others. The rest stays open after the last node.
abbrev pub AreInPrefixOrder : List InformationSet → ℕ → List Node → List OpenBranch
    → List OpenBranch → Type 0
AreInPrefixOrder sets k [] free rest = free ≡ rest
AreInPrefixOrder sets k (node ∷ nodes) [] rest = ⊥
AreInPrefixOrder sets k (node ∷ nodes) (branch ∷ free) rest =
    ((node.parent, node.branch) ≡ branch)
    × AreInPrefixOrder sets (suc k) nodes
    (branches_from (Some k) 0 (action_count sets node.set) ++ free) rest

-- node k lies d edges below the root
abbrev pub LiesBelowRoot : List Node → ℕ → ℕ → Type 0
LiesBelowRoot nodes zero k = (node : Node) × (slice_get nodes k ≡ Some node) × (node.parent ≡ None)
LiesBelowRoot nodes (suc d) k =
    (node : Node) × (parent : ℕ) × (slice_get nodes k ≡ Some node) × (node.parent ≡ Some parent)
    × LiesBelowRoot nodes d parent

-- who chooses at a set with this owner
abbrev pub kind_of_owner : Option ℕ → Kind
kind_of_owner None = Chance
kind_of_owner (Some i) = Move i

-- who chooses at a node with this set
abbrev pub kind_at : List InformationSet → Option ℕ → Kind
kind_at sets None = End
kind_at sets (Some s) = kind_of_owner (slice_index_or (map (λ set. set.owner) sets) s None)

-- a number below a bound, where there is one
abbrev pub IsBelow : ℕ → Option ℕ → Type 0
IsBelow bound index = IfSome index (λ i. i < bound)

-- a node names a set and an outcome of the tree, where it names any, and its kind is that of its
-- set
pub record NodeFits (t : GameTree) (node : Node) : Type 0 where
  pub kind_is : node.kind ≡ kind_at t.sets node.set
  pub set_within : IsBelow (length t.sets) node.set
  pub outcome_within : IsBelow (length t.outcomes) node.outcome

-- the numbers of the nodes that name set s, in order
abbrev pub members_of : List Node → ℕ → List ℕ
members_of nodes s = places_with (λ node. node.set) nodes s

-- the probability of action a in a list of actions
abbrev pub probability_at : List Action → ℕ → ℚ
probability_at actions a = entry_at (map (λ action. action.prob) actions) a

-- the actions of chance have a probability distribution, and those of a player no probabilities: 0
-- stands in their place
abbrev pub ProbabilitiesFit : Option ℕ → List Action → Type 0
ProbabilitiesFit None actions = IsDistribution (length actions) (probability_at actions)
ProbabilitiesFit (Some i) actions = All (λ action. action.prob ≡ zero_ℚ) actions

-- set s is chance's or one of the players', has actions, and its members are the nodes that name it
pub record SetFits (t : GameTree) (s : ℕ) (set : InformationSet) : Type 0 where
  pub owner_within : IsBelow (length t.players) set.owner
  pub some_action : 0 < length set.actions
  pub probabilities : ProbabilitiesFit set.owner set.actions
  pub members_are : set.members ≡ members_of t.nodes s
  pub some_member : 0 < length set.members

-- indices that nodes name in turn are numbered by first use
abbrev pub AreInOrderOfFirstUse : List (Option ℕ) → Type 0
AreInOrderOfFirstUse names = AreNumberedByFirstUse (λ k. slice_index_or names k None) (length names)

-- A game tree within the limits, as far as it goes: its nodes stand in prefix order and leave these
-- branches open, and its sets and outcomes stand in the order in which the nodes first name them.
pub record IsPartialTree (t : GameTree) (free : List OpenBranch) : Type 0 where
  pub in_prefix_order : AreInPrefixOrder t.sets 0 t.nodes ((None, 0) ∷ []) free
  pub nodes_fit : All (NodeFits t) t.nodes
  pub sets_fit : (s : ℕ) (set : InformationSet) → slice_get t.sets s ≡ Some set → SetFits t s set
  pub outcomes_fit : All (λ outcome. length outcome.payoffs ≡ length t.players) t.outcomes
  pub sets_in_order : AreInOrderOfFirstUse (map (λ node. node.set) t.nodes)
  pub outcomes_in_order : AreInOrderOfFirstUse (map (λ node. node.outcome) t.nodes)
  pub few_nodes : length t.nodes ≤ most_nodes
  pub few_sets : length t.sets ≤ length t.nodes
  pub few_edges : (d k : ℕ) → LiesBelowRoot t.nodes d k → d ≤ most_depth
  pub few_players : length t.players < 2 ^ 32

-- a game tree within the limits leaves no branch open
abbrev pub IsGameTree : GameTree → Type 0
IsGameTree t = IsPartialTree t []
