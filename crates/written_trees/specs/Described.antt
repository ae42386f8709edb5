-- The game tree that written nodes describe. Source: Gambit's description of its `.efg` format,
-- version 2.
use Rattle.std.specs.Prelude.{ℕ, suc, ◌<◌, ◌≡◌, ◌≢◌, ◌↔◌, ◌&&◌, nat_eq, Bool, List, [], ◌∷◌, length, map, slice_get, filter, All, Contains, IfSome, option_map, unwrap_or, Option, Some, None}
use Rattle.std.specs.Option.{option_eq}
use Rattle.rational.specs.Rational.{ℚ, zero_ℚ}
use Rattle.rational.specs.Sum.{sum_to, IsDistribution}
use Rattle.frac128.specs.Steps.{AddFits}
use Rattle.game_core.specs.declared.tree.Action.{Action}
use Rattle.game_core.specs.declared.tree.Kind.{Kind}
use Rattle.game_core.specs.declared.tree.Kind.TheVariants.{End}
use Rattle.game_core.specs.declared.tree.Node.{Node}
use Rattle.game_core.specs.declared.too_large.What.{What}
use Rattle.game_core.specs.declared.too_large.What.TheVariants.{Nodes, Depth}
use Rattle.game_core.specs.Tree.{GameTree, InformationSet, TreeOutcome, OpenBranch, IsPartialTree, LiesBelowRoot, kind_of_owner, probability_at, most_nodes, most_depth}
use Rattle.written_trees.specs.Written.{SetUse, OutcomeUse, WrittenNode}

-- ---- uses
-- x with a number in front of others, where there is an x
abbrev pub with_number : {U : Type 0} → ℕ → Option U → List (ℕ × U) → List (ℕ × U)
with_number k None uses = uses
with_number k (Some u) uses = (k, u) ∷ uses

-- what the nodes use, with the nodes' numbers from k on
abbrev pub uses_from : {U : Type 0} → (WrittenNode → Option U) → ℕ → List WrittenNode → List (ℕ × U)
uses_from used k [] = []
uses_from used k (node ∷ nodes) = with_number k (used node) (uses_from used (suc k) nodes)

-- the uses of sets, and of outcomes
abbrev pub set_uses : List WrittenNode → List (ℕ × SetUse)
set_uses nodes = uses_from (λ node. node.set) 0 nodes

abbrev pub outcome_uses : List WrittenNode → List (ℕ × OutcomeUse)
outcome_uses nodes = uses_from (λ node. node.outcome) 0 nodes

-- A set is told from others by its owner and its number: chance and each player number their sets
-- separately.
abbrev pub SetKey : Type 0
SetKey = Option ℕ × ℕ

abbrev pub key_of : SetUse → SetKey
key_of used = (used.owner, used.label)

abbrev pub same_set : SetKey → SetKey → Bool
same_set one other = option_eq nat_eq one.0 other.0 && nat_eq one.1 other.1

-- a key is used at a place for the first time
pub record IsFirstUse {K : Type 0} (used : List K) (place : ℕ) (key : K) : Type 0 where
  pub is_there : slice_get used place ≡ Some key
  pub none_before : (earlier : ℕ) → earlier < place → slice_get used earlier ≡ Some key → ⊥

-- The keys that are used, each once, in the order of their first uses: no key stands there twice,
-- they are the same keys, and of two keys the one that stands before the other is used before it.
pub record AreFirstUses {K : Type 0} (used keys : List K) : Type 0 where
  pub none_twice : (i j : ℕ) (key : K) → slice_get keys i ≡ Some key → slice_get keys j ≡ Some key
      → i ≡ j
  pub same_keys : (key : K) → Contains keys key ↔ Contains used key
  pub ascending : (i j p q : ℕ) (one other : K) → slice_get keys i ≡ Some one
      → slice_get keys j ≡ Some other → IsFirstUse used p one → IsFirstUse used q other → i < j
      → p < q

-- a number names a key among these, and there is no number where there is no key
abbrev pub Names : {K : Type 0} → List K → Option ℕ → Option K → Type 0
Names keys None None = Unit {0}
Names keys (Some n) (Some key) = slice_get keys n ≡ Some key
Names keys _ _ = ⊥

-- the uses of one set, and of one outcome
abbrev pub uses_of_set : SetKey → List (ℕ × SetUse) → List (ℕ × SetUse)
uses_of_set key uses = filter (λ x. same_set key (key_of x.1)) uses

abbrev pub uses_of_outcome : ℕ → List (ℕ × OutcomeUse) → List (ℕ × OutcomeUse)
uses_of_outcome label uses = filter (λ x. nat_eq label x.1.label) uses

-- ---- what the uses of one set, or of one outcome, say
-- an action of this owner: a player's has the probability 0
abbrev pub IsActionOf : Option ℕ → Action → Type 0
IsActionOf None action = Unit {0}
IsActionOf (Some i) action = action.prob ≡ zero_ℚ

-- a list of actions of this owner, of which there is at least one
pub record IsActionList (owner : Option ℕ) (actions : List Action) : Type 0 where
  pub some_action : 0 < length actions
  pub are_of_owner : All (IsActionOf owner) actions

-- the first that is there
abbrev pub first_some : {A : Type 0} → List (Option A) → Option A
first_some [] = None
first_some (None ∷ rest) = first_some rest
first_some (Some x ∷ rest) = Some x

-- the first list: the first use has it
abbrev pub first_list : {A : Type 0} → List (Option (List A)) → List A
first_list [] = []
first_list (list ∷ later) = unwrap_or list []

-- a set has its first name, which is empty where none is given, the actions of its first use, and
-- the nodes that use it
abbrev pub described_set : SetKey → List (ℕ × SetUse) → InformationSet
described_set key uses = record {
  owner = key.0;
  label = key.1;
  name = unwrap_or (first_some (map (λ x. x.1.name) uses)) [];
  actions = first_list (map (λ x. x.1.actions) uses);
  members = map (λ x. x.0) uses;
}

-- an outcome has its first name, which is empty where none is given, and the payoffs of its first
-- use
abbrev pub described_outcome : ℕ → List (ℕ × OutcomeUse) → TreeOutcome
described_outcome label uses = record {
  label = label;
  name = unwrap_or (first_some (map (λ x. x.1.name) uses)) [];
  payoffs = first_list (map (λ x. x.1.payoffs) uses);
}

-- the actions of chance have a probability distribution, in which each can be added to the sum of
-- those before it
pub record AddUpToOne (actions : List Action) : Type 0 where
  pub is_distribution : IsDistribution (length actions) (probability_at actions)
  pub additions_fit : (a : ℕ) → a < length actions
      → AddFits (sum_to a (probability_at actions)) (probability_at actions a)

-- the first list of a set of chance has probabilities
abbrev pub IsFirstList : Option ℕ → List Action → Type 0
IsFirstList None actions = AddUpToOne actions
IsFirstList (Some i) actions = Unit {0}

-- a later list of a set has as many actions, with the same probabilities
abbrev pub RepeatsActions : List Action → ℕ × SetUse → Type 0
RepeatsActions actions x =
    IfSome x.1.actions
    (λ list. map (λ action. action.prob) list ≡ map (λ action. action.prob) actions)

-- the uses of one set agree: the first has a list of actions, and later lists repeat it
abbrev pub AgreeOnActions : List (ℕ × SetUse) → Type 0
AgreeOnActions [] = Unit {0}
AgreeOnActions (first ∷ later) =
    (actions : List Action) × (first.1.actions ≡ Some actions) × IsFirstList first.1.owner actions
    × All (RepeatsActions actions) later

-- the uses of one outcome agree: the first has payoffs, and later ones repeat them
abbrev pub AgreeOnPayoffs : List (ℕ × OutcomeUse) → Type 0
AgreeOnPayoffs [] = Unit {0}
AgreeOnPayoffs (first ∷ later) =
    (payoffs : List ℚ) × (first.1.payoffs ≡ Some payoffs)
    × All (λ x. IfSome x.1.payoffs (λ list. list ≡ payoffs)) later

-- ---- the tree
-- who chooses at a node
abbrev pub kind_of_use : Option SetUse → Kind
kind_of_use None = End
kind_of_use (Some used) = kind_of_owner used.owner

-- a node of the tree stands for a written one, where the sets and the outcomes are these
pub record StandsFor (keys : List SetKey) (labels : List ℕ) (node : Node)
    (written : WrittenNode) : Type 0 where
  pub kind_is : node.kind ≡ kind_of_use written.set
  pub set_is : Names keys node.set (option_map key_of written.set)
  pub outcome_is : Names labels node.outcome (option_map (λ used. used.label) written.outcome)

-- the nodes stand for the written ones, one by one
abbrev pub StandForEach : List SetKey → List ℕ → List Node → List WrittenNode → Type 0
StandForEach keys labels [] [] = Unit {0}
StandForEach keys labels (node ∷ nodes) (one ∷ written) =
    StandsFor keys labels node one × StandForEach keys labels nodes written
StandForEach keys labels _ _ = ⊥

-- Written nodes describe a tree, as far as it goes: its nodes hang in prefix order and leave these
-- branches open, and its sets and outcomes are those that the nodes use, each once, in the order of
-- their first uses.
pub record Describe (written : List WrittenNode) (t : GameTree)
    (free : List OpenBranch) : Type 0 where
  pub keys : List SetKey
  pub labels : List ℕ
  pub keys_are : AreFirstUses (map (λ x. key_of x.1) (set_uses written)) keys
  pub labels_are : AreFirstUses (map (λ x. x.1.label) (outcome_uses written)) labels
  pub partial : IsPartialTree t free
  pub nodes_stand : StandForEach keys labels t.nodes written
  pub sets_are : t.sets ≡ map (λ key. described_set key (uses_of_set key (set_uses written))) keys
  pub outcomes_are : t.outcomes
      ≡ map (λ label. described_outcome label (uses_of_outcome label (outcome_uses written))) labels
  pub sets_agree : (key : SetKey) → AgreeOnActions (uses_of_set key (set_uses written))
  pub outcomes_agree : (label : ℕ) → AgreeOnPayoffs (uses_of_outcome label (outcome_uses written))

-- how many edges below the root the first of some open branches lies
abbrev pub LiesAt : GameTree → List OpenBranch → ℕ → Type 0
LiesAt t [] d = ⊥
LiesAt t ((None, a) ∷ free) d = d ≡ 0
LiesAt t ((Some k, a) ∷ free) d = (e : ℕ) × LiesBelowRoot t.nodes e k × (d ≡ suc e)

-- a limit is passed where a branch is open and a further node would be one too many, or else one
-- edge too far below the root
abbrev pub PassesAt : GameTree → List OpenBranch → What → Type 0
PassesAt t free Nodes = (length t.nodes ≡ most_nodes) × (free ≢ [])
PassesAt t free Depth = (length t.nodes < most_nodes) × LiesAt t free (suc most_depth)
PassesAt t free _ = ⊥
