-- The parts of a cut that is made: its nodes, its sets, and what both are numbered by.
use Rattle.std.specs.Prelude.{ℕ, ◌*◌, ◌+◌, ◌<◌, ◌≤◌, ◌≡◌, ◌==◌, ◌⊎◌, Bool, false, if◌then◌else◌, List, [], ◌∷◌, ◌++◌, Contains, length, map, slice_get, slice_index, slice_index_or, slice_set, Option, None, Some}
use Rattle.std.specs.List.{range_with_len}
use Rattle.lists.specs.Listed.{IsIndexOf}
use Rattle.rational.specs.Rational.{ℚ}
use Rattle.rational.specs.Sum.{entry_at}
use Rattle.game_theory.specs.OwnSets.{places_with}
use Rattle.game_theory.specs.Trees.{Tree}
use Rattle.game_core.specs.declared.tree.Action.{Action}
use Rattle.game_core.specs.declared.tree.Kind.{Kind}
use Rattle.game_core.specs.declared.tree.Kind.TheVariants.{End}
use Rattle.game_core.specs.declared.tree.Node.{Node}
use Rattle.game_core.specs.Tree.{AreInOrderOfFirstUse, GameTree, InformationSet, TreeOutcome, kind_of_owner, label_of}
use Rattle.game_core.specs.TreeGame.{game_of_tree}
use Rattle.subgames.specs.CutGames.{IsGivenEnd, IsInCut, IsSameSet}
use Rattle.subgames.specs.Roots.{IsSubgameRoot}

-- whether node k is an end of the cut at node n with given payoffs
abbrev pub is_given_end : List Bool → ℕ → ℕ → Bool
is_given_end begins n k = if k == n then false else slice_index_or begins k false

-- the set of the tree that node k has in the cut at node n
abbrev pub cut_set : Tree → List Bool → ℕ → ℕ → Option ℕ
cut_set t begins n k = if is_given_end begins n k then None else t.set k

-- for each number below a bound its index in a list
pub record AreIndicesIn (numbers : List ℕ) (bound : ℕ) (indices : List (Option ℕ)) : Type 0 where
  pub one_for_each : length indices ≡ bound
  pub are : (k : ℕ) → k < bound → IsIndexOf numbers k (slice_index_or indices k None)

-- node k goes on in the cut at node n: it stands there, and is no given end
abbrev pub GoesOnIn : Tree → ℕ → ℕ → Type 0
GoesOnIn t n k = IsSubgameRoot t n × IsInCut t n k × ¬ IsGivenEnd t n k

-- for each node before node k a node in whose cut it goes on
pub record AreHomesBefore (t : Tree) (k : ℕ) (homes : List ℕ) : Type 0 where
  pub one_for_each : length homes ≡ k
  pub are : (c : ℕ) → c < k → GoesOnIn t (slice_index homes c) c

-- lists of nodes, where one list has one more node
abbrev pub with_node : List (List ℕ) → ℕ → ℕ → List (List ℕ)
with_node lists n k = slice_set lists n (slice_index_or lists n [] ++ k ∷ [])

-- node k is added to the lists of the cuts in which it stands, and to no other
pub record IsAddedToCuts (t : Tree) (k : ℕ) (old new : List (List ℕ)) : Type 0 where
  pub one_for_each : length new ≡ length old
  pub each : (n : ℕ) → n < t.size
      → ((slice_index_or new n [] ≡ slice_index_or old n [] ++ k ∷ [])
      × (IsSubgameRoot t n × IsInCut t n k))
      ⊎ ((slice_index_or new n [] ≡ slice_index_or old n [])
      × ¬ (IsSubgameRoot t n × IsInCut t n k))

-- Sets of the tree that are named in turn, each by its number among those of the cut: these are
-- numbered by first use, and each of them stands there once.
pub record AreSetNames (keys names : List (Option ℕ)) (sets : List ℕ) : Type 0 where
  pub one_for_each : length names ≡ length keys
  pub same : (j : ℕ) → j < length keys
      → IsSameSet sets (slice_index_or keys j None) (slice_index_or names j None)
  pub used : (r : ℕ) → r < length sets → (j : ℕ) × (slice_get names j ≡ Some (Some r))
  pub in_order : AreInOrderOfFirstUse names
  pub no_more : length sets ≤ length names
  pub differ : (r q : ℕ) → r < length sets → q < length sets
      → slice_index sets r ≡ slice_index sets q → r ≡ q

-- set s has the number r: it stood among the sets, or is added after them
pub record HasNumber (s : ℕ) (old new : List ℕ) (r : ℕ) : Type 0 where
  pub stands : (new ≡ old) ⊎ ((new ≡ old ++ s ∷ []) × (r ≡ length old) × ¬ Contains old s)
  pub here : (r < length new) × (slice_index new r ≡ s)

-- who chooses where a set of the cut is named, and nobody where none is
abbrev pub named_kind : Tree → List ℕ → Option ℕ → Kind
named_kind t sets None = End
named_kind t sets (Some r) = kind_of_owner (t.owner (slice_index sets r))

-- Node j of a cut with these nodes and sets: its parent by its index among them, the set that is
-- named there, and outcome j.
abbrev pub cut_node : Tree → (nodes : List ℕ) (indices : List (Option ℕ)) (sets : List ℕ)
    → (names : List (Option ℕ)) → ℕ → Node
cut_node t nodes indices sets names j = record {
  kind = named_kind t sets (slice_index_or names j None);
  parent = if j == 0 then None else slice_index_or indices (t.parent (slice_index nodes j)) None;
  branch = if j == 0 then 0 else t.branch (slice_index nodes j);
  set = slice_index_or names j None;
  outcome = Some j;
}

-- an action without its name
abbrev pub without_name : Action → Action
without_name action = record { name = []; prob = action.prob }

-- the actions of set s
abbrev pub actions_of : GameTree → ℕ → List Action
actions_of t s = slice_index_or (map (λ set. set.actions) t.sets) s []

-- for each set of a cut the nodes that name it, by their numbers in order
pub record AreMemberLists (names : List (Option ℕ)) (count : ℕ) (lists : List (List ℕ))
    : Type 0 where
  pub one_for_each : length lists ≡ count
  pub are : (r : ℕ) → r < count
      → slice_index_or lists r [] ≡ places_with (λ name. name) names r

-- set r of a cut with these sets: that of the tree without names, and the nodes that name it
abbrev pub cut_information_set : GameTree → (sets : List ℕ) (names : List (Option ℕ)) → ℕ
    → InformationSet
cut_information_set t sets names r = record {
  owner = (game_of_tree t).owner (slice_index sets r);
  label = label_of t (slice_index sets r);
  name = [];
  actions = map without_name (actions_of t (slice_index sets r));
  members = places_with (λ name. name) names r;
}

-- what node k pays player i in the cut at node n
abbrev pub cut_pays : Tree → List Bool → ℕ → (worth : List ℚ) → (k i : ℕ) → ℚ
cut_pays t begins n worth k i =
    if is_given_end begins n k then entry_at worth (k * t.players + i) else t.pays k i

-- the outcome of a node
abbrev pub cut_outcome : Tree → List Bool → ℕ → (worth : List ℚ) → (k : ℕ) → TreeOutcome
cut_outcome t begins n worth k = record {
  label = 0;
  name = [];
  payoffs = map (cut_pays t begins n worth k) (range_with_len 0 t.players);
}
