-- The cuts of a game tree: below each subgame root the nodes down to the next ones, which are ends
-- with given payoffs. Source: Selten 1965; Kuhn 1953.
use Rattle.std.specs.Prelude.{ℕ, ◌<◌, ◌≡◌, ◌⊎◌, List, Option, None, Some, length, slice_index}
use Rattle.lists.specs.Listed.{AreListed}
use Rattle.rational.specs.Rational.{ℚ}
use Rattle.game_theory.specs.Behaviour.{Behaviour}
use Rattle.game_theory.specs.Trees.{Tree, IsWithin}
use Rattle.subgames.specs.Roots.{IsSubgameRoot}

-- node k stands in the cut at node n: in its subtree, where no subgame begins on the way between
-- both
abbrev pub IsInCut : Tree → ℕ → ℕ → Type 0
IsInCut t n k =
    (k < t.size) × IsWithin t n k
    × ((m : ℕ) → IsSubgameRoot t m → IsWithin t n m → IsWithin t m k → (m ≡ n) ⊎ (m ≡ k))

-- node k is an end of the cut with given payoffs: another subgame begins there
abbrev pub IsGivenEnd : Tree → ℕ → ℕ → Type 0
IsGivenEnd t n k = IsSubgameRoot t k × (k ≡ n → ⊥)

-- a set of the cut, by its number there, is this one of the tree; both are nothing at an end
abbrev pub IsSameSet : List ℕ → Option ℕ → Option ℕ → Type 0
IsSameSet sets None None = Unit {0}
IsSameSet sets (Some s) (Some r) = (r < length sets) × (slice_index sets r ≡ s)
IsSameSet sets _ _ = ⊥

-- node j of the cut is node k of the tree: what it pays and its set, or the payoffs that are given
pub record IsSameNode (t : Tree) (n : ℕ) (worth : ℕ → ℕ → ℚ) (sets : List ℕ) (c : Tree) (j k : ℕ)
    : Type 0 where
  pub given : IsGivenEnd t n k
      → (c.set j ≡ None) × ((i : ℕ) → i < t.players → c.pays j i ≡ worth k i)
  pub own : (IsGivenEnd t n k → ⊥) → IsSameSet sets (t.set k) (c.set j)
      × ((i : ℕ) → i < t.players → c.pays j i ≡ t.pays k i)

-- The cut at node n, where `worth k i` is given for player i at node k: its nodes in ascending
-- order, and its sets, by their numbers in the tree.
pub record IsCutGame (t : Tree) (n : ℕ) (worth : ℕ → ℕ → ℚ) (nodes sets : List ℕ) (c : Tree)
    : Type 0 where
  pub players : c.players ≡ t.players
  pub are_nodes : AreListed (IsInCut t n) nodes
  pub size : c.size ≡ length nodes
  pub parents : (j : ℕ) → 0 < j → j < c.size
      → slice_index nodes (c.parent j) ≡ t.parent (slice_index nodes j)
  pub branches : (j : ℕ) → 0 < j → j < c.size → c.branch j ≡ t.branch (slice_index nodes j)
  pub same_nodes : (j : ℕ) → j < c.size → IsSameNode t n worth sets c j (slice_index nodes j)
  pub as_many_sets : c.sets ≡ length sets
  pub sets_within : (r : ℕ) → r < c.sets → slice_index sets r < t.sets
  pub sets_differ : (r q : ℕ) → r < c.sets → q < c.sets → slice_index sets r ≡ slice_index sets q
      → r ≡ q
  pub owners : (r : ℕ) → r < c.sets → c.owner r ≡ t.owner (slice_index sets r)
  pub actions : (r : ℕ) → r < c.sets → c.actions r ≡ t.actions (slice_index sets r)
  pub chances : (r a : ℕ) → r < c.sets → a < c.actions r
      → c.chance r a ≡ t.chance (slice_index sets r) a

-- a behaviour of the tree at the sets of the cut
abbrev pub cut_behaviour : List ℕ → Behaviour → Behaviour
cut_behaviour sets b r = b (slice_index sets r)
