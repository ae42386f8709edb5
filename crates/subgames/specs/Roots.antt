-- The subgames of a game tree. Source: Selten 1965.
use Rattle.std.specs.Prelude.{ℕ, ◌<◌, ◌≡◌, ◌⊎◌, List, None, Some}
use Rattle.lists.specs.Listed.{AreListed}
use Rattle.game_theory.specs.OwnSets.{Chooses}
use Rattle.game_theory.specs.Trees.{Tree, IsWithin}

-- node k is one of chance, or no other node is in its set
abbrev pub BeginsAlone : Tree → ℕ → Type 0
BeginsAlone t k =
    (s : ℕ) × (t.set k ≡ Some s)
    × ((t.owner s ≡ None) ⊎ ((c : ℕ) → c < t.size → t.set c ≡ Some s → c ≡ k))

-- each player's set with a node in the subtree of node k has all its nodes there
abbrev pub HasWholeSets : Tree → ℕ → Type 0
HasWholeSets t k =
    (c d i s : ℕ) → c < t.size → d < t.size → Chooses t c i s → Chooses t d i s
    → IsWithin t k c → IsWithin t k d

-- at node k a subgame begins: at the root, and at each other inner node that is chance's or alone
-- in its set and whose subtree splits no player's set
abbrev pub IsSubgameRoot : Tree → ℕ → Type 0
IsSubgameRoot t k = (k ≡ 0) ⊎ (BeginsAlone t k × HasWholeSets t k)

-- the nodes at which subgames begin, in ascending order
abbrev pub AreSubgameRoots : Tree → List ℕ → Type 0
AreSubgameRoots t nodes = AreListed (λ k. (k < t.size) × IsSubgameRoot t k) nodes
