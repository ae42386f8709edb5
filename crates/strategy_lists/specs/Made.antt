-- The decisions of the players, one node of a game tree after another.
use Rattle.std.specs.Prelude.{ℕ, ◌≡◌, ◌⊎◌, List, [], ◌∷◌, ◌++◌, slice_index, slice_get, Option, Some, None}
use Rattle.game_theory.specs.OwnSets.{own_sets, Chooses}
use Rattle.game_theory.specs.Trees.{Tree}
use Rattle.game_theory.specs.Recall.{own_history}
use Rattle.game_core.specs.LastMoves.{IsLastMove}
use Rattle.strategy_lists.specs.declared.decision.Decision.{Decision}
use Rattle.strategy_lists.specs.declared.decision.Edge.{Edge}

-- the player who owns a node's set
abbrev pub owner_of : Tree → Option ℕ → Option ℕ
owner_of t None = None
owner_of t (Some s) = t.owner s

-- the player who moves at node k
abbrev pub mover : Tree → ℕ → Option ℕ
mover t k = owner_of t (t.set k)

-- an edge is that by the last move above node k, where these are the numbers of the decisions at
-- the nodes
pub record IsEdgeTo (t : Tree) (i : ℕ) (numbers : List ℕ) (k : ℕ) (edge : Edge) : Type 0 where
  pub node : ℕ
  pub set : ℕ
  pub last : IsLastMove t i k node set edge.action
  pub number_is : edge.decision ≡ slice_index numbers node
  pub place_is : slice_get (own_sets t i) edge.place ≡ Some set

-- the edge before the decision at node k, where there is one
abbrev pub LeadsTo : Tree → ℕ → List ℕ → ℕ → Option Edge → Type 0
LeadsTo t i numbers k None = own_history t i k ≡ []
LeadsTo t i numbers k (Some edge) = IsEdgeTo t i numbers k edge

-- the decision is that of player i at node k
pub record IsMadeAt (t : Tree) (i : ℕ) (numbers : List ℕ) (k : ℕ)
    (decision : Decision) : Type 0 where
  pub set : ℕ
  pub is_move : Chooses t k i set
  pub place_is : slice_get (own_sets t i) decision.place ≡ Some set
  pub led_to : LeadsTo t i numbers k decision.before

-- a list has a decision at this number, which it had before or which came after the others
abbrev pub HasTaken : List Decision → List Decision → Decision → ℕ → Type 0
HasTaken old new decision number =
    (slice_get new number ≡ Some decision) × ((new ≡ old) ⊎ (new ≡ old ++ decision ∷ []))
