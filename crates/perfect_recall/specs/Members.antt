-- The nodes of a set, and the edges before them.
use Rattle.std.specs.Prelude.{ℕ, ◌<◌, ◌≡◌, ◌≢◌, List, length, slice_index, slice_index_or, Option, None}
use Rattle.game_core.specs.Tree.{GameTree}
use Rattle.game_core.specs.TreeGame.{game_of_tree}
use Rattle.perfect_recall.specs.declared.recall.Forgets.{Forgets}
use Rattle.perfect_recall.specs.Found.{EarlierHaveOneHistory, ForgetsAt}

-- the edge before member j
abbrev pub edge_of : List ℕ → List (Option (ℕ × ℕ)) → ℕ → Option (ℕ × ℕ)
edge_of members edges j = slice_index_or edges (slice_index members j) None

-- before the first n members there is the same edge as before the first one
abbrev pub HaveSameEdge : List ℕ → List (Option (ℕ × ℕ)) → ℕ → Type 0
HaveSameEdge members edges n = (j : ℕ) → j < n → edge_of members edges j ≡ edge_of members edges 0

-- a node is the first member with another edge before it
pub record IsOtherMember (members : List ℕ) (edges : List (Option (ℕ × ℕ)))
    (node : ℕ) : Type 0 where
  pub place : ℕ
  pub within : place < length members
  pub node_is : node ≡ slice_index members place
  pub other : edge_of members edges place ≢ edge_of members edges 0
  pub same_before : HaveSameEdge members edges place

-- the first player who forgets at one of the first n sets, and where
pub record IsForgettingBelow (t : GameTree) (n : ℕ) (f : Forgets) : Type 0 where
  pub players_before : (i : ℕ) → i < f.player → EarlierHaveOneHistory (game_of_tree t) i n
  pub forgets : ForgetsAt t f

-- nobody forgets there
abbrev pub NobodyForgetsBelow : GameTree → ℕ → Type 0
NobodyForgetsBelow t n = (i : ℕ) → EarlierHaveOneHistory (game_of_tree t) i n
