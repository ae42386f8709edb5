-- The last moves of players above the nodes of a game tree.
use Rattle.std.specs.Prelude.{ℕ, ◌<◌, ◌≡◌, List, [], ◌∷◌, ◌++◌, length, slice_index_or, MatchOption, Option, None}
use Rattle.game_theory.specs.OwnSets.{Chooses, NobodyChooses}
use Rattle.game_theory.specs.Recall.{own_history}
use Rattle.game_theory.specs.Trees.{Tree, IsWithin}

-- Node a is the last node above node k at which player i moves. It is in set s, and this action
-- leads from there towards k.
pub record IsLastMove (t : Tree) (i k a s action : ℕ) : Type 0 where
  pub above : a < k
  pub on_path : IsWithin t a (t.parent k)
  pub is_move : Chooses t a i s
  pub history_is : own_history t i k ≡ own_history t i a ++ (s, action) ∷ []

-- the last move of player i above node k, where there is one: its node, its set and its action
abbrev pub IsLastAbove : Tree → ℕ → ℕ → Option (ℕ × ℕ × ℕ) → Type 0
IsLastAbove t i k last =
    MatchOption last (own_history t i k ≡ []) (λ move. IsLastMove t i k move.0 move.1 move.2)

-- each player's last move above node k
pub record AreLastMoves (t : Tree) (k : ℕ) (last : List (Option (ℕ × ℕ × ℕ))) : Type 0 where
  pub one_for_each : length last ≡ t.players
  pub are_last : (i : ℕ) → i < t.players → IsLastAbove t i k (slice_index_or last i None)

-- the last move above node k of the player who moves there, and none where nobody does
pub record IsMoveBefore (t : Tree) (k : ℕ) (last : Option (ℕ × ℕ × ℕ)) : Type 0 where
  pub of_player : (i s : ℕ) → Chooses t k i s → IsLastAbove t i k last
  pub of_nobody : NobodyChooses t k → last ≡ None

-- such moves, for the first nodes
abbrev pub AreMovesBefore : Tree → List (Option (ℕ × ℕ × ℕ)) → Type 0
AreMovesBefore t moves = (k : ℕ) → k < length moves → IsMoveBefore t k (slice_index_or moves k None)
