-- Perfect recall. Source: Kuhn 1953; von Stengel 1996.
use Rattle.std.specs.Prelude.{ℕ, ◌<◌, ◌≡◌, if◌then◌else◌, List, [], ◌∷◌, ◌++◌, Option, Some, None}
use Rattle.game_theory.specs.Trees.{Tree}
use Rattle.game_theory.specs.Behaviour.{is_own}
use Rattle.game_theory.specs.Paths.{on_path}

-- the set and the action of an edge, where the set is player i's own
abbrev pub own_edge : Tree → ℕ → Option ℕ → ℕ → List (ℕ × ℕ)
own_edge t i None a = []
own_edge t i (Some s) a = if is_own t i s then (s, a) ∷ [] else []

-- the own history of node c, by that of its parent
abbrev pub with_edge_to : Tree → ℕ → ℕ → List (ℕ × ℕ) → List (ℕ × ℕ)
with_edge_to t i c before = before ++ own_edge t i (t.set (t.parent c)) (t.branch c)

-- the own history of node k for player i: that player's sets and actions on the path to it, the
-- choice at the node itself not included
abbrev pub own_history : Tree → ℕ → ℕ → List (ℕ × ℕ)
own_history t i k = on_path t [] (with_edge_to t i) k

-- the nodes of set s have one own history for player i
abbrev pub HaveOneHistory : Tree → ℕ → ℕ → Type 0
HaveOneHistory t i s =
    (k l : ℕ) → k < t.size → l < t.size → t.set k ≡ Some s → t.set l ≡ Some s
    → own_history t i k ≡ own_history t i l

-- perfect recall of player i: the nodes of each own set have one own history
abbrev pub HasPerfectRecall : Tree → ℕ → Type 0
HasPerfectRecall t i = (s : ℕ) → t.owner s ≡ Some i → HaveOneHistory t i s

-- all players have perfect recall
abbrev pub AllRecall : Tree → Type 0
AllRecall t = (i : ℕ) → i < t.players → HasPerfectRecall t i
