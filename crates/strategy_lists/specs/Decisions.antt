-- A player's decisions on a game tree, each after those before it. Nodes of one set with the same
-- own history can share one.
use Rattle.std.specs.Prelude.{ℕ, ◌<◌, ◌≡◌, List, [], ◌∷◌, ◌++◌, length, slice_index, slice_get, Option, Some, None}
use Rattle.game_theory.specs.OwnSets.{own_sets, own_counts}
use Rattle.game_theory.specs.Trees.{Tree}
use Rattle.game_theory.specs.Recall.{own_history}
use Rattle.reduced_strategies.specs.Choices.{AreReducedStrategies}
use Rattle.strategy_lists.specs.declared.decision.Decision.{Decision}
use Rattle.strategy_lists.specs.declared.decision.Edge.{Edge}
use Rattle.strategy_lists.specs.Reduced.{AreLinked}

-- the own history of the decision to which an edge leads, where these nodes are the decisions'
abbrev pub history_by : Tree → ℕ → List ℕ → Option Edge → List (ℕ × ℕ)
history_by t i nodes None = []
history_by t i nodes (Some edge) =
    own_history t i (slice_index nodes edge.decision)
    ++ (slice_index (own_sets t i) edge.place, edge.action) ∷ []

-- a decision is the choice at node k: it has the place of the node's set, and the edge before it
-- leads there
pub record IsDecisionAt (t : Tree) (i : ℕ) (nodes : List ℕ) (decision : Decision)
    (k : ℕ) : Type 0 where
  pub within : k < t.size
  pub set : ℕ
  pub at_set : t.set k ≡ Some set
  pub own : t.owner set ≡ Some i
  pub place_is : slice_get (own_sets t i) decision.place ≡ Some set
  pub history_is : own_history t i k ≡ history_by t i nodes decision.before

-- one of the decisions is the choice at node k
pub record HasDecision (t : Tree) (i : ℕ) (nodes : List ℕ) (decisions : List Decision)
    (k : ℕ) : Type 0 where
  pub number : ℕ
  pub decision : Decision
  pub stands_at : slice_get decisions number ≡ Some decision
  pub is_at_node : IsDecisionAt t i nodes decision k

-- the decisions of player i: each is the choice at a node that stands for it, and each node at
-- which the player chooses has one
pub record AreDecisions (t : Tree) (i : ℕ) (decisions : List Decision) : Type 0 where
  pub nodes : List ℕ
  pub one_for_each : length nodes ≡ length decisions
  pub are_decisions : (j k : ℕ) (decision : Decision) → slice_get decisions j ≡ Some decision
      → slice_get nodes j ≡ Some k → IsDecisionAt t i nodes decision k
  pub all : (k s : ℕ) → k < t.size → t.set k ≡ Some s → t.owner s ≡ Some i
      → HasDecision t i nodes decisions k
  pub linked : AreLinked decisions (own_counts t i)

-- the decisions of each player
pub record AreDecisionsOfAll (t : Tree) (lists : List (List Decision)) : Type 0 where
  pub one_for_each : length lists ≡ t.players
  pub are_decisions : (i : ℕ) (decisions : List Decision) → slice_get lists i ≡ Some decisions
      → AreDecisions t i decisions

-- player i has so many reduced strategies
abbrev pub HasCount : Tree → ℕ → ℕ → Type 0
HasCount t i n =
    (strategies : List (List ℕ)) × AreReducedStrategies t i strategies × (n ≡ length strategies)
