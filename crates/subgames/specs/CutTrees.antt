-- The cut at a node as a tree of its own.
use Rattle.std.specs.Prelude.{ℕ, ◌<◌, ◌≡◌, List, [], All, Some, length, map, replicate, slice_index}
use Rattle.std.specs.List.{range_with_len}
use Rattle.rational.specs.Rational.{ℚ}
use Rattle.game_core.specs.Tree.{GameTree, IsGameTree, label_of}
use Rattle.game_core.specs.TreeGame.{game_of_tree}
use Rattle.subgames.specs.CutGames.{IsCutGame, IsGivenEnd, IsInCut}

-- a tree that is the cut at node n, whose sets keep the numbers that a file gives them
pub record IsCutTree (t : GameTree) (n : ℕ) (worth : ℕ → ℕ → ℚ) (nodes sets : List ℕ)
    (cut : GameTree) : Type 0 where
  pub is_tree : IsGameTree cut
  pub is_cut : IsCutGame (game_of_tree t) n worth nodes sets (game_of_tree cut)
  pub labels : (r : ℕ) → r < length sets → label_of cut r ≡ label_of t (slice_index sets r)

-- a tree that holds nothing but its game and the numbers of its sets: it has no names, and an
-- outcome of its own at each node
pub record IsBareTree (players : ℕ) (cut : GameTree) : Type 0 where
  pub title : cut.title ≡ []
  pub names : cut.players ≡ replicate players []
  pub set_names : All (λ set. set.name ≡ []) cut.sets
  pub action_names : All (λ set. All (λ action. action.name ≡ []) set.actions) cut.sets
  pub outcomes : length cut.outcomes ≡ length cut.nodes
  pub own_outcomes : map (λ node. node.outcome) cut.nodes
      ≡ map Some (range_with_len 0 (length cut.nodes))
  pub bare_outcomes : All (λ outcome. (outcome.label ≡ 0) × (outcome.name ≡ [])) cut.outcomes

-- the cut at node n, of which there is at most one
pub record IsCutAt (t : GameTree) (n : ℕ) (worth : ℕ → ℕ → ℚ) (nodes sets : List ℕ) (cut : GameTree)
    : Type 0 where
  pub is_cut : IsCutTree t n worth nodes sets cut
  pub is_bare : IsBareTree (length t.players) cut

-- two worths are the same at the ends of a cut
abbrev pub AgreeAtEnds : GameTree → ℕ → (ℕ → ℕ → ℚ) → (ℕ → ℕ → ℚ) → Type 0
AgreeAtEnds t n worth other =
    (k i : ℕ) → i < length t.players → IsInCut (game_of_tree t) n k
    → IsGivenEnd (game_of_tree t) n k
    → worth k i ≡ other k i

-- a tree has at most one cut at a node where the ends are worth the same
abbrev pub CutsAreSingle : Type 0
CutsAreSingle =
    (t : GameTree) (n : ℕ) (worth other : ℕ → ℕ → ℚ) (nodes sets nodes_too sets_too : List ℕ)
    (cut cut_too : GameTree) → IsGameTree t → n < length t.nodes → AgreeAtEnds t n worth other
    → IsCutAt t n worth nodes sets cut → IsCutAt t n other nodes_too sets_too cut_too
    → (nodes ≡ nodes_too) × (sets ≡ sets_too) × (cut ≡ cut_too)
