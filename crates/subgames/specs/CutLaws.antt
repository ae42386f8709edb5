-- The laws of cuts.
use Rattle.std.specs.Prelude.{ℕ, ◌<◌, ◌≡◌, List, Some, slice_index}
use Rattle.rational.specs.Rational.{ℚ}
use Rattle.game_theory.specs.Behaviour.{Behaviour, value}
use Rattle.game_theory.specs.Recall.{HasPerfectRecall}
use Rattle.game_theory.specs.TreeEquilibrium.{IsEquilibrium}
use Rattle.game_theory.specs.Trees.{Tree, IsTree}
use Rattle.subgames.specs.CutGames.{IsCutGame, IsGivenEnd, IsInCut, cut_behaviour}
use Rattle.subgames.specs.Roots.{IsSubgameRoot}
use Rattle.subgames.specs.Perfect.{IsEquilibriumAt}

-- what is given at the ends of a cut is what they are worth to a player under a behaviour
abbrev pub AreValuesAtEnds : Tree → ℕ → (ℕ → ℕ → ℚ) → Behaviour → ℕ → Type 0
AreValuesAtEnds t n worth b i =
    (k : ℕ) → IsInCut t n k → IsGivenEnd t n k → worth k i ≡ value t b i k

-- then each node of the cut has its value in the tree
abbrev pub CutsKeepValues : Type 0
CutsKeepValues =
    (t : Tree) (n : ℕ) (worth : ℕ → ℕ → ℚ) (nodes sets : List ℕ) (c : Tree) (b : Behaviour)
    (i j : ℕ)
    → IsTree t → IsTree c → IsCutGame t n worth nodes sets c → i < t.players
    → AreValuesAtEnds t n worth b i → j < c.size
    → value c (cut_behaviour sets b) i j ≡ value t b i (slice_index nodes j)

-- a player who recalls in a tree recalls in its cuts
abbrev pub CutsKeepRecall : Type 0
CutsKeepRecall =
    (t : Tree) (n : ℕ) (worth : ℕ → ℕ → ℚ) (nodes sets : List ℕ) (c : Tree) (i : ℕ)
    → IsTree t → IsTree c → n < t.size → IsCutGame t n worth nodes sets c
    → HasPerfectRecall t i → HasPerfectRecall c i

-- at node n the behaviour is an equilibrium of the cut whose ends are worth what they are under it
pub record IsCutEquilibrium (t : Tree) (b : Behaviour) (n : ℕ) : Type 0 where
  pub worth : ℕ → ℕ → ℚ
  pub nodes : List ℕ
  pub sets : List ℕ
  pub cut : Tree
  pub is_tree : IsTree cut
  pub is_cut : IsCutGame t n worth nodes sets cut
  pub values : (i : ℕ) → i < t.players → AreValuesAtEnds t n worth b i
  pub equilibrium : IsEquilibrium cut (cut_behaviour sets b)

-- a behaviour that is so wherever a subgame begins is an equilibrium at each such node
abbrev pub CutEquilibriaArePerfect : Type 0
CutEquilibriaArePerfect =
    (t : Tree) (b : Behaviour) → IsTree t
    → ((n : ℕ) → n < t.size → IsSubgameRoot t n → IsCutEquilibrium t b n)
    → (n : ℕ) → n < t.size → IsSubgameRoot t n → IsEquilibriumAt t b n

-- set s stands in the cut at node n: at a node that is no end with given payoffs
abbrev pub StandsInCut : Tree → ℕ → ℕ → Type 0
StandsInCut t n s =
    (k : ℕ) × IsInCut t n k × (¬ IsGivenEnd t n k) × (t.set k ≡ Some s)

-- each set that a node has stands in the cut at some node where a subgame begins, and a player's
-- set stands in the cut at one such node only
pub record SetsStandInOneCut : Type 0 where
  pub some : (t : Tree) (k s : ℕ) → IsTree t → k < t.size → t.set k ≡ Some s
      → (n : ℕ) × (n < t.size) × IsSubgameRoot t n × StandsInCut t n s
  pub one : (t : Tree) (n m s i : ℕ) → IsTree t → IsSubgameRoot t n → IsSubgameRoot t m
      → t.owner s ≡ Some i → StandsInCut t n s → StandsInCut t m s → n ≡ m
