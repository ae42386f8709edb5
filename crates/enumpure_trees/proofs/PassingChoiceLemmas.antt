-- Whether a choice passes depends only on its actions at the players' sets.
use Rattle.std.proofs.Common.{ℕ, ◌<◌, ◌≡◌, inl, Bool, true, false, Some, List, All, length, get_or, refl, ap, subst, arith}
use Rattle.std.specs.Prelude.{◌==◌, if◌then◌else◌}
use Rattle.std.proofs.lemmas.List.Elements.{Contains-get_or}
use Rattle.rational.specs.Rational.{◌≤ℚ◌}
use Rattle.game_theory.specs.Behaviour.{Behaviour, is_own, pure, reply, value}
use Rattle.game_theory.specs.Mixed.{sure}
use Rattle.game_theory.specs.Trees.{Tree, IsTree}
use Rattle.game_theory.proofs.SubtreeLemmas.{value-agree}
use Rattle.enumpure_trees.specs.TestNodes.{AreTestNodes, IsTestedAt}
use Rattle.enumpure_trees.specs.PassingChoices.{IsAgentEquilibriumAt, IsTestedEquilibriumAt, Passes, agent_reply}
use Rattle.subgames.specs.Perfect.{IsEquilibriumAt}

-- two behaviours are the same at the players' sets
abbrev PlayersAgree : Tree → Behaviour → Behaviour → Type 0
PlayersAgree t b other = (s i a : ℕ) → s < t.sets → t.owner s ≡ Some i → b s a ≡ other s a

module _ (t : Tree) (b other : Behaviour) (k : ℕ) (w : IsTree t) (l : k < t.size) (agree : PlayersAgree t b other) where
  -- they give a node the same value
  value-same : (i : ℕ) (one two : Behaviour) → PlayersAgree t one two → value t one i k ≡ value t two i k
  value-same i one two h = value-agree t one two i k w l (λ c s j a n m e o _. h s j a (w.sets_within c s m e) o)

  -- so a reply is no better against the other
  no_better : (i : ℕ) (one two : Behaviour) → PlayersAgree t one two → value t one i k ≤ℚ value t b i k → value t two i k ≤ℚ value t other i k
  no_better i one two h r = subst (λ v. v ≤ℚ value t other i k) (value-same i one two h) (subst (λ v. value t one i k ≤ℚ v) (value-same i b other agree) r)

  -- the equilibria at the node are the same
  equilibrium-same : IsEquilibriumAt t b k → IsEquilibriumAt t other k
  equilibrium-same h i choice is_player is_choice =
      no_better i (reply t b i choice) (reply t other i choice) (λ s j a m o. ap (λ v. if is_own t i s then sure (choice s) a else v) (agree s j a m o)) (h i choice is_player is_choice)

  -- so are those of the agent form
  agent_equilibrium-same : IsAgentEquilibriumAt t b k → IsAgentEquilibriumAt t other k
  agent_equilibrium-same h set i action m o n =
      no_better i (agent_reply b set action) (agent_reply other set action) (λ s j a m o. ap (λ v. if s == set then sure action a else v) (agree s j a m o)) (h set i action m o n)

  passing-same : (agents : Bool) → IsTestedEquilibriumAt agents t b k → IsTestedEquilibriumAt agents t other k
  passing-same true h = agent_equilibrium-same h
  passing-same false h = equilibrium-same h

-- choices are tested at nodes of the tree
pub tested-below : (perfect : Bool) (t : Tree) (k : ℕ) → IsTree t → IsTestedAt perfect t k → k < t.size
tested-below true t k w h = h.0
tested-below false t k w h = omega (arith, h, w.some_node)

-- a choice with the actions of one that passes passes
pub Passes-same : (agents perfect : Bool) (t : Tree) (choice other : ℕ → ℕ) → IsTree t → ((s i : ℕ) → s < t.sets → t.owner s ≡ Some i → choice s ≡ other s) → Passes agents perfect t choice → Passes agents perfect t other
Passes-same agents perfect t choice other w same h k tested =
    passing-same t (pure choice) (pure other) k w (tested-below perfect t k w tested) (λ s i a l o. ap (λ v. sure v a) (same s i l o)) agents (h k tested)

-- the nodes are the tree's
pub nodes-below : (perfect : Bool) (t : Tree) (nodes : List ℕ) → IsTree t → AreTestNodes perfect t nodes → All (λ k. k < t.size) nodes
nodes-below perfect t nodes w tested k d l =
    tested-below perfect t (get_or nodes k d) w (tested.sound (get_or nodes k d) (Contains-get_or nodes k d l))

-- the root is tested
root-tested : (perfect : Bool) (t : Tree) → IsTree t → IsTestedAt perfect t 0
root-tested true t w = (w.some_node, inl refl)
root-tested false t w = refl

-- so there is some node
pub some_test_node : (perfect : Bool) (t : Tree) (nodes : List ℕ) → IsTree t → AreTestNodes perfect t nodes → 0 < length nodes
some_test_node perfect t nodes w tested = let root = tested.complete 0 (root-tested perfect t w) in omega (arith, root.1)
