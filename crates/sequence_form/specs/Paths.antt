-- What the paths of a tree of two players lead to: rows, columns, chances and payoffs, and the
-- steps in which they are computed.
use Rattle.std.specs.Prelude.{ℕ, zero, suc, List, [], ◌∷◌, ◌++◌, map, Option, Some, None}
use Rattle.std.specs.List.{range_with_len}
use Rattle.answers.specs.Answers.{Answer, refused_by}
use Rattle.frac128.specs.FirstUnfit.{all_fit}
use Rattle.frac128.specs.Steps.{step_of, Step}
use Rattle.frac128.specs.declared.steps.Op.TheVariants.{Add, Mul}
use Rattle.game_theory.specs.Trees.{Tree}
use Rattle.sequence_forms.specs.Forms.{chance_of_path, payoff_of_path, row, column}
use Rattle.sequence_forms.specs.Lists.{leaves}
use Rattle.sequence_data.specs.declared.stop.SeqStop.{SeqStop}
use Rattle.sequence_data.specs.declared.stop.SeqStop.TheVariants as stops
use Rattle.sequence_data.specs.declared.types.Leaf.{Leaf}

-- node k with its last sequences, its chance and the payoffs of its path
abbrev pub leaf_at : Tree → ℕ → Leaf
leaf_at t k =
    record {
      place = k;
      row = row t k;
      column = column t k;
      chance = chance_of_path t k;
      one = payoff_of_path t 0 k;
      two = payoff_of_path t 1 k;
    }

-- the leaves of a tree
abbrev pub tree_leaves : Tree → List Leaf
tree_leaves t = map (leaf_at t) (leaves t)

-- ---- steps
-- the chance of a node after set s with this owner: the parent's times the probability, where
-- chance plays there
abbrev pub chance_step : Tree → ℕ → ℕ → Option ℕ → List Step
chance_step t k s None = step_of Mul (chance_of_path t (t.parent k)) (t.chance s (t.branch k)) ∷ []
chance_step t k s (Some i) = []

-- the same after a node with this set or with none
abbrev pub chance_steps : Tree → ℕ → Option ℕ → List Step
chance_steps t k None = []
chance_steps t k (Some s) = chance_step t k s (t.owner s)

-- what the outcome of a node pays player i is added to what the path to its parent pays
abbrev pub payoff_step : Tree → ℕ → ℕ → Step
payoff_step t k i = step_of Add (payoff_of_path t i (t.parent k)) (t.pays k i)

-- the steps at a node after the root
abbrev pub child_steps : Tree → ℕ → List Step
child_steps t k =
    chance_steps t k (t.set (t.parent k)) ++ payoff_step t k 0 ∷ payoff_step t k 1 ∷ []

-- the steps at a node: none at the root
abbrev pub node_steps : Tree → ℕ → List Step
node_steps t zero = []
node_steps t (suc k) = child_steps t (suc k)

-- the steps of all nodes fit; or the first that does not, with its node
abbrev pub paths_in : Tree → Answer SeqStop (Unit {0})
paths_in t =
    refused_by (λ stop. stops.Range stop.0 stop.1)
    (all_fit (node_steps t) (range_with_len 0 t.size))
