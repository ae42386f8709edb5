-- What nodes are worth under a choice at each set, or why that is not computed. Nodes and players
-- count from 0.
use Rattle.std.specs.Prelude.{ℕ, List}
use Rattle.std.specs.List.{flat_map, range_with_len}
use Rattle.answers.specs.Answers.{Answer, IsSingle, refused_by}
use Rattle.lists.specs.Products.{cartesian_product}
use Rattle.frac128.specs.FirstUnfit.{all_fit}
use Rattle.frac128.specs.Steps.{Step}
use Rattle.game_theory.specs.Behaviour.{pure, value}
use Rattle.game_theory.specs.Lines.{listed}
use Rattle.game_theory.specs.Trees.{Tree}
use Rattle.rational.specs.Rational.{ℚ}
use Rattle.pure_payoffs.specs.Steps.{steps_at}
use Rattle.pure_payoffs.specs.declared.stop.PayoffStop.{PayoffStop}
use Rattle.pure_payoffs.specs.declared.stop.PayoffStop.TheVariants as stops
use Rattle.pure_payoffs.specs.declared.stop.ValueStop.{ValueStop}
use Rattle.pure_payoffs.specs.declared.stop.ValueStop.TheVariants as value_stops

-- ---- one node
-- the steps of what node k is worth to all players fit; or the first that does not, with its player
abbrev pub values_fit : Tree → (ℕ → ℕ) → ℕ → Answer PayoffStop (Unit {0})
values_fit t choice k =
    refused_by (λ stop. stops.Range stop.0 stop.1)
    (all_fit (λ i. steps_at t choice i k) (range_with_len 0 t.players))

-- the steps of all players' payoffs fit; or the first that does not, with its player
abbrev pub payoffs_fit : Tree → (ℕ → ℕ) → Answer PayoffStop (Unit {0})
payoffs_fit t choice = values_fit t choice 0

-- ---- several nodes
-- what nodes are worth: node by node, and in each player by player
abbrev pub node_values : Tree → (ℕ → ℕ) → List ℕ → List ℚ
node_values t choice nodes =
    flat_map (λ k. listed t.players (λ i. value t (pure choice) i k)) nodes

-- the nodes and players in this order
abbrev pub node_players : Tree → List ℕ → List (ℕ × ℕ)
node_players t nodes = cartesian_product nodes (range_with_len 0 t.players)

-- the steps of what a node is worth to a player
abbrev pub steps_of : Tree → (ℕ → ℕ) → ℕ × ℕ → List Step
steps_of t choice pair = steps_at t choice pair.1 pair.0

-- why the values of nodes are not computed, by why those of node k are not
abbrev pub at_node : ℕ → PayoffStop → ValueStop
at_node k (stops.Range player unfit) = value_stops.Range k player unfit
at_node k stops.Memory = value_stops.Memory

-- the steps of what these nodes are worth to all players fit; or the first that does not, with its
-- node and its player
abbrev pub all_values_fit : Tree → (ℕ → ℕ) → List ℕ → Answer ValueStop (Unit {0})
all_values_fit t choice nodes =
    refused_by (λ stop. value_stops.Range stop.0.0 stop.0.1 stop.1)
    (all_fit (steps_of t choice) (node_players t nodes))

-- A choice at each set has at most one answer at a node, and at most one at several.
pub record ValuesAreSingle : Type 0 where
  pub at_one : (t : Tree) (choice : ℕ → ℕ) (k : ℕ) → IsSingle (values_fit t choice k)
  pub at_several : (t : Tree) (choice : ℕ → ℕ) (nodes : List ℕ)
      → IsSingle (all_values_fit t choice nodes)
