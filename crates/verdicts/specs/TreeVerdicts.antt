-- Whether behaviour on a tree is an equilibrium: what a check answers.
-- Source: Nash 1951; Kuhn 1953.
use Rattle.std.specs.Prelude.{ℕ, ◌<◌, ◌≡◌, List, [], map, All}
use Rattle.rational.specs.Rational.{ℚ, ◌≤ℚ◌, ◌<ℚ◌}
use Rattle.game_theory.specs.Trees.{Tree}
use Rattle.game_theory.specs.Behaviour.{Behaviour, payoff as payoff_of}
use Rattle.game_theory.specs.OwnSets.{own_sets}
use Rattle.game_theory.specs.TreeEntries.{tree_entries}
use Rattle.game_core.specs.Tree.{GameTree}
use Rattle.game_core.specs.TreeGame.{game_of_tree}
use Rattle.best_replies.specs.Replies.{reply_value, AreBestChoices}
use Rattle.frac128.specs.Steps.{Step, StepFits, IsFirstUnfit}
use Rattle.verdicts.specs.declared.trees.TreeVerdict.{TreeVerdict}
use Rattle.verdicts.specs.declared.trees.TreeVerdict.TheVariants.{Equilibrium, Better, Range}
use Rattle.verdicts.specs.TreeSteps.{tree_player_steps}

-- player i passes: the steps fit, and the best choices pay no more
pub record PassesTree (t : Tree) (b : Behaviour) (i : ℕ) : Type 0 where
  pub choice : ℕ → ℕ
  pub is_best : AreBestChoices t b i choice
  pub fit : All StepFits (tree_player_steps t b i choice)
  pub no_more : reply_value t b i choice 0 ≤ℚ payoff_of t b i

-- a player's best choices pay more, and no earlier player's do
pub record IsBetter (t : Tree) (b : Behaviour) (player : ℕ) (payoff best : ℚ)
    (reply : List ℕ) : Type 0 where
  pub within : player < t.players
  pub earlier : (j : ℕ) → j < player → PassesTree t b j
  pub choice : ℕ → ℕ
  pub is_best : AreBestChoices t b player choice
  pub fit : All StepFits (tree_player_steps t b player choice)
  pub payoff_is : payoff ≡ payoff_of t b player
  pub best_is : best ≡ reply_value t b player choice 0
  pub more : payoff <ℚ best
  pub reply_is : reply ≡ map choice (own_sets t player)

-- a step does not fit, and no earlier one of this or an earlier player
pub record IsOutOfRange (t : Tree) (b : Behaviour) (step : Step) : Type 0 where
  pub player : ℕ
  pub within : player < t.players
  pub earlier : (j : ℕ) → j < player → PassesTree t b j
  pub choice : ℕ → ℕ
  pub is_best : AreBestChoices t b player choice
  pub first : IsFirstUnfit (tree_player_steps t b player choice) step

-- a verdict on behaviour, and the reply that comes with it
abbrev pub IsTreeVerdict : Tree → Behaviour → TreeVerdict → List ℕ → Type 0
IsTreeVerdict t b Equilibrium reply = ((i : ℕ) → i < t.players → PassesTree t b i) × (reply ≡ [])
IsTreeVerdict t b (Better player payoff best) reply = IsBetter t b player payoff best reply
IsTreeVerdict t b (Range step) reply = IsOutOfRange t b step × (reply ≡ [])

-- a verdict on behaviour with these entries, and the reply that comes with it
abbrev pub tree_verdict : GameTree → List ℚ → TreeVerdict → List ℕ → Type 0
tree_verdict tree entries verdict reply =
    (b : Behaviour) × (entries ≡ tree_entries (game_of_tree tree) b)
    × IsTreeVerdict (game_of_tree tree) b verdict reply
