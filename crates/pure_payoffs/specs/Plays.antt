-- What the steps of a play are computed from.
use Rattle.std.specs.Prelude.{ℕ, List, map, Result}
use Rattle.game_theory.specs.Children.{AreChildren}
use Rattle.rational.specs.Rational.{ℚ}
use Rattle.frac128.specs.Steps.{StepsGive}
use Rattle.frac128.specs.declared.steps.Unfit.{Unfit}
use Rattle.game_theory.specs.Trees.{Tree, IsTree}
use Rattle.game_theory.specs.Behaviour.{value, pure}
use Rattle.game_core.specs.TreeGame.{game_of_tree}
use Rattle.pure_payoffs.specs.Choices.{AreChoices, chosen_by}
use Rattle.pure_payoffs.specs.declared.choices.Choices.{Choices}
use Rattle.pure_payoffs.specs.declared.payoff.Play.{Play}
use Rattle.pure_payoffs.specs.Steps.{steps_at}

-- a game tree, its nodes' children, and an action at each player's set
pub record IsPlay (t : Tree) (children : List (List ℕ)) (choices : Choices) : Type 0 where
  pub tree : IsTree t
  pub children_are : AreChildren t children
  pub choices_are : AreChoices t choices

-- the game of a play's tree
abbrev pub game_of : Play → Tree
game_of play = game_of_tree play.tree.now

-- the choice at each set
abbrev pub choice_of : Play → ℕ → ℕ
choice_of play = chosen_by (game_of play) play.choices

-- the parts of a play fit
abbrev pub IsPlayed : Play → Type 0
IsPlayed play = IsPlay (game_of play) (map (λ v. v.items) play.children.now) play.choices

-- what the steps of node k's value for player i give
abbrev pub GiveAt : Tree → (ℕ → ℕ) → ℕ → ℕ → Result ℚ Unfit → Type 0
GiveAt t choice i k result = StepsGive (steps_at t choice i k) (value t (pure choice) i k) result
