-- What a verdict on behaviour on a tree says, each law carried by the contract of a function of
-- this crate.
use Rattle.std.specs.Prelude.{ℕ, ◌<◌, ◌≡◌, ◌↔◌, List, map, All}
use Rattle.rational.specs.Rational.{ℚ, ◌≤ℚ◌}
use Rattle.game_theory.specs.Trees.{Tree}
use Rattle.game_theory.specs.Behaviour.{Behaviour, IsValid, IsChoice, payoff as payoff_of, reply}
use Rattle.game_theory.specs.TreeEquilibrium.{IsEquilibrium}
use Rattle.game_theory.specs.OwnSets.{own_sets}
use Rattle.game_theory.specs.Recall.{AllRecall}
use Rattle.game_core.specs.Tree.{GameTree, IsGameTree}
use Rattle.game_core.specs.TreeGame.{game_of_tree}
use Rattle.best_replies.specs.Replies.{AreBestChoices, HasBetterReply}
use Rattle.frac128.specs.Steps.{StepFits}
use Rattle.verdicts.specs.declared.trees.TreeVerdict.{TreeVerdict}
use Rattle.verdicts.specs.declared.trees.TreeVerdict.TheVariants.{Equilibrium, Better}
use Rattle.verdicts.specs.TreeSteps.{tree_player_steps}
use Rattle.verdicts.specs.TreeVerdicts.{IsTreeVerdict, tree_verdict}

-- a tree in which all players recall and entries have at most one verdict, with one reply
abbrev pub TreeVerdictsAreSingle : Type 0
TreeVerdictsAreSingle =
    (tree : GameTree) (entries : List ℚ) (verdict other : TreeVerdict) (reply reply' : List ℕ)
    → IsGameTree tree → AllRecall (game_of_tree tree) → tree_verdict tree entries verdict reply
    → tree_verdict tree entries other reply' → (verdict ≡ other) × (reply ≡ reply')

-- the steps of all players fit, for each player's best choices
abbrev pub AllPlayersFit : Tree → Behaviour → Type 0
AllPlayersFit t b =
    (i : ℕ) (choice : ℕ → ℕ) → i < t.players → AreBestChoices t b i choice
    → All StepFits (tree_player_steps t b i choice)

-- A player has a better reply, no earlier player has one, and the reply's actions pay the most that
-- any pure reply pays, which is this. At each of the player's sets the action is the first that is
-- worth the most.
pub record ShowsBetterReply (t : Tree) (b : Behaviour) (player : ℕ) (payoff best : ℚ)
    (actions : List ℕ) : Type 0 where
  pub has_better : HasBetterReply t b player
  pub earlier_have_none : (j : ℕ) → j < player → HasBetterReply t b j → ⊥
  pub payoff_is : payoff ≡ payoff_of t b player
  pub choice : ℕ → ℕ
  pub is_choice : IsChoice t player choice
  pub actions_are : actions ≡ map choice (own_sets t player)
  pub pays_best : payoff_of t (reply t b player choice) player ≡ best
  pub none_pays_more : (other : ℕ → ℕ) → IsChoice t player other
      → payoff_of t (reply t b player other) player ≤ℚ best
  pub first_best : AreBestChoices t b player choice

-- A verdict of equilibrium on valid behaviour is right, and so is a better reply; where all steps
-- fit, the verdict of equilibrium comes exactly at equilibria.
pub record TreeVerdictsFindEquilibria : Type 0 where
  pub equilibrium : (tree : GameTree) (b : Behaviour) (actions : List ℕ) → IsGameTree tree
      → AllRecall (game_of_tree tree) → IsValid (game_of_tree tree) b
      → IsTreeVerdict (game_of_tree tree) b Equilibrium actions
      → IsEquilibrium (game_of_tree tree) b
  pub better : (tree : GameTree) (b : Behaviour) (player : ℕ) (payoff best : ℚ)
      (actions : List ℕ) → IsGameTree tree → AllRecall (game_of_tree tree)
      → IsTreeVerdict (game_of_tree tree) b (Better player payoff best) actions
      → ShowsBetterReply (game_of_tree tree) b player payoff best actions
  pub exactly : (tree : GameTree) (b : Behaviour) (verdict : TreeVerdict)
      (actions : List ℕ) → IsGameTree tree → AllRecall (game_of_tree tree)
      → IsValid (game_of_tree tree) b → AllPlayersFit (game_of_tree tree) b
      → IsTreeVerdict (game_of_tree tree) b verdict actions
      → IsEquilibrium (game_of_tree tree) b ↔ (verdict ≡ Equilibrium)
