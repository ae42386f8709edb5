-- Which choices pass where the players choose: those whose behaviour is an equilibrium of the tree, and those whose behaviour is subgame-perfect.
use Rattle.std.proofs.Common.{ℕ, refl, sym, subst}
use Rattle.game_theory.specs.Behaviour.{IsValid, IsWholeChoice, pure}
use Rattle.game_theory.specs.Trees.{Tree}
use Rattle.game_theory.proofs.SureStrategyLemmas.{sum_to-sure, sure-not_negative}
use Rattle.subgames.specs.Perfect.{IsEquilibriumAt}
use Rattle.enumpure_trees.specs.Laws.{PassingAtRootIsEquilibrium, PassingInSubgamesIsPerfection}

-- the behaviour of a choice is valid
valid-choice : (t : Tree) (choice : ℕ → ℕ) → IsWholeChoice t choice → IsValid t (pure choice)
valid-choice t choice whole s i below owned = record { not_negative = λ a _. sure-not_negative (choice s) a; sum_is_one = sum_to-sure (t.actions s) (choice s) (whole i s below owned) }

-- tested at the root, a choice passes where its behaviour is an equilibrium
pub passing-equilibrium : PassingAtRootIsEquilibrium
passing-equilibrium t choice whole = (
  λ passes. record { valid = valid-choice t choice whole; no_better_reply = passes 0 refl },
  λ equilibrium k root. subst (IsEquilibriumAt t (pure choice)) (sym root) equilibrium.no_better_reply,
)

-- tested wherever a subgame begins, it passes where its behaviour is subgame-perfect
pub passing-perfect : PassingInSubgamesIsPerfection
passing-perfect t choice whole = (
  λ passes. record { valid = valid-choice t choice whole; equilibria = λ k below root. passes k (below, root) },
  λ perfect k tested. perfect.equilibria k tested.0 tested.1,
)
