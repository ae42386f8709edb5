use Rattle.std.proofs.Common.{ℕ, length}
use Rattle.game_theory.specs.Profiles.{Game}
use Rattle.enumpure_trees.specs.Games.{HasColumns, KeepsThose, PlaysBestAtAll}
use Rattle.enumpure_trees.proofs.passing.keep_best_at_all.Given as goal

abbrev pub invariant-loop-node : goal.invariant-loop-node
invariant-loop-node l =
    (games : ℕ → Game) (j : ℕ) → HasColumns games j l.columns l.player (length l.initial.passing) l.stride l.strategies
    → KeepsThose (PlaysBestAtAll games l.node j) l.initial.passing l.passing
