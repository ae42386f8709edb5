use Rattle.std.proofs.Common.{ℕ, ◌<◌, ◌≡◌, length}
use Rattle.game_theory.specs.Profiles.{Game, stride}
use Rattle.enumpure_trees.specs.Games.{AreColumnsOf, KeepsThose, PlaysBestAtAll}
use Rattle.enumpure_trees.proofs.passing.keep_mutual_at_all.Given as goal

abbrev pub invariant-loop-index : goal.invariant-loop-index
invariant-loop-index l = record {
  stride_is : l.stride ≡ stride l.strategies l.index;
  kept : (games : ℕ → Game) → AreColumnsOf games l.choosers l.strategies l.columns (length l.initial.passing)
      → KeepsThose (λ n. (j : ℕ) → j < l.index → PlaysBestAtAll games l.columns.nodes j n) l.initial.passing l.passing;
}
