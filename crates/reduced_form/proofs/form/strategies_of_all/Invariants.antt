use Rattle.std.proofs.Common.{ℕ, ◌≡◌, ◌<◌, [], length, map, get_or}
use Rattle.game_core.specs.TreeGame.{game_of_tree}
use Rattle.reduced_strategies.specs.Choices.{AreReducedStrategies}
use Rattle.reduced_form.proofs.form.strategies_of_all.Given as goal

abbrev pub invariant-loop-player : goal.invariant-loop-player
invariant-loop-player l = record {
  one_for_each : length l.strategies.items ≡ l.player;
  are_reduced : (i : ℕ) → i < length (map (λ v. map (λ w. w.items) v.items) l.strategies.items) → AreReducedStrategies (game_of_tree l.decisions) i (get_or (map (λ v. map (λ w. w.items) v.items) l.strategies.items) i []);
}
