use Rattle.std.proofs.Common.{◌∙◌, ℕ, List, [], ◌∷◌, ◌++◌, length, sym, ap, ap₂, arith}
use Rattle.std.proofs.lemmas.List.FromFn.{map-range_with_len_more}
use Rattle.game_core.specs.TreeGame.{game_of_tree}
use Rattle.enumpure_trees.specs.Games.{strategy_count}
use Rattle.enumpure_trees.proofs.ColumnLemmas.{strategy_count-at_most}
use Rattle.enumpure_trees.proofs.passing.player_counts.Goals as goal

pub strategy_count-requires : goal.strategy_count-requires
strategy_count-requires c =
    omega (arith, c.requires, strategy_count-at_most (game_of_tree c.args.tree.now) c.stands_for_game_tree.ensures.game c.loop-player.player (omega (arith, ap length c.players-player-end.ensures.players)))

pub loop-player-preserved : goal.loop-player-preserved
loop-player-preserved c =
    let k = c.loop-player.player in
    ◌∙◌ {A = List ℕ} c.in_ok-push.ensures.items (ap₂ (λ v x. v ++ x ∷ []) c.loop-player.invariant c.strategy_count.ensures ∙ sym (map-range_with_len_more (strategy_count (game_of_tree c.args.tree.now)) 0 k k (omega arith)))
