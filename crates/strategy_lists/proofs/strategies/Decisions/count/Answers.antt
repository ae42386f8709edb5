use Rattle.std.proofs.Common.{◌∙◌, refl, ap, subst, length}
use Rattle.std.proofs.lemmas.Result.{IfOk-weaker}
use Rattle.game_core.specs.TreeGame.{game_of_tree}
use Rattle.strategy_lists.specs.Reduced.{AreReducedBy}
use Rattle.game_theory.specs.OwnSets.{own_counts}
use Rattle.strategy_lists.proofs.ReducedListLemmas.{reduced_by-strategies}
use Rattle.strategy_lists.proofs.strategies.Decisions.count.Goals as goal

pub returns : goal.returns
returns c =
    let counts = c.as_slice.ensures.value ∙ c.in_ok-actions.ensures ∙ ap (λ t. own_counts (game_of_tree t) c.args.player) c.self.view_is in
    IfOk-weaker c.count_reduced.result _ _ (λ count h. (length h.0, (h.0, reduced_by-strategies (game_of_tree c.args.self.now) c.args.player c.of_player.result.now c.of_player.ensures h.0 (subst (λ xs. AreReducedBy c.of_player.result.now xs h.0) counts h.1), refl), h.2)) c.count_reduced.ensures
