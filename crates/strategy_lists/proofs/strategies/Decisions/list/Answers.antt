use Rattle.std.proofs.Common.{◌∙◌, map, ap, subst}
use Rattle.std.proofs.lemmas.Result.{IfOk-weaker}
use Rattle.game_core.specs.TreeGame.{game_of_tree}
use Rattle.strategy_lists.specs.Reduced.{AreReducedBy}
use Rattle.game_theory.specs.OwnSets.{own_counts}
use Rattle.strategy_lists.proofs.ReducedListLemmas.{reduced_by-strategies}
use Rattle.strategy_lists.proofs.strategies.Decisions.list.Goals as goal

pub returns : goal.returns
returns c =
    let counts = c.as_slice.ensures.value ∙ c.in_ok-actions.ensures ∙ ap (λ t. own_counts (game_of_tree t) c.args.player) c.self.view_is in
    IfOk-weaker c.list_reduced.result _ _ (λ v h. let lists = map (λ x. x.items) v.items in reduced_by-strategies (game_of_tree c.args.self.now) c.args.player c.of_player.result.now c.of_player.ensures lists (subst (λ xs. AreReducedBy c.of_player.result.now xs lists) counts h)) c.list_reduced.ensures
