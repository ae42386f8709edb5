use Rattle.std.proofs.Common.{◌∙◌, ◌∷◌, ◌++◌, [], ap₂, sym, arith}
use Rattle.std.proofs.lemmas.List.FromFn.{map-range_with_len_more}
use Rattle.game_core.specs.TreeGame.{game_of_tree}
use Rattle.subgames.specs.CutParts.{cut_pays}
use Rattle.subgames.proofs.cut_parts.cut_outcome.Goals as goal

pub loop-player-preserved : goal.loop-player-preserved
loop-player-preserved c =
    let i = c.loop-player.player in
    c.in_ok-push.ensures.items ∙ ap₂ (λ v x. v ++ x ∷ []) c.loop-player.invariant c.cut_pays-payoff.ensures
    ∙ sym (map-range_with_len_more (cut_pays (game_of_tree c.args.tree.now) c.args.begins.now c.args.root c.args.worth.now c.args.node) 0 i i (omega arith))
