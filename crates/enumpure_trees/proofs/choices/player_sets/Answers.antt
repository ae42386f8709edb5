use Rattle.std.proofs.Common.{◌∙◌, ◌++◌, sym, ap, add-one}
use Rattle.std.specs.List.{flat_map, range_with_len}
use Rattle.lists.proofs.ElementLemmas.{made-next}
use Rattle.game_core.specs.TreeGame.{game_of_tree}
use Rattle.game_theory.specs.OwnSets.{own_sets}
use Rattle.enumpure_trees.proofs.choices.player_sets.Goals as goal

pub loop-player-preserved : goal.loop-player-preserved
loop-player-preserved c =
    let f = own_sets (game_of_tree c.args.tree.now) in
    let i = c.loop-player.player in
    c.in_ok-extend_from_slice.ensures.items ∙ ap (λ own. c.loop-player.sets.items ++ own) c.sets_of.ensures ∙ ap (λ v. v ++ f i) c.loop-player.invariant ∙ sym (made-next f i) ∙ ap (λ n. flat_map f (range_with_len 0 n)) (sym (add-one i))
