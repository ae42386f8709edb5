use Rattle.std.proofs.Common.{◌≡◌, ◌∙◌, true, false, sym, ap}
use Rattle.std.specs.Prelude.{is_some}
use Rattle.game_core.specs.TreeGame.{game_of_tree}
use Rattle.subgames.proofs.RootLemmas.{begins_alone-of_player}
use Rattle.game_core.proofs.SetReadLemmas.{set-read}
use Rattle.subgames.proofs.roots.begins_alone.Goals as goal

pub returns-else-is_none : goal.returns-else-is_none
returns-else-is_none c =
    let t = c.args.tree.now in
    let g = game_of_tree t in
    let s = c.in-Some.set in
    let at = sym c.set_at.ensures ∙ c.in-Some.is in
    let below = c.stands_for_game_tree.ensures.game.sets_within c.args.node s c.requires at in
    let fits = set-read t s c.index-sets-set.result c.sets.result.now c.stands_for_game_tree.ensures.valid below c.sets.ensures.sets c.index-sets-set.is in
    begins_alone-of_player g c.args.node s c.members.result.now c.requires at
    (λ chance. let e : false ≡ true = sym (ap is_some (c.owner.ensures ∙ chance)) ∙ c.if-is_none.ensures {u = tt} in cc) (c.members.ensures ∙ fits.members_are)
