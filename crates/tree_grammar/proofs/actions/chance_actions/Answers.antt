use Rattle.game_core.specs.TokenList.{bare}
use Rattle.tree_grammar.proofs.ActionStepLemmas.{summed_goes_on}
use Rattle.tree_grammar.proofs.actions.chance_actions.Goals as goal

pub loop-name-preserved : goal.loop-name-preserved
loop-name-preserved c =
    rw (c.in_ok-push.ensures.items, c.in_ok-name.ensures) (summed_goes_on c.args.set c.loop-name.actions.items c.loop-name.sum c.in-Ok.more c.in-Some-number.next.0 c.in-Some.name.now (bare c.loop-name.rest.now) (bare c.in-Some.after.now) (bare c.in-Some-number.next.1.now) _
    c.in-Some.ensures.read c.in-Some-number.ensures c.in-Ok.ensures c.loop-name.invariant)
