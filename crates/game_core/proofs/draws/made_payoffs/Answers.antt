use Rattle.game_core.proofs.DrawLemmas.{payoffs_next, state_next}
use Rattle.game_core.proofs.draws.made_payoffs.Goals as goal

pub loop-preserved : goal.loop-preserved
loop-preserved c =
    let inv = c.loop.invariant in
    let next = state_next c.args.seed c.loop.counter c.loop.state c.next_state-state.result inv.state_is c.next_state-state.ensures in
    rw c.in_ok-push.ensures.items (record {
      state_is = next;
      so_far = payoffs_next c.args.seed c.loop.counter c.next_state-state.result c.loop.payoffs.items c.payoff.result next c.payoff.ensures inv.so_far;
    })
