use Rattle.std.proofs.Common.{◌+◌, ◌<◌, inr, length, refl, arith}
use Rattle.behaviour_profile.proofs.TakenShareLemmas.{weight_read, next_share, next_fits, first_share, all_shares}
use Rattle.behaviour_profile.proofs.plans.push_shares.Goals as goal

pub returns-in-Err-clause-steps : goal.returns-in-Err-clause-steps
returns-in-Err-clause-steps c =
    let plan = c.args.plan.now in
    let row = c.args.row in
    let action = c.loop-action.action in
    let here : row.first + action < length plan = omega (arith, c.requires.after, c.loop-action-test.true) in
    let before = weight_read plan row.before c.index-plan-row.result c.requires.before c.index-plan-row.is in
    let after = weight_read plan (row.first + action) c.index-plan-first.result here c.index-plan-first.is in
    inr ((action, c.in-Err.unfit), first_share plan row action c.index-plan-row.result c.index-plan-first.result c.loop-action-test.true before after c.in-Err.unfit c.loop-action.invariant.fit c.in-Err.ensures, refl)

pub loop-action-preserved : goal.loop-action-preserved
loop-action-preserved c =
    let plan = c.args.plan.now in
    let row = c.args.row in
    let action = c.loop-action.action in
    let here : row.first + action < length plan = omega (arith, c.requires.after, c.loop-action-test.true) in
    let before = weight_read plan row.before c.index-plan-row.result c.requires.before c.index-plan-row.is in
    let after = weight_read plan (row.first + action) c.index-plan-first.result here c.index-plan-first.is in
    record {
      shares = next_share plan row action c.index-plan-row.result c.index-plan-first.result c.loop-action-test.true before after c.args.entries.now.items c.loop-action.entries.items c.push.new.self.items c.in-Ok.share c.loop-action.invariant.shares c.in_ok-push-in-Ok.ensures.items c.in-Ok.ensures.0;
      fit = next_fits plan row action c.index-plan-row.result c.index-plan-first.result c.loop-action-test.true before after c.loop-action.invariant.fit c.in-Ok.ensures.1;
    }

pub returns-clause-steps : goal.returns-clause-steps
returns-clause-steps c = all_shares c.args.plan.now c.args.row c.loop-action.action c.loop-action-test.false c.loop-action.invariant.fit
