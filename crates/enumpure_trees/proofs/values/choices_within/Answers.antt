use Rattle.std.proofs.Common.{◌+◌, ◌*◌, ◌/◌, ◌≤◌, ◌≡◌, ◌∙◌, ap, get_or, take, mul-pos, arith}
use Rattle.std.proofs.lemmas.List.{take_all}
use Rattle.game_theory.specs.Profiles.{profile_count}
use Rattle.game_theory.proofs.ProfileCountLemmas.{profile_count-front, profile_count-next, profile_count-positive}
use Rattle.enumpure_trees.proofs.values.choices_within.Goals as goal
use native.Mathlib.Nat as N

pub returns-then-most-eq0 : goal.returns-then-most-eq0
returns-then-most-eq0 c = omega (arith, profile_count-positive c.args.counts.now c.requires)

pub overflow_mul-choices : goal.overflow_mul-choices
overflow_mul-choices c =
    let choices = c.loop-count.choices in
    let low : get_or c.args.counts.now c.loop-count.count-index 0 ≤ c.args.most / choices = omega arith in
    let room : choices * get_or c.args.counts.now c.loop-count.count-index 0 ≤ choices * (c.args.most / choices) = N.mul-le-mul_left choices low in
    omega (arith, room, c.loop-count.invariant.some)

pub loop-count-preserved : goal.loop-count-preserved
loop-count-preserved c =
    let choices = c.loop-count.choices in
    let counts = c.args.counts.now in
    let k = c.loop-count.count-index in
    let low : get_or counts k 0 ≤ c.args.most / choices = omega arith in
    let room : choices * get_or counts k 0 ≤ choices * (c.args.most / choices) = N.mul-le-mul_left choices low in
    record {
      some = mul-pos c.loop-count.invariant.some (c.requires k 0 c.loop-count-test.true);
      few = omega (arith, room, c.loop-count.invariant.some);
      are = ap (λ x. x * get_or counts k 0) c.loop-count.invariant.are ∙ profile_count-next counts k c.loop-count-test.true;
    }

pub returns-then-count-most : goal.returns-then-count-most
returns-then-count-most c =
    let choices = c.loop-count.choices in
    let counts = c.args.counts.now in
    let k = c.loop-count.count-index in
    let high : c.args.most / choices + 1 ≤ get_or counts k 0 = omega arith in
    let above : choices * (c.args.most / choices + 1) ≤ choices * get_or counts k 0 = N.mul-le-mul_left choices high in
    let here : choices * get_or counts k 0 ≡ profile_count (take (k + 1) counts) = ap (λ x. x * get_or counts k 0) c.loop-count.invariant.are ∙ profile_count-next counts k c.loop-count-test.true in
    omega (arith, above, here, profile_count-front (k + 1) counts c.requires, c.loop-count.invariant.some)

pub returns : goal.returns
returns c = (c.loop-count.invariant.are ∙ ap profile_count (take_all c.loop-count.count-index c.args.counts.now (omega arith)), c.loop-count.invariant.few)
