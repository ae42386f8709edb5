use Rattle.std.proofs.Common.{ap, ◌∙◌, ◌+◌, ◌*◌, get_or, arith}
use Rattle.game_theory.proofs.ProfileCountLemmas.{profile_count-front}
use Rattle.game_theory.proofs.ProfileCountLemmas.{profile_count-next}
use Rattle.game_core.proofs.profiles.profile_count.Goals as goal

pub overflow_mul-profiles : goal.overflow_mul-profiles
overflow_mul-profiles c =
    let counts = c.args.counts.now in
    let here = ap (λ x. x * get_or counts c.loop-count.count-index 0) c.loop-count.invariant ∙ profile_count-next counts c.loop-count.count-index c.loop-count-test.true in
    omega (arith, here, profile_count-front (c.loop-count.count-index + 1) counts c.requires.some, c.requires.few)

pub loop-count-preserved : goal.loop-count-preserved
loop-count-preserved c =
    let counts = c.args.counts.now in
    ap (λ x. x * get_or counts c.loop-count.count-index 0) c.loop-count.invariant ∙ profile_count-next counts c.loop-count.count-index c.loop-count-test.true
