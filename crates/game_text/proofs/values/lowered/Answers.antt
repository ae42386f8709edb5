use Rattle.std.proofs.Common.{◌≤◌, ◌^◌, pos, sym, subst, ◌∙◌, arith}
use Rattle.frac128.proofs.PartLemmas.{kept-part}
use Rattle.frac128.specs.Short.{IsShort}
use Rattle.game_text.proofs.PowerLemmas.{ten_pos, long_den, short_at, step_on, step_end, tested_long}
use Rattle.game_text.proofs.values.lowered.Goals as goal

pub returns-then-not-is_short : goal.returns-then-not-is_short
returns-then-not-is_short c =
    let den = c.loop-left.lowest.den in
    let long : 2 ^ 63 ≤ den = tested_long c.is_short.result den _ (kept-part c.den.result (pos den) c.den.ensures.value c.den.ensures.fits) c.if-not-is_short.true c.is_short.ensures.1 in
    λ s. long_den c.loop-left.lowest (10 ^ c.loop-left.left) (ten_pos c.loop-left.left) long (subst IsShort (sym c.loop-left.invariant) s)

pub loop-left-preserved : goal.loop-left-preserved
loop-left-preserved c =
    step_on c.loop-left.lowest c.divided-lowest.result c.loop-left.left c.min-step.result (omega (arith, c.min-step.ensures)) c.divided-lowest.ensures ∙ c.loop-left.invariant

pub returns : goal.returns
returns c =
    short_at c.loop-left.lowest _ c.short.result (step_end c.loop-left.lowest c.loop-left.left c.loop-left-test.false ∙ c.loop-left.invariant) c.short.ensures
