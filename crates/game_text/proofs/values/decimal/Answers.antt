use Rattle.std.proofs.Common.{arith}
use Rattle.game_text.proofs.PowerLemmas.{falls_answer, within_answer, beyond_answer}
use Rattle.game_text.proofs.values.decimal.Goals as goal

pub returns-then-falls : goal.returns-then-falls
returns-then-falls c =
    falls_answer c.args.negative c.args.falls c.args.size c.args.places c.args.exponent c.over.result c.signed.result c.lowered.result c.if-falls.true c.over.ensures c.signed.ensures.value c.signed.ensures.fits c.lowered.ensures

pub returns-then-exponent-places : goal.returns-then-exponent-places
returns-then-exponent-places c =
    within_answer c.args.negative c.args.falls c.args.size c.args.places c.args.exponent c.over-then-exponent-places.result c.signed-then-exponent-places.result c.lowered-then-exponent-places.result c.if-falls.false c.if-exponent-places.true c.over-then-exponent-places.ensures c.signed-then-exponent-places.ensures.value c.signed-then-exponent-places.ensures.fits c.lowered-then-exponent-places.ensures

pub returns-else-exponent-places : goal.returns-else-exponent-places
returns-else-exponent-places c =
    beyond_answer c.args.negative c.args.falls c.args.size c.args.places c.args.exponent c.raised.result c.if-falls.false (omega (arith, c.if-exponent-places.false)) c.raised.ensures
