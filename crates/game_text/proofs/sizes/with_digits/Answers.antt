use Rattle.std.proofs.Common.{◌≡◌, ◌+◌, ◌*◌, arith, sym, take}
use Rattle.std.specs.Str.Parse.{digits_value_after}
use Rattle.game_text.proofs.DigitLemmas.{digits_front, digits_more}
use Rattle.game_text.proofs.sizes.with_digits.Goals as goal

pub loop-digit-preserved : goal.loop-digit-preserved
loop-digit-preserved c =
    let next : digits_value_after 10 c.args.number (take (c.loop-digit.digit-index + 1) c.args.digits.now) ≡ 10 * c.loop-digit.value + c.from.result = grind (arith, digits_more) in
    (sym next, omega (arith, c.if-value-limit.false))

pub returns-then-value-limit : goal.returns-then-value-limit
returns-then-value-limit c =
    let next = c.loop-digit.digit-index + 1 in
    let step : digits_value_after 10 c.args.number (take next c.args.digits.now) ≡ 10 * c.loop-digit.value + c.from.result = grind (arith, digits_more) in
    omega (arith, step, digits_front c.args.number next c.args.digits.now)
