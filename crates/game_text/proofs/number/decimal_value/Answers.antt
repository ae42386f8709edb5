use Rattle.std.proofs.Common.{sym, subst}
use Rattle.game_text.proofs.DigitLemmas.{Struck, struck_after, kept_digits}
use Rattle.game_text.proofs.LimitLemmas.{decimal_answer}
use Rattle.game_text.proofs.number.decimal_value.Goals as goal

pub size_of_both-requires-clause-after : goal.size_of_both-requires-clause-after
size_of_both-requires-clause-after c =
    kept_digits c.args.after.now _ (subst (Struck c.args.after.now) (sym c.without_trailing_zeros-after.ensures) (struck_after c.args.after.now)) c.requires.after

pub returns : goal.returns
returns c =
    decimal_answer c.args.negative c.args.falls c.args.before.now c.args.after.now c.without_trailing_zeros-after.result.now c.args.power.now c.in_ok-size.size c.in_ok-exponent.exponent c.decimal.result c.without_trailing_zeros-after.ensures c.in_ok-size.ensures.0 c.in_ok-size.ensures.2 c.in_ok-exponent.ensures.0 c.in_ok-exponent.ensures.1 c.decimal.ensures
