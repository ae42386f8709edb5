use Rattle.std.proofs.Common.{sym}
use Rattle.game_text.proofs.NumeralFormLemmas.{power_digits}
use Rattle.game_text.proofs.number.read_decimal.Goals as goal

pub decimal_value-requires-clause-power : goal.decimal_value-requires-clause-power
decimal_value-requires-clause-power c =
    power_digits c.args.power.now (c.in-Some.falls, c.in-Some.power.now) (sym c.in-Some.ensures)
