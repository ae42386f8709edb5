use Rattle.std.proofs.Common.{sym}
use Rattle.game_text.proofs.NumeralFormLemmas.{tested_digits, tested_divisor}
use Rattle.game_text.proofs.number.read_fraction.Goals as goal

pub fraction_value-requires-clause-bottom : goal.fraction_value-requires-clause-bottom
fraction_value-requires-clause-bottom c = tested_digits c.args.bottom.now (sym c.if-are_digits.ensures)

pub fraction_value-requires-clause-divisor : goal.fraction_value-requires-clause-divisor
fraction_value-requires-clause-divisor c =
    tested_divisor c.args.bottom.now (sym c.if-are_digits.ensures) (sym c.if-not-are_zeros.ensures)
