use Rattle.std.proofs.Common.{take, ap, sym, ◌∙◌, subst}
use Rattle.std.specs.Char.{IsAsciiDigit}
use Rattle.std.specs.List.{All}
use Rattle.game_text.proofs.DigitLemmas.{leading_digits}
use Rattle.game_text.proofs.parts.split_digits.Goals as goal

pub returns-clause-digits : goal.returns-clause-digits
returns-clause-digits c =
    let text = c.args.text.now in
    subst (All IsAsciiDigit) (sym (c.split_at.ensures.front ∙ ap (λ n. take n text) c.digits_count.ensures)) (leading_digits text)
