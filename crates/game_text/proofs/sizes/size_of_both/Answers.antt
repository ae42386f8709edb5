use Rattle.game_text.proofs.DigitLemmas.{both_answer, before_long}
use Rattle.game_text.proofs.sizes.size_of_both.Goals as goal

pub returns-in_err-number : goal.returns-in_err-number
returns-in_err-number c =
    rw c.from_residual.ensures (before_long c.args.before.now c.args.after.now c.requires.before c.requires.after c.in_err-number.ensures)

pub returns : goal.returns
returns c =
    both_answer c.args.before.now c.args.after.now c.in_ok-number.number c.with_digits-2.result c.requires.before c.requires.after c.in_ok-number.ensures.0 c.with_digits-2.ensures
