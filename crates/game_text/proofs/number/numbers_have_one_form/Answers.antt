use Rattle.game_text.proofs.NumeralFormLemmas.{one_form}
use Rattle.game_text.proofs.number.numbers_have_one_form.Goals as goal

pub returns : goal.returns
returns c = one_form
