use Rattle.game_text.proofs.DigitLemmas.{size_answer}
use Rattle.game_text.proofs.sizes.size_of.Goals as goal

pub returns : goal.returns
returns c = size_answer c.args.digits.now c.with_digits.result c.requires c.with_digits.ensures
