use Rattle.game_text.proofs.OneListLaws.{tokens_of-single}
use Rattle.game_text.proofs.reading.tokens_are_single.Goals as goal

pub returns : goal.returns
returns c = tokens_of-single
