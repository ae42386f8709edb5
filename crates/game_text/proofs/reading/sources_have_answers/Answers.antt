use Rattle.game_text.proofs.EveryAnswerLaws.{every_source}
use Rattle.game_text.proofs.reading.sources_have_answers.Goals as goal

pub returns : goal.returns
returns c = every_source
