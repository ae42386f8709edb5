use Rattle.game_theory.proofs.LineTextLemmas.{lines-tell}
use Rattle.game_theory.proofs.lines_determine_profiles.Goals as goal

pub returns : goal.returns
returns c = lines-tell
