use Rattle.game_theory.proofs.EntryGameExamples.{entry-equilibria}
use Rattle.game_theory.proofs.entry_has_two_pure_equilibria.Goals as goal

pub returns : goal.returns
returns c = entry-equilibria
