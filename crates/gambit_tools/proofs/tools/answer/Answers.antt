use Rattle.std.proofs.Common.{map, string_bytes}
use Rattle.words.specs.Words.{command_of}
use Rattle.words.proofs.RangeLemmas.{ranges}
use Rattle.gambit_tools.proofs.tools.answer.Goals as goal

pub compute-requires-clause-ranges : goal.compute-requires-clause-ranges
compute-requires-clause-ranges g c κs within = ranges (map string_bytes c.args.words.now) (command_of c.in_ok-settings.settings) c.in_ok-settings.ensures.settings
