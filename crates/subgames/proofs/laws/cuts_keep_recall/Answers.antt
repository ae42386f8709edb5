use Rattle.subgames.proofs.CutHistoryLemmas.{cuts_keep_recall}
use Rattle.subgames.proofs.laws.cuts_keep_recall.Goals as goal

pub returns : goal.returns
returns c = cuts_keep_recall
