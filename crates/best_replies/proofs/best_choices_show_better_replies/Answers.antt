use Rattle.best_replies.proofs.VerdictLemmas.{best_choices-tell}
use Rattle.best_replies.proofs.best_choices_show_better_replies.Goals as goal

pub returns : goal.returns
returns c = best_choices-tell
