use Rattle.std.proofs.Common.{◌≡◌}
use Rattle.game_theory.specs.Profiles.{stride}
use Rattle.game_core.specs.Table.{game_of, strategy_counts}
use Rattle.enumpure.proofs.KeptReplyLemmas.{AreBestRepliesBelow}
use Rattle.enumpure.proofs.replies.keep_mutual.Given as goal

abbrev pub invariant-loop-player : goal.invariant-loop-player
invariant-loop-player l = AreBestRepliesBelow (game_of l.table) l.all_best l.player × (l.stride ≡ stride (strategy_counts l.table) l.player)
