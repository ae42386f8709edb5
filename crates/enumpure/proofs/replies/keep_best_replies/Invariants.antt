use Rattle.std.proofs.Common.{ℕ, length}
use Rattle.game_theory.specs.Profiles.{Game}
use Rattle.enumpure.specs.Replies.{IsColumnOf}
use Rattle.enumpure.proofs.ColumnLemmas.{column_game}
use Rattle.enumpure.proofs.KeptReplyLemmas.{KeepsBestBelow}
use Rattle.enumpure.proofs.replies.keep_best_replies.Given as goal

abbrev pub invariant-loop-first : goal.invariant-loop-first
invariant-loop-first l =
    (g : Game) (i : ℕ) → IsColumnOf g i l.column (length l.initial.all_best) l.stride l.strategies → KeepsBestBelow (column_game l.column g) i l.initial.all_best l.all_best l.first
