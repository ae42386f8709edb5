use Rattle.std.proofs.Common.{◌≡◌, ◌++◌}
use Rattle.game_theory.specs.Lines.{lines_text}
use Rattle.game_core.specs.TreeGame.{game_of_tree}
use Rattle.enumpure.specs.Replies.{plays_best}
use Rattle.enumpure_trees.specs.Ranks.{lines_below}
use Rattle.enumpure_trees.proofs.listing.Lines.push.Given as goal

abbrev pub invariant-loop-rank : goal.invariant-loop-rank
invariant-loop-rank l =
    l.text.items ≡ l.initial.text.items ++ lines_text (lines_below (game_of_tree l.self.tree) l.self.reduced.choices l.self.orders (plays_best l.self.all_best) l.rank)
