use Rattle.std.proofs.Common.{◌≡◌, ◌*◌, length}
use Rattle.game_core.specs.TreeGame.{game_of_tree}
use Rattle.reduced_form.specs.Cells.{AreCells}
use Rattle.reduced_form.proofs.CellRowLemmas.{FirstFit}
use Rattle.reduced_form.proofs.cells.cells.Given as goal

abbrev pub invariant-loop-number : goal.invariant-loop-number
invariant-loop-number l = record {
  tree : l.shortcuts ≡ l.tree;
  digits : length l.profile.items ≡ length l.counts;
  so_many : length l.payoffs.items ≡ l.number * length l.tree.players;
  cells : AreCells (game_of_tree l.tree) l.strategies l.payoffs.items;
  fit : FirstFit (game_of_tree l.tree) l.strategies l.number;
}
