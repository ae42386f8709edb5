use Rattle.std.proofs.Common.{◌≡◌, ◌+◌, length}
use Rattle.basis_enum.specs.Children.{IsMadeFrom}
use Rattle.basis_enum.specs.Walks.{AddsMoreVertices}
use Rattle.basis_enum.proofs.children.share_children.Given as goal

abbrev pub invariant-loop-piece : goal.invariant-loop-piece
invariant-loop-piece g l = record {
  at : length l.made.tableaux.items ≡ length l.initial.made.tableaux.items + length l.yielded;
  made : IsMadeFrom l.expansion l.made;
  vertices : AddsMoreVertices l.expansion.system.now l.initial.made.tableaux.items l.made.tableaux.items l.initial.vertices.items l.vertices.items;
  counted : l.pivots + length l.initial.made.tableaux.items ≡ l.initial.pivots + length l.made.tableaux.items;
}
