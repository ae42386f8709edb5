use Rattle.std.proofs.Common.{◌≡◌, ◌+◌, length}
use Rattle.basis_enum.specs.Children.{IsMadeFrom}
use Rattle.basis_enum.specs.Walks.{AddsMoreVertices}
use Rattle.basis_enum.proofs.children.make_children.Given as goal

abbrev pub invariant-loop-place : goal.invariant-loop-place
invariant-loop-place g l = record {
  at : length l.made.tableaux.items ≡ l.place;
  made : IsMadeFrom l.expansion l.made;
  vertices : AddsMoreVertices l.expansion.system.now l.initial.made.tableaux.items l.made.tableaux.items l.initial.vertices.items l.vertices.items;
  counted : l.pivots + length l.initial.made.tableaux.items ≡ l.initial.pivots + length l.made.tableaux.items;
}
