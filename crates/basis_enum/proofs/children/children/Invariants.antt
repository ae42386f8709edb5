use Rattle.std.proofs.Common.{◌≡◌, ◌+◌, ◌-◌, length}
use Rattle.basis_enum.specs.Children.{IsMadeFrom}
use Rattle.basis_enum.specs.Walks.{AddsVertices}
use Rattle.basis_enum.proofs.children.children.Given as goal

abbrev pub invariant-loop-made : goal.invariant-loop-made
invariant-loop-made g l = record {
  made : IsMadeFrom l.expansion l.made;
  vertices : AddsVertices l.expansion.system.now l.made.tableaux.items l.initial.vertices.items l.vertices.items;
  counted : l.pivots ≡ l.initial.pivots + length l.made.tableaux.items;
}

abbrev pub decreases-loop-made : goal.decreases-loop-made
decreases-loop-made g l = length l.expansion.next.now - length l.made.tableaux.items
