use Rattle.std.proofs.lemmas.List.Elements.{Contains-get_or}
use Rattle.basis_enum.specs.Next.{no_found_pivot}
use Rattle.basis_enum.proofs.children.child.Goals as goal

pub pivoted-requires-clause-pivot : goal.pivoted-requires-clause-pivot
pivoted-requires-clause-pivot c = c.requires.expandable.pivots_are _ (Contains-get_or c.args.expansion.now.next.now c.args.place no_found_pivot c.requires.place_in)
