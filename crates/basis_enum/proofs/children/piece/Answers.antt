use Rattle.std.proofs.lemmas.List.Elements.{Contains-get_or}
use Rattle.basis_enum.specs.Next.{no_found_pivot}
use Rattle.basis_enum.proofs.children.piece.Goals as goal

pub found_from-requires-clause-numbered : goal.found_from-requires-clause-numbered
found_from-requires-clause-numbered g c =
    (c.requires.expandable.ready _ (Contains-get_or c.args.expansion.now.next.now c.args.place no_found_pivot c.requires.place_in)).numbered _ c.in_ok-tableau.ensures.child

pub found_from-requires-clause-ready : goal.found_from-requires-clause-ready
found_from-requires-clause-ready g c =
    (c.requires.expandable.ready _ (Contains-get_or c.args.expansion.now.next.now c.args.place no_found_pivot c.requires.place_in)).ready _ c.in_ok-tableau.ensures.child

pub found_from-requires-clause-basis : goal.found_from-requires-clause-basis
found_from-requires-clause-basis g c =
    (c.requires.expandable.ready _ (Contains-get_or c.args.expansion.now.next.now c.args.place no_found_pivot c.requires.place_in)).target _ c.in_ok-tableau.ensures.child
