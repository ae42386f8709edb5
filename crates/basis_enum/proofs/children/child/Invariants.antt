use Rattle.basis_enum.proofs.children.child.Given as goal

abbrev pub ghosts-pivoted : goal.ghosts-pivoted
ghosts-pivoted a = record { name = a.blank.name; parts = a.blank.parts }
