use Rattle.enummixed.proofs.extreme.vertices_of.Given as goal

abbrev pub ghosts-enumerated : goal.ghosts-enumerated
ghosts-enumerated g a = record { name = a.blank.name; parts = a.blank.parts }
