use Rattle.worked_tableaux.proofs.cubes.counted.Given as goal

abbrev pub ghosts-counts : goal.ghosts-counts
ghosts-counts g a = record { name = a.blank.name; parts = a.blank.parts }
