use Rattle.two_player_tools.proofs.pivoting.solved_in.Given as goal

abbrev pub ghosts-follow : goal.ghosts-follow
ghosts-follow a = record { name = a.blank.name; parts = a.blank.parts }
