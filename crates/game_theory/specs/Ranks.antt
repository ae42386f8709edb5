-- The ranks of pure profiles in the order of their lines, from 0.
use Rattle.std.specs.Prelude.{ℕ, ◌/◌, ◌%◌, List, [], ◌∷◌}
use Rattle.game_theory.specs.Profiles.{profile_count}

-- the profile with a rank: the last player's strategy changes fastest
abbrev pub ranked : List ℕ → ℕ → List ℕ
ranked [] r = []
ranked (n ∷ ns) r = (r / profile_count ns) ∷ ranked ns (r % profile_count ns)
