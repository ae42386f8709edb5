use Rattle.std.proofs.Common.{◌≡◌, drop, length, map}
use Rattle.game_theory.specs.Profiles.{number_of}
use Rattle.game_core.proofs.table.profile_number.Given as goal

-- the number of the later players' strategies
abbrev pub invariant-loop-place : goal.invariant-loop-place
invariant-loop-place l = l.number ≡ number_of (drop l.place (map length (map (λ v. v.items) l.strategies))) (drop l.place l.profile)
