use Rattle.std.proofs.Common.{◌≡◌, [], map, get_or, take}
use Rattle.kept_strategies.proofs.kept.names_at.Given as goal

abbrev pub invariant-loop-place : goal.invariant-loop-place
invariant-loop-place l = l.kept.items ≡ map (λ place. get_or l.names place []) (take l.place-index l.places)
