use Rattle.std.proofs.Common.{◌≡◌, None, All}
use Rattle.pure_payoffs.proofs.settled.free_places.Given as goal

-- the places so far are free
abbrev pub invariant-loop : goal.invariant-loop
invariant-loop l = All (λ place. place ≡ None) l.places.items
