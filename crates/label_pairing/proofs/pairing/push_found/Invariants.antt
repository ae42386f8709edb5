use Rattle.std.proofs.Common.{◌≡◌, ◌++◌, false, get_or, map}
use Rattle.std.specs.List.{filter, range_with_len}
use Rattle.label_pairing.proofs.pairing.push_found.Given as goal

abbrev pub invariant-loop-j : goal.invariant-loop-j
invariant-loop-j l = l.pairs.items ≡ l.fn.pairs.items ++ filter (λ p. get_or l.found p.1 false) (map (λ j. (l.i, j)) (range_with_len 0 l.j))
