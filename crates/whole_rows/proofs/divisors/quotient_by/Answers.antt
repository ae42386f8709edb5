use Rattle.std.proofs.Common.{nat_abs, subst₂, sym}
use Rattle.std.specs.Int.{w128, ◌∣◌}
use Rattle.std.proofs.lemmas.Int.{to_z-of_z}
use Rattle.whole_rows.proofs.divisors.quotient_by.Goals as goal

pub exact_quotient-requires-clause-divides : goal.exact_quotient-requires-clause-divides
exact_quotient-requires-clause-divides c = subst₂ (λ d n. nat_abs d ∣ nat_abs n) (sym (to_z-of_z w128 c.args.by c.ranges.by)) (sym (to_z-of_z w128 c.args.n c.ranges.n)) c.requires.divides
