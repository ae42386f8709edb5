use Rattle.std.proofs.Common.{nat_abs, sym, subst₂}
use Rattle.std.specs.Int.{w128, ◌∣◌}
use Rattle.whole_rows.proofs.QuotientLemmas.{exact, shortened_back}
use Rattle.whole_rows.proofs.arithmetic.exact_quotient.Goals as goal

pub short_quotient-requires-clause-divides : goal.short_quotient-requires-clause-divides
short_quotient-requires-clause-divides c =
    subst₂ (λ d n. nat_abs d ∣ nat_abs n)
    (sym (shortened_back c.in-Ok-Ok.d c.args.d c.in-Ok-Ok.ensures'.0 c.ranges.d c.in-Ok-Ok.ensures'.1))
    (sym (shortened_back c.in-Ok-Ok.n c.args.n c.in-Ok-Ok.ensures.0 c.ranges.n c.in-Ok-Ok.ensures.1)) c.requires.divides

pub returns-clause-value : goal.returns-clause-value
returns-clause-value c = exact w128 c.args.n c.args.d c.ranges.n c.ranges.d c.requires.positive c.requires.divides
