use Rattle.std.proofs.Common.{subst, ◌<◌, ◌^◌}
use Rattle.std.specs.Option.{SomeIff}
use Rattle.frac128.proofs.HalfProductLemmas.{by_halves, wide_half}
use Rattle.frac128.proofs.fitting.long_product.Goals as goal

pub returns-then-high-gt-MOST_64_BITS : goal.returns-then-high-gt-MOST_64_BITS
returns-then-high-gt-MOST_64_BITS c = wide_half c.args.long c.args.short c.if-high-gt-MOST_64_BITS.true

pub returns : goal.returns
returns c = subst (λ n. SomeIff c.checked_add.result (n < 2 ^ 128) n) (by_halves c.args.long c.args.short) c.checked_add.ensures
