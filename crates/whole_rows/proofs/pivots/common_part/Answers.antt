use Rattle.std.proofs.Common.{◌∙◌, ◌≡◌, ◌<◌, ◌^◌, ap, ap₂, pos, nat_abs, subst, sym}
use Rattle.std.specs.Int.{w128}
use Rattle.std.proofs.lemmas.Int.{to_z-of_z, fits_signed_from_abs}
use Rattle.rational.specs.Gcd.{gcd}
use Rattle.whole_rows.proofs.RowValueLemmas.{common_pos, common_small, stored, stored_pos}
use Rattle.whole_rows.proofs.pivots.common_part.Goals as goal

is : (c : goal.After-gcd) → c.gcd.result ≡ gcd (nat_abs c.args.p) (nat_abs c.args.k)
is c = c.gcd.ensures ∙ ap₂ gcd (c.unsigned_abs.ensures.value ∙ ap nat_abs (to_z-of_z w128 c.args.p c.ranges.p)) (c.unsigned_abs-2.ensures.value ∙ ap nat_abs (to_z-of_z w128 c.args.k c.ranges.k))

small : (c : goal.After-gcd) → c.gcd.result < 2 ^ 127
small c = subst (λ n. n < 2 ^ 127) (sym (is c)) (common_small c.args.p c.args.k c.requires.entry c.requires.fits)

pub overflow_cast-result : goal.overflow_cast-result
overflow_cast-result c = fits_signed_from_abs w128 (pos c.gcd.result) (small c)

pub returns-clause-value : goal.returns-clause-value
returns-clause-value c = stored c.gcd.result (small c) ∙ ap pos (is c)

pub returns-clause-positive : goal.returns-clause-positive
returns-clause-positive c = stored_pos c.gcd.result (subst (λ n. 0 < n) (sym (is c)) (common_pos c.args.p c.args.k c.requires.entry)) (small c)
