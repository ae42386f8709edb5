use Rattle.std.proofs.Common.{◌∙◌, ◌*ℤ◌, ◌/◌, ap, ap₂, pos, nat_abs, subst, sym, arith}
use Rattle.rational.specs.Gcd.{gcd}
use Rattle.frac128.specs.Fraction.{PartFits}
use Rattle.whole_rows.specs.Steps.{product_step}
use Rattle.whole_rows.specs.StartRows.{cells_from, common_to}
use Rattle.whole_rows.proofs.FittingStepLemmas.{read_back}
use Rattle.whole_rows.proofs.RowWriteLemmas.{plus_one}
use Rattle.whole_rows.proofs.StartRowLemmas.{cell_read, den_read, common_ne, denominator_next, denominator_unfit}
use Rattle.whole_rows.proofs.starts.common_denominator.Goals as goal

pub added-part-requires-clause-common : goal.added-part-requires-clause-common
added-part-requires-clause-common c = common_ne (cells_from c.args.cells.now c.args.from) c.loop-k.k _ c.loop-k.invariant.value

pub loop-k-preserved : goal.loop-k-preserved
loop-k-preserved c =
    record {
      value = read_back c.in-Some.next c.in-Some.ensures.1 ∙ c.in-Some.ensures.0 ∙ (ap₂ (λ a b. a *ℤ b) c.loop-k.invariant.value (read_back c.added-part.result c.added-part.ensures.fits ∙ c.added-part.ensures.value ∙ ap₂ (λ a b. pos (nat_abs a / gcd (nat_abs b) (nat_abs a))) (den_read c.index-cells-from.result ((cells_from c.args.cells.now c.args.from) c.loop-k.k) c.den.result c.den.ensures.value c.den.ensures.fits (cell_read c.args.cells.now c.args.from c.loop-k.k c.index-cells-from.result (omega (arith, c.requires.row_in, c.loop-k-test.true)) c.index-cells-from.is)) c.loop-k.invariant.value)) ∙ ap (λ n. pos (common_to (cells_from c.args.cells.now c.args.from) n)) (plus_one c.loop-k.k);
      fits = subst PartFits (sym (read_back c.in-Some.next c.in-Some.ensures.1)) c.in-Some.ensures.1;
      steps = denominator_next (cells_from c.args.cells.now c.args.from) c.loop-k.k c.loop-k.invariant.steps (subst PartFits (c.in-Some.ensures.0 ∙ (ap₂ (λ a b. a *ℤ b) c.loop-k.invariant.value (read_back c.added-part.result c.added-part.ensures.fits ∙ c.added-part.ensures.value ∙ ap₂ (λ a b. pos (nat_abs a / gcd (nat_abs b) (nat_abs a))) (den_read c.index-cells-from.result ((cells_from c.args.cells.now c.args.from) c.loop-k.k) c.den.result c.den.ensures.value c.den.ensures.fits (cell_read c.args.cells.now c.args.from c.loop-k.k c.index-cells-from.result (omega (arith, c.requires.row_in, c.loop-k-test.true)) c.index-cells-from.is)) c.loop-k.invariant.value))) c.in-Some.ensures.1);
    }

pub returns-in_default-clause-unfit : goal.returns-in_default-clause-unfit
returns-in_default-clause-unfit c =
    denominator_unfit (cells_from c.args.cells.now c.args.from) c.loop-k.k c.args.count c.unfit_product.result c.loop-k-test.true c.loop-k.invariant.steps (λ f. c.in_default.ensures (subst PartFits (sym (ap₂ (λ a b. a *ℤ b) c.loop-k.invariant.value (read_back c.added-part.result c.added-part.ensures.fits ∙ c.added-part.ensures.value ∙ ap₂ (λ a b. pos (nat_abs a / gcd (nat_abs b) (nat_abs a))) (den_read c.index-cells-from.result ((cells_from c.args.cells.now c.args.from) c.loop-k.k) c.den.result c.den.ensures.value c.den.ensures.fits (cell_read c.args.cells.now c.args.from c.loop-k.k c.index-cells-from.result (omega (arith, c.requires.row_in, c.loop-k-test.true)) c.index-cells-from.is)) c.loop-k.invariant.value))) f)) (c.unfit_product.ensures ∙ ap₂ product_step c.loop-k.invariant.value (read_back c.added-part.result c.added-part.ensures.fits ∙ c.added-part.ensures.value ∙ ap₂ (λ a b. pos (nat_abs a / gcd (nat_abs b) (nat_abs a))) (den_read c.index-cells-from.result ((cells_from c.args.cells.now c.args.from) c.loop-k.k) c.den.result c.den.ensures.value c.den.ensures.fits (cell_read c.args.cells.now c.args.from c.loop-k.k c.index-cells-from.result (omega (arith, c.requires.row_in, c.loop-k-test.true)) c.index-cells-from.is)) c.loop-k.invariant.value))
