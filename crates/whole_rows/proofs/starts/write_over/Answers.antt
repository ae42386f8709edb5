use Rattle.std.proofs.Common.{◌∙◌, ◌≡◌, ◌*ℤ◌, ap₂, length, subst, sym, arith, inl, inr}
use Rattle.std.proofs.lemmas.List.{length-set}
use Rattle.rational.proofs.DenominatorLemmas.{den_pos}
use Rattle.frac128.specs.Fraction.{PartFits}
use Rattle.whole_rows.specs.Rows.{from_place}
use Rattle.whole_rows.specs.Steps.{product_step}
use Rattle.whole_rows.specs.StartRows.{cells_from, common_to}
use Rattle.whole_rows.proofs.FittingStepLemmas.{read_back}
use Rattle.whole_rows.proofs.StartRowLemmas.{cell_read, den_read, num_read, den_divides, divides_read, quotient_is, numerator_next, numerator_unfit, row_more, lead_more, kept_more, start_read}
use Rattle.whole_rows.proofs.starts.write_over.Goals as goal

pub exact_quotient-part-requires-clause-divides : goal.exact_quotient-part-requires-clause-divides
exact_quotient-part-requires-clause-divides c = divides_read (cells_from c.args.cells.now c.args.from) c.args.count c.loop-k.k _ _ c.loop-k-test.true (den_read c.index-cells-from.result ((cells_from c.args.cells.now c.args.from) c.loop-k.k) c.den.result c.den.ensures.value c.den.ensures.fits (cell_read c.args.cells.now c.args.from c.loop-k.k c.index-cells-from.result (omega (arith, c.requires.row_in, c.loop-k-test.true)) c.index-cells-from.is)) (read_back c.args.common c.requires.fits ∙ c.requires.common)

pub returns-in_default-clause-kept : goal.returns-in_default-clause-kept
returns-in_default-clause-kept c k h = c.loop-k.invariant.kept k (elim h [ inl l ↦ inl l | inr g ↦ inr (omega (arith, g, c.loop-k-test.true)) ])

pub returns-in_default-clause-unfit : goal.returns-in_default-clause-unfit
returns-in_default-clause-unfit c =
    numerator_unfit (cells_from c.args.cells.now c.args.from) (common_to (cells_from c.args.cells.now c.args.from) c.args.count) c.loop-k.k c.args.count c.unfit_product.result c.loop-k-test.true c.loop-k.invariant.fits (λ f. c.in_default.ensures (subst PartFits (sym (ap₂ (λ a b. a *ℤ b) (num_read c.index-cells-from.result ((cells_from c.args.cells.now c.args.from) c.loop-k.k) c.num.result c.num.ensures.value c.num.ensures.fits.num (cell_read c.args.cells.now c.args.from c.loop-k.k c.index-cells-from.result (omega (arith, c.requires.row_in, c.loop-k-test.true)) c.index-cells-from.is)) (read_back c.exact_quotient-part.result c.exact_quotient-part.ensures.fits ∙ (quotient_is c.exact_quotient-part.result _ _ (common_to (cells_from c.args.cells.now c.args.from) c.args.count) ((cells_from c.args.cells.now c.args.from) c.loop-k.k).den (den_pos ((cells_from c.args.cells.now c.args.from) c.loop-k.k)) (den_divides (cells_from c.args.cells.now c.args.from) c.args.count c.loop-k.k c.loop-k-test.true) (read_back c.args.common c.requires.fits ∙ c.requires.common) (den_read c.index-cells-from.result ((cells_from c.args.cells.now c.args.from) c.loop-k.k) c.den.result c.den.ensures.value c.den.ensures.fits (cell_read c.args.cells.now c.args.from c.loop-k.k c.index-cells-from.result (omega (arith, c.requires.row_in, c.loop-k-test.true)) c.index-cells-from.is)) c.exact_quotient-part.ensures.value)))) f)) (c.unfit_product.ensures ∙ ap₂ product_step (num_read c.index-cells-from.result ((cells_from c.args.cells.now c.args.from) c.loop-k.k) c.num-in_default.result c.num-in_default.ensures.value c.num-in_default.ensures.fits.num (cell_read c.args.cells.now c.args.from c.loop-k.k c.index-cells-from.result (omega (arith, c.requires.row_in, c.loop-k-test.true)) c.index-cells-from.is)) (read_back c.exact_quotient-part.result c.exact_quotient-part.ensures.fits ∙ (quotient_is c.exact_quotient-part.result _ _ (common_to (cells_from c.args.cells.now c.args.from) c.args.count) ((cells_from c.args.cells.now c.args.from) c.loop-k.k).den (den_pos ((cells_from c.args.cells.now c.args.from) c.loop-k.k)) (den_divides (cells_from c.args.cells.now c.args.from) c.args.count c.loop-k.k c.loop-k-test.true) (read_back c.args.common c.requires.fits ∙ c.requires.common) (den_read c.index-cells-from.result ((cells_from c.args.cells.now c.args.from) c.loop-k.k) c.den.result c.den.ensures.value c.den.ensures.fits (cell_read c.args.cells.now c.args.from c.loop-k.k c.index-cells-from.result (omega (arith, c.requires.row_in, c.loop-k-test.true)) c.index-cells-from.is)) c.exact_quotient-part.ensures.value)))

pub loop-k-preserved : goal.loop-k-preserved
loop-k-preserved c =
    let size : length c.loop-k.numbers ≡ length c.args.numbers.now = c.loop-k.auto.numbers ∙ length-set c.args.numbers.now c.args.to _ in
    record {
      kept = kept_more c.loop-k.numbers c.args.numbers.now c.args.to c.loop-k.k _ c.loop-k.invariant.kept;
      lead = lead_more c.loop-k.numbers c.args.to c.loop-k.k _ _ c.loop-k.invariant.lead;
      written = row_more (cells_from c.args.cells.now c.args.from) (common_to (cells_from c.args.cells.now c.args.from) c.args.count) c.loop-k.numbers c.args.to c.loop-k.k c.in-Some.number (omega (arith, size, c.loop-k-test.true, c.requires.to_in)) (c.in-Some.ensures.0 ∙ (ap₂ (λ a b. a *ℤ b) (num_read c.index-cells-from.result ((cells_from c.args.cells.now c.args.from) c.loop-k.k) c.num.result c.num.ensures.value c.num.ensures.fits.num (cell_read c.args.cells.now c.args.from c.loop-k.k c.index-cells-from.result (omega (arith, c.requires.row_in, c.loop-k-test.true)) c.index-cells-from.is)) (read_back c.exact_quotient-part.result c.exact_quotient-part.ensures.fits ∙ (quotient_is c.exact_quotient-part.result _ _ (common_to (cells_from c.args.cells.now c.args.from) c.args.count) ((cells_from c.args.cells.now c.args.from) c.loop-k.k).den (den_pos ((cells_from c.args.cells.now c.args.from) c.loop-k.k)) (den_divides (cells_from c.args.cells.now c.args.from) c.args.count c.loop-k.k c.loop-k-test.true) (read_back c.args.common c.requires.fits ∙ c.requires.common) (den_read c.index-cells-from.result ((cells_from c.args.cells.now c.args.from) c.loop-k.k) c.den.result c.den.ensures.value c.den.ensures.fits (cell_read c.args.cells.now c.args.from c.loop-k.k c.index-cells-from.result (omega (arith, c.requires.row_in, c.loop-k-test.true)) c.index-cells-from.is)) c.exact_quotient-part.ensures.value)))) c.in-Some.ensures.1 c.loop-k.invariant.written;
      fits = numerator_next (cells_from c.args.cells.now c.args.from) (common_to (cells_from c.args.cells.now c.args.from) c.args.count) c.loop-k.k c.loop-k.invariant.fits (subst PartFits (c.in-Some.ensures.0 ∙ (ap₂ (λ a b. a *ℤ b) (num_read c.index-cells-from.result ((cells_from c.args.cells.now c.args.from) c.loop-k.k) c.num.result c.num.ensures.value c.num.ensures.fits.num (cell_read c.args.cells.now c.args.from c.loop-k.k c.index-cells-from.result (omega (arith, c.requires.row_in, c.loop-k-test.true)) c.index-cells-from.is)) (read_back c.exact_quotient-part.result c.exact_quotient-part.ensures.fits ∙ (quotient_is c.exact_quotient-part.result _ _ (common_to (cells_from c.args.cells.now c.args.from) c.args.count) ((cells_from c.args.cells.now c.args.from) c.loop-k.k).den (den_pos ((cells_from c.args.cells.now c.args.from) c.loop-k.k)) (den_divides (cells_from c.args.cells.now c.args.from) c.args.count c.loop-k.k c.loop-k-test.true) (read_back c.args.common c.requires.fits ∙ c.requires.common) (den_read c.index-cells-from.result ((cells_from c.args.cells.now c.args.from) c.loop-k.k) c.den.result c.den.ensures.value c.den.ensures.fits (cell_read c.args.cells.now c.args.from c.loop-k.k c.index-cells-from.result (omega (arith, c.requires.row_in, c.loop-k-test.true)) c.index-cells-from.is)) c.exact_quotient-part.ensures.value)))) c.in-Some.ensures.1);
    }

pub returns-clause-written : goal.returns-clause-written
returns-clause-written c = start_read (cells_from c.args.cells.now c.args.from) c.args.count c.loop-k.k (from_place c.loop-k.numbers c.args.to) (omega (arith, c.loop-k-test.false)) (c.loop-k.invariant.lead ∙ (read_back c.args.common c.requires.fits ∙ c.requires.common)) c.requires.common c.requires.fits c.loop-k.invariant.written
