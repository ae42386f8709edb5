use Rattle.std.proofs.Common.{◌*◌, ◌+◌, subst, sym, arith, inl, inr, All}
use Rattle.std.proofs.lemmas.Bool.{cases_eq}
use Rattle.whole_rows.specs.Rows.{from_place}
use Rattle.frac128.specs.Steps.{StepFits}
use Rattle.whole_rows.specs.StartRows.{cells_from, start_row_steps, IsStartRow}
use Rattle.whole_rows.proofs.RowFrameLemmas.{row_kept}
use Rattle.whole_rows.proofs.RowFitLemmas.{each_row_fits, row_unfit}
use Rattle.whole_rows.proofs.StartRowLemmas.{start_same}
use Rattle.whole_rows.proofs.starts.write_starts.Goals as goal

pub loop-i-preserved : goal.loop-i-preserved
loop-i-preserved c =
    record {
      written = λ j h. elim (cases_eq j c.loop-i.i) [
        | inl e ↦ subst (λ j. IsStartRow c.args.count (cells_from c.args.cells.now (j * c.args.count)) (from_place c.write_start_row.new.numbers (j * (c.args.count + 1)))) (sym e) c.in-Ok.ensures.written
        | inr n ↦ start_same c.args.count (cells_from c.args.cells.now (j * c.args.count)) (from_place c.loop-i.numbers (j * (c.args.count + 1))) (from_place c.write_start_row.new.numbers (j * (c.args.count + 1))) (row_kept c.loop-i.i j (c.args.count + 1) c.loop-i.numbers c.write_start_row.new.numbers n c.write_start_row.ensures.kept) (c.loop-i.invariant.written j (omega arith))
      ];
      fits = λ j h. elim (cases_eq j c.loop-i.i) [
        | inl e ↦ subst (λ j. All StepFits (start_row_steps c.args.count (cells_from c.args.cells.now (j * c.args.count)))) (sym e) c.in-Ok.ensures.fits
        | inr n ↦ c.loop-i.invariant.fits j (omega arith)
      ];
    }

pub returns-clause-fits : goal.returns-clause-fits
returns-clause-fits c = each_row_fits c.args.rows c.args.count c.args.cells.now (λ i l. c.loop-i.invariant.fits i (omega (arith, l, c.loop-i-test.false)))

pub returns-in-Err-clause-unfit : goal.returns-in-Err-clause-unfit
returns-in-Err-clause-unfit c = row_unfit c.args.rows c.args.count c.args.cells.now c.loop-i.i c.in-Err.unfit c.loop-i-test.true c.loop-i.invariant.fits c.in-Err.ensures.unfit
