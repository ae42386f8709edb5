use Rattle.std.proofs.Common.{◌*◌, ◌∙◌, subst, sym, arith, rules, inl, inr}
use Rattle.std.proofs.lemmas.Bool.{cases_eq}
use Rattle.whole_rows.specs.Rows.{from_place}
use Rattle.frac128.specs.Steps.{IsFirstUnfit}
use Rattle.whole_rows.specs.Pivots.{pivot_steps}
use Rattle.whole_rows.specs.PivotedRows.{IsPivotedRow, IsPivotRow}
use Rattle.whole_rows.proofs.RowFrameLemmas.{row_kept, pivoted_same, pivot_same, rows_fit, unfit_row}
use Rattle.whole_rows.proofs.pivots.write_pivot.Goals as goal

pub returns-in_err-write_row-clause-unfit : goal.returns-in_err-write_row-clause-unfit
returns-in_err-write_row-clause-unfit c =
    let k : IsFirstUnfit (pivot_steps c.args.size (λ i. from_place c.args.numbers.now (i * c.args.size)) c.args.row c.args.column c.args.rows) c.in_err-write_row.field-0.0 = unfit_row c.args.size (λ i. from_place c.args.numbers.now (i * c.args.size)) c.args.row c.args.column c.loop-i.i c.args.rows c.in_err-write_row.field-0.0 c.loop-i-test.true c.loop-i.invariant.fits c.in_err-write_row.ensures.unfit in
    search (rules, k)

pub loop-i-preserved : goal.loop-i-preserved
loop-i-preserved c =
    record {
      pivot_row = λ h. elim (cases_eq c.args.row c.loop-i.i) [
        | inl e ↦ subst (λ r. IsPivotRow c.args.size (from_place c.args.numbers.now (r * c.args.size)) c.args.column (from_place c.write_row.new.spare (r * c.args.size))) (sym e) (c.in_ok-write_row.ensures.pivot_row (sym e))
        | inr n ↦ pivot_same c.args.size (from_place c.args.numbers.now (c.args.row * c.args.size)) c.args.column (from_place c.loop-i.spare (c.args.row * c.args.size)) (from_place c.write_row.new.spare (c.args.row * c.args.size)) c.requires.column_in (row_kept c.loop-i.i c.args.row c.args.size c.loop-i.spare c.write_row.new.spare n c.write_row.ensures.kept) (c.loop-i.invariant.pivot_row (omega arith))
      ];
      others = λ i h m. elim (cases_eq i c.loop-i.i) [
        | inl e ↦ subst (λ r. IsPivotedRow c.args.size (from_place c.args.numbers.now (r * c.args.size)) (from_place c.args.numbers.now (c.args.row * c.args.size)) c.args.column (from_place c.write_row.new.spare (r * c.args.size))) (sym e) (c.in_ok-write_row.ensures.others (λ z. m (e ∙ z)))
        | inr n ↦ pivoted_same c.args.size (from_place c.args.numbers.now (i * c.args.size)) (from_place c.args.numbers.now (c.args.row * c.args.size)) c.args.column (from_place c.loop-i.spare (i * c.args.size)) (from_place c.write_row.new.spare (i * c.args.size)) c.requires.column_in (row_kept c.loop-i.i i c.args.size c.loop-i.spare c.write_row.new.spare n c.write_row.ensures.kept) (c.loop-i.invariant.others i (omega arith) m)
      ];
      fits = rows_fit c.args.size (λ i. from_place c.args.numbers.now (i * c.args.size)) c.args.row c.args.column c.loop-i.i c.loop-i.invariant.fits c.in_ok-write_row.ensures.fits;
    }
