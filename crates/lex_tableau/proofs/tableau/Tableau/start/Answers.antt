use Rattle.std.proofs.Common.{◌∙◌, ◌+◌, ◌*◌, ◌<◌, ◌++◌, length, take, drop, replicate, ap, subst, subst₂, sym, arith, Ok, Err}
use Rattle.whole_rows.specs.Rows.{from_place}
use Rattle.lex_tableau.specs.Rows.{IsTableau}
use Rattle.whole_rows.specs.StartRows.{IsStartRow, cells_from}
use Rattle.lex_tableau.specs.Starts.{IsStartOf}
use Rattle.whole_rows.proofs.RowFitLemmas.{unfit_row_within}
use Rattle.lex_tableau.specs.Columns.{AreColumnsOf}
use Rattle.lex_tableau.specs.Ratio.{HasEachOnce}
use Rattle.lex_tableau.proofs.ColumnLemmas.{columns_none}
use Rattle.lex_tableau.proofs.StartLemmas.{start_rows, start_shape, take_all, start_is_tableau, start_is, start_copied, rows_read, start_given, start_stopped}
use Rattle.lex_tableau.proofs.tableau.Tableau.start.Goals as goal

pub invariant_of-result : goal.invariant_of-result
invariant_of-result c = (
  start_copied IsTableau (record { basics = c.system.inside.basics.items; nonbasics = c.system.inside.nonbasics.items; cells = c.system.inside.cells.items; rated = c.system.inside.rated }) c.write_starts.new.numbers (take c.in_ok-numbers.numbers.len (c.write_starts.new.numbers ++ drop (length c.write_starts.new.numbers) c.in_ok-numbers.numbers.items)) c.in_ok-starts.starts.items c.in_ok-basics.basics.items c.in_ok-nonbasics.nonbasics.items (c.in_ok-starts.ensures ∙ c.as_slice.ensures.value) (c.in_ok-basics.ensures ∙ c.as_slice-2.ensures.value) (c.in_ok-nonbasics.ensures ∙ c.as_slice-3.ensures.value) (take_all c.write_starts.new.numbers _ c.in_ok-numbers.numbers.len (c.in-Ok.ensures.length ∙ c.as_mut_slice.ensures.len)) (start_is_tableau (record { basics = c.system.inside.basics.items; nonbasics = c.system.inside.nonbasics.items; cells = c.system.inside.cells.items; rated = c.system.inside.rated }) c.write_starts.new.numbers c.system.invariant (start_shape _ _ _ _ _ ((c.in-Ok.ensures.length ∙ c.as_mut_slice.ensures.len) ∙ c.in_ok-numbers.numbers.ok.0 ∙ c.in_ok-numbers.ensures ∙ c.in-Some.ensures.1) (c.len-rows.ensures ∙ c.system.inside.basics.ok.0) (c.len-count.ensures ∙ c.system.inside.nonbasics.ok.0)) (start_rows (record { basics = c.system.inside.basics.items; nonbasics = c.system.inside.nonbasics.items; cells = c.system.inside.cells.items; rated = c.system.inside.rated }) c.write_starts.new.numbers (c.len-count.result + 1) (ap (λ n. n + 1) (c.len-count.ensures ∙ c.system.inside.nonbasics.ok.0)) (λ i hi. subst (λ cells. IsStartRow (c.len-count.result + 1) (cells_from cells (i * (c.len-count.result + 1))) (from_place c.write_starts.new.numbers (i * (c.len-count.result + 1 + 1)))) c.as_slice-4.ensures.value (c.in-Ok.ensures.written i (subst (λ n. i < n) (sym (c.len-rows.ensures ∙ c.system.inside.basics.ok.0)) hi))))),
  subst (AreColumnsOf c.in_ok-nonbasics.nonbasics.items c.in_ok-starts.starts.items) (sym c.in_ok-columns.ensures)
      (subst₂ (λ ns ss. AreColumnsOf ns ss (replicate c.len-rows.result 0)) (sym (c.in_ok-nonbasics.ensures ∙ c.as_slice-3.ensures.value)) (sym (c.in_ok-starts.ensures ∙ c.as_slice.ensures.value))
      (subst (λ n. AreColumnsOf c.system.inside.nonbasics.items c.system.inside.basics.items (replicate n 0)) (sym (c.len-rows.ensures ∙ c.system.inside.basics.ok.0)) (columns_none c.system.inside.basics.items c.system.inside.nonbasics.items distinct))),
)
  where
    distinct : HasEachOnce c.system.inside.basics.items c.system.inside.nonbasics.items
    distinct = record { basic_once = c.system.invariant.distinct.basic_once; nonbasic_once = c.system.invariant.distinct.nonbasic_once; apart = c.system.invariant.distinct.apart }

pub overflow_cast-result : goal.overflow_cast-result
overflow_cast-result c =
    let within = unfit_row_within c.len-rows.result (c.len-count.result + 1) c.as_slice-4.result.now c.in-Err.stop.row c.in-Err.stop.unfit c.in-Err.ensures.unfit in
    omega (arith, within, c.len-rows.ensures, c.system.inside.basics.ok.0, c.system.invariant.few)

pub returns-in-Err : goal.returns-in-Err
returns-in-Err c =
    start_stopped (record { basics = c.system.inside.basics.items; nonbasics = c.system.inside.nonbasics.items; cells = c.system.inside.cells.items; rated = c.system.inside.rated }) c.args.system.now c.in-Err.stop.row c.in-Err.stop.unfit c.system.view_is
    (rows_read (record { basics = c.system.inside.basics.items; nonbasics = c.system.inside.nonbasics.items; cells = c.system.inside.cells.items; rated = c.system.inside.rated }) c.len-rows.result c.len-count.result c.as_slice-4.result.now (Err (c.in-Err.stop.row, c.in-Err.stop.unfit)) (c.len-rows.ensures ∙ c.system.inside.basics.ok.0) (c.len-count.ensures ∙ c.system.inside.nonbasics.ok.0) c.as_slice-4.ensures.value c.in-Err.ensures.unfit)

pub returns : goal.returns
returns c =
    start_given (record { basics = c.system.inside.basics.items; nonbasics = c.system.inside.nonbasics.items; cells = c.system.inside.cells.items; rated = c.system.inside.rated }) c.args.system.now _ c.system.view_is
    (rows_read (record { basics = c.system.inside.basics.items; nonbasics = c.system.inside.nonbasics.items; cells = c.system.inside.cells.items; rated = c.system.inside.rated }) c.len-rows.result c.len-count.result c.as_slice-4.result.now (Ok tt) (c.len-rows.ensures ∙ c.system.inside.basics.ok.0) (c.len-count.ensures ∙ c.system.inside.nonbasics.ok.0) c.as_slice-4.ensures.value c.in-Ok.ensures.fits)
    (start_copied (IsStartOf (record { basics = c.system.inside.basics.items; nonbasics = c.system.inside.nonbasics.items; cells = c.system.inside.cells.items; rated = c.system.inside.rated })) (record { basics = c.system.inside.basics.items; nonbasics = c.system.inside.nonbasics.items; cells = c.system.inside.cells.items; rated = c.system.inside.rated }) c.write_starts.new.numbers (take c.in_ok-numbers.numbers.len (c.write_starts.new.numbers ++ drop (length c.write_starts.new.numbers) c.in_ok-numbers.numbers.items)) c.in_ok-starts.starts.items c.in_ok-basics.basics.items c.in_ok-nonbasics.nonbasics.items (c.in_ok-starts.ensures ∙ c.as_slice.ensures.value) (c.in_ok-basics.ensures ∙ c.as_slice-2.ensures.value) (c.in_ok-nonbasics.ensures ∙ c.as_slice-3.ensures.value) (take_all c.write_starts.new.numbers _ c.in_ok-numbers.numbers.len (c.in-Ok.ensures.length ∙ c.as_mut_slice.ensures.len)) (start_is (record { basics = c.system.inside.basics.items; nonbasics = c.system.inside.nonbasics.items; cells = c.system.inside.cells.items; rated = c.system.inside.rated }) c.write_starts.new.numbers c.system.invariant (start_shape _ _ _ _ _ ((c.in-Ok.ensures.length ∙ c.as_mut_slice.ensures.len) ∙ c.in_ok-numbers.numbers.ok.0 ∙ c.in_ok-numbers.ensures ∙ c.in-Some.ensures.1) (c.len-rows.ensures ∙ c.system.inside.basics.ok.0) (c.len-count.ensures ∙ c.system.inside.nonbasics.ok.0)) (start_rows (record { basics = c.system.inside.basics.items; nonbasics = c.system.inside.nonbasics.items; cells = c.system.inside.cells.items; rated = c.system.inside.rated }) c.write_starts.new.numbers (c.len-count.result + 1) (ap (λ n. n + 1) (c.len-count.ensures ∙ c.system.inside.nonbasics.ok.0)) (λ i hi. subst (λ cells. IsStartRow (c.len-count.result + 1) (cells_from cells (i * (c.len-count.result + 1))) (from_place c.write_starts.new.numbers (i * (c.len-count.result + 1 + 1)))) c.as_slice-4.ensures.value (c.in-Ok.ensures.written i (subst (λ n. i < n) (sym (c.len-rows.ensures ∙ c.system.inside.basics.ok.0)) hi))))))
    (invariant_of-result c).0
