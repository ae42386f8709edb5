use Rattle.std.proofs.Common.{◌≢◌, ◌<◌, ◌+◌, ◌*◌, ℕ, length, subst, sym, ◌∙◌}
use Rattle.std.specs.Result.{OnOk}
use Rattle.rational.specs.Rational.{zero_ℚ}
use Rattle.whole_rows.specs.Rows.{from_place}
use Rattle.lex_tableau.specs.Rows.{WholeTableau, row_of, tableau}
use Rattle.whole_rows.specs.PivotedRows.{IsPivotedRow, IsPivotRow}
use Rattle.lex_tableau.proofs.TableauPivotLemmas.{rated_in, entry_read, numbers_fit_read, row_told, others_told}
use Rattle.lex_tableau.proofs.tableau.Tableau.write_numbers.Goals as goal

pub write_pivot-requires-clause-entry : goal.write_pivot-requires-clause-entry
write_pivot-requires-clause-entry c =
    entry_read (record { starts = c.self.inside.starts.items; basics = c.self.inside.basics.items; nonbasics = c.self.inside.nonbasics.items; rated = c.self.inside.rated; numbers = c.self.inside.numbers.items }) c.args.row c.args.col c.as_slice.result.now c.len-2.result c.self.invariant.0 (rated_in (record { starts = c.self.inside.starts.items; basics = c.self.inside.basics.items; nonbasics = c.self.inside.nonbasics.items; rated = c.self.inside.rated; numbers = c.self.inside.numbers.items }) c.args.row c.self.invariant.0 (subst (λ (n : WholeTableau). c.args.row < n.rated) (sym c.self.view_is) c.requires.row_in)) (subst (λ (n : WholeTableau). (tableau n).cell c.args.row c.args.col ≢ zero_ℚ) (sym c.self.view_is) c.requires.entry) c.as_slice.ensures.value (c.len-2.ensures ∙ c.self.inside.nonbasics.ok.0)

pub write_pivot-requires-clause-fit : goal.write_pivot-requires-clause-fit
write_pivot-requires-clause-fit c =
    numbers_fit_read (record { starts = c.self.inside.starts.items; basics = c.self.inside.basics.items; nonbasics = c.self.inside.nonbasics.items; rated = c.self.inside.rated; numbers = c.self.inside.numbers.items }) c.as_slice.result.now c.self.invariant.0 c.as_slice.ensures.value

pub returns-clause-pivot_row : goal.returns-clause-pivot_row
returns-clause-pivot_row c =
    subst (λ (n : WholeTableau). OnOk c.write_pivot.result (IsPivotRow (length n.nonbasics + 2) (row_of n c.args.row) (c.args.col + 1) (from_place c.write_pivot.new.spare (c.args.row * (length n.nonbasics + 2))))) c.self.view_is
    (row_told (record { starts = c.self.inside.starts.items; basics = c.self.inside.basics.items; nonbasics = c.self.inside.nonbasics.items; rated = c.self.inside.rated; numbers = c.self.inside.numbers.items }) c.args.row c.args.col c.as_slice.result.now c.write_pivot.new.spare c.len-2.result c.write_pivot.result c.as_slice.ensures.value (c.len-2.ensures ∙ c.self.inside.nonbasics.ok.0) c.write_pivot.ensures.pivot_row)

pub returns-clause-others : goal.returns-clause-others
returns-clause-others c =
    subst (λ (n : WholeTableau). OnOk c.write_pivot.result ((i : ℕ) → i < length n.basics → i ≢ c.args.row → IsPivotedRow (length n.nonbasics + 2) (row_of n i) (row_of n c.args.row) (c.args.col + 1) (from_place c.write_pivot.new.spare (i * (length n.nonbasics + 2))))) c.self.view_is
    (others_told (record { starts = c.self.inside.starts.items; basics = c.self.inside.basics.items; nonbasics = c.self.inside.nonbasics.items; rated = c.self.inside.rated; numbers = c.self.inside.numbers.items }) c.args.row c.args.col c.as_slice.result.now c.write_pivot.new.spare c.len.result c.len-2.result c.write_pivot.result c.as_slice.ensures.value (c.len.ensures ∙ c.self.inside.basics.ok.0) (c.len-2.ensures ∙ c.self.inside.nonbasics.ok.0) c.write_pivot.ensures.others)
