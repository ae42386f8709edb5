use Rattle.std.proofs.Common.{◌≡◌, ◌≢◌, ◌<◌, ◌+◌, ◌*◌, ◌++◌, ◌∙◌, ℕ, [], length, get_or, take, drop, subst, subst₂, sym, ap, slice_set}
use Rattle.rational.specs.Rational.{zero_ℚ}
use Rattle.whole_rows.specs.Rows.{from_place}
use Rattle.lex_tableau.specs.Rows.{WholeTableau, row_of, tableau, IsTableau, IsPivotOf}
use Rattle.whole_rows.specs.PivotedRows.{IsPivotedRow, IsPivotRow}
use Rattle.lex_tableau.specs.Columns.{AreColumnsOf}
use Rattle.lex_tableau.specs.Ratio.{HasEachOnce}
use Rattle.lex_tableau.proofs.StartLemmas.{take_all}
use Rattle.lex_tableau.proofs.ColumnLemmas.{columns_read, each_once}
use Rattle.lex_tableau.proofs.TableauPivotLemmas.{solutions_kept, keys_kept, pivot_is_tableau, is_pivot, exchanged_read, rated_in}
use Rattle.lex_tableau.proofs.tableau.Tableau.take_numbers.Goals as goal

pub exchange_columns-requires-clause-distinct : goal.exchange_columns-requires-clause-distinct
exchange_columns-requires-clause-distinct c =
    subst₂ HasEachOnce (sym c.as_slice-2.ensures.value) (sym c.as_slice-3.ensures.value) (each_once c.self.inside.basics.items c.self.inside.nonbasics.items c.self.inside.numbers.items [] c.self.invariant.0.reached.reached.proper)

pub exchange_columns-requires-clause-columns : goal.exchange_columns-requires-clause-columns
exchange_columns-requires-clause-columns c =
    subst₂ (λ ns ss. AreColumnsOf ns ss c.as_mut_slice.result.now) (sym c.as_slice-3.ensures.value) (sym c.as_slice.ensures.value)
    (subst (AreColumnsOf c.self.inside.nonbasics.items c.self.inside.starts.items) (sym c.as_mut_slice.ensures.value) c.self.invariant.1)

pub invariant_of-self : goal.invariant_of-self
invariant_of-self c =
    exchanged_read (λ (n : WholeTableau). IsTableau n × AreColumnsOf n.nonbasics n.starts (take c.self.inside.columns.len (c.exchange_columns.new.columns ++ drop (length c.exchange_columns.new.columns) c.self.inside.columns.items))) (record { starts = c.self.inside.starts.items; basics = c.self.inside.basics.items; nonbasics = c.self.inside.nonbasics.items; rated = c.self.inside.rated; numbers = c.self.inside.numbers.items }) c.args.row c.args.col c.index-entering.result.now c.index.result.now c.args.spare.now.items c.swap.new.x.items (rated_in (record { starts = c.self.inside.starts.items; basics = c.self.inside.basics.items; nonbasics = c.self.inside.nonbasics.items; rated = c.self.inside.rated; numbers = c.self.inside.numbers.items }) c.args.row c.self.invariant.0 (subst (λ (n : WholeTableau). c.args.row < n.rated) (sym c.self.view_is) c.requires.row_in)) (subst (λ (n : WholeTableau). c.args.col < length n.nonbasics) (sym c.self.view_is) c.requires.col_in) c.index-entering.ensures c.index.ensures (ap (λ v. v.items) c.swap.ensures.x_after) (
      (pivot_is_tableau (record { starts = c.self.inside.starts.items; basics = c.self.inside.basics.items; nonbasics = c.self.inside.nonbasics.items; rated = c.self.inside.rated; numbers = c.self.inside.numbers.items }) c.args.row c.args.col c.args.spare.now.items c.self.invariant.0 (subst (λ (n : WholeTableau). c.args.row < n.rated) (sym c.self.view_is) c.requires.row_in) (subst (λ (n : WholeTableau). c.args.col < length n.nonbasics) (sym c.self.view_is) c.requires.col_in) (subst (λ (n : WholeTableau). (tableau n).cell c.args.row c.args.col ≢ zero_ℚ) (sym c.self.view_is) c.requires.entry) (subst (λ (n : WholeTableau). length c.args.spare.now.items ≡ length n.numbers) (sym c.self.view_is) c.requires.shape) (subst (λ (n : WholeTableau). IsPivotRow (length n.nonbasics + 2) (row_of n c.args.row) (c.args.col + 1) (from_place c.args.spare.now.items (c.args.row * (length n.nonbasics + 2)))) (sym c.self.view_is) c.requires.pivot_row) (subst (λ (n : WholeTableau). (i : ℕ) → i < length n.basics → i ≢ c.args.row → IsPivotedRow (length n.nonbasics + 2) (row_of n i) (row_of n c.args.row) (c.args.col + 1) (from_place c.args.spare.now.items (i * (length n.nonbasics + 2)))) (sym c.self.view_is) c.requires.others)),
      columns_read _ _ _ _ _ _ c.args.col _ _ c.as_slice-3.ensures.value (ap (λ xs. get_or xs c.args.row 0) c.as_slice-2.ensures.value) c.as_slice.ensures.value (sym (take_all c.exchange_columns.new.columns _ c.self.inside.columns.len (c.exchange_columns.ensures.length ∙ c.as_mut_slice.ensures.len))) c.exchange_columns.ensures.columns,
    )

pub returns-clause-pivot : goal.returns-clause-pivot
returns-clause-pivot c =
    subst (λ (n : WholeTableau). IsPivotOf n c.args.row c.args.col (record { starts = c.self.inside.starts.items; basics = slice_set c.self.inside.basics.items c.args.row c.index-entering.result.now; nonbasics = slice_set c.self.inside.nonbasics.items c.args.col c.index.result.now; rated = c.self.inside.rated; numbers = c.swap.new.x.items })) c.self.view_is
    (exchanged_read (IsPivotOf (record { starts = c.self.inside.starts.items; basics = c.self.inside.basics.items; nonbasics = c.self.inside.nonbasics.items; rated = c.self.inside.rated; numbers = c.self.inside.numbers.items }) c.args.row c.args.col) (record { starts = c.self.inside.starts.items; basics = c.self.inside.basics.items; nonbasics = c.self.inside.nonbasics.items; rated = c.self.inside.rated; numbers = c.self.inside.numbers.items }) c.args.row c.args.col c.index-entering.result.now c.index.result.now c.args.spare.now.items c.swap.new.x.items (rated_in (record { starts = c.self.inside.starts.items; basics = c.self.inside.basics.items; nonbasics = c.self.inside.nonbasics.items; rated = c.self.inside.rated; numbers = c.self.inside.numbers.items }) c.args.row c.self.invariant.0 (subst (λ (n : WholeTableau). c.args.row < n.rated) (sym c.self.view_is) c.requires.row_in)) (subst (λ (n : WholeTableau). c.args.col < length n.nonbasics) (sym c.self.view_is) c.requires.col_in) c.index-entering.ensures c.index.ensures (ap (λ v. v.items) c.swap.ensures.x_after) (is_pivot (record { starts = c.self.inside.starts.items; basics = c.self.inside.basics.items; nonbasics = c.self.inside.nonbasics.items; rated = c.self.inside.rated; numbers = c.self.inside.numbers.items }) c.args.row c.args.col c.args.spare.now.items c.self.invariant.0 (subst (λ (n : WholeTableau). c.args.row < n.rated) (sym c.self.view_is) c.requires.row_in) (subst (λ (n : WholeTableau). c.args.col < length n.nonbasics) (sym c.self.view_is) c.requires.col_in) (subst (λ (n : WholeTableau). (tableau n).cell c.args.row c.args.col ≢ zero_ℚ) (sym c.self.view_is) c.requires.entry) (subst (λ (n : WholeTableau). length c.args.spare.now.items ≡ length n.numbers) (sym c.self.view_is) c.requires.shape) (subst (λ (n : WholeTableau). IsPivotRow (length n.nonbasics + 2) (row_of n c.args.row) (c.args.col + 1) (from_place c.args.spare.now.items (c.args.row * (length n.nonbasics + 2)))) (sym c.self.view_is) c.requires.pivot_row) (subst (λ (n : WholeTableau). (i : ℕ) → i < length n.basics → i ≢ c.args.row → IsPivotedRow (length n.nonbasics + 2) (row_of n i) (row_of n c.args.row) (c.args.col + 1) (from_place c.args.spare.now.items (i * (length n.nonbasics + 2)))) (sym c.self.view_is) c.requires.others)))

pub returns-clause-valid : goal.returns-clause-valid
returns-clause-valid c = (invariant_of-self c).0

pub returns-clause-solutions : goal.returns-clause-solutions
returns-clause-solutions c =
    solutions_kept c.args.self.now _ c.args.row c.args.col (subst IsTableau c.self.view_is c.self.invariant.0) c.requires.row_in c.requires.col_in c.requires.entry (returns-clause-pivot c)

pub returns-clause-keys : goal.returns-clause-keys
returns-clause-keys c = keys_kept c.args.self.now _ c.args.row c.args.col (subst IsTableau c.self.view_is c.self.invariant.0) c.requires.col_in (returns-clause-pivot c)
