use Rattle.std.proofs.Common.{ℕ, ◌≡◌, ◌<◌, ◌∙◌, List, [], length, get_or, ap, sym, subst, subst₂}
use Rattle.std.proofs.lemmas.List.{get_or_default}
use Rattle.lex_tableau.specs.Rows.{WholeTableau, IsTableau}
use Rattle.lex_tableau.specs.Columns.{AreColumnsOf}
use Rattle.lex_tableau.specs.Ratio.{HasEachOnce}
use Rattle.lex_tableau.proofs.TableauPivotLemmas.{rated_in, solutions_kept, keys_kept, copied_pivot}
use Rattle.lex_tableau.proofs.StartLemmas.{take_all}
use Rattle.lex_tableau.proofs.ColumnLemmas.{columns_read, each_once}
use Rattle.lex_tableau.proofs.tableau.Tableau.written_into.Goals as goal

pub exchange_columns-requires-clause-distinct : goal.exchange_columns-requires-clause-distinct
exchange_columns-requires-clause-distinct c =
    subst₂ HasEachOnce (sym c.as_slice-6.ensures.value) (sym c.as_slice-7.ensures.value) (each_once c.self.inside.basics.items c.self.inside.nonbasics.items c.self.inside.numbers.items [] c.self.invariant.0.reached.reached.proper)

pub exchange_columns-requires-clause-columns : goal.exchange_columns-requires-clause-columns
exchange_columns-requires-clause-columns c =
    subst₂ (λ ns ss. AreColumnsOf ns ss c.as_mut_slice.result.now) (sym c.as_slice-7.ensures.value) (sym c.as_slice-5.ensures.value)
    (subst (AreColumnsOf c.self.inside.nonbasics.items c.self.inside.starts.items) (sym (c.as_mut_slice.ensures.value ∙ c.in_ok-columns.ensures ∙ c.as_slice-2.ensures.value)) c.self.invariant.1)

pub invariant_of-result : goal.invariant_of-result
invariant_of-result c = (
  (copied_pivot c.args.self.now c.args.row c.args.col c.index-entering.result.now c.index.result.now c.in_ok-starts.starts.items c.in_ok-basics.basics.items c.in_ok-nonbasics.nonbasics.items c.self.inside.rated c.args.room.numbers.items (subst IsTableau c.self.view_is c.self.invariant.0) (c.in_ok-starts.ensures ∙ c.as_slice.ensures.value ∙ ap (λ (n : WholeTableau). n.starts) c.self.view_is) (c.in_ok-basics.ensures ∙ c.as_slice-3.ensures.value ∙ ap (λ (n : WholeTableau). n.basics) c.self.view_is) (c.in_ok-nonbasics.ensures ∙ c.as_slice-4.ensures.value ∙ ap (λ (n : WholeTableau). n.nonbasics) c.self.view_is) (ap (λ (n : WholeTableau). n.rated) c.self.view_is) c.requires.row_in c.requires.col_in c.requires.entry c.requires.shape c.requires.pivot_row c.requires.others c.index-entering.ensures c.index.ensures).0,
  columns_read _ _ _ _ _ _ c.args.col c.index.result.now _ (c.as_slice-7.ensures.value ∙ sym (c.in_ok-nonbasics.ensures ∙ c.as_slice-4.ensures.value)) left (c.as_slice-5.ensures.value ∙ sym (c.in_ok-starts.ensures ∙ c.as_slice.ensures.value)) (sym (take_all c.exchange_columns.new.columns _ c.in_ok-columns.columns.len (c.exchange_columns.ensures.length ∙ c.as_mut_slice.ensures.len))) c.exchange_columns.ensures.columns,
)
  where
    basics_are : c.as_slice-6.result.now ≡ c.args.self.now.basics
    basics_are = c.as_slice-6.ensures.value ∙ ap (λ (n : WholeTableau). n.basics) c.self.view_is

    row_in : c.args.row < length c.as_slice-6.result.now
    row_in = subst (λ (xs : List ℕ). c.args.row < length xs) (sym basics_are) (rated_in c.args.self.now c.args.row (subst IsTableau c.self.view_is c.self.invariant.0) c.requires.row_in)

    left : get_or c.as_slice-6.result.now c.args.row 0 ≡ c.index.result.now
    left = sym (c.index.ensures ∙ ap (λ xs. get_or xs c.args.row c.index.result.now) (c.in_ok-basics.ensures ∙ c.as_slice-3.ensures.value ∙ sym c.as_slice-6.ensures.value) ∙ get_or_default c.as_slice-6.result.now c.args.row c.index.result.now 0 row_in)

pub returns-clause-pivot : goal.returns-clause-pivot
returns-clause-pivot c =
    (copied_pivot c.args.self.now c.args.row c.args.col c.index-entering.result.now c.index.result.now c.in_ok-starts.starts.items c.in_ok-basics.basics.items c.in_ok-nonbasics.nonbasics.items c.self.inside.rated c.args.room.numbers.items (subst IsTableau c.self.view_is c.self.invariant.0) (c.in_ok-starts.ensures ∙ c.as_slice.ensures.value ∙ ap (λ (n : WholeTableau). n.starts) c.self.view_is) (c.in_ok-basics.ensures ∙ c.as_slice-3.ensures.value ∙ ap (λ (n : WholeTableau). n.basics) c.self.view_is) (c.in_ok-nonbasics.ensures ∙ c.as_slice-4.ensures.value ∙ ap (λ (n : WholeTableau). n.nonbasics) c.self.view_is) (ap (λ (n : WholeTableau). n.rated) c.self.view_is) c.requires.row_in c.requires.col_in c.requires.entry c.requires.shape c.requires.pivot_row c.requires.others c.index-entering.ensures c.index.ensures).1

pub returns-clause-valid : goal.returns-clause-valid
returns-clause-valid c = (invariant_of-result c).0

pub returns-clause-solutions : goal.returns-clause-solutions
returns-clause-solutions c =
    solutions_kept c.args.self.now _ c.args.row c.args.col (subst IsTableau c.self.view_is c.self.invariant.0) c.requires.row_in c.requires.col_in c.requires.entry (returns-clause-pivot c)

pub returns-clause-keys : goal.returns-clause-keys
returns-clause-keys c = keys_kept c.args.self.now _ c.args.row c.args.col (subst IsTableau c.self.view_is c.self.invariant.0) c.requires.col_in (returns-clause-pivot c)
