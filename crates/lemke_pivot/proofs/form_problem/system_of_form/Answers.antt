use Rattle.std.proofs.Common.{◌∙◌, List, ap, subst, sym}
use Rattle.sequence_data.specs.declared.types.Cell.{Cell}
use Rattle.sequence_data.specs.Data.{SideData}
use Rattle.sequence_data.specs.Matrices.{HoldsNumbers, placed}
use Rattle.lemke_pivot.proofs.FormSystemLemmas.{cells_read, system_read}
use Rattle.lemke_pivot.proofs.form_problem.system_of_form.Goals as goal

pub dense-requires-clause-inside : goal.dense-requires-clause-inside
dense-requires-clause-inside c =
    cells_read c.args.form.now c.cells.ensures.valid c.cells.result.now c.sequences-rows.result c.sequences-columns.result c.cells.ensures.cells
    (c.sequences-rows.ensures ∙ ap (λ (s : SideData). s.sequences) c.first.ensures.side) (c.sequences-columns.ensures ∙ ap (λ (s : SideData). s.sequences) c.second.ensures.side)

pub dense-requires-2-clause-inside : goal.dense-requires-2-clause-inside
dense-requires-2-clause-inside c =
    cells_read c.args.form.now c.cells-2.ensures.valid c.cells-2.result.now c.sequences-rows.result c.sequences-columns.result c.cells-2.ensures.cells
    (c.sequences-rows.ensures ∙ ap (λ (s : SideData). s.sequences) c.first.ensures.side) (c.sequences-columns.ensures ∙ ap (λ (s : SideData). s.sequences) c.second.ensures.side)

pub returns : goal.returns
returns c =
    let x_is = c.sequences-rows.ensures ∙ ap (λ (s : SideData). s.sequences) c.first.ensures.side in
    let y_is = c.sequences-columns.ensures ∙ ap (λ (s : SideData). s.sequences) c.second.ensures.side in
    let second_holds : HoldsNumbers c.sequences-rows.result c.sequences-columns.result (placed c.cells.result.now c.args.two.now) c.in_ok-two.two.items =
    subst (λ (xs : List Cell). HoldsNumbers c.sequences-rows.result c.sequences-columns.result (placed xs c.args.two.now) c.in_ok-two.two.items) (c.cells-2.ensures.cells ∙ sym c.cells.ensures.cells) c.in_ok-two.ensures.entries in
    system_read c.args.form.now c.cells.ensures.valid c.cells.result.now c.sequences-rows.result c.sequences-columns.result c.cells.ensures.cells x_is y_is
    c.args.one.now c.args.two.now c.in_ok-one.one.items c.in_ok-two.two.items c.deref.result.now c.deref-2.result.now c.requires.one c.requires.two c.in_ok-one.ensures.entries second_holds c.deref.ensures.value c.deref-2.ensures.value
    c.system.result c.first-2.result.now c.second-2.result.now c.first-2.ensures.side c.second-2.ensures.side c.system.ensures
