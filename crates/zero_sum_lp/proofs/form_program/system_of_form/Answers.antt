use Rattle.std.proofs.Common.{◌∙◌, ap}
use Rattle.sequence_data.specs.Data.{SideData}
use Rattle.zero_sum_lp.proofs.FormSystemLemmas.{inside_read, system_read}
use Rattle.zero_sum_lp.proofs.form_program.system_of_form.Goals as goal

pub dense-requires-clause-inside : goal.dense-requires-clause-inside
dense-requires-clause-inside c =
    inside_read c.args.form.now c.cells.ensures.valid c.cells.result.now c.sequences-rows.result c.sequences-columns.result c.cells.ensures.cells
    (c.sequences-rows.ensures ∙ ap (λ (s : SideData). s.sequences) c.first.ensures.side) (c.sequences-columns.ensures ∙ ap (λ (s : SideData). s.sequences) c.second.ensures.side)

pub returns : goal.returns
returns c =
    system_read c.args.form.now c.cells.ensures.valid c.cells.result.now c.sequences-rows.result c.sequences-columns.result c.cells.ensures.cells
    (c.sequences-rows.ensures ∙ ap (λ (s : SideData). s.sequences) c.first.ensures.side) (c.sequences-columns.ensures ∙ ap (λ (s : SideData). s.sequences) c.second.ensures.side)
    c.system.result c.first-2.result.now c.second-2.result.now c.args.gains.now c.in_ok-matrix.matrix.items c.deref.result.now c.first-2.ensures.side c.second-2.ensures.side c.deref.ensures.value c.requires.gains c.in_ok-matrix.ensures.entries c.system.ensures
