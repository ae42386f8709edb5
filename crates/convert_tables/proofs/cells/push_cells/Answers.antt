use Rattle.std.proofs.Common.{◌≡◌, ◌+◌, ◌*◌, ◌++◌, ap, ◌∙◌, arith}
use Rattle.std.specs.List.{flat_map, range_with_len}
use Rattle.convert_tables.specs.Layouts.{cell_text, strategy_count}
use Rattle.convert_tables.proofs.NumberedTextLemmas.{each-next}
use Rattle.convert_tables.proofs.cells.push_cells.Goals as goal

pub loop-column-preserved : goal.loop-column-preserved
loop-column-preserved c =
    let l = c.args.axes.now in
    each-next (λ k. cell_text l.style l.table.now l.row l.column (c.args.first + l.column_stride * k)) c.args.text.now.items c.loop-column.text.items _ c.loop-column.column c.loop-column.invariant c.in_ok-push_cell.ensures

pub returns : goal.returns
returns c =
    let l = c.args.axes.now in
    let all : c.loop-column.column ≡ strategy_count l.table.now l.column = omega (arith, c.strategy_count-column-end.ensures.count) in
    c.loop-column.invariant ∙ ap (λ n. c.args.text.now.items ++ flat_map (λ k. cell_text l.style l.table.now l.row l.column (c.args.first + l.column_stride * k)) (range_with_len 0 n)) all
