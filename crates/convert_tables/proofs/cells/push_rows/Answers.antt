use Rattle.std.proofs.Common.{◌<◌, ◌≤◌, ◌≡◌, ◌+◌, ◌++◌, length, ap, ◌∙◌, arith}
use Rattle.std.specs.List.{flat_map, range_with_len}
use Rattle.game_core.specs.Limits.{most_text}
use Rattle.convert_tables.specs.Layouts.{row_text, strategy_count}
use Rattle.convert_tables.proofs.NumberedTextLemmas.{each-next, each-long}
use Rattle.convert_tables.proofs.cells.push_rows.Goals as goal

pub push_row-requires-clause-strategy : goal.push_row-requires-clause-strategy
push_row-requires-clause-strategy c =
    let l = c.args.axes.now in
    omega (arith, c.strategy_count-strategy-end.ensures.count)

pub returns-then-len-gt-MOST_TEXT-clause-long : goal.returns-then-len-gt-MOST_TEXT-clause-long
returns-then-len-gt-MOST_TEXT-clause-long c _ =
    let l = c.args.axes.now in
    let row = row_text l.style l.table.now l.row l.column c.args.profile.now in
    let k = c.loop-strategy.strategy in
    let n = strategy_count l.table.now l.row in
    let below : k + 1 ≤ n = omega (arith, c.strategy_count-strategy-end.ensures.count) in
    let new = c.push_row.new.text.items in
    let long : most_text < length new = omega (arith, c.len.ensures) in
    each-long row c.args.text.now.items new (k + 1) n most_text below (each-next row c.args.text.now.items c.loop-strategy.text.items new k c.loop-strategy.invariant c.in_ok-push_row.ensures) long

pub loop-strategy-preserved : goal.loop-strategy-preserved
loop-strategy-preserved c =
    let l = c.args.axes.now in
    each-next (row_text l.style l.table.now l.row l.column c.args.profile.now) c.args.text.now.items c.loop-strategy.text.items _ c.loop-strategy.strategy c.loop-strategy.invariant c.in_ok-push_row.ensures

pub returns-clause-rows : goal.returns-clause-rows
returns-clause-rows c =
    let l = c.args.axes.now in
    let all : c.loop-strategy.strategy ≡ strategy_count l.table.now l.row = omega (arith, c.strategy_count-strategy-end.ensures.count) in
    c.loop-strategy.invariant ∙ ap (λ n. c.args.text.now.items ++ flat_map (row_text l.style l.table.now l.row l.column c.args.profile.now) (range_with_len 0 n)) all
