use Rattle.std.proofs.Common.{◌++◌, ap, codes, ◌∙◌}
use Rattle.std.specs.Fmt.{decimal}
use Rattle.convert_tables.specs.declared.marks.Style.TheVariants.{Sgame}
use Rattle.convert_tables.specs.Layouts.{strategy_count, player_name}
use Rattle.convert_tables.specs.Names.{name_text}
use Rattle.convert_tables.proofs.NumberedTextLemmas.{grown}
use Rattle.convert_tables.proofs.tables.push_sgame_start.Goals as goal

pub returns : goal.returns
returns c =
    let t = c.args.table.now in
    let old = c.args.text.now.items in
    let p1 = codes "\\begin{game}{" in
    let p2 = p1 ++ decimal (strategy_count t c.args.row) in
    let p3 = p2 ++ codes "}{" in
    let p4 = p3 ++ decimal (strategy_count t c.args.column) in
    let p5 = p4 ++ codes "}[" in
    let p6 = p5 ++ name_text Sgame (player_name t c.args.row) in
    let p7 = p6 ++ codes "][" in
    let p8 = p7 ++ name_text Sgame (player_name t c.args.column) in
    let t1 = c.extend_from_slice.new.self.items in
    let t3 = c.extend_from_slice-2.new.self.items in
    let rows = c.in_ok-push_number.ensures ∙ ap (λ n. t1 ++ decimal n) c.strategy_count.ensures.count in
    let columns = c.in_ok-push_number-2.ensures ∙ ap (λ n. t3 ++ decimal n) c.strategy_count-2.ensures.count in
    let e2 = grown old p1 (decimal (strategy_count t c.args.row)) t1 c.push_number.new.text.items c.in_ok-extend_from_slice.ensures.items rows in
    let e3 = grown old p2 (codes "}{") c.push_number.new.text.items t3 e2 c.in_ok-extend_from_slice-2.ensures.items in
    let e4 = grown old p3 (decimal (strategy_count t c.args.column)) t3 c.push_number-2.new.text.items e3 columns in
    let e5 = grown old p4 (codes "}[") c.push_number-2.new.text.items c.extend_from_slice-3.new.self.items e4 c.in_ok-extend_from_slice-3.ensures.items in
    let e6 = grown old p5 (name_text Sgame (player_name t c.args.row)) c.extend_from_slice-3.new.self.items c.push_player.new.text.items e5 c.in_ok-push_player.ensures in
    let e7 = grown old p6 (codes "][") c.push_player.new.text.items c.extend_from_slice-4.new.self.items e6 c.in_ok-extend_from_slice-4.ensures.items in
    let e8 = grown old p7 (name_text Sgame (player_name t c.args.column)) c.extend_from_slice-4.new.self.items c.push_player-2.new.text.items e7 c.in_ok-push_player-2.ensures in
    grown old p8 (codes "]\n") c.push_player-2.new.text.items c.extend_from_slice-5.new.self.items e8 c.in_ok-extend_from_slice-5.ensures.items
