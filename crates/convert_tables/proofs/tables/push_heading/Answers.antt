use Rattle.std.proofs.Common.{◌<◌, length, All, sym, subst}
use Rattle.std.proofs.lemmas.List.Elements.{All-take, All-drop}
use Rattle.convert_tables.specs.declared.cells.Axes.{Axes}
use Rattle.convert_tables.proofs.CellPlaceLemmas.{other_players-below}
use Rattle.convert_tables.proofs.tables.push_heading.Goals as goal

others_below : (l : Axes) → All (λ i. i < length l.table.now.players) l.others.now
others_below l =
    let n = length l.table.now.players in
    subst (All (λ i. i < n)) (sym l.others_are) (other_players-below n l.row l.column)

pub push_chosen-requires-clause-player : goal.push_chosen-requires-clause-player
push_chosen-requires-clause-player c = others_below c.args.axes.now 0 0 c.in-len1-up.len_at_least

pub push_later_chosen-requires-clause-players : goal.push_later_chosen-requires-clause-players
push_later_chosen-requires-clause-players c =
    let l = c.args.axes.now in
    All-take (λ i. i < length l.table.now.players) _ _ (All-drop (λ i. i < length l.table.now.players) 1 l.others.now (others_below l))
