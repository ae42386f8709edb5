use Rattle.std.proofs.Common.{◌<◌, length, All, sym, subst}
use Rattle.convert_tables.proofs.CellPlaceLemmas.{other_players-below}
use Rattle.convert_tables.proofs.cells.push_cell.Goals as goal

pub push_later_payoffs-requires-2-clause-players : goal.push_later_payoffs-requires-2-clause-players
push_later_payoffs-requires-2-clause-players c =
    let l = c.args.axes.now in
    let n = length l.table.now.players in
    subst (All (λ i. i < n)) (sym l.others_are) (other_players-below n l.row l.column)
