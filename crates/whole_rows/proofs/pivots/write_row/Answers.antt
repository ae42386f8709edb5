use Rattle.std.proofs.Common.{◌≢◌, ◌*◌, pos, subst, sym}
use Rattle.whole_rows.specs.Rows.{from_place}
use Rattle.whole_rows.proofs.RowValueLemmas.{turned_row}
use Rattle.whole_rows.proofs.pivots.write_row.Goals as goal

pub returns-then-i-pivot-clause-pivot_row : goal.returns-then-i-pivot-clause-pivot_row
returns-then-i-pivot-clause-pivot_row c e =
    turned_row (from_place c.args.pivot.numbers.now (c.args.i * c.args.pivot.size)) c.args.pivot.column (c.args.pivot.are_rows c.args.i c.requires.own_in).positive (subst (λ r. from_place c.args.pivot.numbers.now (r * c.args.pivot.size) c.args.pivot.column ≢ pos 0) (sym e) c.args.pivot.entry) c.args.pivot.column_positive c.args.pivot.size (from_place c.write_turned.new.spare (c.args.i * c.args.pivot.size)) c.args.pivot.column_in (c.args.pivot.are_rows c.args.i c.requires.own_in) c.write_turned.ensures.written
