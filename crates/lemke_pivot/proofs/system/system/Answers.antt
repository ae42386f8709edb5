use Rattle.std.proofs.Common.{subst, sym, arith}
use Rattle.lemke_pivot.specs.Systems.{IsSystemAt, columns_at}
use Rattle.sequence_data.specs.Matrices.{number_at}
use Rattle.lemke_pivot.proofs.SystemLemmas.{system_for}
use Rattle.lemke_pivot.proofs.system.system.Goals as goal

pub returns : goal.returns
returns c =
    let costs = c.args.costs.now in
    let one = number_at costs.one.now (columns_at costs) in
    let two = number_at costs.two.now (columns_at costs) in
    let size_is = c.row_count-size.ensures in
    subst (IsSystemAt costs) (sym c.new.ensures.value)
    (system_for costs.first.now costs.second.now one two c.row_count-size.result c.in_ok-basics.basics.items c.in_ok-nonbasics.nonbasics.items c.in_ok-cells.cells.items size_is (omega (arith, c.requires.few, size_is)) c.in_ok-basics.ensures c.in_ok-nonbasics.ensures c.in_ok-cells.ensures)
