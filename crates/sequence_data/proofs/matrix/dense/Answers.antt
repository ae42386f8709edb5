use Rattle.std.proofs.Common.{◌<◌, subst, sym, arith}
use Rattle.sequence_data.proofs.WrittenCellLemmas.{IsWritten, cell_is, number_is, written_next, written_all}
use Rattle.sequence_data.proofs.matrix.dense.Goals as goal

pub loop-k-preserved : goal.loop-k-preserved
loop-k-preserved c =
    let l = c.loop-k-test.true in
    written_next c.args.rows c.args.columns c.args.cells.now c.args.numbers.now c.requires.inside c.requires.in_order c.loop-k.k c.loop-k.matrix.items c.index-cells-k.result c.index-numbers-k.result l
    (cell_is c.args.cells.now c.loop-k.k c.index-cells-k.result l c.index-cells-k.is) (number_is c.args.numbers.now c.loop-k.k c.index-numbers-k.result (subst (λ n. c.loop-k.k < n) (sym c.requires.same) l) c.index-numbers-k.is) c.loop-k.invariant

pub returns-clause-entries : goal.returns-clause-entries
returns-clause-entries c =
    written_all c.args.rows c.args.columns c.args.cells.now c.args.numbers.now c.requires.inside c.requires.in_order c.loop-k.matrix.items c.requires.same
    (subst (λ k. IsWritten c.args.rows c.args.columns c.args.cells.now c.args.numbers.now k c.loop-k.matrix.items) (omega arith) c.loop-k.invariant)
