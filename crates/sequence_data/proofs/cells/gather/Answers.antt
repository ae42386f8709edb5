use Rattle.std.proofs.Common.{◌≡◌, ◌<◌, ◌∙◌, inr, ap, sym, subst, length, map, take, get_or, All, arith}
use Rattle.std.specs.Prelude.{◌/◌, ◌^◌, Contains}
use Rattle.std.proofs.Math.Seq.{take-length}
use Rattle.std.proofs.lemmas.List.Elements.{All-get_or}
use Rattle.std.proofs.lemmas.Result.{err_from_is_err_and}
use Rattle.sequence_data.specs.Cells.{AreCells}
use Rattle.sequence_data.specs.Gathered.{cell_place, cell_in}
use Rattle.sequence_data.proofs.GatheredLeafLemmas.{are-cells, cells-after, gather-all, gather-fit, gather-stop, own-cell, rows-few}
use Rattle.sequence_data.proofs.cells.gather.Goals as goal

pub empty_cells-requires-clause-rows : goal.empty_cells-requires-clause-rows
empty_cells-requires-clause-rows c =
    subst (All (λ k. k / c.args.columns < 2 ^ 32)) (sym c.deref.ensures.value) (rows-few c.args.columns c.args.leaves.now c.in_ok-places.places.items c.requires.rows c.requires.within c.in_ok-places.ensures)

pub cell_number-number-requires-clause-there : goal.cell_number-number-requires-clause-there
cell_number-number-requires-clause-there c =
    let there = All-get_or (λ l. Contains c.in_ok-places.places.items (cell_place c.args.columns l)) c.args.leaves.now c.loop-leaf.leaf-index c.leaf-item.result c.loop-leaf-test.true c.in_ok-places.ensures.of_each in
    let here = subst (λ l. Contains c.in_ok-places.places.items (cell_place c.args.columns l)) (sym c.leaf-item.is) there in
    subst (λ xs. Contains xs (cell_place c.args.columns c.leaf-item.result)) (sym c.deref-in-loop-leaf.ensures.value) here

pub returns-in_err-cells-2-clause-steps : goal.returns-in_err-cells-2-clause-steps
returns-in_err-cells-2-clause-steps c =
    let places = c.in_ok-places.places.items in
    let within = subst (λ l. l.column < c.args.columns) (sym c.leaf-item.is) (All-get_or (λ l. l.column < c.args.columns) c.args.leaves.now c.loop-leaf.leaf-index c.leaf-item.result c.loop-leaf-test.true c.requires.within) in
    let inside = subst (λ xs. c.cell_number-number.result < length xs) c.deref-in-loop-leaf.ensures.value c.cell_number-number.ensures.within in
    let is = subst (λ xs. get_or xs c.cell_number-number.result 0 ≡ cell_place c.args.columns c.leaf-item.result) c.deref-in-loop-leaf.ensures.value c.cell_number-number.ensures.place in
    let own = own-cell c.args.columns places c.requires.columns c.in_ok-places.ensures.in_order (take c.loop-leaf.leaf-index c.args.leaves.now) c.leaf-item.result within c.cell_number-number.result inside is c.loop-leaf.cells.items c.index.result.now c.loop-leaf.invariant.cells_are in
    let p = err_from_is_err_and c.from_residual-in_err-cells-2.result c.from_residual-in_err-cells-2.ensures.1 in
    rw (p.1, p.2) (inr (gather-stop c.args.leaves.now c.loop-leaf.leaf-index c.leaf-item.result c.index.result.now c.loop-leaf-test.true c.leaf-item.is (c.index.ensures ∙ own) c.loop-leaf.invariant.steps_fit c.in_err-cells-2.field-0.0 c.in_err-cells-2.ensures.steps))

pub loop-leaf-preserved : goal.loop-leaf-preserved
loop-leaf-preserved c =
    let places = c.in_ok-places.places.items in
    let within = subst (λ l. l.column < c.args.columns) (sym c.leaf-item.is) (All-get_or (λ l. l.column < c.args.columns) c.args.leaves.now c.loop-leaf.leaf-index c.leaf-item.result c.loop-leaf-test.true c.requires.within) in
    let inside = subst (λ xs. c.cell_number-number.result < length xs) c.deref-in-loop-leaf.ensures.value c.cell_number-number.ensures.within in
    let is = subst (λ xs. get_or xs c.cell_number-number.result 0 ≡ cell_place c.args.columns c.leaf-item.result) c.deref-in-loop-leaf.ensures.value c.cell_number-number.ensures.place in
    let own = own-cell c.args.columns places c.requires.columns c.in_ok-places.ensures.in_order (take c.loop-leaf.leaf-index c.args.leaves.now) c.leaf-item.result within c.cell_number-number.result inside is c.loop-leaf.cells.items c.index.result.now c.loop-leaf.invariant.cells_are in
    record {
      cells_are = cells-after c.args.columns places c.requires.columns c.in_ok-places.ensures.in_order c.args.leaves.now c.loop-leaf.leaf-index c.leaf-item.result c.loop-leaf-test.true c.leaf-item.is within c.cell_number-number.result inside is
          c.loop-leaf.cells.items c.index.result.now c.in_ok-cells-2.field-0 c.loop-leaf.invariant.cells_are c.index.ensures c.in_ok-cells-2.ensures.cell;
      steps_fit = gather-fit c.args.leaves.now c.loop-leaf.leaf-index c.leaf-item.result c.index.result.now c.loop-leaf-test.true c.leaf-item.is (c.index.ensures ∙ own) c.loop-leaf.invariant.steps_fit c.in_ok-cells-2.ensures.steps;
    }

pub returns-clause-cells : goal.returns-clause-cells
returns-clause-cells c =
    let whole : c.loop-leaf.leaf-index ≡ length c.args.leaves.now = omega arith in
    let all = c.loop-leaf.invariant.cells_are ∙ ap (λ xs. map (cell_in c.args.columns xs) c.in_ok-places.places.items) (ap (λ n. take n c.args.leaves.now) whole ∙ take-length c.args.leaves.now) in
    subst (AreCells c.args.leaves.now) (sym all) (are-cells c.args.columns c.args.leaves.now c.in_ok-places.places.items c.requires.columns c.requires.within c.in_ok-places.ensures)

pub returns-clause-steps : goal.returns-clause-steps
returns-clause-steps c = gather-all c.args.leaves.now c.loop-leaf.leaf-index (omega arith) c.loop-leaf.invariant.steps_fit
