use Rattle.std.proofs.Common.{◌+◌, ◌*ℤ◌, ◌-ℤ◌}
use Rattle.std.specs.Int.{w128}
use Rattle.std.proofs.lemmas.Int.{to_z-of_z}
use Rattle.whole_rows.specs.Rows.{from_place}
use Rattle.whole_rows.specs.Steps.{combination_steps}
use Rattle.whole_rows.specs.Lists.{IsWhereFit}
use Rattle.whole_rows.proofs.FittingStepLemmas.{of_same, read_at, read_first, turned_back}
use Rattle.whole_rows.proofs.PlaceStepLemmas.{told_lead, none_column, some_column, told_other}
use Rattle.whole_rows.proofs.places.RowPair.number_at.Goals as goal

pub returns-then-place-eq0 : goal.returns-then-place-eq0
returns-then-place-eq0 c =
    told_lead (from_place c.args.self.numbers.now c.args.self.own) (from_place c.args.self.numbers.now c.args.self.first) c.args.self.column c.args.u c.args.v c.args.place c.product.result c.if-place-eq0.true (simp (read_first c.args.self.numbers.now c.args.self.own c.args.self.fit, to_z-of_z w128 c.args.u c.ranges.u) at c.product.ensures)

pub returns-in_err-product : goal.returns-in_err-product
returns-in_err-product c =
    rw c.from_residual.ensures (none_column (from_place c.args.self.numbers.now c.args.self.own) (from_place c.args.self.numbers.now c.args.self.first) c.args.self.column c.args.u c.args.v c.args.place c.if-place-eq0.false c.if-place-self.true (simp (read_first c.args.self.numbers.now c.args.self.first c.args.self.fit, to_z-of_z w128 c.args.v c.ranges.v) at c.in_err-product.ensures))

pub returns-in_ok-product : goal.returns-in_ok-product
returns-in_ok-product c =
    some_column (from_place c.args.self.numbers.now c.args.self.own) (from_place c.args.self.numbers.now c.args.self.first) c.args.self.column c.args.u c.args.v c.args.place c.in_ok-product.field-0 _ c.if-place-eq0.false c.if-place-self.true (simp (read_first c.args.self.numbers.now c.args.self.first c.args.self.fit, to_z-of_z w128 c.args.v c.ranges.v) at c.in_ok-product.ensures) (turned_back c.in_ok-product.field-0 c.in_ok-product.ensures.1)

pub returns-else-place-self : goal.returns-else-place-self
returns-else-place-self c =
    told_other (from_place c.args.self.numbers.now c.args.self.own) (from_place c.args.self.numbers.now c.args.self.first) c.args.self.column c.args.u c.args.v c.args.place c.combination.result c.if-place-eq0.false c.if-place-self.false
    (of_same (λ a u b v. IsWhereFit (combination_steps a u b v) ((a *ℤ u) -ℤ (b *ℤ v)) c.combination.result) _ _ _ _ _ _ _ _ (read_at c.args.self.numbers.now (c.args.self.own + c.args.place) c.args.self.fit) (to_z-of_z w128 c.args.u c.ranges.u) (read_at c.args.self.numbers.now (c.args.self.first + c.args.place) c.args.self.fit) (to_z-of_z w128 c.args.v c.ranges.v) c.combination.ensures)
