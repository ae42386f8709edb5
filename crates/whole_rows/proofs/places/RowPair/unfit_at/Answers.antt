use Rattle.std.proofs.Common.{◌+◌, All}
use Rattle.frac128.specs.Steps.{StepFits}
use Rattle.whole_rows.specs.Rows.{from_place}
use Rattle.whole_rows.specs.Steps.{combination_steps}
use Rattle.whole_rows.proofs.FittingStepLemmas.{of_same, read_at, read_first, read_back}
use Rattle.whole_rows.proofs.PlaceStepLemmas.{first_lead, first_column, first_other, unfit_other}
use Rattle.whole_rows.proofs.places.RowPair.unfit_at.Goals as goal

pub returns-then-place-eq0 : goal.returns-then-place-eq0
returns-then-place-eq0 c =
    first_lead (from_place c.args.self.numbers.now c.args.self.own) (from_place c.args.self.numbers.now c.args.self.first) c.args.self.column c.args.u c.args.v c.args.place c.unfit_product.result c.if-place-eq0.true c.requires.unfit (simp (read_first c.args.self.numbers.now c.args.self.own c.args.self.fit, read_back c.args.u c.requires.own_factor) at c.unfit_product.ensures)

pub returns-then-place-self : goal.returns-then-place-self
returns-then-place-self c =
    first_column (from_place c.args.self.numbers.now c.args.self.own) (from_place c.args.self.numbers.now c.args.self.first) c.args.self.column c.args.u c.args.v c.args.place c.unfit_product-then-place-self.result c.if-place-eq0.false c.if-place-self.true c.requires.unfit (simp (read_first c.args.self.numbers.now c.args.self.first c.args.self.fit, read_back c.args.v c.requires.other_factor) at c.unfit_product-then-place-self.ensures)

pub returns-else-place-self : goal.returns-else-place-self
returns-else-place-self c =
    first_other (from_place c.args.self.numbers.now c.args.self.own) (from_place c.args.self.numbers.now c.args.self.first) c.args.self.column c.args.u c.args.v c.args.place c.unfit_combination.result c.if-place-eq0.false c.if-place-self.false (simp (read_at c.args.self.numbers.now (c.args.self.own + c.args.place) c.args.self.fit, read_at c.args.self.numbers.now (c.args.self.first + c.args.place) c.args.self.fit, read_back c.args.u c.requires.own_factor, read_back c.args.v c.requires.other_factor) at c.unfit_combination.ensures)

pub unfit_combination-requires-clause-unfit : goal.unfit_combination-requires-clause-unfit
unfit_combination-requires-clause-unfit c f =
    unfit_other (from_place c.args.self.numbers.now c.args.self.own) (from_place c.args.self.numbers.now c.args.self.first) c.args.self.column c.args.u c.args.v c.args.place c.if-place-eq0.false c.if-place-self.false c.requires.unfit
    (of_same (λ a u b v. All StepFits (combination_steps a u b v)) _ _ _ _ _ _ _ _ (read_at c.args.self.numbers.now (c.args.self.own + c.args.place) c.args.self.fit) (read_back c.args.u c.requires.own_factor) (read_at c.args.self.numbers.now (c.args.self.first + c.args.place) c.args.self.fit) (read_back c.args.v c.requires.other_factor) f)
