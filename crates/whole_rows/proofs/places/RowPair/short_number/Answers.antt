use Rattle.std.proofs.Common.{◌+◌, ◌∙◌, ◌-ℤ◌, ap₂, subst, sym}
use Rattle.frac128.specs.Fraction.{PartFits}
use Rattle.std.specs.Int.{w64}
use Rattle.std.proofs.lemmas.Int.{to_z-of_z}
use Rattle.whole_rows.specs.Rows.{from_place}
use Rattle.whole_rows.proofs.FittingStepLemmas.{read_at, read_first, read_back, turned_back}
use Rattle.whole_rows.proofs.ShortNumberLemmas.{product_fits, short_leads, short_column, short_other}
use Rattle.whole_rows.proofs.places.RowPair.short_number.Goals as goal

pub returns-then-place-eq0 : goal.returns-then-place-eq0
returns-then-place-eq0 c =
    short_leads (from_place c.args.self.numbers.now c.args.self.own) (from_place c.args.self.numbers.now c.args.self.first) c.args.self.column c.args.place c.args.u c.args.v c.short_times.result c.if-place-eq0.true (simp (read_first c.args.self.numbers.now c.args.self.own c.args.self.fit, to_z-of_z w64 c.args.u c.ranges.u) at c.short_times.ensures)

pub returns-then-place-self : goal.returns-then-place-self
returns-then-place-self c =
    short_column (from_place c.args.self.numbers.now c.args.self.own) (from_place c.args.self.numbers.now c.args.self.first) c.args.self.column c.args.place c.args.u c.args.v c.in_ok-short_times.field-0 _ c.if-place-eq0.false c.if-place-self.true (simp (read_first c.args.self.numbers.now c.args.self.first c.args.self.fit, to_z-of_z w64 c.args.v c.ranges.v) at c.in_ok-short_times.ensures) (turned_back c.in_ok-short_times.field-0 (product_fits c.in_ok-short_times.field-0 c.in_ok-short_times.ensures.1))

pub returns : goal.returns
returns c =
    short_other (from_place c.args.self.numbers.now c.args.self.own) (from_place c.args.self.numbers.now c.args.self.first) c.args.self.column c.args.place c.args.u c.args.v c.in_ok-short_times-2.field-0 c.in_ok-short_times-3.field-0 _ c.if-place-eq0.false c.if-place-self.false (simp (read_at c.args.self.numbers.now (c.args.self.own + c.args.place) c.args.self.fit, to_z-of_z w64 c.args.u c.ranges.u) at c.in_ok-short_times-2.ensures) (simp (read_at c.args.self.numbers.now (c.args.self.first + c.args.place) c.args.self.fit, to_z-of_z w64 c.args.v c.ranges.v) at c.in_ok-short_times-3.ensures)
    (read_back c.short_difference.result c.short_difference.ensures.fits ∙ c.short_difference.ensures.value ∙ ap₂ (λ x y. x -ℤ y) (read_back c.in_ok-short_times-2.field-0 (product_fits c.in_ok-short_times-2.field-0 c.in_ok-short_times-2.ensures.1)) (read_back c.in_ok-short_times-3.field-0 (product_fits c.in_ok-short_times-3.field-0 c.in_ok-short_times-3.ensures.1)))
    (subst PartFits (sym (read_back c.short_difference.result c.short_difference.ensures.fits)) c.short_difference.ensures.fits)
