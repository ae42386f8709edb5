use Rattle.std.specs.Int.{w128}
use Rattle.std.proofs.lemmas.Int.{to_z-of_z}
use Rattle.whole_rows.proofs.FittingStepLemmas.{read_back, first_unfit, second_unfit, third_unfit}
use Rattle.whole_rows.proofs.arithmetic.unfit_combination.Goals as goal

pub returns-in_default : goal.returns-in_default
returns-in_default c = first_unfit c.args.a c.args.u c.args.b c.args.v c.unfit_product.result (simp (to_z-of_z w128 c.args.a c.ranges.a, to_z-of_z w128 c.args.u c.ranges.u) at c.in_default.ensures) (simp (to_z-of_z w128 c.args.a c.ranges.a, to_z-of_z w128 c.args.u c.ranges.u) at c.unfit_product.ensures)

pub returns-in_default-product : goal.returns-in_default-product
returns-in_default-product c =
    second_unfit c.args.a c.args.u c.args.b c.args.v c.in-Some.left c.unfit_product-in_default-product.result (simp (to_z-of_z w128 c.args.a c.ranges.a, to_z-of_z w128 c.args.u c.ranges.u) at c.in-Some.ensures) (simp (to_z-of_z w128 c.args.b c.ranges.b, to_z-of_z w128 c.args.v c.ranges.v) at c.in_default-product.ensures) (simp (to_z-of_z w128 c.args.b c.ranges.b, to_z-of_z w128 c.args.v c.ranges.v) at c.unfit_product-in_default-product.ensures)

pub returns : goal.returns
returns c =
    third_unfit c.args.a c.args.u c.args.b c.args.v c.in-Some.left c.in-Some-product.right c.unfit_difference.result c.requires.unfit (simp (to_z-of_z w128 c.args.a c.ranges.a, to_z-of_z w128 c.args.u c.ranges.u) at c.in-Some.ensures) (simp (to_z-of_z w128 c.args.b c.ranges.b, to_z-of_z w128 c.args.v c.ranges.v) at c.in-Some-product.ensures) (simp (read_back c.in-Some.left c.in-Some.ensures.1, read_back c.in-Some-product.right c.in-Some-product.ensures.1) at c.unfit_difference.ensures)
