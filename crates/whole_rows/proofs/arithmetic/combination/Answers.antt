use Rattle.std.specs.Int.{w128}
use Rattle.std.proofs.lemmas.Int.{to_z-of_z}
use Rattle.whole_rows.proofs.FittingStepLemmas.{read_back, not_first, not_second, told}
use Rattle.whole_rows.proofs.arithmetic.combination.Goals as goal

pub returns-in_err-product : goal.returns-in_err-product
returns-in_err-product c = rw c.from_residual.ensures (not_first c.args.a c.args.u c.args.b c.args.v (simp (to_z-of_z w128 c.args.a c.ranges.a, to_z-of_z w128 c.args.u c.ranges.u) at c.in_err-product.ensures))

pub returns-in_err-product-2 : goal.returns-in_err-product-2
returns-in_err-product-2 c = rw c.from_residual-in_err-product-2.ensures (not_second c.args.a c.args.u c.args.b c.args.v (simp (to_z-of_z w128 c.args.b c.ranges.b, to_z-of_z w128 c.args.v c.ranges.v) at c.in_err-product-2.ensures))

pub returns : goal.returns
returns c = told c.args.a c.args.u c.args.b c.args.v c.in_ok-product.field-0 c.in_ok-product-2.field-0 c.difference.result (simp (to_z-of_z w128 c.args.a c.ranges.a, to_z-of_z w128 c.args.u c.ranges.u) at c.in_ok-product.ensures) (simp (to_z-of_z w128 c.args.b c.ranges.b, to_z-of_z w128 c.args.v c.ranges.v) at c.in_ok-product-2.ensures) (simp (read_back c.in_ok-product.field-0 c.in_ok-product.ensures.1, read_back c.in_ok-product-2.field-0 c.in_ok-product-2.ensures.1) at c.difference.ensures)
