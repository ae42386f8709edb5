use Rattle.std.proofs.Common.{mul-pos, inl, inr, arith, sym, ap₂, ◌∙◌, ◌*◌, ◌<◌, subst}
use Rattle.rational.specs.Rational.{frac}
use Rattle.rational.specs.Gcd.{gcd}
use Rattle.frac128.specs.Fraction.{with_sign}
use Rattle.frac128.proofs.ReductionLemmas.{common_pos, answer_at, none_at, zero_product}
use Rattle.frac128.proofs.ProductSizeLemmas.{crossed_positive, crossed_lowest, crossed_value, crossed_wide}
use Rattle.frac128.proofs.products.product_of.Goals as goal
use Rattle.frac128.proofs.products.product_of.Goals.{then-a-eq0-via-then-a-eq0, then-a-eq0-via-else-a-eq0+then-c-eq0}

pub divided-top_left-requires : goal.divided-top_left-requires
divided-top_left-requires c = common_pos c.args.a c.args.d c.gcd-g.result c.requires.right_positive c.gcd-g.ensures

pub divided-top_right-requires : goal.divided-top_right-requires
divided-top_right-requires c = common_pos c.args.c c.args.b c.gcd-h.result c.requires.left_positive c.gcd-h.ensures

pub divided-bottom_left-requires : goal.divided-bottom_left-requires
divided-bottom_left-requires c = common_pos c.args.c c.args.b c.gcd-h.result c.requires.left_positive c.gcd-h.ensures

pub divided-bottom_right-requires : goal.divided-bottom_right-requires
divided-bottom_right-requires c = common_pos c.args.a c.args.d c.gcd-g.result c.requires.right_positive c.gcd-g.ensures

pub returns-in_err-top : goal.returns-in_err-top
returns-in_err-top c = none_at c.from_residual.result (frac (with_sign c.args.negative (c.args.a * c.args.c)) (c.args.b * c.args.d)) c.from_residual.ensures (crossed_wide c.args.negative c.args.a c.args.b c.args.c c.args.d c.gcd-g.result c.gcd-h.result c.divided-top_left.result c.divided-top_right.result c.divided-bottom_left.result c.divided-bottom_right.result (record { left_positive = c.requires.left_positive; right_positive = c.requires.right_positive; left_lowest = c.requires.left_lowest; right_lowest = c.requires.right_lowest; left = c.gcd-g.ensures; right = c.gcd-h.ensures; top_left_is = c.divided-top_left.ensures; top_right_is = c.divided-top_right.ensures; bottom_left_is = c.divided-bottom_left.ensures; bottom_right_is = c.divided-bottom_right.ensures }) (inl (omega (arith, c.in_err-top.ensures))))

pub returns-in_err-bottom : goal.returns-in_err-bottom
returns-in_err-bottom c = none_at c.from_residual-in_err-bottom.result (frac (with_sign c.args.negative (c.args.a * c.args.c)) (c.args.b * c.args.d)) c.from_residual-in_err-bottom.ensures (crossed_wide c.args.negative c.args.a c.args.b c.args.c c.args.d c.gcd-g.result c.gcd-h.result c.divided-top_left.result c.divided-top_right.result c.divided-bottom_left.result c.divided-bottom_right.result (record { left_positive = c.requires.left_positive; right_positive = c.requires.right_positive; left_lowest = c.requires.left_lowest; right_lowest = c.requires.right_lowest; left = c.gcd-g.ensures; right = c.gcd-h.ensures; top_left_is = c.divided-top_left.ensures; top_right_is = c.divided-top_right.ensures; bottom_left_is = c.divided-bottom_left.ensures; bottom_right_is = c.divided-bottom_right.ensures }) (inr (omega (arith, c.in_err-bottom.ensures))))

pub from_sizes-requires-clause-positive : goal.from_sizes-requires-clause-positive
from_sizes-requires-clause-positive c = subst (λ n. 0 < n) (sym c.in_ok-bottom.ensures.1) (crossed_positive c.args.a c.args.b c.args.c c.args.d c.gcd-g.result c.gcd-h.result c.divided-top_left.result c.divided-top_right.result c.divided-bottom_left.result c.divided-bottom_right.result (record { left_positive = c.requires.left_positive; right_positive = c.requires.right_positive; left_lowest = c.requires.left_lowest; right_lowest = c.requires.right_lowest; left = c.gcd-g.ensures; right = c.gcd-h.ensures; top_left_is = c.divided-top_left.ensures; top_right_is = c.divided-top_right.ensures; bottom_left_is = c.divided-bottom_left.ensures; bottom_right_is = c.divided-bottom_right.ensures }))

pub from_sizes-requires-clause-lowest : goal.from_sizes-requires-clause-lowest
from_sizes-requires-clause-lowest c = ap₂ gcd c.in_ok-top.ensures.1 c.in_ok-bottom.ensures.1 ∙ crossed_lowest c.args.a c.args.b c.args.c c.args.d c.gcd-g.result c.gcd-h.result c.divided-top_left.result c.divided-top_right.result c.divided-bottom_left.result c.divided-bottom_right.result (record { left_positive = c.requires.left_positive; right_positive = c.requires.right_positive; left_lowest = c.requires.left_lowest; right_lowest = c.requires.right_lowest; left = c.gcd-g.ensures; right = c.gcd-h.ensures; top_left_is = c.divided-top_left.ensures; top_right_is = c.divided-top_right.ensures; bottom_left_is = c.divided-bottom_left.ensures; bottom_right_is = c.divided-bottom_right.ensures })

pub returns : goal.returns
returns c = answer_at c.from_sizes.result (frac (with_sign c.args.negative c.in_ok-top.top) c.in_ok-bottom.bottom) (frac (with_sign c.args.negative (c.args.a * c.args.c)) (c.args.b * c.args.d)) (ap₂ (λ x y. frac (with_sign c.args.negative x) y) c.in_ok-top.ensures.1 c.in_ok-bottom.ensures.1 ∙ crossed_value c.args.negative c.args.a c.args.b c.args.c c.args.d c.gcd-g.result c.gcd-h.result c.divided-top_left.result c.divided-top_right.result c.divided-bottom_left.result c.divided-bottom_right.result (record { left_positive = c.requires.left_positive; right_positive = c.requires.right_positive; left_lowest = c.requires.left_lowest; right_lowest = c.requires.right_lowest; left = c.gcd-g.ensures; right = c.gcd-h.ensures; top_left_is = c.divided-top_left.ensures; top_right_is = c.divided-top_right.ensures; bottom_left_is = c.divided-bottom_left.ensures; bottom_right_is = c.divided-bottom_right.ensures })) c.from_sizes.ensures

pub returns-then-a-eq0 : goal.returns-then-a-eq0
returns-then-a-eq0 c =
    zero_product c.args.negative c.args.a c.args.c (c.args.b * c.args.d) c.zero.result (mul-pos c.requires.left_positive c.requires.right_positive)
    (elim c.then-a-eq0.branch [ then-a-eq0-via-then-a-eq0 w ↦ inl w.if-a-eq0.true | then-a-eq0-via-else-a-eq0+then-c-eq0 w ↦ inr w.if-c-eq0.true ])
    c.zero.ensures
