use Rattle.std.proofs.Common.{◌∙◌}
use Rattle.ne_printer.proofs.FractionLemmas.{uncut_fraction, cut_fraction, one_number}
use Rattle.ne_printer.proofs.reading.fraction_in.Goals as goal

pub returns-in_err-number : goal.returns-in_err-number
returns-in_err-number c =
    rw c.from_residual.ensures (λ q f.
    let g = uncut_fraction c.args.text.now q c.in_default.ensures f in
    c.in_err-number.ensures g.0 g.1)

pub returns-in_err-num : goal.returns-in_err-num
returns-in_err-num c =
    rw c.from_residual-in_err-num.ensures (λ q f.
    let g = cut_fraction c.args.text.now _ _ q c.in-Some.ensures.0 c.in-Some.ensures.1 f in
    c.in_err-num.ensures g.num g.top_is)

pub returns-in_err-den : goal.returns-in_err-den
returns-in_err-den c =
    rw c.from_residual-in_err-den.ensures (λ q f.
    let g = cut_fraction c.args.text.now _ _ q c.in-Some.ensures.0 c.in-Some.ensures.1 f in
    c.in_err-den.ensures g.den g.bottom_is)

pub returns-then-den-eq0 : goal.returns-then-den-eq0
returns-then-den-eq0 c q f =
    let g = cut_fraction c.args.text.now _ _ q c.in-Some.ensures.0 c.in-Some.ensures.1 f in
    g.not_zero (one_number _ _ _ g.bottom_is c.in_ok-den.ensures ∙ c.if-den-eq0.true)
