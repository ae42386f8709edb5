use Rattle.std.proofs.Common.{sym, ap, ◌∙◌, inl, inr}
use Rattle.rational.specs.Gcd.{gcd as gcd_of}
use Rattle.frac128.proofs.QuotientLemmas.{gcd_same, one_shared, gcd-step, gcd-zero}
use Rattle.frac128.proofs.euclid.gcd.Goals as goal
use Rattle.frac128.proofs.euclid.gcd.Goals.{then-a-eq1-via-then-a-eq1, then-a-eq1-via-else-a-eq1+then-b-eq1}

pub returns-then-a-b : goal.returns-then-a-b
returns-then-a-b c = sym (gcd_same c.args.a) ∙ ap (gcd_of c.args.a) c.if-a-b.true

pub returns-then-a-eq1 : goal.returns-then-a-eq1
returns-then-a-eq1 c = one_shared c.args.a c.args.b (elim c.then-a-eq1.branch [ then-a-eq1-via-then-a-eq1 w ↦ inl w.if-a-eq1.true | then-a-eq1-via-else-a-eq1+then-b-eq1 w ↦ inr w.if-b-eq1.true ])

pub returns-then-y-eq0 : goal.returns-then-y-eq0
returns-then-y-eq0 c =
    sym (gcd-zero c.loop-x.x) ∙ ap (gcd_of c.loop-x.x) (sym c.if-y-eq0.true) ∙ c.loop-x.invariant

pub loop-x-preserved : goal.loop-x-preserved
loop-x-preserved c = sym (gcd-step c.loop-x.x c.loop-x.y) ∙ c.loop-x.invariant
