use Rattle.std.proofs.Common.{◌≡◌, subst, arith}
use Rattle.lemke_pivot.specs.Parts.{plan_one}
use Rattle.lemke_pivot.proofs.PathStartLemmas.{read_value}
use Rattle.lemke_pivot.proofs.lcp.Solution.one.Goals as goal

pub returns : goal.returns
returns c = let e = c.self.invariant.3 in
    subst (λ p. c.value.result ≡ plan_one p c.args.sequence) c.self.view_is (read_value c.now.result.now c.self.inside.work _ _ c.value.result c.now.ensures.value (omega (arith, e)) c.value.ensures.value)
