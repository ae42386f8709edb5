use Rattle.std.proofs.Common.{arith, length, ap, ◌≡◌, ◌+◌, length-append, [], ◌∷◌}
use Rattle.claims.specs.ClaimWord.{PassState}
use Rattle.claims.proofs.PieceLemmas.{ArePiecesOf-past, ArePiecesOf-fewer}
use Rattle.claims.proofs.helping.worked.Goals as goal

pub returns-then-number-work-clause-of : goal.returns-then-number-work-clause-of
returns-then-number-work-clause-of g c =
    let list = ap (λ (s : PassState). s.claimed) c.claim-number.ensures.claimed in
    rw (list, c.in_ok-reserve.ensures.items) (ArePiecesOf-past g.F.Fn c.args.work.now.f.now c.args.work.now.count c.loop.pass.claimed c.loop.pieces.items c.claim-number.result c.if-number-work.true c.loop.invariant.are_of)

pub returns-then-number-work-clause-done : goal.returns-then-number-work-clause-done
returns-then-number-work-clause-done g c =
    let list = ap (λ (s : PassState). s.claimed) c.claim-number.ensures.claimed in
    let len : length c.claim-number.new.pass.claimed ≡ length c.loop.pass.claimed + 1 = rw list (length-append c.loop.pass.claimed (c.claim-number.result ∷ [])) in
    let fewer = ArePiecesOf-fewer g.F.Fn c.args.work.now.f.now c.args.work.now.count c.loop.pass.claimed c.loop.pieces.items c.loop.invariant.are_of in
    rw c.in_ok-reserve.ensures.items (omega (arith, len, fewer))
