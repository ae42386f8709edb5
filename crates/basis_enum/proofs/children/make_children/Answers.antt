use Rattle.std.proofs.Common.{◌<◌, ◌∙◌, ◌∷◌, [], ap, length, arith}
use Rattle.std.proofs.lemmas.List.{length-append}
use Rattle.std.proofs.lemmas.Result.{err_from_is_err_and}
use Rattle.basis_enum.proofs.NextLevelLemmas.{made_more, stop_made}
use Rattle.basis_enum.proofs.WalkLemmas.{adding_more}
use Rattle.basis_enum.proofs.children.make_children.Goals as goal

pub loop-place-preserved : goal.loop-place-preserved
loop-place-preserved g c =
    let n = c.loop-place.place in
    let old = c.loop-place.made in
    let r = c.in_ok-reached.reached in
    let is = c.loop-place.invariant in
    let added = c.in_ok-add_reached.ensures in
    let size = ap length added.tableaux ∙ length-append old.tableaux.items (r.tableau ∷ []) in
    record {
      at = omega (arith, size, is.at);
      made = made_more c.args.expansion.now old _ n r is.at (omega (arith, c.min-end.ensures)) added.tableaux added.found is.made c.in_ok-reached.ensures;
      vertices = adding_more c.args.expansion.now.system.now c.args.made.now.tableaux.items old.tableaux.items _ r.tableau c.args.vertices.now.items c.loop-place.vertices.items _ r.findings.vertex added.tableaux added.vertices is.vertices c.in_ok-reached.ensures.vertex;
      counted = omega (arith, c.tick.ensures, is.counted, size);
    }

pub returns-in_err-reached-clause-stop : goal.returns-in_err-reached-clause-stop
returns-in_err-reached-clause-stop g c =
    let p = err_from_is_err_and c.from_residual.result c.from_residual.ensures.1 in
    rw (p.1, p.2) (stop_made c.args.expansion.now c.loop-place.made c.loop-place.place c.in_err-reached.field-0.0 c.loop-place.invariant.at (omega (arith, c.min-end.ensures)) c.loop-place.invariant.made c.in_err-reached.ensures)

pub returns-in_err-reached-clause-bounded : goal.returns-in_err-reached-clause-bounded
returns-in_err-reached-clause-bounded g c = omega (arith, c.loop-place.invariant.counted, c.loop-place.invariant.made.tableaux.within)

pub returns-in_err-add_reached-clause-bounded : goal.returns-in_err-add_reached-clause-bounded
returns-in_err-add_reached-clause-bounded g c =
    let is = c.loop-place.invariant in
    let below : c.loop-place.place < length c.args.expansion.now.next.now = omega (arith, c.min-end.ensures) in
    omega (arith, c.tick.ensures, is.counted, is.at, below)

pub returns-clause-bounded : goal.returns-clause-bounded
returns-clause-bounded g c = omega (arith, c.loop-place.invariant.counted, c.loop-place.invariant.made.tableaux.within)
