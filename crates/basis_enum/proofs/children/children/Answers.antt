use Rattle.std.proofs.Common.{◌≡◌, ap, length, sym, subst, arith}
use Rattle.std.proofs.lemmas.Result.{err_from_is_err_and}
use Rattle.basis_enum.specs.Children.{AreChildren}
use Rattle.basis_enum.specs.Walks.{AddsVertices}
use Rattle.basis_enum.proofs.NextLevelLemmas.{made_start}
use Rattle.basis_enum.proofs.WalkLemmas.{vertices_start}
use Rattle.basis_enum.proofs.children.children.Goals as goal

pub loop-made-init : goal.loop-made-init
loop-made-init g c =
    let s = c.args.expansion.now.system.now in
    let vertices = c.args.vertices.now.items in
    let none = c.in_ok-with_capacity.ensures.items in
    record {
      made = made_start c.args.expansion.now _ none c.new.ensures.items;
      vertices = subst (λ l. AddsVertices s l vertices vertices) (sym none) (vertices_start s vertices);
      counted = omega (arith, ap length none);
    }

pub loop-made-preserved : goal.loop-made-preserved
loop-made-preserved g c =
    let is = c.loop-made.invariant in
    let more = c.in_ok-make_more.ensures in
    record { made = more.made; vertices = more.vertices _ is.vertices; counted = omega (arith, more.counted, is.counted) }

pub returns-clause-children : goal.returns-clause-children
returns-clause-children g c =
    let e = c.args.expansion.now in
    let made = c.loop-made.invariant.made.tableaux in
    let all : length c.loop-made.made.tableaux.items ≡ length e.next.now = omega (arith, made.within, c.loop-made-test.false, c.len.ensures, c.loop-made.made.tableaux.ok.0) in
    subst (λ n. AreChildren e.level.now e.next.now n c.loop-made.made.tableaux.items) all made

pub returns-clause-vertices : goal.returns-clause-vertices
returns-clause-vertices g c = c.loop-made.invariant.vertices

pub returns-in_err-make_more-clause-bounded : goal.returns-in_err-make_more-clause-bounded
returns-in_err-make_more-clause-bounded g c = omega (arith, c.make_more.ensures.bounded, c.loop-made.invariant.counted)

pub returns-in_err-make_more-clause-risen : goal.returns-in_err-make_more-clause-risen
returns-in_err-make_more-clause-risen g c = omega (arith, c.make_more.ensures.risen, c.loop-made.invariant.counted)

pub returns-in_err-make_more-clause-stop : goal.returns-in_err-make_more-clause-stop
returns-in_err-make_more-clause-stop g c =
    let p = err_from_is_err_and c.from_residual-in_err-make_more.result c.from_residual-in_err-make_more.ensures.1 in
    rw (p.1, p.2) c.in_err-make_more.ensures.stop

pub returns-clause-found : goal.returns-clause-found
returns-clause-found g c = c.loop-made.invariant.made.pivots_are

pub returns-clause-bounded : goal.returns-clause-bounded
returns-clause-bounded g c = omega (arith, c.loop-made.invariant.counted, c.loop-made.invariant.made.tableaux.within)

pub returns-clause-risen : goal.returns-clause-risen
returns-clause-risen g c = omega (arith, c.loop-made.invariant.counted)
