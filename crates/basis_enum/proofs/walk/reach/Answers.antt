use Rattle.std.proofs.Common.{◌<◌, ◌≡◌, ◌≤◌, length, sym, subst, arith}
use Rattle.std.proofs.lemmas.Bool.Decides.{nat_tests}
use Rattle.std.proofs.lemmas.List.{nil_from_length}
use Rattle.std.proofs.lemmas.Result.{err_from_is_err_and}
use Rattle.basis_enum.specs.Levels.{most_bases}
use Rattle.basis_enum.specs.Next.{AreNewPivots}
use Rattle.basis_enum.proofs.WalkLemmas.{walk_early, walk_few}
use Rattle.basis_enum.proofs.walk.reach.Goals as goal

pub overflow_add-number : goal.overflow_add-number
overflow_add-number g c =
    let early : c.loop-walk.number < most_bases = walk_early c.args.system.now c.loop-walk.number c.loop-walk.walk c.loop-walk.invariant.walk in
    omega arith

pub loop-walk-smaller : goal.loop-walk-smaller
loop-walk-smaller g c =
    let early : c.loop-walk.number < most_bases = walk_early c.args.system.now c.loop-walk.number c.loop-walk.walk c.loop-walk.invariant.walk in
    omega arith

pub returns-clause-walk : goal.returns-clause-walk
returns-clause-walk g c =
    let w = c.loop-walk.walk in
    let test = c.loop-walk-test.ensures in
    let empty : length c.loop-walk.next.items ≡ 0 = grind (arith, nat_tests, c.loop-walk.next.ok.0) in
    record {
      number = c.loop-walk.number;
      walk = c.loop-walk.invariant.walk;
      none = subst (AreNewPivots w.level.items w.known.items) (nil_from_length c.loop-walk.next.items empty) c.loop-walk.invariant.next;
    }

pub returns-clause-bounded : goal.returns-clause-bounded
returns-clause-bounded g c =
    let few : length c.loop-walk.walk.known.items ≤ most_bases = walk_few c.args.system.now c.loop-walk.number c.loop-walk.walk c.loop-walk.invariant.walk in
    omega (arith, c.loop-walk.invariant.count)

pub loop-walk-init : goal.loop-walk-init
loop-walk-init g c = record {
  walk = c.in_ok-walk.ensures.walk;
  count = omega (arith, c.in_ok-walk.ensures.one);
  risen = omega arith;
  next = c.in_ok-walk.ensures.next;
}

pub loop-walk-preserved : goal.loop-walk-preserved
loop-walk-preserved g c =
    let is = c.loop-walk.invariant in
    let next = c.in_ok-next.ensures in
    record {
      walk = next.walk;
      count = omega (arith, next.counted, is.count);
      risen = omega (arith, next.risen, is.risen);
      next = next.next;
    }

pub advance-requires-clause-walk : goal.advance-requires-clause-walk
advance-requires-clause-walk g c = λ _ _. c.loop-walk.invariant.walk

pub advance-requires-clause-next : goal.advance-requires-clause-next
advance-requires-clause-next g c = λ _ _. subst (AreNewPivots c.loop-walk.walk.level.items c.loop-walk.walk.known.items) (sym c.as_slice.ensures.value) c.loop-walk.invariant.next

pub returns-in_err-next-clause-bounded : goal.returns-in_err-next-clause-bounded
returns-in_err-next-clause-bounded g c = omega (arith, c.advance.ensures.bounded, c.loop-walk.invariant.count)

pub returns-in_err-next-clause-stop : goal.returns-in_err-next-clause-stop
returns-in_err-next-clause-stop g c =
    let p = err_from_is_err_and c.from_residual-in_err-next.result c.from_residual-in_err-next.ensures.1 in
    rw (p.1, p.2) c.in_err-next.ensures.stop

pub returns-in_err-next-clause-risen : goal.returns-in_err-next-clause-risen
returns-in_err-next-clause-risen g c = omega (arith, c.advance.ensures.risen, c.loop-walk.invariant.risen)

pub returns-clause-counted : goal.returns-clause-counted
returns-clause-counted g c = c.loop-walk.invariant.count

pub returns-clause-risen : goal.returns-clause-risen
returns-clause-risen g c = c.loop-walk.invariant.risen

pub returns-in_err-walk-clause-stop : goal.returns-in_err-walk-clause-stop
returns-in_err-walk-clause-stop g c =
    let p = err_from_is_err_and c.from_residual.result c.from_residual.ensures.1 in
    rw (p.1, p.2) c.in_err-walk.ensures.stop
