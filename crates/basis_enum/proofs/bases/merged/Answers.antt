use Rattle.std.proofs.Common.{rules, refl, sym, subst, ◌+◌}
use Rattle.basis_enum.proofs.MergedListLemmas.{AreMerged, merged_first, merged_second, merged_all}
use Rattle.basis_enum.proofs.bases.merged.Goals as goal

pub loop-first-preserved-then-takes_known : goal.loop-first-preserved-then-takes_known
loop-first-preserved-then-takes_known c =
    subst (AreMerged c.args.known.now c.args.new.now (c.loop-first.first + 1) c.loop-first.second) (sym c.in_ok-push.ensures.items)
    (merged_first c.args.known.now c.args.new.now c.loop-first.all.items c.loop-first.first c.loop-first.second _ c.requires.known c.requires.apart c.loop-first.invariant (c.takes_known.ensures.known c.if-takes_known.true) refl)

pub loop-first-preserved : goal.loop-first-preserved
loop-first-preserved c =
    subst (AreMerged c.args.known.now c.args.new.now c.loop-first.first (c.loop-first.second + 1)) (sym c.in_ok-push-2.ensures.items)
    (merged_second c.args.known.now c.args.new.now c.loop-first.all.items c.loop-first.first c.loop-first.second _ c.requires.new c.requires.apart c.loop-first.invariant (c.takes_known.ensures.new c.if-takes_known.false) refl)

pub returns : goal.returns
returns c = merged_all c.args.known.now c.args.new.now c.loop-first.all.items c.loop-first.first c.loop-first.second (search rules) (search rules) c.loop-first.invariant
