use Rattle.std.proofs.Common.{inl, inr, refl, sym, subst}
use Rattle.basis_enum.specs.Children.{IsChildStop}
use Rattle.std.specs.List.{Contains}
use Rattle.lists.specs.Listed.{AreListed}
use Rattle.basis_enum.proofs.NextLevelLemmas.{unfit_pivot}
use Rattle.basis_enum.proofs.walk.refusal.Goals as goal

pub returns-in-Ok : goal.returns-in-Ok
returns-in-Ok c =
    let e = c.args.expansion.now in
    let stop = subst (IsChildStop e) c.in-Unfit.is c.requires.stop in
    let ascending = subst (AreListed (Contains c.basics.result.now)) (sym c.new.ensures) c.in-Ok.ensures in
    inr (unfit_pivot e c.args.number c.in-Unfit.place c.in-Unfit.unfit _ c.basics.result.now c.new.result c.requires.expandable.pivots_are c.requires.entering stop c.basics.ensures ascending)

pub returns-in-Err : goal.returns-in-Err
returns-in-Err c = inl refl

pub returns-in-Memory : goal.returns-in-Memory
returns-in-Memory c = inl refl
