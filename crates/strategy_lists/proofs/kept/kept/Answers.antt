use Rattle.std.proofs.Common.{suc, ◌-◌, ◌<◌, ◌≡◌, false, None, length, get_or, sym, ◌∙◌, subst, arith}
use Rattle.std.proofs.lemmas.List.{get_or_default}
use Rattle.std.proofs.lemmas.Option.{slice_get-get_or}
use Rattle.strategy_lists.specs.declared.decision.Decision.{Decision}
use Rattle.strategy_lists.proofs.LeftOutDecisionLemmas.{IsEnoughFrom, IsEnoughFrom-kept, IsEnoughFrom-left_out}
use Rattle.strategy_lists.proofs.kept.kept.Goals as goal

-- a decision where there is none
abbrev none_there : Decision
none_there = record { place = 0; before = None }

pub loop-left-preserved-in-loop-left : goal.loop-left-preserved-in-loop-left
loop-left-preserved-in-loop-left c =
    let m = c.loop-left.left - 1 in
    let next : c.loop-left.left ≡ suc m = omega arith in
    let within : m < length c.args.decisions.now = omega (arith, c.loop-left.invariant.0) in
    let at = slice_get-get_or c.args.decisions.now m none_there within in
    let h = subst (λ v. IsEnoughFrom c.args.decisions.now c.args.actions.now v c.loop-left.kept.items) next c.loop-left.invariant.1 in
    (omega (arith, within), subst (IsEnoughFrom c.args.decisions.now c.args.actions.now m) (sym c.mark.ensures) (IsEnoughFrom-kept c.args.decisions.now c.args.actions.now c.requires.linked c.args.shared.now c.requires.shared m c.loop-left.kept.items (get_or c.args.decisions.now m none_there) at h))

pub loop-left-preserved : goal.loop-left-preserved
loop-left-preserved c =
    let m = c.loop-left.left - 1 in
    let next : c.loop-left.left ≡ suc m = omega arith in
    let within : m < length c.args.decisions.now = omega (arith, c.loop-left.invariant.0) in
    let at = slice_get-get_or c.args.decisions.now m none_there within in
    let h = subst (λ v. IsEnoughFrom c.args.decisions.now c.args.actions.now v c.loop-left.kept.items) next c.loop-left.invariant.1 in
    let out = get_or_default c.loop-left.kept.items m false c.index.result.now (omega (arith, within, h.one_for_each)) ∙ sym c.index.ensures ∙ c.if-index.false in
    (omega (arith, within), IsEnoughFrom-left_out c.args.decisions.now c.args.actions.now c.requires.linked c.args.shared.now c.requires.shared m c.loop-left.kept.items (get_or c.args.decisions.now m none_there) at h out c.if-actions-place-gt1.false c.if-shared-place.false)
