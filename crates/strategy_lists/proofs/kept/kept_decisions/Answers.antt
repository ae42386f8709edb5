use Rattle.std.proofs.Common.{◌≡◌, ◌<◌, ◌++◌, [], ◌∷◌, None, false, length, get_or, ap, sym, ◌∙◌, subst, arith, add-one}
use Rattle.std.proofs.lemmas.List.{get_or_default}
use Rattle.std.proofs.lemmas.Option.{slice_get-get_or}
use Rattle.strategy_lists.specs.declared.decision.Decision.{Decision}
use Rattle.strategy_lists.specs.Reduced.{AreLinked}
use Rattle.strategy_lists.specs.LeftOut.{all_ends}
use Rattle.strategy_lists.proofs.LeftOutDecisionLemmas.{AreNumbered-kept, AreNumbered-left_out, AreNumbered-all, kept_below-all, edge-numbered, linked-kept, all_ends-kept}
use Rattle.strategy_lists.proofs.kept.kept_decisions.Goals as goal
use Rattle.strategy_lists.proofs.kept.kept_decisions.Goals.{then-index+in_ok-push-2, else-index}

-- a decision where there is none
abbrev none_there : Decision
none_there = record { place = 0; before = None }

pub overflow_cast-len : goal.overflow_cast-len
overflow_cast-len c = omega (arith, c.len.ensures, c.loop-number.invariant.as_many, kept_below-all c.in_ok-kept.kept.items c.loop-number.number, c.requires.few)

pub returns-clause-linked : goal.returns-clause-linked
returns-clause-linked c =
    let list = AreNumbered-all c.args.decisions.now c.in_ok-kept.kept.items c.loop-number.number c.loop-number.numbers.items c.loop-number.list.items (omega arith) c.loop-number.invariant in
    subst (λ v. AreLinked v c.args.actions.now) (sym list) (linked-kept c.args.decisions.now c.args.actions.now c.in_ok-kept.kept.items c.requires.linked c.in_ok-kept.ensures)

pub returns-clause-as_many : goal.returns-clause-as_many
returns-clause-as_many c =
    let list = AreNumbered-all c.args.decisions.now c.in_ok-kept.kept.items c.loop-number.number c.loop-number.numbers.items c.loop-number.list.items (omega arith) c.loop-number.invariant in
    ap (λ v. length (all_ends v c.args.actions.now)) list ∙ sym (all_ends-kept c.args.decisions.now c.args.actions.now c.in_ok-kept.kept.items c.requires.linked c.in_ok-kept.ensures)

pub loop-number-preserved : goal.loop-number-preserved
loop-number-preserved c =
    let kept = c.in_ok-kept.kept.items in
    let n = c.loop-number.number in
    let d = get_or c.args.decisions.now n none_there in
    let at = slice_get-get_or c.args.decisions.now n none_there c.loop-number-test.true in
    let inside : n < length kept = omega (arith, c.in_ok-kept.ensures.one_for_each, c.loop-number-test.true) in
    let count : c.len.result ≡ length c.loop-number.list.items = omega (arith, c.len.ensures) in
    let push : c.push.new.self.items ≡ c.loop-number.numbers.items ++ length c.loop-number.list.items ∷ [] = c.in_ok-push.ensures.items ∙ ap (λ v. c.loop-number.numbers.items ++ v ∷ []) count in
    let read = get_or_default kept n false c.index.result.now inside ∙ sym c.index.ensures in
    elim c.if-index.branch [
      | then-index+in_ok-push-2 w ↦ (
          let told = edge-numbered c.args.decisions.now c.args.actions.now kept n c.loop-number.numbers.items w.deref.result.now d c.requires.linked at c.loop-number.invariant.number_for_each c.loop-number.invariant.numbers_are c.len.result (w.deref.ensures.value ∙ c.in_ok-push.ensures.items) in
          rw (w.list-is, add-one) (AreNumbered-kept c.args.decisions.now kept n c.loop-number.numbers.items c.push.new.self.items c.loop-number.list.items w.push-then-index.new.self.items d w.renumbered.result c.loop-number.invariant at (read ∙ w.if-index.true) push w.in_ok-push-2.ensures.items (w.renumbered.ensures kept told.1)))
      | else-index w ↦ rw (w.list-is, add-one) (AreNumbered-left_out c.args.decisions.now kept n c.loop-number.numbers.items c.push.new.self.items c.loop-number.list.items d c.loop-number.invariant at (read ∙ w.if-index.false) push)
    ]
