use Rattle.std.proofs.Common.{◌+◌, ◌≡◌, true, length, get_or, min, refl, ap, ◌∙◌, arith}
use mathlib.Core.Bool.{beq}
use Rattle.std.proofs.lemmas.Result.{IfOk-weaker}
use Rattle.strategy_lists.proofs.WalkTurnLemmas.{walks_counted}
use Rattle.strategy_lists.specs.LeftOut.{all_ends}
use Rattle.strategy_lists.proofs.LeftOutDecisionLemmas.{AreApart-shared, fails_there}
use Rattle.strategy_lists.proofs.count.count_reduced.Goals as goal

pub returns-then-not-contains : goal.returns-then-not-contains
returns-then-not-contains c =
    IfOk-weaker c.count_apart.result _ _ (λ count h. walks_counted c.args.decisions.now c.args.actions.now count (c.args.most + 1) c.requires.linked h) c.count_apart.ensures

pub returns-then-decisions : goal.returns-then-decisions
returns-then-decisions c = c.count_ends.ensures.lists

pub count_apart-requires-clause-apart : goal.count_apart-requires-clause-apart
count_apart-requires-clause-apart c = AreApart-shared c.args.decisions.now (length c.args.actions.now) c.in_ok-shared.shared.items c.in_ok-shared.ensures (λ h.
    let here : get_or c.deref.result.now h.0 true ≡ true = ap (λ v. get_or v h.0 true) c.deref.ensures.value ∙ h.2 in
    let other = (c.if-not-contains.ensures {u = tt}).cases h.0 true (omega arith) (omega (arith, h.1, ap length c.deref.ensures.value)) in
    fails_there c.deref.result.now h.0 (λ y. beq y true) refl here other)

pub returns : goal.returns
returns c =
    IfOk-weaker c.count_ends-else-decisions.result _ _ (λ count h. walks_counted c.args.decisions.now c.args.actions.now count (c.args.most + 1) c.requires.linked (h ∙ ap (λ v. min (length (all_ends v c.args.actions.now)) (c.args.most + 1)) c.deref-else-decisions-2.ensures.value ∙ ap (λ v. min v (c.args.most + 1)) c.in_ok-kept.ensures.as_many)) c.count_ends-else-decisions.ensures.ends
