use Rattle.std.proofs.Common.{◌<◌, ◌≡◌, true, None, get_or, set, refl, sym, ap, ◌∙◌, subst, arith, add-one}
use Rattle.std.proofs.lemmas.Option.{slice_get-get_or}
use Rattle.std.proofs.lemmas.Grind.{get_or_default_zero}
use Rattle.strategy_lists.specs.declared.decision.Decision.{Decision}
use Rattle.strategy_lists.specs.Ends.{ComesTo}
use Rattle.strategy_lists.proofs.WalkStepLemmas.{walk-passes, walk-branches, choice-within}
use Rattle.strategy_lists.proofs.walk.Walk.visit.Goals as goal
use Rattle.strategy_lists.proofs.walk.Walk.visit.Goals.{else-is_reached-via-then-is_reached+else-index-eq0, else-is_reached-via-else-is_reached}

-- a decision where there is none
abbrev none_there : Decision
none_there = record { place = 0; before = None }

pub returns-in_ok-push : goal.returns-in_ok-push
returns-in_ok-push c =
    let walk = c.args.self.now in
    let d = get_or walk.decisions.now c.args.number none_there in
    let at = slice_get-get_or walk.decisions.now c.args.number none_there c.requires.within in
    let read = get_or_default_zero walk.choices.items d.place c.index.result.now (choice-within walk c.args.number c.args.number d c.requires.at at) in
    subst (ComesTo walk c.args.number _) (sym (add-one c.args.number))
    (walk-branches walk _ c.args.number d c.requires.at at (sym (c.is_reached-is_reached.ensures d at) ∙ c.if-is_reached.true) (sym read ∙ sym c.index.ensures ∙ c.if-index-eq0.true)
    (record { decisions = refl; actions = refl }) (ap (set walk.reached.items c.args.number) c.if-is_reached.true) refl c.in_ok-push.ensures.items)

pub returns-else-is_reached : goal.returns-else-is_reached
returns-else-is_reached c =
    let walk = c.args.self.now in
    let d = get_or walk.decisions.now c.args.number none_there in
    let at = slice_get-get_or walk.decisions.now c.args.number none_there c.requires.within in
    let within = choice-within walk c.args.number c.args.number d c.requires.at at in
    let passed : c.is_reached-is_reached.result ≡ true → 0 < get_or walk.choices.items d.place 0 = λ h. elim c.else-is_reached.branch [
      | else-is_reached-via-then-is_reached+else-index-eq0 w ↦ omega (arith, w.if-index-eq0.false, w.index.ensures ∙ get_or_default_zero walk.choices.items d.place w.index.result.now within)
      | else-is_reached-via-else-is_reached w ↦ cc (h, w.if-is_reached.false)
    ] in
    subst (ComesTo walk c.args.number _) (sym (add-one c.args.number))
    (walk-passes walk _ c.args.number d c.is_reached-is_reached.result c.requires.at at (c.is_reached-is_reached.ensures d at) passed (record { decisions = refl; actions = refl }) refl refl refl)
