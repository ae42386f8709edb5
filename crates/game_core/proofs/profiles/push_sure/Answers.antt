use Rattle.std.proofs.Common.{◌≡◌, sym, ap, ◌∙◌}
use Rattle.game_theory.proofs.EntryLemmas.{listed-push}
use Rattle.game_theory.specs.Mixed.{sure}
use Rattle.game_theory.proofs.SureStrategyLemmas.{sure-at, sure-other}
use Rattle.game_core.proofs.profiles.push_sure.Goals as goal
use Rattle.game_core.proofs.profiles.push_sure.Goals.{then-place-chosen, else-place-chosen}

pub loop-place-preserved : goal.loop-place-preserved
loop-place-preserved c =
    let is : c.if-place-chosen.entry ≡ sure c.args.chosen c.loop-place.place = elim c.if-place-chosen.branch [
      | then-place-chosen w ↦ w.entry-is ∙ w.one-entry.ensures ∙ sym (sure-at c.args.chosen) ∙ ap (sure c.args.chosen) (sym w.if-place-chosen.true)
      | else-place-chosen w ↦ w.entry-is ∙ w.zero-entry.ensures ∙ sym (sure-other c.args.chosen c.loop-place.place w.if-place-chosen.false)
    ] in
    listed-push _ c.loop-place.entries.items c.args.entries.now.items c.loop-place.place (sure c.args.chosen) c.if-place-chosen.entry c.loop-place.invariant (c.in_ok-push.ensures.items) is
