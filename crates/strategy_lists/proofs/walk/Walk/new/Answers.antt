use Rattle.std.proofs.Common.{refl, length, ap, ◌∙◌, false}
use Rattle.std.proofs.lemmas.List.{length-replicate}
use Rattle.strategy_lists.proofs.WalkStepLemmas.{walk-starts}
use Rattle.strategy_lists.proofs.walk.Walk.new.Goals as goal

pub returns : goal.returns
returns c =
    walk-starts c.args.decisions.now c.args.actions.now _ c.requires.linked refl refl (c.in_ok-vec.ensures.items_if_clones_equal (λ y h. h))
    (ap length (c.in_ok-vec-2.ensures.items_if_clones_equal (λ y h. h)) ∙ length-replicate (length c.args.decisions.now) false) c.new.ensures.items
