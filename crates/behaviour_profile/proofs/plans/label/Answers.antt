use Rattle.std.proofs.Common.{ℕ, ◌<◌, ◌≡◌, ◌∙◌, Some, List, sym, ap, length, get_or, map, slice_get, arith}
use Rattle.std.proofs.lemmas.List.{get_or-map}
use Rattle.game_theory.specs.OwnSets.{own_sets}
use Rattle.game_core.specs.Tree.{InformationSet, label_of}
use Rattle.game_core.specs.TreeGame.{game_of_tree}
use Rattle.behaviour_profile.proofs.BehaviourEntryLemmas.{own_set-below, own_set-read}
use Rattle.behaviour_profile.proofs.plans.label.Goals as goal

pub bounds-own-place : goal.bounds-own-place
bounds-own-place c = omega (arith, c.requires, ap length c.sets_of-own.ensures)

pub bounds-sets-set : goal.bounds-sets-set
bounds-sets-set c =
    let t = game_of_tree c.args.tree.now in
    let inside : c.args.place < length c.sets_of-own.result.now = omega (arith, c.requires, ap length c.sets_of-own.ensures) in
    let at = own_set-read t c.args.player c.args.place c.sets_of-own.result.now c.sets_of-own.ensures inside in
    omega (arith, own_set-below t c.args.player c.args.place _ at, ap (λ (v : List InformationSet). length v) c.sets.ensures.sets)

pub returns : goal.returns
returns c =
    let t = game_of_tree c.args.tree.now in
    let own = c.sets_of-own.result.now in
    let s = get_or own c.args.place 0 in
    let inside : c.args.place < length own = omega (arith, c.requires, ap length c.sets_of-own.ensures) in
    let at : slice_get (own_sets t c.args.player) c.args.place ≡ Some s = own_set-read t c.args.player c.args.place own c.sets_of-own.ensures inside in
    let below : s < length c.sets.result.now = omega (arith, own_set-below t c.args.player c.args.place s at, ap (λ (v : List InformationSet). length v) c.sets.ensures.sets) in
    c.label.ensures ∙ ap (λ (set : InformationSet). set.label) c.index-sets-set.is
    ∙ sym (get_or-map (λ (set : InformationSet). set.label) c.sets.result.now s c.index-sets-set.result 0 below)
    ∙ ap (λ (v : List InformationSet). get_or (map (λ set. set.label) v) s 0) c.sets.ensures.sets
    ∙ ap (λ (sets : List ℕ). label_of c.args.tree.now (get_or sets c.args.place 0)) c.sets_of-own.ensures
