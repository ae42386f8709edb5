use Rattle.std.proofs.Common.{◌∙◌, map, ap, sym, subst, length, get_or}
use Rattle.std.proofs.lemmas.Result.{IfOk-weaker}
use Rattle.game_core.specs.Tree.{IsBelow}
use Rattle.strategy_lists.proofs.OwnNumberLemmas.{owners-within, ArePlaces-owners}
use Rattle.strategy_lists.proofs.places.set_places.Goals as goal

pub places_among-requires-clause-within : goal.places_among-requires-clause-within
places_among-requires-clause-within c =
    let owners_are = c.as_slice.ensures.value ∙ c.in_ok-owners.ensures ∙ ap (map (λ set. set.owner)) c.sets.ensures.sets in
    let within = owners-within c.args.tree.now c.as_slice.result.now c.sets.ensures.valid owners_are in
    λ k d below. subst (λ n. IsBelow n (get_or c.as_slice.result.now k d)) (sym (ap length c.players.ensures.players)) (within k d below)

pub returns : goal.returns
returns c =
    let owners_are = c.as_slice.ensures.value ∙ c.in_ok-owners.ensures ∙ ap (map (λ set. set.owner)) c.sets.ensures.sets in
    IfOk-weaker c.places_among.result _ _ (λ places h. ArePlaces-owners c.args.tree.now c.as_slice.result.now places.items owners_are h) c.places_among.ensures
