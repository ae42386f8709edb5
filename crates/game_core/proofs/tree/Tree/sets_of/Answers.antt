use Rattle.std.proofs.Common.{◌≡◌, ◌≤◌, ◌∙◌, ap, sym, arith, length}
use Rattle.std.proofs.lemmas.List.{length-map}
use Rattle.game_core.specs.OwnSets.{numbers_owned}
use Rattle.game_theory.proofs.IndexLemmas.{places_with-past}
use Rattle.game_core.proofs.PlayerSetLemmas.{own_list, owners_within}
use Rattle.game_core.proofs.tree.Tree.sets_of.Goals as goal

pub returns-in-Some : goal.returns-in-Some
returns-in-Some c =
    let found = rw c.deref.ensures.value at c.in-Some.ensures.lookup in
    let list_is : numbers_owned c.self.inside.sets.items c.args.player ≡ c.in-Some.list.now.items = own_list (λ v. v.items) c.self.inside.sets.items _ c.args.player c.self.inside.own.items c.in-Some.list.now c.self.invariant.1 found.3.0 found.1 in
    rw (← c.self.view_is) (c.as_slice.ensures.value ∙ sym list_is)

pub returns-in-None : goal.returns-in-None
returns-in-None c =
    let lists = rw length-map at c.self.invariant.1.one_for_each in
    let past : length c.self.inside.players.items ≤ c.args.player = omega (arith, c.in-None.ensures.lookup, ap length c.deref.ensures.value) in
    rw (← c.self.view_is) (sym (places_with-past (λ set. set.owner) c.self.inside.sets.items _ c.args.player (owners_within _ c.self.invariant.0) past))
