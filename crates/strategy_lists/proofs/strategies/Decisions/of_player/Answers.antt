use Rattle.std.proofs.Common.{◌<◌, length, ap, arith}
use Rattle.std.proofs.lemmas.List.{length-map}
use Rattle.strategy_lists.proofs.PlayerDecisionLemmas.{list-at}
use Rattle.strategy_lists.proofs.strategies.Decisions.of_player.Goals as goal

pub returns : goal.returns
returns c =
    let inside : c.args.player < length c.self.inside.lists.items = omega (arith, length-map c.self.inside.lists.items (λ v. v.items), c.self.invariant.one_for_each, ap (λ t. length t.players) c.self.view_is, c.requires) in
    rw (← c.self.view_is, c.as_slice.ensures.value) (c.self.invariant.are_decisions c.args.player c.index.result.now.items (list-at (λ v. v.items) c.self.inside.lists.items c.args.player c.index.result.now inside c.index.ensures))
