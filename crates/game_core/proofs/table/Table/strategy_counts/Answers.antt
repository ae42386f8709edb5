use Rattle.std.proofs.Common.{◌<◌, ◌≤◌, ◌≡◌, ◌++◌, ◌∷◌, [], length, take, sym, ap, ap₂, ◌∙◌, arith}
use Rattle.std.proofs.lemmas.List.{take_more, take_all}
use Rattle.game_core.proofs.TableCountLemmas.{length-strategy_counts}
use Rattle.game_core.specs.Table.{strategy_counts}
use Rattle.game_core.proofs.table.Table.strategy_counts.Goals as goal

pub loop-player-preserved : goal.loop-player-preserved
loop-player-preserved c =
    let t = c.args.self.now in
    let player : c.loop-player.player < length (strategy_counts t) = omega (arith, length-strategy_counts t c.players-player-end.ensures.valid, ap length c.players-player-end.ensures.players) in
    let was : c.loop-player.counts.items ≡ take c.loop-player.player (strategy_counts t) = c.loop-player.invariant in
    c.in_ok-push.ensures.items ∙ ap₂ (λ x y. x ++ y ∷ []) was c.strategy_count.ensures.count ∙ sym (take_more (strategy_counts t) c.loop-player.player 0 player)

pub returns : goal.returns
returns c =
    let t = c.args.self.now in
    let all : length (strategy_counts t) ≤ c.loop-player.player = omega (arith, length-strategy_counts t c.players-player-end.ensures.valid, ap length c.players-player-end.ensures.players) in
    let is : c.loop-player.counts.items ≡ take c.loop-player.player (strategy_counts t) = c.loop-player.invariant in
    record { counts = is ∙ take_all c.loop-player.player (strategy_counts t) all; valid = c.players-player-end.ensures.valid }
