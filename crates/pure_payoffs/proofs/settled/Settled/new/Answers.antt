use Rattle.std.proofs.Common.{◌≡◌, ◌<◌, ◌∙◌, [], None, false, true, length, get_or, sym, ap, subst, arith}
use Rattle.game_core.specs.TreeGame.{game_of_tree}
use Rattle.pure_payoffs.specs.Settled.{IsPlace}
use Rattle.pure_payoffs.proofs.SettledPlaceLemmas.{free-place, places-pushed}
use Rattle.pure_payoffs.proofs.settled.Settled.new.Goals as goal
use Rattle.pure_payoffs.proofs.settled.Settled.new.Goals.{then-players-room+then-is_topmost+in_ok-of_players, else-players-room}

pub loop-node-preserved : goal.loop-node-preserved
loop-node-preserved c =
    let t = game_of_tree c.args.tree.now in
    let node = c.loop-node.node in
    let pushed = places-pushed (λ v. v.items) t node c.loop-node.places.items c.loop-node.invariant c.if-players-room.of_players in
    let inside : node < t.size = omega (arith, ap length c.nodes-node-end.ensures.nodes) in
    rw c.in_ok-push.ensures.items (elim c.if-players-room.branch [
      | then-players-room+then-is_topmost+in_ok-of_players w ↦
          let is_idle : get_or c.in_ok-idle.idle.items node false ≡ true = ap (λ xs. get_or xs node false) (sym w.deref.ensures.value) ∙ w.is_topmost.ensures w.if-is_topmost.true in
          let settled = c.in_ok-idle.ensures.settled node inside is_idle in
          let same = ap (λ v. v.items) w.of_players-is in
          pushed (λ i l. subst (λ xs. IsPlace t node i (get_or xs i None)) (sym same) (free-place t node i w.in_ok-of_players.of_players.items settled w.in_ok-of_players.ensures (subst (λ xs. i < length xs) same l)))
      | else-players-room w ↦ pushed (λ i l. let none : c.if-players-room.of_players.items ≡ [] = ap (λ v. v.items) w.of_players-is ∙ c.new-of_players.ensures.items in absurd (omega (arith, ap length none)))
    ])
