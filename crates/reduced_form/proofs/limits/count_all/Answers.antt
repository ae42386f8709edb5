use Rattle.std.proofs.Common.{◌<◌, inr, Err, [], length, sym, ap, subst, arith}
use Rattle.game_core.specs.TreeGame.{game_of_tree}
use Rattle.answers.specs.Answers.{Gives}
use Rattle.reduced_form.specs.Counts.{counts_in}
use Rattle.reduced_form.specs.declared.stop.ReduceStop.TheVariants as stops
use Rattle.reduced_form.proofs.FormCountLemmas.{AreCounted-all, AreCountedSoFar-many, AreCountedSoFar-step, many-front}
use Rattle.reduced_form.proofs.limits.count_all.Goals as goal

pub returns-then-players-gt-MOST_PAYOFFS-clause-stop : goal.returns-then-players-gt-MOST_PAYOFFS-clause-stop
returns-then-players-gt-MOST_PAYOFFS-clause-stop c =
    let valid = c.trees_are_game_trees.ensures c.args.decisions.now (rw c.tree.ensures at c.players-players.ensures.valid) in
    let many = many-front (game_of_tree c.args.decisions.now) [] valid (λ i l. absurd (omega arith)) (omega arith) (omega (arith, ap length c.players-players.ensures.players, ap (λ t. length t.players) c.tree.ensures)) in
    subst (λ stop. Gives stops.Memory (counts_in (game_of_tree c.args.decisions.now)) (Err stop)) (sym c.too_many_payoffs.ensures) (inr many)

pub returns-then-count-most-clause-stop : goal.returns-then-count-most-clause-stop
returns-then-count-most-clause-stop c =
    let valid = c.trees_are_game_trees.ensures c.args.decisions.now (rw c.tree.ensures at c.players-players.ensures.valid) in
    let inside : c.loop-player.player < length c.args.decisions.now.players = omega (arith, ap length c.players-players.ensures.players, ap (λ t. length t.players) c.tree.ensures) in
    let h = c.in_ok-count.ensures {u = tt} in
    let many = AreCountedSoFar-many (game_of_tree c.args.decisions.now) c.loop-player.player c.loop-player.payoffs c.in_ok-count.count h.0 c.loop-player.counts.items valid c.loop-player.invariant inside h.1 h.2 c.if-count-most.true in
    subst (λ stop. Gives stops.Memory (counts_in (game_of_tree c.args.decisions.now)) (Err stop)) (sym c.too_many_payoffs-then-count-most.ensures) (inr many)

pub loop-player-preserved : goal.loop-player-preserved
loop-player-preserved c =
    let valid = c.trees_are_game_trees.ensures c.args.decisions.now (rw c.tree.ensures at c.players-players.ensures.valid) in
    let inside : c.loop-player.player < length c.args.decisions.now.players = omega (arith, ap length c.players-players.ensures.players, ap (λ t. length t.players) c.tree.ensures) in
    let h = c.in_ok-count.ensures {u = tt} in
    AreCountedSoFar-step (game_of_tree c.args.decisions.now) c.loop-player.player c.loop-player.payoffs c.in_ok-count.count h.0 c.loop-player.counts.items c.push.new.self.items valid c.loop-player.invariant inside (c.in_ok-push.ensures {u = tt}).items h.1 h.2 c.if-count-most.false

pub returns-clause-counted : goal.returns-clause-counted
returns-clause-counted c =
    let valid = c.trees_are_game_trees.ensures c.args.decisions.now (rw c.tree.ensures at c.players-players.ensures.valid) in
    AreCounted-all (game_of_tree c.args.decisions.now) c.loop-player.counts.items valid c.loop-player.invariant.are_counts (omega (arith, c.loop-player.invariant.one_for_each, ap length c.players-players.ensures.players, ap (λ t. length t.players) c.tree.ensures))
