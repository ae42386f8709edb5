use Rattle.std.proofs.Common.{◌+◌, ◌≡◌, sym, subst, arith}
use Rattle.std.proofs.lemmas.Nat.{mul-add-lt}
use Rattle.enumpure.specs.Replies.{IsColumnOf, PlaysBestReply}
use Rattle.enumpure_trees.specs.Games.{KeepsThose, PlaysBestAtAll, column_at}
use Rattle.enumpure_trees.proofs.KeptChoiceLemmas.{KeepsThose-all, KeepsThose-best, KeepsThose-then, all_below-next}
use Rattle.enumpure_trees.proofs.passing.keep_best_at_all.Goals as goal

pub loop-node-init : goal.loop-node-init
loop-node-init c games j h = KeepsThose-all (PlaysBestAtAll games 0 j) c.args.passing.now (λ n inside p node. absurd (omega (arith, node)))

pub overflow_add-column : goal.overflow_add-column
overflow_add-column c = omega (arith, mul-add-lt c.loop-node.node c.args.columns.players c.args.player c.args.columns.nodes (omega arith) c.requires.player, c.requires.fits)

pub keep_best_replies-requires : goal.keep_best_replies-requires
keep_best_replies-requires c =
    let k = c.loop-node.node in
    let games = c.requires.payoffs.0 in
    let j = c.requires.payoffs.1 in
    (games k, j, subst (λ m. IsColumnOf (games k) j (column_at c.args.columns k c.args.player) m c.args.stride c.args.strategies) (sym c.loop-node.auto.passing) (c.requires.payoffs.2 k (omega arith)))

pub loop-node-preserved : goal.loop-node-preserved
loop-node-preserved c games j h =
    let k = c.loop-node.node in
    let long = c.loop-node.auto.passing in
    let here = subst (λ m. IsColumnOf (games k) j (column_at c.args.columns k c.args.player) m c.args.stride c.args.strategies) (sym long) (h k (omega arith)) in
    let best = KeepsThose-best (games k) j _ _ here.of_each (c.keep_best_replies.ensures (games k) j here) in
    KeepsThose-then (PlaysBestAtAll games k j) (PlaysBestReply (games k) j) (PlaysBestAtAll games (k + 1) j) _ _ _ long (c.loop-node.invariant games j h) best (all_below-next (λ p. PlaysBestReply (games p) j) k)

pub returns : goal.returns
returns c games j h =
    let all : c.loop-node.node ≡ c.args.columns.nodes = omega (arith, c.loop-node-test.false) in
    subst (λ m. KeepsThose (PlaysBestAtAll games m j) c.args.passing.now c.loop-node.passing) all (c.loop-node.invariant games j h)
