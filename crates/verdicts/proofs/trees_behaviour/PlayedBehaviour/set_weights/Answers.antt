use Rattle.std.proofs.Common.{◌<◌, ◌∙◌, ap, length, arith}
use Rattle.std.proofs.lemmas.List.{length-set}
use Rattle.std.proofs.lemmas.Result.{err_from_is_err_and}
use Rattle.verdicts.specs.TreeBehaviours.{game_of}
use Rattle.frac128.proofs.StepPartLemmas.{parts-more, part-refused}
use Rattle.verdicts.proofs.TreeWeightStepLemmas.{weights-more}
use Rattle.verdicts.proofs.trees_behaviour.PlayedBehaviour.set_weights.Goals as goal

pub returns-in_err-weight : goal.returns-in_err-weight
returns-in_err-weight c = λ b reads.
    let below : c.loop-node.node < (game_of c.args.self.now).size = omega (arith, ap length c.nodes-node-end.ensures.nodes) in
    let p = err_from_is_err_and c.from_residual.result c.from_residual.ensures.1 in
    let before = c.loop-node.invariant.1 b reads in
    rw (p.1, p.2) (part-refused _ c.loop-node.node _ _ below before.1 (c.in_err-weight.ensures b reads before.0))

pub loop-node-preserved : goal.loop-node-preserved
loop-node-preserved c =
    let below : c.loop-node.node < (game_of c.args.self.now).size = omega (arith, ap length c.nodes-node-end.ensures.nodes) in
    let inside : c.loop-node.node < length c.loop-node.weights = omega (arith, c.loop-node.invariant.0, c.requires.weights) in (
      length-set c.loop-node.weights c.loop-node.node c.in_ok-weight.weight ∙ c.loop-node.invariant.0,
      λ b reads.
          let before = c.loop-node.invariant.1 b reads in
          let more = c.in_ok-weight.ensures b reads before.0 in
          (weights-more (game_of c.args.self.now) b c.args.player c.loop-node.node c.loop-node.weights c.in_ok-weight.weight inside more.0 before.0, parts-more _ c.loop-node.node before.1 more.1),
    )
