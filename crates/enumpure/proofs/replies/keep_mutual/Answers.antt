use Rattle.std.proofs.Common.{◌≡◌, ◌<◌, ◌*◌, ◌∙◌, length, get_or, refl, sym, ap, ap₂, subst, add-one, arith}
use Rattle.game_theory.specs.Profiles.{stride}
use Rattle.game_theory.proofs.ProfileNumberLemmas.{stride-next}
use Rattle.game_core.specs.Table.{game_of, strategy_counts}
use Rattle.game_core.proofs.StrideLemmas.{HaveStrategies-table, stride_next-at_most}
use Rattle.game_core.proofs.TableCountLemmas.{length-strategy_counts, profile_count-table}
use Rattle.enumpure.proofs.KeptReplyLemmas.{AreBestRepliesBelow, AreBestRepliesBelow-none, AreBestRepliesBelow-next, AreMutualBestReplies-all}
use Rattle.enumpure.proofs.replies.keep_mutual.Goals as goal
use Rattle.enumpure.proofs.replies.keep_mutual.Goals.{After-strategy_count-stride}

-- the product is the next player's stride, and the player has a number of strategies
product : (c : After-strategy_count-stride) →
    let counts = strategy_counts c.args.table.now in
    (c.loop-player.stride * c.strategy_count-stride.result ≡ stride counts c.loop-player.player * get_or counts c.loop-player.player 0) × (c.loop-player.player < length counts)
product c =
    (ap₂ (λ x y. x * y) c.loop-player.invariant.1 c.strategy_count-stride.ensures.count, omega (arith, length-strategy_counts c.args.table.now c.strategy_count-stride.ensures.valid, c.loop-player-test.true, ap length c.players-player-end.ensures.players))

pub overflow_mul-stride : goal.overflow_mul-stride
overflow_mul-stride c =
    let t = c.args.table.now in
    let valid = c.strategy_count-stride.ensures.valid in
    let next = product (goal.at.overflow_mul-stride c).After-strategy_count-stride in
    omega (arith, next.0, stride_next-at_most (strategy_counts t) c.loop-player.player next.1 (HaveStrategies-table t valid), profile_count-table t valid)

pub loop-player-init : goal.loop-player-init
loop-player-init c = (
  AreBestRepliesBelow-none (game_of c.args.table.now) c.args.all_best.now c.requires.best_replies (λ k l. c.requires.all k (omega (arith, c.requires.best_replies))),
  refl,
)

pub loop-player-preserved : goal.loop-player-preserved
loop-player-preserved c =
    let counts = strategy_counts c.args.table.now in
    let next = product (goal.at.loop-player-preserved c).After-strategy_count-stride in (
      AreBestRepliesBelow-next (game_of c.args.table.now) c.loop-player.all_best c.keep_best_of_player.new.all_best c.loop-player.player (omega arith) c.loop-player.invariant.0 c.keep_best_of_player.ensures,
      next.0 ∙ sym (stride-next counts c.loop-player.player next.1) ∙ ap (stride counts) (sym (add-one c.loop-player.player)),
    )

pub returns : goal.returns
returns c =
    let t = c.args.table.now in
    let all : c.loop-player.player ≡ length (strategy_counts t) = omega (arith, length-strategy_counts t c.players-player-end.ensures.valid, ap length c.players-player-end.ensures.players) in
    AreMutualBestReplies-all (game_of t) c.loop-player.all_best (subst (AreBestRepliesBelow (game_of t) c.loop-player.all_best) all c.loop-player.invariant.0)
