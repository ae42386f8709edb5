use Rattle.std.proofs.Common.{◌≡◌, ◌<◌, ◌*◌, ap, ap₂, sym, ◌∙◌, add-one, length, get_or, arith}
use Rattle.game_theory.specs.Profiles.{stride}
use Rattle.game_theory.proofs.ProfileNumberLemmas.{stride-next}
use Rattle.game_core.specs.Table.{strategy_counts}
use Rattle.game_core.proofs.StrideLemmas.{HaveStrategies-table, stride_next-at_most}
use Rattle.game_core.proofs.TableCountLemmas.{length-strategy_counts, profile_count-table}
use Rattle.game_core.proofs.table.Table.stride.Goals as goal
use Rattle.game_core.proofs.table.Table.stride.Goals.{After-strategy_count-stride}

-- the product is the next player's stride, and the player has a number of strategies
product : (c : After-strategy_count-stride) →
    let counts = strategy_counts c.args.self.now in
    (c.loop-earlier.stride * c.strategy_count-stride.result ≡ stride counts c.loop-earlier.earlier * get_or counts c.loop-earlier.earlier 0) × (c.loop-earlier.earlier < length counts)
product c =
    (ap₂ (λ x y. x * y) c.loop-earlier.invariant c.strategy_count-stride.ensures.count, omega (arith, length-strategy_counts c.args.self.now c.strategy_count-stride.ensures.valid, c.loop-earlier-test.true, c.requires))

pub overflow_mul-stride : goal.overflow_mul-stride
overflow_mul-stride c =
    let t = c.args.self.now in
    let valid = c.strategy_count-stride.ensures.valid in
    let next = product c in
    omega (arith, next.0, stride_next-at_most (strategy_counts t) c.loop-earlier.earlier next.1 (HaveStrategies-table t valid), profile_count-table t valid)

pub loop-earlier-preserved : goal.loop-earlier-preserved
loop-earlier-preserved c =
    let counts = strategy_counts c.args.self.now in
    let next = product (goal.at.loop-earlier-preserved c).After-strategy_count-stride in
    next.0 ∙ sym (stride-next counts c.loop-earlier.earlier next.1) ∙ ap (stride counts) (sym (add-one c.loop-earlier.earlier))
