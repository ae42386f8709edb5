use Rattle.std.proofs.Common.{◌<◌, ◌≡◌, ◌*◌, ◌∙◌, suc, ap, ap₂, sym, length, add-one, below_more, arith}
use Rattle.game_theory.specs.Profiles.{stride}
use Rattle.game_theory.proofs.ProfileNumberLemmas.{stride-next}
use Rattle.game_core.specs.Table.{strategy_counts}
use Rattle.game_core.proofs.StrideLemmas.{HaveStrategies-table, stride-at_most}
use Rattle.game_core.proofs.TableCountLemmas.{length-strategy_counts, profile_count-table}
use Rattle.behaviour_profile.specs.EntryTests.{mixed_of}
use Rattle.behaviour_profile.proofs.TestedEntryLemmas.{entries-mixed_of}
use Rattle.verdicts.proofs.TablePartLemmas.{entries-next, entries-within, player-few, player-within, strategies-few}
use Rattle.verdicts.proofs.tables.check_table.Goals as goal
use Rattle.verdicts.proofs.tables.check_table.Goals.{After-strategy_count-count, In-loop-player}

is_player : (c : In-loop-player) → c.loop-player.player < length c.args.table.now.players
is_player c = omega (arith, c.loop-player-test.true, ap length c.players-player-end.ensures.players)

within : (c : In-loop-player) → c.loop-player.player < length (strategy_counts c.args.table.now)
within c = player-within c.args.table.now c.players-player-end.ensures.valid c.loop-player.player (is_player c)

pub overflow_cast-result : goal.overflow_cast-result
overflow_cast-result c =
    let l = is_player (goal.at.overflow_cast-result c).In-loop-player in
    omega (arith, player-few c.args.table.now c.players-player-end.ensures.valid c.loop-player.player l)

pub returns-in-Ok-Some : goal.returns-in-Ok-Some
returns-in-Ok-Some c = (
  mixed_of (strategy_counts c.args.table.now) c.args.mixed.now,
  sym (entries-mixed_of (strategy_counts c.args.table.now) c.args.mixed.now c.requires),
  record {
    is_player = within (goal.at.returns-in-Ok-Some c).In-loop-player;
    earlier = c.loop-player.invariant.passed;
    better = rw c.in-Ok-Some.field-0-is at c.in-Ok-Some.ensures.found;
  },
)

pub returns-in-Err : goal.returns-in-Err
returns-in-Err c = (
  mixed_of (strategy_counts c.args.table.now) c.args.mixed.now,
  sym (entries-mixed_of (strategy_counts c.args.table.now) c.args.mixed.now c.requires),
  record {
    player = c.loop-player.player;
    is_player = within (goal.at.returns-in-Err c).In-loop-player;
    earlier = c.loop-player.invariant.passed;
    first_unfit = c.in-Err.ensures.unfit;
  },
)

pub overflow_add-first : goal.overflow_add-first
overflow_add-first c =
    let t = c.args.table.now in
    let valid = c.strategy_count-count.ensures.valid in
    let within = entries-within t valid c.loop-player.player (is_player (goal.at.overflow_add-first c).In-loop-player) in
    omega (arith, within, strategies-few t valid, c.strategy_count-count.ensures.count, c.loop-player.invariant.first)

-- the next player's stride
next_stride : (c : After-strategy_count-count) → c.loop-player.stride * c.strategy_count-count.result ≡ stride (strategy_counts c.args.table.now) (suc c.loop-player.player)
next_stride c =
    let here = within (goal.at.overflow_add-first c).In-loop-player in
    ap₂ (λ x y. x * y) c.loop-player.invariant.stride c.strategy_count-count.ensures.count ∙ sym (stride-next (strategy_counts c.args.table.now) c.loop-player.player here)

pub overflow_mul-stride : goal.overflow_mul-stride
overflow_mul-stride c =
    let t = c.args.table.now in
    let valid = c.strategy_count-count.ensures.valid in
    omega (arith, next_stride (goal.at.overflow_mul-stride c).After-strategy_count-count, stride-at_most (strategy_counts t) (suc c.loop-player.player) (HaveStrategies-table t valid), profile_count-table t valid)

pub loop-player-preserved : goal.loop-player-preserved
loop-player-preserved c =
    let t = c.args.table.now in
    let valid = c.strategy_count-count.ensures.valid in
    let next = entries-next t valid c.loop-player.player (is_player (goal.at.loop-player-preserved c).In-loop-player) in
    record {
      passed = below_more _ _ c.loop-player.invariant.passed (rw c.in-Ok-None.field-0-is at c.in-Ok-None.ensures.found);
      first = omega (arith, next, c.strategy_count-count.ensures.count, c.loop-player.invariant.first);
      stride = next_stride (goal.at.loop-player-preserved c).After-strategy_count-count ∙ ap (stride (strategy_counts t)) (sym (add-one c.loop-player.player));
    }

pub returns : goal.returns
returns c = (
  mixed_of (strategy_counts c.args.table.now) c.args.mixed.now,
  sym (entries-mixed_of (strategy_counts c.args.table.now) c.args.mixed.now c.requires),
  λ i l. c.loop-player.invariant.passed i (omega (arith, l, c.loop-player-test.false, length-strategy_counts c.args.table.now c.players-player-end.ensures.valid, ap length c.players-player-end.ensures.players)),
)
