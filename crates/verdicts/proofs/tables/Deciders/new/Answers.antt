use Rattle.std.proofs.Common.{rules, List, true, ◌≡◌, ◌<◌, ◌+◌, ◌∙◌, length, get_or, take, sym, ap, arith}
use Rattle.std.specs.Prelude.{sum}
use Rattle.std.proofs.Math.ListN.{length-set}
use Rattle.std.proofs.lemmas.List.{get_or_read}
use Rattle.rational.specs.Rational.{ℚ, one_ℚ, zero_ℚ}
use Rattle.rational.specs.Tests.{eq_ℚ}
use Rattle.rational.proofs.Decide.{eq_ℚ-decides}
use Rattle.game_core.specs.Table.{strategy_counts}
use Rattle.behaviour_profile.specs.EntryTests.{mixed_of}
use Rattle.verdicts.specs.TableReplies.{most_listed}
use Rattle.verdicts.proofs.TableDeciderLemmas.{decider-listed, decider-passed}
use Rattle.verdicts.proofs.TablePartLemmas.{entries-within, some_strategy}
use Rattle.verdicts.proofs.tables.Deciders.new.Goals as goal
use Rattle.verdicts.proofs.tables.Deciders.new.Goals.{After-strategy_count-strategies, then-strategies-gt1+else-count-eq-MOST_LISTED, else-strategies-gt1+else-ne}

is_player : (c : After-strategy_count-strategies) → c.loop-player.player < length c.args.table.now.players
is_player c = omega (arith, c.loop-player-test.true, ap length c.players-player-end.ensures.players)

some : (c : After-strategy_count-strategies) → 0 < c.strategy_count-strategies.result
some c = omega (arith, some_strategy c.args.table.now c.strategy_count-strategies.ensures.valid c.loop-player.player (is_player c), c.strategy_count-strategies.ensures.count)

place : (c : After-strategy_count-strategies) → c.loop-player.first < length c.args.mixed.now
place c =
    let within = entries-within c.args.table.now c.strategy_count-strategies.ensures.valid c.loop-player.player (is_player c) in
    omega (arith, some c, within, c.loop-player.invariant.listed.end_next.first_is, c.strategy_count-strategies.ensures.count, c.requires)

pub bounds-entries-first : goal.bounds-entries-first
bounds-entries-first c = omega (arith, place (goal.at.bounds-entries-first c).After-strategy_count-strategies, ap (λ (v : List ℚ). length v) c.entries-entries.ensures)

-- the entry that is read
entry : (c : After-strategy_count-strategies) (read : ℚ) → read ≡ get_or c.entries-entries.result.now c.loop-player.first read → read ≡ mixed_of (strategy_counts c.args.table.now) c.args.mixed.now c.loop-player.player 0
entry c read is =
    get_or_read c.args.mixed.now c.loop-player.first read (place c) (is ∙ ap (λ v. get_or v c.loop-player.first read) c.entries-entries.ensures) zero_ℚ
    ∙ ap (λ x. get_or c.args.mixed.now x zero_ℚ) (let e : c.loop-player.first ≡ sum (take c.loop-player.player (strategy_counts c.args.table.now)) + 0 = omega (arith, c.loop-player.invariant.listed.end_next.first_is) in e)

pub loop-player-preserved : goal.loop-player-preserved
loop-player-preserved c =
    let a = (goal.at.loop-player-preserved c).After-strategy_count-strategies in
    let so_far = c.loop-player.invariant.listed in
    let room = c.loop-player.invariant.room in
    let n = c.strategy_count-strategies.result in
    elim c.if-strategies-gt1.branch [
      | then-strategies-gt1+else-count-eq-MOST_LISTED w ↦
          let few : c.loop-player.count < most_listed = omega (arith, so_far.few, w.if-count-eq-MOST_LISTED.false) in
          rw (w.listed-is, w.count-is) (record {
            room = length-set c.loop-player.listed c.loop-player.count (record { player = c.loop-player.player; first = c.loop-player.first }) ∙ room;
            listed = decider-listed c.args.table.now a.strategy_count-strategies.ensures.valid c.args.mixed.now c.loop-player.listed c.loop-player.count c.loop-player.player c.loop-player.first (is_player a) so_far n a.strategy_count-strategies.ensures.count few (omega (arith, few, room));
          })
      | else-strategies-gt1+else-ne w ↦
          let sure : eq_ℚ w.index-entries-first.result one_ℚ ≡ true = search (rules, w.ne.ensures, w.if-ne.false, c.one-one.ensures) in
          rw (w.listed-is, w.count-is) (record {
            room = room;
            listed = decider-passed c.args.table.now a.strategy_count-strategies.ensures.valid c.args.mixed.now c.loop-player.listed c.loop-player.count c.loop-player.player c.loop-player.first (is_player a) so_far n a.strategy_count-strategies.ensures.count
                (omega (arith, some a, w.if-strategies-gt1.false)) (sym (entry a w.index-entries-first.result w.index-entries-first.is) ∙ (eq_ℚ-decides w.index-entries-first.result one_ℚ).0 sure);
          })
    ]
