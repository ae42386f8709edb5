use Rattle.std.proofs.Common.{ℕ, List, ◌≡◌, ◌<◌, ◌≤◌, ◌+◌, ◌*◌, ◌/◌, ◌∙◌, All, get_or, length, sym, ap, ap₂, subst, arith}
use Rattle.std.proofs.Math.Nat.{mul-le-mul_left}
use Rattle.std.proofs.lemmas.Result.{err_from_is_err_and}
use Rattle.rational.specs.Rational.{ℚ}
use Rattle.game_theory.specs.Profiles.{profile_count, stride}
use Rattle.game_core.specs.Table.{strategy_counts}
use Rattle.game_core.proofs.TableCountLemmas.{profile_count-table}
use Rattle.game_core.proofs.StrideLemmas.{HaveStrategies-table, stride-positive, stride_next-at_most}
use Rattle.frac128.specs.Steps.{IsFirstUnfit, StepFits}
use Rattle.verdicts.specs.TableReplies.{table_game_at, mixed_at}
use Rattle.verdicts.specs.TableChecks.{steps_at}
use Rattle.best_replies.specs.Strategies.{value_below}
use Rattle.verdicts.proofs.TableBlockLemmas.{IsRowEquivalent, start, at_first, block-within, block-played, next, block-unfit, done}
use Rattle.verdicts.proofs.TablePartLemmas.{player-within, profiles-are}
use Rattle.frac128.proofs.StepPartLemmas.{steps_of}
use Rattle.verdicts.proofs.tables.TableReplies.strategy_value.Goals as goal
use Rattle.verdicts.proofs.tables.TableReplies.strategy_value.Goals.{After-zero-value, In-loop-first}

is_player : (c : After-zero-value) → c.args.self.now.player < length (strategy_counts c.args.self.now.table.now)
is_player c = player-within c.args.self.now.table.now c.payoffs.ensures.valid c.args.self.now.player c.requires.replies.is_player

some : (c : After-zero-value) → 0 < stride (strategy_counts c.args.self.now.table.now) c.args.self.now.player
some c = stride-positive (strategy_counts c.args.self.now.table.now) c.args.self.now.player (HaveStrategies-table c.args.self.now.table.now c.payoffs.ensures.valid)

-- a block of profiles is no longer than all
block : (c : After-zero-value) → c.args.self.now.stride * get_or (strategy_counts c.args.self.now.table.now) c.args.self.now.player 0 ≤ profile_count (strategy_counts c.args.self.now.table.now)
block c =
    subst (λ d. d * get_or (strategy_counts c.args.self.now.table.now) c.args.self.now.player 0 ≤ profile_count (strategy_counts c.args.self.now.table.now)) (sym c.requires.replies.stride_is)
    (stride_next-at_most (strategy_counts c.args.self.now.table.now) c.args.self.now.player (is_player c) (HaveStrategies-table c.args.self.now.table.now c.payoffs.ensures.valid))

all : (c : After-zero-value) → length c.payoffs.result.now / length c.players.result.now ≡ profile_count (strategy_counts c.args.self.now.table.now)
all c =
    ap₂ (λ x y. x / y) (ap (λ (v : List ℚ). length v) c.payoffs.ensures.payoffs) (ap length c.players.ensures.players)
    ∙ profiles-are c.args.self.now.table.now c.payoffs.ensures.valid (omega (arith, c.requires.replies.is_player))

pub overflow_mul-first : goal.overflow_mul-first
overflow_mul-first c =
    let first = mul-le-mul_left c.args.self.now.stride c.requires.strategy in
    omega (arith, first, block c, profile_count-table c.args.self.now.table.now c.payoffs.ensures.valid)

pub loop-first-init : goal.loop-first-init
loop-first-init c = λ some player strategy.
    subst (λ v. IsRowEquivalent (table_game_at c.args.self.now) (mixed_at c.args.self.now) c.args.self.now.player c.args.strategy player strategy some v (c.args.strategy * c.args.self.now.stride)) (sym c.zero-value.ensures)
    (start (table_game_at c.args.self.now) (mixed_at c.args.self.now) c.args.self.now.player c.args.strategy player strategy some (c.args.strategy * c.args.self.now.stride) (ap (λ d. c.args.strategy * d) c.requires.replies.stride_is))

-- the blocks so far
reached : (c : In-loop-first) → (p : c.args.self.now.player < length (strategy_counts c.args.self.now.table.now)) (q : 0 < stride (strategy_counts c.args.self.now.table.now) c.args.self.now.player)
    → IsRowEquivalent (table_game_at c.args.self.now) (mixed_at c.args.self.now) c.args.self.now.player c.args.strategy p c.requires.strategy q c.loop-first.value c.loop-first.first
reached c p q = c.loop-first.invariant q p c.requires.strategy

is_next : (c : In-loop-first) → length c.payoffs.result.now / length c.players.result.now ≡ profile_count (strategy_counts c.args.self.now.table.now) → c.loop-first.first < profile_count (strategy_counts c.args.self.now.table.now)
is_next c e = omega (arith, c.loop-first-test.true, e)

within : (c : In-loop-first) → c.args.self.now.player < length (strategy_counts c.args.self.now.table.now) → 0 < stride (strategy_counts c.args.self.now.table.now) c.args.self.now.player → length c.payoffs.result.now / length c.players.result.now ≡ profile_count (strategy_counts c.args.self.now.table.now)
    → c.loop-first.first + c.args.self.now.stride ≤ profile_count (strategy_counts c.args.self.now.table.now)
within c p q e =
    subst (λ d. c.loop-first.first + d ≤ profile_count (strategy_counts c.args.self.now.table.now)) (sym c.requires.replies.stride_is)
    (block-within (table_game_at c.args.self.now) (mixed_at c.args.self.now) c.args.self.now.player c.args.strategy p c.requires.strategy q c.loop-first.value c.loop-first.first (reached c p q) (is_next c e))

pub add_profiles-requires-clause-profiles : goal.add_profiles-requires-clause-profiles
add_profiles-requires-clause-profiles c =
    let a = (goal.at.add_profiles-requires-clause-profiles c).After-zero-value in
    within (goal.at.add_profiles-requires-clause-profiles c).In-loop-first (is_player a) (some a) (all a)

pub add_profiles-requires-clause-played : goal.add_profiles-requires-clause-played
add_profiles-requires-clause-played c = λ k l b.
    let a = (goal.at.add_profiles-requires-clause-played c).After-zero-value in
    block-played (table_game_at c.args.self.now) (mixed_at c.args.self.now) c.args.self.now.player c.args.strategy (is_player a) c.requires.strategy (some a) c.loop-first.value c.loop-first.first
    (reached (goal.at.add_profiles-requires-clause-played c).In-loop-first (is_player a) (some a)) k l (omega (arith, b, c.requires.replies.stride_is))

pub add_profiles-requires-clause-so_far : goal.add_profiles-requires-clause-so_far
add_profiles-requires-clause-so_far c =
    let a = (goal.at.add_profiles-requires-clause-so_far c).After-zero-value in
    at_first (table_game_at c.args.self.now) (mixed_at c.args.self.now) c.args.self.now.player c.args.strategy (is_player a) c.requires.strategy (some a) c.loop-first.value c.loop-first.first
    (reached (goal.at.add_profiles-requires-clause-so_far c).In-loop-first (is_player a) (some a))

pub returns-in_err-value : goal.returns-in_err-value
returns-in_err-value c =
    let a = (goal.at.returns-in_err-value c).After-zero-value in
    let g = table_game_at c.args.self.now in
    let m = mixed_at c.args.self.now in
    let p = err_from_is_err_and c.from_residual.result c.from_residual.ensures.1 in
    rw (p.1, p.2) (block-unfit g m c.args.self.now.player c.args.strategy (is_player a) c.requires.strategy (some a) c.loop-first.value c.loop-first.first
    (reached (goal.at.returns-in_err-value c).In-loop-first (is_player a) (some a)) c.in_err-value.field-0.0 (is_next (goal.at.returns-in_err-value c).In-loop-first (all a))
    (subst (λ d. IsFirstUnfit (steps_of (steps_at g m c.args.self.now.player c.args.strategy) c.loop-first.first d) c.in_err-value.field-0.0) c.requires.replies.stride_is c.in_err-value.ensures))

length-block : (c : After-zero-value) → (n : ℕ) → n ≡ get_or (strategy_counts c.args.self.now.table.now) c.args.self.now.player 0 → c.args.self.now.stride * n ≤ profile_count (strategy_counts c.args.self.now.table.now)
length-block c n e = subst (λ x. c.args.self.now.stride * x ≤ profile_count (strategy_counts c.args.self.now.table.now)) (sym e) (block c)

pub overflow_mul-first-in-loop-first : goal.overflow_mul-first-in-loop-first
overflow_mul-first-in-loop-first c =
    let a = (goal.at.overflow_mul-first-in-loop-first c).After-zero-value in
    omega (arith, length-block a c.strategy_count.result c.strategy_count.ensures.count, profile_count-table c.args.self.now.table.now c.payoffs.ensures.valid)

pub overflow_add-first : goal.overflow_add-first
overflow_add-first c =
    let a = (goal.at.overflow_add-first c).After-zero-value in
    omega (arith, length-block a c.strategy_count.result c.strategy_count.ensures.count, is_next (goal.at.overflow_add-first c).In-loop-first (all a), profile_count-table c.args.self.now.table.now c.payoffs.ensures.valid)

pub loop-first-smaller : goal.loop-first-smaller
loop-first-smaller c =
    let a = (goal.at.loop-first-smaller c).After-zero-value in
    let positive : 1 ≤ c.strategy_count.result = omega (arith, c.strategy_count.ensures.count, c.requires.strategy) in
    let more = mul-le-mul_left c.args.self.now.stride positive in
    omega (arith, more, some a, c.requires.replies.stride_is, is_next (goal.at.loop-first-smaller c).In-loop-first (all a))

pub loop-first-preserved : goal.loop-first-preserved
loop-first-preserved c = λ some player strategy.
    let a = (goal.at.loop-first-preserved c).After-zero-value in
    let g = table_game_at c.args.self.now in
    let m = mixed_at c.args.self.now in
    let step : stride (strategy_counts c.args.self.now.table.now) c.args.self.now.player * get_or (strategy_counts c.args.self.now.table.now) c.args.self.now.player 0 ≡ c.args.self.now.stride * c.strategy_count.result = ap₂ (λ x y. x * y) (sym c.requires.replies.stride_is) (sym c.strategy_count.ensures.count) in
    subst (λ x. IsRowEquivalent g m c.args.self.now.player c.args.strategy player strategy some c.in_ok-value.value (c.loop-first.first + x)) step
    (next g m c.args.self.now.player c.args.strategy player strategy some c.loop-first.value c.loop-first.first (c.loop-first.invariant some player strategy) c.in_ok-value.value (is_next (goal.at.loop-first-preserved c).In-loop-first (all a))
    (subst (λ d. c.in_ok-value.value ≡ value_below g m c.args.self.now.player c.args.strategy (c.loop-first.first + d)) c.requires.replies.stride_is c.in_ok-value.ensures.0)
    (subst (λ d. All StepFits (steps_of (steps_at g m c.args.self.now.player c.args.strategy) c.loop-first.first d)) c.requires.replies.stride_is c.in_ok-value.ensures.1))

pub returns : goal.returns
returns c =
    let a = (goal.at.returns c).After-zero-value in
    done (table_game_at c.args.self.now) (mixed_at c.args.self.now) c.args.self.now.player c.args.strategy (is_player a) c.requires.strategy (some a) c.loop-first.value c.loop-first.first
    (c.loop-first.invariant (some a) (is_player a) c.requires.strategy) (omega (arith, c.loop-first-test.false, all a))
