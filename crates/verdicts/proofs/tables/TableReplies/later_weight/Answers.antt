use Rattle.std.proofs.Common.{ℕ, suc, ◌≡◌, ◌<◌, ◌+◌, ◌%◌, ◌/◌, ◌∷◌, ◌∙◌, List, Ok, Err, Result, length, get_or, drop, sym, ap, ap₂, subst, add-one, arith}
use Rattle.std.proofs.lemmas.List.{drop_all, get_or_read}
use Rattle.std.proofs.lemmas.Result.{err_from_is_err_and}
use Rattle.rational.specs.Rational.{ℚ, zero_ℚ}
use Rattle.frac128.specs.declared.steps.Unfit.{Unfit}
use Rattle.game_theory.specs.Profiles.{profile_at}
use Rattle.game_core.specs.Table.{most_payoffs, strategy_counts}
use Rattle.game_core.proofs.TableCountLemmas.{length-strategy_counts}
use Rattle.behaviour_profile.specs.EntryTests.{mixed_of}
use Rattle.verdicts.specs.TableReplies.{GiveFrom, mixed_at}
use Rattle.verdicts.proofs.TableOtherLemmas.{none-left, own-left, other-left, other-unfit, zero-left, strategies-left}
use Rattle.verdicts.proofs.TablePartLemmas.{strategies-few, player-within, some_strategy, entries-next, entries-within}
use Rattle.verdicts.proofs.tables.TableReplies.later_weight.Goals as goal
use Rattle.verdicts.proofs.tables.TableReplies.later_weight.Goals.{After-strategy_count-count, After-index-entries-first, then-other-self+in_ok-product+else-is_zero, else-other-self}

is_player : (c : After-strategy_count-count) → c.loop-other.other < length c.args.self.now.table.now.players
is_player c = omega (arith, c.loop-other-test.true, ap length c.players-other-end.ensures.players)

some : (c : After-strategy_count-count) → 0 < c.strategy_count-count.result
some c = omega (arith, some_strategy c.args.self.now.table.now c.strategy_count-count.ensures.valid c.loop-other.other (is_player c), c.strategy_count-count.ensures.count)

place : (c : After-strategy_count-count) → c.loop-other.first + c.loop-other.rest % c.strategy_count-count.result < length c.args.self.now.mixed.now
place c =
    let within = entries-within c.args.self.now.table.now c.strategy_count-count.ensures.valid c.loop-other.other (is_player c) in
    omega (arith, some c, within, c.loop-other.invariant.first, c.strategy_count-count.ensures.count, c.requires.replies.entries)

-- the strategies from this player on
here : (c : After-strategy_count-count) → profile_at (drop c.loop-other.other (strategy_counts c.args.self.now.table.now)) c.loop-other.rest
    ≡ (c.loop-other.rest % c.strategy_count-count.result) ∷ profile_at (drop (c.loop-other.other + 1) (strategy_counts c.args.self.now.table.now)) (c.loop-other.rest / c.strategy_count-count.result)
here c =
    strategies-left (strategy_counts c.args.self.now.table.now) c.loop-other.other c.loop-other.rest (player-within c.args.self.now.table.now c.strategy_count-count.ensures.valid c.loop-other.other (is_player c))
    ∙ ap₂ (λ n k. (c.loop-other.rest % n) ∷ profile_at (drop k (strategy_counts c.args.self.now.table.now)) (c.loop-other.rest / n)) (sym c.strategy_count-count.ensures.count) (sym (add-one c.loop-other.other))

few : (c : After-strategy_count-count) → c.loop-other.first + c.loop-other.rest % c.strategy_count-count.result < most_payoffs
few c = omega (arith, place c, strategies-few c.args.self.now.table.now c.strategy_count-count.ensures.valid, c.requires.replies.entries)

-- the entry that is read
entry : (c : After-index-entries-first) → c.loop-other.first + c.loop-other.rest % c.strategy_count-count.result < length c.args.self.now.mixed.now
    → c.index-entries-first.result ≡ mixed_at c.args.self.now c.loop-other.other (c.loop-other.rest % c.strategy_count-count.result)
entry c within =
    get_or_read c.args.self.now.mixed.now (c.loop-other.first + c.loop-other.rest % c.strategy_count-count.result) c.index-entries-first.result within
    (c.index-entries-first.is ∙ ap (λ v. get_or v (c.loop-other.first + c.loop-other.rest % c.strategy_count-count.result) c.index-entries-first.result) c.entries-entries.ensures) zero_ℚ
    ∙ ap (λ x. get_or c.args.self.now.mixed.now (x + c.loop-other.rest % c.strategy_count-count.result) zero_ℚ) c.loop-other.invariant.first

pub nonzero_rem-rest : goal.nonzero_rem-rest
nonzero_rem-rest c = some (goal.at.nonzero_rem-rest c).After-strategy_count-count

pub nonzero_div-rest : goal.nonzero_div-rest
nonzero_div-rest c = some (goal.at.nonzero_div-rest c).After-strategy_count-count

pub overflow_add-first : goal.overflow_add-first
overflow_add-first c = omega (arith, few (goal.at.overflow_add-first c).After-strategy_count-count)

pub offset_bounds-entries-first : goal.offset_bounds-entries-first
offset_bounds-entries-first c = omega (arith, few (goal.at.offset_bounds-entries-first c).After-strategy_count-count)

pub bounds-entries-first : goal.bounds-entries-first
bounds-entries-first c =
    omega (arith, place (goal.at.bounds-entries-first c).After-strategy_count-count, ap (λ (v : List ℚ). length v) c.entries-entries.ensures)

pub loop-other-init : goal.loop-other-init
loop-other-init c = record { first = c.requires.replies.deciders.end_next.first_is; left = λ r h. h }

pub returns-in_err-product : goal.returns-in_err-product
returns-in_err-product c =
    let a = (goal.at.returns-in_err-product c).After-strategy_count-count in
    let m = mixed_at c.args.self.now in
    let p = err_from_is_err_and c.from_residual.result c.from_residual.ensures.1 in
    rw (p.1, p.2) (c.loop-other.invariant.left (Err c.in_err-product.field-0.0)
    (subst (λ v. GiveFrom m c.args.self.now.player c.loop-other.other v c.loop-other.product (Err c.in_err-product.field-0.0)) (sym (here a))
    (other-unfit m c.args.self.now.player c.loop-other.other (c.loop-other.rest % c.strategy_count-count.result) _ c.loop-other.product c.index-entries-first.result c.in_err-product.field-0.0 c.if-other-self.true
    (entry (goal.at.returns-in_err-product c).After-index-entries-first (place a)) c.in_err-product.ensures.step c.in_err-product.ensures.unfit)))

pub returns-then-is_zero : goal.returns-then-is_zero
returns-then-is_zero c =
    let a = (goal.at.returns-then-is_zero c).After-strategy_count-count in
    let m = mixed_at c.args.self.now in
    let product = c.in_ok-product.product in
    c.loop-other.invariant.left (Ok product)
    (subst (λ v. GiveFrom m c.args.self.now.player c.loop-other.other v c.loop-other.product (Ok product)) (sym (here a))
    (other-left m c.args.self.now.player c.loop-other.other (c.loop-other.rest % c.strategy_count-count.result) _ c.loop-other.product c.index-entries-first.result product (Ok product) c.if-other-self.true
    (entry (goal.at.returns-then-is_zero c).After-index-entries-first (place a)) c.in_ok-product.ensures.fits c.in_ok-product.ensures.value
    (zero-left m c.args.self.now.player (suc c.loop-other.other) _ product (c.is_zero.ensures.0 c.if-is_zero.true))))

pub loop-other-preserved : goal.loop-other-preserved
loop-other-preserved c =
    let a = (goal.at.loop-other-preserved c).After-strategy_count-count in
    let m = mixed_at c.args.self.now in
    let j : ℕ = c.loop-other.other in
    let s : ℕ = c.loop-other.rest % c.strategy_count-count.result in
    let later : List ℕ = profile_at (drop (j + 1) (strategy_counts c.args.self.now.table.now)) (c.loop-other.rest / c.strategy_count-count.result) in
    let next = entries-next c.args.self.now.table.now c.strategy_count-count.ensures.valid j (is_player a) in
    let at_next = λ (product : ℚ) (r : Result ℚ Unfit) (h : GiveFrom m c.args.self.now.player (j + 1) later product r). subst (λ k. GiveFrom m c.args.self.now.player k later product r) (add-one j) h in
    record {
      first = omega (arith, next, c.loop-other.invariant.first, c.strategy_count-count.ensures.count);
      left = λ r h. c.loop-other.invariant.left r
          (subst (λ v. GiveFrom m c.args.self.now.player j v c.loop-other.product r) (sym (here a))
          (elim c.if-other-self.branch [
            | then-other-self+in_ok-product+else-is_zero w ↦
                other-left m c.args.self.now.player j s later c.loop-other.product w.index-entries-first.result w.in_ok-product.product r w.if-other-self.true
                (get_or_read c.args.self.now.mixed.now (c.loop-other.first + s) w.index-entries-first.result (place a)
                (w.index-entries-first.is ∙ ap (λ v. get_or v (c.loop-other.first + s) w.index-entries-first.result) c.entries-entries.ensures) zero_ℚ
                ∙ ap (λ x. get_or c.args.self.now.mixed.now (x + s) zero_ℚ) c.loop-other.invariant.first)
                w.in_ok-product.ensures.fits w.in_ok-product.ensures.value (subst (λ x. GiveFrom m c.args.self.now.player (suc j) later x r) w.product-is (at_next c.if-other-self.product r h))
            | else-other-self w ↦ own-left m c.args.self.now.player j s later c.loop-other.product r w.if-other-self.false (subst (λ x. GiveFrom m c.args.self.now.player (suc j) later x r) w.product-is (at_next c.if-other-self.product r h))
          ]));
    }

pub returns : goal.returns
returns c =
    let t = c.args.self.now.table.now in
    let m = mixed_of (strategy_counts t) c.args.self.now.mixed.now in
    let all = drop_all c.loop-other.other (strategy_counts t) (omega (arith, c.loop-other-test.false, length-strategy_counts t c.players-other-end.ensures.valid, ap length c.players-other-end.ensures.players)) in
    c.loop-other.invariant.left (Ok c.loop-other.product)
    (subst (λ v. GiveFrom m c.args.self.now.player c.loop-other.other (profile_at v c.loop-other.rest) c.loop-other.product (Ok c.loop-other.product)) (sym all) (none-left m c.args.self.now.player c.loop-other.other c.loop-other.product))
