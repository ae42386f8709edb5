use Rattle.std.proofs.Common.{ℕ, suc, ◌≡◌, ◌<◌, ◌+◌, ◌%◌, ◌/◌, ◌∷◌, ◌∙◌, List, Ok, Err, Result, length, get_or, drop, sym, ap, subst, add-one, arith}
use Rattle.std.proofs.lemmas.List.{get_or_read}
use Rattle.std.proofs.lemmas.Result.{err_from_is_err_and}
use Rattle.rational.specs.Rational.{ℚ, zero_ℚ}
use Rattle.frac128.specs.Fraction.{Fits}
use Rattle.frac128.specs.declared.steps.Unfit.{Unfit}
use Rattle.game_theory.specs.Profiles.{profile_at}
use Rattle.game_core.specs.Table.{most_payoffs, strategy_counts}
use Rattle.verdicts.specs.TableReplies.{GiveFrom, IsNextDecider, decider_at, mixed_at, player_after}
use Rattle.verdicts.specs.declared.tables.Decider.{Decider}
use Rattle.verdicts.proofs.TableOtherLemmas.{all-left, one-within, own-left, other-left, other-unfit, passed-over, zero-left, strategies-left}
use Rattle.verdicts.proofs.TablePartLemmas.{strategies-few, player-within, some_strategy, entries-within}
use Rattle.verdicts.proofs.tables.TableReplies.others_weight.Goals as goal
use Rattle.verdicts.proofs.tables.TableReplies.others_weight.Goals.{After-strategy_count-count, then-decider-self+in_ok-product+else-is_zero, else-decider-self}

module _ (c : After-strategy_count-count) where
  abbrev counts : List ℕ
  counts = strategy_counts c.args.self.now.table.now

  -- the decider at this place
  abbrev decider : Decider
  decider = decider_at c.args.self.now.deciders.now.listed c.loop-place.place

  -- the player after the decider before
  abbrev before : ℕ
  before = player_after c.args.self.now.deciders.now.listed c.loop-place.place

  is_player : decider.player < length c.args.self.now.table.now.players
  is_player = c.requires.replies.deciders.are_players c.loop-place.place c.loop-place-test.true

  next : IsNextDecider counts (mixed_at c.args.self.now) before decider
  next = c.requires.replies.deciders.each c.loop-place.place c.loop-place-test.true

  some : 0 < c.strategy_count-count.result
  some = omega (arith, some_strategy c.args.self.now.table.now c.strategy_count-count.ensures.valid decider.player is_player, c.strategy_count-count.ensures.count)

  place : decider.first + c.loop-place.rest % c.strategy_count-count.result < length c.args.self.now.mixed.now
  place =
      let within = entries-within c.args.self.now.table.now c.strategy_count-count.ensures.valid decider.player is_player in
      omega (arith, some, within, next.first_is, c.strategy_count-count.ensures.count, c.requires.replies.entries)

  few : decider.first + c.loop-place.rest % c.strategy_count-count.result < most_payoffs
  few = omega (arith, place, strategies-few c.args.self.now.table.now c.strategy_count-count.ensures.valid, c.requires.replies.entries)

  -- what the decider plays, and the players after
  abbrev strategy : ℕ
  strategy = c.loop-place.rest % c.strategy_count-count.result

  abbrev later : List ℕ
  later = profile_at (drop (suc decider.player) counts) (c.loop-place.rest / c.strategy_count-count.result)

  -- the players before the decider are passed over
  reached : (r : Result ℚ Unfit) → GiveFrom (mixed_at c.args.self.now) c.args.self.now.player decider.player (strategy ∷ later) c.loop-place.product r
      → GiveFrom (mixed_at c.args.self.now) c.args.self.now.player before (profile_at (drop before counts) c.loop-place.rest) c.loop-place.product r
  reached r h =
      let within = player-within c.args.self.now.table.now c.strategy_count-count.ensures.valid decider.player is_player in
      passed-over (mixed_at c.args.self.now) c.args.self.now.player counts before decider.player c.loop-place.rest c.loop-place.product r next.in_order (omega (arith, within)) next.between c.loop-place.invariant.fits
      (subst (λ v. GiveFrom (mixed_at c.args.self.now) c.args.self.now.player decider.player v c.loop-place.product r)
      (sym (strategies-left counts decider.player c.loop-place.rest within ∙ ap (λ n. (c.loop-place.rest % n) ∷ profile_at (drop (suc decider.player) counts) (c.loop-place.rest / n)) (sym c.strategy_count-count.ensures.count))) h)

  -- the entry that is read
  entry : (read : ℚ) → read ≡ get_or c.entries-entries.result.now (decider.first + strategy) read → read ≡ mixed_at c.args.self.now decider.player strategy
  entry read is =
      get_or_read c.args.self.now.mixed.now (decider.first + strategy) read place (is ∙ ap (λ v. get_or v (decider.first + strategy) read) c.entries-entries.ensures) zero_ℚ
      ∙ ap (λ x. get_or c.args.self.now.mixed.now (x + strategy) zero_ℚ) next.first_is

pub nonzero_rem-rest : goal.nonzero_rem-rest
nonzero_rem-rest c = some (goal.at.nonzero_rem-rest c).After-strategy_count-count

pub nonzero_div-rest : goal.nonzero_div-rest
nonzero_div-rest c = some (goal.at.nonzero_div-rest c).After-strategy_count-count

pub overflow_add-decider : goal.overflow_add-decider
overflow_add-decider c = omega (arith, few (goal.at.overflow_add-decider c).After-strategy_count-count)

pub offset_bounds-entries-decider : goal.offset_bounds-entries-decider
offset_bounds-entries-decider c = omega (arith, few (goal.at.offset_bounds-entries-decider c).After-strategy_count-count)

pub bounds-entries-decider : goal.bounds-entries-decider
bounds-entries-decider c =
    omega (arith, place (goal.at.bounds-entries-decider c).After-strategy_count-count, ap (λ (v : List ℚ). length v) c.entries-entries.ensures)

pub loop-place-init : goal.loop-place-init
loop-place-init c =
    record {
      fits = subst Fits (sym c.one-product.ensures) one-within;
      left = λ r h. all-left (mixed_at c.args.self.now) c.args.self.now.player (profile_at (strategy_counts c.args.self.now.table.now) c.args.profile) r
          (subst (λ x. GiveFrom (mixed_at c.args.self.now) c.args.self.now.player 0 (profile_at (strategy_counts c.args.self.now.table.now) c.args.profile) x r) c.one-product.ensures h);
    }

pub returns-in_err-product : goal.returns-in_err-product
returns-in_err-product c =
    let a = (goal.at.returns-in_err-product c).After-strategy_count-count in
    let p = err_from_is_err_and c.from_residual.result c.from_residual.ensures.1 in
    rw (p.1, p.2) (c.loop-place.invariant.left (Err c.in_err-product.field-0.0)
    (reached a (Err c.in_err-product.field-0.0)
    (other-unfit (mixed_at c.args.self.now) c.args.self.now.player (decider a).player (strategy a) (later a) c.loop-place.product c.index-entries-decider.result c.in_err-product.field-0.0 c.if-decider-self.true
    (entry a c.index-entries-decider.result c.index-entries-decider.is) c.in_err-product.ensures.step c.in_err-product.ensures.unfit)))

pub returns-then-is_zero : goal.returns-then-is_zero
returns-then-is_zero c =
    let a = (goal.at.returns-then-is_zero c).After-strategy_count-count in
    let product = c.in_ok-product.product in
    c.loop-place.invariant.left (Ok product)
    (reached a (Ok product)
    (other-left (mixed_at c.args.self.now) c.args.self.now.player (decider a).player (strategy a) (later a) c.loop-place.product c.index-entries-decider.result product (Ok product) c.if-decider-self.true
    (entry a c.index-entries-decider.result c.index-entries-decider.is) c.in_ok-product.ensures.fits c.in_ok-product.ensures.value
    (zero-left (mixed_at c.args.self.now) c.args.self.now.player (suc (decider a).player) (later a) product (c.is_zero.ensures.0 c.if-is_zero.true))))

pub loop-place-preserved : goal.loop-place-preserved
loop-place-preserved c =
    let a = (goal.at.loop-place-preserved c).After-strategy_count-count in
    let m = mixed_at c.args.self.now in
    let i = c.args.self.now.player in
    let after = λ (product : ℚ) (r : Result ℚ Unfit) (h : GiveFrom m i (player_after c.args.self.now.deciders.now.listed (c.loop-place.place + 1)) (profile_at (drop (player_after c.args.self.now.deciders.now.listed (c.loop-place.place + 1)) (counts a)) (c.loop-place.rest / c.strategy_count-count.result)) product r).
    subst (λ n. GiveFrom m i (player_after c.args.self.now.deciders.now.listed n) (profile_at (drop (player_after c.args.self.now.deciders.now.listed n) (counts a)) (c.loop-place.rest / c.strategy_count-count.result)) product r) (add-one c.loop-place.place) h in
    record {
      fits = elim c.if-decider-self.branch [
        | then-decider-self+in_ok-product+else-is_zero w ↦ subst Fits (sym (w.product-is ∙ w.in_ok-product.ensures.value)) w.in_ok-product.ensures.fits
        | else-decider-self w ↦ subst Fits (sym w.product-is) c.loop-place.invariant.fits
      ];
      left = λ r h. c.loop-place.invariant.left r (reached a r
          (elim c.if-decider-self.branch [
            | then-decider-self+in_ok-product+else-is_zero w ↦
                other-left m i (decider a).player (strategy a) (later a) c.loop-place.product w.index-entries-decider.result w.in_ok-product.product r w.if-decider-self.true
                (entry a w.index-entries-decider.result w.index-entries-decider.is)
                w.in_ok-product.ensures.fits w.in_ok-product.ensures.value (subst (λ x. GiveFrom m i (suc (decider a).player) (later a) x r) w.product-is (after c.if-decider-self.product r h))
            | else-decider-self w ↦ own-left m i (decider a).player (strategy a) (later a) c.loop-place.product r w.if-decider-self.false (subst (λ x. GiveFrom m i (suc (decider a).player) (later a) x r) w.product-is (after c.if-decider-self.product r h))
          ]));
    }

pub returns : goal.returns
returns c =
    let m = mixed_at c.args.self.now in
    let i = c.args.self.now.player in
    let all = c.requires.replies.deciders in
    let listed = c.args.self.now.deciders.now.listed in
    let counts = strategy_counts c.args.self.now.table.now in
    let whole : c.args.self.now.deciders.now.count ≡ c.loop-place.place = omega (arith, c.loop-place-test.false, c.loop-place.auto.place-end) in
    c.loop-place.invariant.left c.later_weight.result
    (subst (λ n. GiveFrom m i (player_after listed n) (profile_at (drop (player_after listed n) counts) c.loop-place.rest) c.loop-place.product c.later_weight.result) whole
    (passed-over m i counts (player_after listed c.args.self.now.deciders.now.count) c.args.self.now.deciders.now.end.player c.loop-place.rest c.loop-place.product c.later_weight.result all.end_next.in_order all.end_within all.end_next.between c.loop-place.invariant.fits c.later_weight.ensures))
