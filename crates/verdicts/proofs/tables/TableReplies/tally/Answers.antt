use Rattle.std.proofs.Common.{ℕ, ◌≡◌, ◌<◌, ◌≤◌, ◌+◌, ◌∙◌, ◌++◌, suc, inl, inr, List, [], All, Result, get_or, length, take, sym, ap, subst, add-one, arith}
use Rattle.std.specs.Prelude.{sum}
use Rattle.std.proofs.lemmas.Bool.{false≢true}
use Rattle.std.proofs.lemmas.List.{get_or_read}
use Rattle.std.proofs.lemmas.List.Elements.{All-nil}
use Rattle.std.proofs.lemmas.Result.{err_from_is_err_and}
use Rattle.rational.specs.Rational.{ℚ, ◌+ℚ◌, ◌*ℚ◌, ◌≤ℚ◌, ◌<ℚ◌, zero_ℚ}
use Rattle.rational.proofs.Field.{le_or_lt, le_refl}
use Rattle.game_theory.specs.Mixed.{Mixed}
use Rattle.game_theory.specs.Profiles.{Game}
use Rattle.game_core.specs.Table.{strategy_counts}
use Rattle.frac128.specs.Steps.{StepFits, IsFirstUnfit, StepsGive}
use Rattle.frac128.specs.declared.steps.Unfit.{Unfit}
use Rattle.frac128.proofs.StepPartLemmas.{part-fits, part-unfit, steps-next, steps_of}
use Rattle.best_replies.specs.Greatest.{IsFirstGreatest}
use Rattle.best_replies.specs.Strategies.{strategy_value}
use Rattle.best_replies.proofs.FirstGreatestLemmas.{first_greatest-kept, first_greatest-passed}
use Rattle.best_replies.proofs.StrategyLemmas.{payoff-strategies}
use Rattle.behaviour_profile.specs.EntryTests.{mixed_of}
use Rattle.verdicts.specs.TableReplies.{table_game_at, mixed_at}
use Rattle.verdicts.specs.TableChecks.{payoff_below, payoff_steps, strategy_payoff_steps, strategy_steps, weighed_steps}
use Rattle.verdicts.proofs.TablePartLemmas.{entries-within, player-within, some_strategy, strategies-few}
use Rattle.verdicts.proofs.tables.TableReplies.tally.Goals as goal
use Rattle.verdicts.proofs.tables.TableReplies.tally.Goals.{After-strategy_count-count, then-is_less, else-is_less}

some : (c : After-strategy_count-count) → 0 < c.strategy_count-count.result
some c = omega (arith, some_strategy c.args.self.now.table.now c.strategy_count-count.ensures.valid c.args.self.now.player c.requires.replies.is_player, c.strategy_count-count.ensures.count)

few : (c : After-strategy_count-count) → c.strategy_count-count.result < 4294967296
few c =
    let within = entries-within c.args.self.now.table.now c.strategy_count-count.ensures.valid c.args.self.now.player c.requires.replies.is_player in
    omega (arith, within, strategies-few c.args.self.now.table.now c.strategy_count-count.ensures.valid, c.strategy_count-count.ensures.count)

-- a strategy's entry is among all
place : (c : After-strategy_count-count) (first strategy : ℕ) → first ≡ sum (take c.args.self.now.player (strategy_counts c.args.self.now.table.now)) → strategy < c.strategy_count-count.result → first + strategy < length c.args.self.now.mixed.now
place c first strategy is l =
    let within = entries-within c.args.self.now.table.now c.strategy_count-count.ensures.valid c.args.self.now.player c.requires.replies.is_player in
    omega (arith, within, is, l, c.strategy_count-count.ensures.count, c.requires.replies.entries)

-- what is read there is the strategy's probability
read_is : (counts : List ℕ) (entries : List ℚ) (player strategy at : ℕ) (read : ℚ) → at ≡ sum (take player counts) + strategy → at < length entries → read ≡ get_or entries at read → read ≡ mixed_of counts entries player strategy
read_is counts entries player strategy at read is within h = get_or_read entries at read within h zero_ℚ ∙ ap (λ k. get_or entries k zero_ℚ) is

-- one more share
share-next : (g : Game) (m : Mixed) (i n : ℕ) (probability value : ℚ) (r : Result ℚ Unfit) → probability ≡ m i n → value ≡ strategy_value g m i n
    → StepsGive (steps_of (strategy_payoff_steps g m i) 0 n ++ weighed_steps probability value (payoff_below g m i n)) (payoff_below g m i n +ℚ (probability *ℚ value)) r
    → StepsGive (steps_of (strategy_payoff_steps g m i) 0 (n + 1)) (payoff_below g m i (n + 1)) r
share-next g m i n probability value r is worth h =
    let at : n ≡ 0 + n = omega arith in
    let here = rw (is, worth) at h in
    rw add-one (subst (λ ss. StepsGive ss (payoff_below g m i (suc n)) r) (ap (λ k. steps_of (strategy_payoff_steps g m i) 0 n ++ strategy_payoff_steps g m i k) at ∙ sym (steps-next (strategy_payoff_steps g m i) 0 n)) here)

pub strategy_value-requires-clause-strategy : goal.strategy_value-requires-clause-strategy
strategy_value-requires-clause-strategy c =
    some_strategy c.args.self.now.table.now c.strategy_count-count.ensures.valid c.args.self.now.player c.requires.replies.is_player

pub returns-in_err-value-clause-unfit : goal.returns-in_err-value-clause-unfit
returns-in_err-value-clause-unfit c =
    let g = table_game_at c.args.self.now in
    let m = mixed_at c.args.self.now in
    let p = err_from_is_err_and c.from_residual.result c.from_residual.ensures.1 in
    rw (p.1, p.2) (part-unfit (strategy_steps g m c.args.self.now.player) 0 0 (get_or (strategy_counts c.args.self.now.table.now) c.args.self.now.player 0) c.in_err-value.field-0.0
    (some_strategy c.args.self.now.table.now c.strategy_count-count.ensures.valid c.args.self.now.player c.requires.replies.is_player) (All-nil StepFits) c.in_err-value.ensures)

pub bounds-entries-self : goal.bounds-entries-self
bounds-entries-self c =
    let a = (goal.at.bounds-entries-self c).After-strategy_count-count in
    omega (arith, place a c.args.self.now.first 0 c.requires.replies.first_is (some a), ap length c.entries.ensures)

pub loop-strategy-init : goal.loop-strategy-init
loop-strategy-init c =
    let a = (goal.at.loop-strategy-init c).After-strategy_count-count in
    let counts = strategy_counts c.args.self.now.table.now in
    let g = table_game_at c.args.self.now in
    let m : Mixed = mixed_of counts c.args.self.now.mixed.now in
    let first : ℕ = c.args.self.now.first in
    let within : first < length c.args.self.now.mixed.now = omega (arith, place a first 0 c.requires.replies.first_is (some a)) in
    let at : first ≡ sum (take c.args.self.now.player counts) + 0 = omega (arith, c.requires.replies.first_is) in
    let read = read_is counts c.args.self.now.mixed.now c.args.self.now.player 0 first c.index-entries-self.result at within (rw c.entries.ensures at c.index-entries-self.is) in
    record {
      best = record {
        within = omega arith;
        greatest = λ k l. (let e : 0 ≡ k = omega (arith, l) in subst (λ x. strategy_value g m c.args.self.now.player x ≤ℚ strategy_value g m c.args.self.now.player 0) e (le_refl (strategy_value g m c.args.self.now.player 0)));
        first = λ k l. absurd (omega (arith, l));
      };
      value = c.in_ok-value.ensures.0;
      fit = part-fits (strategy_steps g m c.args.self.now.player) 0 0 (All-nil StepFits) c.in_ok-value.ensures.1;
      payoff = share-next g m c.args.self.now.player 0 c.index-entries-self.result c.in_ok-value.value c.with_weighed-payoff.result read c.in_ok-value.ensures.0 (c.with_weighed-payoff.ensures [] zero_ℚ (c.zero.ensures, All-nil StepFits));
    }

pub returns-in_err-value-2-clause-unfit : goal.returns-in_err-value-2-clause-unfit
returns-in_err-value-2-clause-unfit c =
    let g = table_game_at c.args.self.now in
    let m = mixed_at c.args.self.now in
    let at : 0 + c.loop-strategy.strategy ≡ c.loop-strategy.strategy = omega arith in
    let p = err_from_is_err_and c.from_residual-in_err-value-2.result c.from_residual-in_err-value-2.ensures.1 in
    rw (p.1, p.2) (part-unfit (strategy_steps g m c.args.self.now.player) 0 c.loop-strategy.strategy (get_or (strategy_counts c.args.self.now.table.now) c.args.self.now.player 0) c.in_err-value-2.field-0.0
    (omega (arith, c.loop-strategy-test.true, c.strategy_count-count.ensures.count)) c.loop-strategy.invariant.fit
    (subst (λ j. IsFirstUnfit (strategy_steps g m c.args.self.now.player j) c.in_err-value-2.field-0.0) (sym at) c.in_err-value-2.ensures))

pub bounds-entries-self-in-loop-strategy : goal.bounds-entries-self-in-loop-strategy
bounds-entries-self-in-loop-strategy c =
    let a = (goal.at.bounds-entries-self-in-loop-strategy c).After-strategy_count-count in
    omega (arith, place a c.args.self.now.first c.loop-strategy.strategy c.requires.replies.first_is c.loop-strategy-test.true, ap length c.entries-in-loop-strategy.ensures)

pub overflow_cast-best : goal.overflow_cast-best
overflow_cast-best c = omega (arith, c.loop-strategy-test.true, few (goal.at.overflow_cast-best c).After-strategy_count-count)

pub loop-strategy-preserved : goal.loop-strategy-preserved
loop-strategy-preserved c =
    let a = (goal.at.loop-strategy-preserved c).After-strategy_count-count in
    let counts = strategy_counts c.args.self.now.table.now in
    let g = table_game_at c.args.self.now in
    let m : Mixed = mixed_of counts c.args.self.now.mixed.now in
    let k : ℕ = c.loop-strategy.strategy in
    let v : ℕ → ℚ = strategy_value g m c.args.self.now.player in
    let reply : ℕ = c.loop-strategy.best.0 in
    let most : ℚ = c.loop-strategy.best.1.0 in
    let at : 0 + k ≡ k = omega arith in
    let was : most ≡ v reply = c.loop-strategy.invariant.value in
    let is : c.in_ok-value-2.value ≡ v k = c.in_ok-value-2.ensures.0 in
    let first : ℕ = c.args.self.now.first in
    let within = place a first k c.requires.replies.first_is c.loop-strategy-test.true in
    let read = read_is counts c.args.self.now.mixed.now c.args.self.now.player k (first + k) c.index-entries-self-in-loop-strategy.result (ap (λ x. x + k) c.requires.replies.first_is) within
    (rw c.entries-in-loop-strategy.ensures at c.index-entries-self-in-loop-strategy.is) in
    record {
      best = rw add-one (elim c.if-is_less.branch [
        | then-is_less w ↦
            rw w.best-is (first_greatest-passed k v reply c.loop-strategy.invariant.best (subst (λ x. v reply <ℚ x) is (subst (λ x. x <ℚ c.in_ok-value-2.value) was (c.is_less.ensures.0 w.if-is_less.true))))
        | else-is_less w ↦
            rw w.best-is (first_greatest-kept k v reply c.loop-strategy.invariant.best (elim (le_or_lt (v k) (v reply)) [
              | inl le ↦ le
              | inr lt ↦ absurd (false≢true (sym w.if-is_less.false ∙ c.is_less.ensures.1 (subst (λ x. most <ℚ x) (sym is) (subst (λ x. x <ℚ v k) (sym was) lt))))
            ]))
      ]);
      value = elim c.if-is_less.branch [
        | then-is_less w ↦ rw w.best-is is
        | else-is_less w ↦ rw w.best-is was
      ];
      fit = subst (λ n. All StepFits (steps_of (strategy_steps g m c.args.self.now.player) 0 n)) (sym (add-one k))
          (part-fits (strategy_steps g m c.args.self.now.player) 0 k c.loop-strategy.invariant.fit (subst (λ j. All StepFits (strategy_steps g m c.args.self.now.player j)) (sym at) c.in_ok-value-2.ensures.1));
      payoff = share-next g m c.args.self.now.player k c.index-entries-self-in-loop-strategy.result c.in_ok-value-2.value c.with_weighed-payoff-in-loop-strategy.result read is
          (c.with_weighed-payoff-in-loop-strategy.ensures (steps_of (strategy_payoff_steps g m c.args.self.now.player) 0 k) (payoff_below g m c.args.self.now.player k) c.loop-strategy.invariant.payoff);
    }

end : (c : After-strategy_count-count) → (k : ℕ) → (1 ≤ c.strategy_count-count.result → k ≤ c.strategy_count-count.result) → c.strategy_count-count.result ≤ k → k ≡ get_or (strategy_counts c.args.self.now.table.now) c.args.self.now.player 0
end c k most least = omega (arith, some c, most (some c), least, c.strategy_count-count.ensures.count)

pub returns-clause-best : goal.returns-clause-best
returns-clause-best c =
    let a = (goal.at.returns-clause-best c).After-strategy_count-count in
    subst (λ n. IsFirstGreatest n (strategy_value (table_game_at c.args.self.now) (mixed_at c.args.self.now) c.args.self.now.player) c.loop-strategy.best.0)
    (end a c.loop-strategy.strategy c.loop-strategy.auto.strategy-end c.loop-strategy-test.false) c.loop-strategy.invariant.best

pub returns-clause-payoff : goal.returns-clause-payoff
returns-clause-payoff c =
    let a = (goal.at.returns-clause-payoff c).After-strategy_count-count in
    let g = table_game_at c.args.self.now in
    let m : Mixed = mixed_at c.args.self.now in
    let all = subst (λ n. StepsGive (steps_of (strategy_payoff_steps g m c.args.self.now.player) 0 n) (payoff_below g m c.args.self.now.player n) c.loop-strategy.payoff)
    (end a c.loop-strategy.strategy c.loop-strategy.auto.strategy-end c.loop-strategy-test.false) c.loop-strategy.invariant.payoff in
    subst (λ x. StepsGive (payoff_steps g m c.args.self.now.player) x c.loop-strategy.payoff)
    (sym (payoff-strategies g m c.args.self.now.player (player-within c.args.self.now.table.now c.strategy_count-count.ensures.valid c.args.self.now.player c.requires.replies.is_player))) all

pub returns-clause-fits : goal.returns-clause-fits
returns-clause-fits c =
    let a = (goal.at.returns-clause-fits c).After-strategy_count-count in
    subst (λ n. All StepFits (steps_of (strategy_steps (table_game_at c.args.self.now) (mixed_at c.args.self.now) c.args.self.now.player) 0 n))
    (end a c.loop-strategy.strategy c.loop-strategy.auto.strategy-end c.loop-strategy-test.false) c.loop-strategy.invariant.fit
