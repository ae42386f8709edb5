use Rattle.std.proofs.Common.{ℕ, ◌≡◌, ◌+◌, ◌-◌, ◌∙◌, suc, All, sym, ap, subst, add-one, arith}
use Rattle.std.specs.List.{flat_map, range_with_len}
use Rattle.std.proofs.lemmas.List.Elements.{All-nil}
use Rattle.std.proofs.lemmas.Result.{err_from_is_err_and}
use Rattle.game_core.proofs.TableCountLemmas.{profile_count-table}
use Rattle.frac128.specs.Steps.{StepFits, IsFirstUnfit}
use Rattle.verdicts.specs.TableReplies.{table_game_at, mixed_at}
use Rattle.verdicts.specs.TableChecks.{steps_at}
use Rattle.best_replies.specs.Strategies.{value_below}
use Rattle.verdicts.proofs.TableBlockLemmas.{profile-fits, profile-value, sum-unfit, weight-unfit}
use Rattle.frac128.proofs.StepPartLemmas.{part-fits, part-unfit}
use Rattle.verdicts.proofs.tables.TableReplies.add_profiles.Goals as goal

pub overflow_add-profile-end : goal.overflow_add-profile-end
overflow_add-profile-end c = omega (arith, c.requires.profiles, profile_count-table c.args.self.now.table.now c.requires.valid)

pub loop-profile-init : goal.loop-profile-init
loop-profile-init c =
    let none : c.args.first - c.args.first ≡ 0 = omega arith in
    record {
      value = c.requires.so_far;
      fit = subst (λ n. All StepFits (flat_map (steps_at (table_game_at c.args.self.now) (mixed_at c.args.self.now) c.args.self.now.player c.args.strategy) (range_with_len c.args.first n))) (sym none) (All-nil StepFits);
    }

pub returns-in_err-weight : goal.returns-in_err-weight
returns-in_err-weight c =
    let m = mixed_at c.args.self.now in
    let g = table_game_at c.args.self.now in
    let k : ℕ = c.loop-profile.profile in
    let f = steps_at g m c.args.self.now.player c.args.strategy in
    let at : c.args.first + (k - c.args.first) ≡ k = omega (arith, c.loop-profile.auto.profile) in
    let p = err_from_is_err_and c.from_residual.result c.from_residual.ensures.1 in
    rw (p.1, p.2) (part-unfit f c.args.first (k - c.args.first) c.args.count c.in_err-weight.field-0.0 (omega (arith, c.loop-profile-test.true, c.loop-profile.auto.profile)) c.loop-profile.invariant.fit
    (subst (λ j. IsFirstUnfit (f j) c.in_err-weight.field-0.0) (sym at) (weight-unfit g m c.args.self.now.player c.args.strategy k c.in_err-weight.field-0.0 (c.requires.played k (omega (arith, c.loop-profile.auto.profile)) (omega (arith, c.loop-profile-test.true))) c.in_err-weight.ensures)))

pub returns-in_err-value : goal.returns-in_err-value
returns-in_err-value c =
    let m = mixed_at c.args.self.now in
    let g = table_game_at c.args.self.now in
    let k : ℕ = c.loop-profile.profile in
    let f = steps_at g m c.args.self.now.player c.args.strategy in
    let at : c.args.first + (k - c.args.first) ≡ k = omega (arith, c.loop-profile.auto.profile) in
    let p = err_from_is_err_and c.from_residual-in_err-value.result c.from_residual-in_err-value.ensures.1 in
    rw (p.1, p.2) (part-unfit f c.args.first (k - c.args.first) c.args.count c.in_err-value.field-0.0 (omega (arith, c.loop-profile-test.true, c.loop-profile.auto.profile)) c.loop-profile.invariant.fit
    (subst (λ j. IsFirstUnfit (f j) c.in_err-value.field-0.0) (sym at)
    (sum-unfit g m c.args.self.now.player c.args.strategy k c.in_ok-weight.weight c.payoff_at.result c.loop-profile.value c.in_err-value.field-0.0 (c.requires.played k (omega (arith, c.loop-profile.auto.profile)) (omega (arith, c.loop-profile-test.true)))
    c.in_ok-weight.ensures.0 c.payoff_at.ensures c.loop-profile.invariant.value c.in_ok-weight.ensures.1 c.in_err-value.ensures)))

pub loop-profile-preserved : goal.loop-profile-preserved
loop-profile-preserved c =
    let m = mixed_at c.args.self.now in
    let g = table_game_at c.args.self.now in
    let k : ℕ = c.loop-profile.profile in
    let f = steps_at g m c.args.self.now.player c.args.strategy in
    let at : c.args.first + (k - c.args.first) ≡ k = omega (arith, c.loop-profile.auto.profile) in
    let more : suc (k - c.args.first) ≡ (k + 1) - c.args.first = omega (arith, c.loop-profile.auto.profile) in
    let played = c.requires.played k (omega (arith, c.loop-profile.auto.profile)) (omega (arith, c.loop-profile-test.true)) in
    record {
      value = profile-value g m c.args.self.now.player c.args.strategy k c.in_ok-weight.weight c.payoff_at.result c.loop-profile.value c.in_ok-value.value played c.in_ok-weight.ensures.0 c.payoff_at.ensures c.loop-profile.invariant.value c.in_ok-value.ensures.0
          ∙ ap (value_below g m c.args.self.now.player c.args.strategy) (sym (add-one k));
      fit = subst (λ n. All StepFits (flat_map f (range_with_len c.args.first n))) more
          (part-fits f c.args.first (k - c.args.first) c.loop-profile.invariant.fit
          (subst (λ j. All StepFits (f j)) (sym at)
          (profile-fits g m c.args.self.now.player c.args.strategy k c.in_ok-weight.weight c.payoff_at.result c.loop-profile.value played c.in_ok-weight.ensures.0 c.payoff_at.ensures c.loop-profile.invariant.value c.in_ok-weight.ensures.1 c.in_ok-value.ensures.1)));
    }

pub returns : goal.returns
returns c =
    let m = mixed_at c.args.self.now in
    let g = table_game_at c.args.self.now in
    let f = steps_at g m c.args.self.now.player c.args.strategy in
    let end : c.loop-profile.profile ≡ c.args.first + c.args.count = omega (arith, c.loop-profile-test.false, c.loop-profile.auto.profile-end) in
    let all : c.loop-profile.profile - c.args.first ≡ c.args.count = omega (arith, end) in
    (c.loop-profile.invariant.value ∙ ap (value_below g m c.args.self.now.player c.args.strategy) end, subst (λ n. All StepFits (flat_map f (range_with_len c.args.first n))) all c.loop-profile.invariant.fit)
