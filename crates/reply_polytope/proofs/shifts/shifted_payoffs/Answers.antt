use Rattle.std.proofs.Common.{◌≡◌, ◌∙◌, ◌<◌, ◌++◌, ◌∷◌, [], map, inr, sym, ap, ap₂, subst, subst₂, arith}
use borrow.Author.Count.{below_more}
use Rattle.std.specs.List.{range_with_len}
use Rattle.std.proofs.lemmas.List.FromFn.{map-range_with_len_more}
use Rattle.rational.specs.Rational.{◌-ℚ◌, ◌+ℚ◌}
use Rattle.frac128.specs.Steps.{AddFits, SubFits, step_of}
use Rattle.frac128.specs.declared.steps.Op.TheVariants.{Add, Sub}
use Rattle.game_theory.specs.Profiles.{profile_count}
use Rattle.game_core.specs.Table.{game_of, strategy_counts}
use Rattle.extreme_equilibria.specs.Bimatrix.{shift_of}
use Rattle.reply_polytope.proofs.ShiftLemmas.{all_shifts_fit, shift_goes, shift_stops, unfit_difference, unfit_sum}
use Rattle.reply_polytope.proofs.shifts.shifted_payoffs.Goals as goal

pub returns-in-Err : goal.returns-in-Err
returns-in-Err c =
    let g = game_of c.args.table.now in
    let i = c.args.player in
    let least = c.least_payoff-least.result in
    inr (shift_stops g i least c.least_payoff-least.ensures 0 c.in-Err.unfit (step_of Sub _ least) (c.in-Err.ensures.step ∙ ap (λ x. step_of Sub x least) c.one.ensures)
    (unfit_difference (g.pays i) least (profile_count g.strategies) (subst (λ n. 0 < n) c.requires.profiles c.requires.some) (λ f. c.in-Err.ensures.unfit (subst (λ x. SubFits x least) (sym c.one.ensures) f))))

pub returns-in-Err-add : goal.returns-in-Err-add
returns-in-Err-add c =
    let g = game_of c.args.table.now in
    let i = c.args.player in
    let k = c.loop-profile.profile in
    let least = c.least_payoff-least.result in
    let shift : c.in-Ok.shift ≡ shift_of least = c.in-Ok.ensures.value ∙ ap (λ x. x -ℚ least) c.one.ensures in
    let read = c.payoff_at.ensures in
    inr (shift_stops g i least c.least_payoff-least.ensures k c.in-Err-add.unfit (step_of Add (g.pays i k) (shift_of least)) (c.in-Err-add.ensures.step ∙ ap₂ (λ x y. step_of Add x y) read shift)
    (unfit_sum (g.pays i) least (profile_count g.strategies) (subst (λ x. SubFits x least) c.one.ensures c.in-Ok.ensures.fits) k (subst (λ n. k < n) c.requires.profiles c.loop-profile-test.true)
    (λ j l. subst (λ x. AddFits (g.pays i j) x) shift (c.loop-profile.invariant.fit j l))
    (λ f. c.in-Err-add.ensures.unfit (subst₂ (λ x y. AddFits x y) (sym read) (sym shift) f))))

pub loop-profile-preserved : goal.loop-profile-preserved
loop-profile-preserved c =
    let u = (game_of c.args.table.now).pays c.args.player in
    let k = c.loop-profile.profile in
    let shift = c.in-Ok.shift in
    record {
      made = c.in_ok-push-in-Ok-add.ensures.items ∙ ap₂ (λ xs x. xs ++ x ∷ []) c.loop-profile.invariant.made (c.in-Ok-add.ensures.value ∙ ap (λ x. x +ℚ shift) c.payoff_at.ensures) ∙ sym (map-range_with_len_more (λ k. u k +ℚ shift) 0 k k (omega arith));
      fit = below_more (λ k. AddFits (u k) shift) k c.loop-profile.invariant.fit (subst (λ x. AddFits x shift) c.payoff_at.ensures c.in-Ok-add.ensures.fits);
    }

pub returns : goal.returns
returns c =
    let g = game_of c.args.table.now in
    let i = c.args.player in
    let least = c.least_payoff-least.result in
    let shift : c.in-Ok.shift ≡ shift_of least = c.in-Ok.ensures.value ∙ ap (λ x. x -ℚ least) c.one.ensures in
    let all : c.loop-profile.profile ≡ profile_count (strategy_counts c.args.table.now) = omega (arith, c.loop-profile-test.false, c.loop-profile.auto.profile-end, c.requires.profiles) in
    shift_goes g i least c.least_payoff-least.ensures
    (all_shifts_fit (g.pays i) least (profile_count g.strategies) (subst (λ x. SubFits x least) c.one.ensures c.in-Ok.ensures.fits) (λ k l. subst (λ x. AddFits (g.pays i k) x) shift (c.loop-profile.invariant.fit k (omega (arith, all, l)))))
    c.loop-profile.shifted.items (c.loop-profile.invariant.made ∙ ap₂ (λ n c. map (λ k. g.pays i k +ℚ c) (range_with_len 0 n)) all shift)
