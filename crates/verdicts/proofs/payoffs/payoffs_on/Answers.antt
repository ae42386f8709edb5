use Rattle.std.proofs.Common.{rules, ◌<◌, ◌≡◌, [], ◌∙◌, inr, All, get_or, length, refl, ap, subst, arith}
use Rattle.std.specs.List.{range_with_len}
use Rattle.std.proofs.lemmas.Result.{err_from_is_err_and}
use Rattle.std.proofs.lemmas.List.{take_all}
use Rattle.std.proofs.lemmas.List.FromFn.{get_or-range_with_len, length-range_with_len}
use Rattle.frac128.specs.FirstUnfit.{StepsFit}
use Rattle.frac128.proofs.FirstUnfitLemmas.{fits_next, first_unfit_here}
use Rattle.game_theory.specs.Behaviour.{payoff}
use Rattle.game_theory.specs.Lines.{listed}
use Rattle.game_theory.proofs.EntryLemmas.{listed-push}
use Rattle.verdicts.specs.TreeBehaviours.{game_of}
use Rattle.verdicts.specs.TreeSteps.{behaviour_steps_at}
use Rattle.pure_payoffs.specs.declared.stop.PayoffStop.TheVariants as stops
use Rattle.lists.proofs.MappedErrorLemmas.{was_error, was_value}
use Rattle.verdicts.proofs.payoffs.payoffs_on.Goals as goal

pub returns-in_err-payoff-clause-stop : goal.returns-in_err-payoff-clause-stop
returns-in_err-payoff-clause-stop c = λ b reads.
    let n = length c.args.played.now.tree.now.players in
    let player = c.loop-player.player-counter in
    let below : player < n = omega (arith, ap length c.players.ensures.players) in
    let within : player < length (range_with_len 0 n) = omega (arith, length-range_with_len 0 n) in
    let place : player ≡ get_or (range_with_len 0 n) player player = omega (arith, get_or-range_with_len 0 n player player below) in
    let p = err_from_is_err_and c.from_residual.result c.from_residual.ensures.1 in
    let was = was_error _ c.value.result c.map_err.result c.in_err-payoff.field-0.0 c.map_err.ensures.cases c.in_err-payoff.was in
    let is : c.in_err-payoff.field-0.0 ≡ stops.Range player was.0 = (let post = was.2 in search rules) in
    rw (p.1, p.2, is) (inr ((player, was.0), first_unfit_here (λ i. behaviour_steps_at (game_of c.args.played.now) b i 0) (range_with_len 0 n) player player within place was.0 (c.loop-player.invariant b reads).1 (rw was.1 at (c.value.ensures b reads)), refl))

pub loop-player-preserved : goal.loop-player-preserved
loop-player-preserved c = λ b reads.
    let n = length c.args.played.now.tree.now.players in
    let player = c.loop-player.player-counter in
    let below : player < n = omega (arith, ap length c.players.ensures.players) in
    let within : player < length (range_with_len 0 n) = omega (arith, length-range_with_len 0 n) in
    let place : player ≡ get_or (range_with_len 0 n) player player = omega (arith, get_or-range_with_len 0 n player player below) in
    let before = c.loop-player.invariant b reads in
    let paid = rw (was_value _ c.value.result c.map_err.result c.in_ok-payoff.payoff c.map_err.ensures.cases c.in_ok-payoff.was) at (c.value.ensures b reads) in (
      listed-push _ c.loop-player.payoffs.items [] player (payoff (game_of c.args.played.now) b) c.in_ok-payoff.payoff before.0 (c.in_ok-push.ensures {u = tt}).items paid.0,
      fits_next (λ i. behaviour_steps_at (game_of c.args.played.now) b i 0) (range_with_len 0 n) player player within place before.1 paid.1,
    )

pub returns-clause-payoffs : goal.returns-clause-payoffs
returns-clause-payoffs c = λ b reads.
    let last : c.loop-player.player-counter ≡ length c.args.played.now.tree.now.players = omega (arith, ap length c.players.ensures.players) in
    (c.loop-player.invariant b reads).0 ∙ ap (λ n. listed n (payoff (game_of c.args.played.now) b)) last

pub returns-clause-stop : goal.returns-clause-stop
returns-clause-stop c = λ b reads.
    let n = length c.args.played.now.tree.now.players in
    let last : c.loop-player.player-counter ≡ n = omega (arith, ap length c.players.ensures.players) in
    subst (All (StepsFit (λ i. behaviour_steps_at (game_of c.args.played.now) b i 0))) (take_all c.loop-player.player-counter (range_with_len 0 n) (omega (arith, length-range_with_len 0 n, last))) (c.loop-player.invariant b reads).1
