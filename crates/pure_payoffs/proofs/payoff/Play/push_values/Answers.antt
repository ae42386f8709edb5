use Rattle.std.proofs.Common.{ℕ, ◌<◌, ◌≡◌, ◌++◌, ◌∙◌, inr, Result, Ok, Err, List, All, get_or, length, ap, subst, arith}
use Rattle.std.specs.List.{range_with_len}
use Rattle.std.proofs.lemmas.List.{take_all}
use Rattle.std.proofs.lemmas.List.FromFn.{get_or-range_with_len, length-range_with_len}
use Rattle.std.proofs.lemmas.Result.{err_from_is_err_and}
use Rattle.answers.specs.Answers.{map_err}
use Rattle.rational.specs.Rational.{ℚ}
use Rattle.frac128.specs.FirstUnfit.{StepsFit}
use Rattle.frac128.specs.Steps.{IsFirstUnfit, Step, StepsGive}
use Rattle.frac128.specs.declared.steps.Unfit.{Unfit}
use Rattle.frac128.proofs.FirstUnfitLemmas.{fits_next, first_unfit_here}
use Rattle.game_theory.specs.Behaviour.{pure, value}
use Rattle.game_theory.specs.Lines.{listed}
use Rattle.game_theory.proofs.EntryLemmas.{listed-push}
use Rattle.pure_payoffs.specs.Steps.{steps_at}
use Rattle.pure_payoffs.specs.Plays.{choice_of, game_of}
use Rattle.pure_payoffs.specs.declared.stop.PayoffStop.{PayoffStop}
use Rattle.pure_payoffs.specs.declared.stop.PayoffStop.TheVariants as stops
use Rattle.pure_payoffs.proofs.payoff.Play.push_values.Goals as goal

-- a player's place among the players
there : (n k : ℕ) → k < n → (k < length (range_with_len 0 n)) × (k ≡ get_or (range_with_len 0 n) k k)
there n k l = (omega (arith, length-range_with_len 0 n), omega (arith, get_or-range_with_len 0 n k k l))

-- a step that does not fit is told with the player
told_with : (player : ℕ) (steps : List Step) (v : ℚ) (was : Result ℚ Unfit) (stop : PayoffStop) → StepsGive steps v was → map_err (stops.Range player) was ≡ Err stop → (unfit : Unfit) × IsFirstUnfit steps unfit × (stop ≡ stops.Range player unfit)
told_with player steps v (Ok x) stop gives is = cc
told_with player steps v (Err unfit) stop gives is = (unfit, gives, cc)

pub returns-in_err-value-clause-stop : goal.returns-in_err-value-clause-stop
returns-in_err-value-clause-stop c =
    let t = game_of c.args.self.now in
    let choice = choice_of c.args.self.now in
    let n = length c.args.self.now.tree.now.players in
    let player = c.loop-player.player-counter in
    let place = there n player (omega (arith, ap length c.players.ensures.players)) in
    let p = err_from_is_err_and c.from_residual.result c.from_residual.ensures.1 in
    let is : map_err (stops.Range player) c.value.result ≡ Err c.in_err-value.field-0.0 = (let cases = c.map_err.ensures.cases in let was = c.in_err-value.was in grind arith) in
    let told = told_with player (steps_at t choice player c.args.node) (value t (pure choice) player c.args.node) c.value.result c.in_err-value.field-0.0 c.value.ensures.gives is in
    rw (p.1, p.2) (inr ((player, told.0), first_unfit_here (λ i. steps_at t choice i c.args.node) (range_with_len 0 n) player player place.0 place.1 told.0 c.loop-player.invariant.fit told.1, told.2))

pub loop-player-preserved : goal.loop-player-preserved
loop-player-preserved c =
    let n = length c.args.self.now.tree.now.players in
    let player = c.loop-player.player-counter in
    let place = there n player (omega (arith, ap length c.players.ensures.players)) in
    let was : c.value.result ≡ Ok c.in_ok-value.value = grind arith in
    let paid = rw was at c.value.ensures.gives in
    record {
      keep = c.value.ensures.keep;
      values = listed-push _ c.loop-player.values.items _ player (λ i. value (game_of c.args.self.now) (pure (choice_of c.args.self.now)) i c.args.node) c.in_ok-value.value c.loop-player.invariant.values (c.in_ok-push.ensures {u = tt}).items paid.0;
      fit = fits_next (λ i. steps_at (game_of c.args.self.now) (choice_of c.args.self.now) i c.args.node) (range_with_len 0 n) player player place.0 place.1 c.loop-player.invariant.fit paid.1;
    }

pub returns-clause-values : goal.returns-clause-values
returns-clause-values c =
    let last : c.loop-player.player-counter ≡ length c.args.self.now.tree.now.players = omega (arith, ap length c.players.ensures.players) in
    c.loop-player.invariant.values ∙ ap (λ n. c.args.values.now.items ++ listed n (λ i. value (game_of c.args.self.now) (pure (choice_of c.args.self.now)) i c.args.node)) last

pub returns-clause-stop : goal.returns-clause-stop
returns-clause-stop c =
    let n = length c.args.self.now.tree.now.players in
    let last : c.loop-player.player-counter ≡ n = omega (arith, ap length c.players.ensures.players) in
    subst (All (StepsFit (λ i. steps_at (game_of c.args.self.now) (choice_of c.args.self.now) i c.args.node))) (take_all c.loop-player.player-counter (range_with_len 0 n) (omega (arith, length-range_with_len 0 n, last))) c.loop-player.invariant.fit
