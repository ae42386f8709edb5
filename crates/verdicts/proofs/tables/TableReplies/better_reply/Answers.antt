use Rattle.std.proofs.Common.{inl, inr, sym, ◌∙◌, subst}
use Rattle.std.proofs.lemmas.Bool.{false≢true}
use Rattle.std.proofs.lemmas.List.Elements.{All-append}
use Rattle.std.proofs.lemmas.Result.{err_from_is_err_and}
use Rattle.rational.specs.Rational.{◌≤ℚ◌}
use Rattle.rational.proofs.Field.{le_or_lt, le_trans}
use Rattle.game_theory.specs.Mixed.{payoff as payoff_of}
use Rattle.frac128.specs.Steps.{StepFits}
use Rattle.frac128.proofs.StepRunLemmas.{first_unfit-following}
use Rattle.verdicts.specs.TableReplies.{table_game_at, mixed_at}
use Rattle.verdicts.specs.TableChecks.{payoff_steps, value_steps}
use Rattle.verdicts.proofs.tables.TableReplies.better_reply.Goals as goal

pub returns-in_err-payoff-clause-unfit : goal.returns-in_err-payoff-clause-unfit
returns-in_err-payoff-clause-unfit c =
    let g = table_game_at c.args.self.now in
    let m = mixed_at c.args.self.now in
    let p = err_from_is_err_and c.from_residual-in_err-payoff.result c.from_residual-in_err-payoff.ensures.1 in
    let gives = rw c.in_err-payoff.was at c.in_ok-best.ensures.payoff in
    rw (p.1, p.2) (first_unfit-following (value_steps g m c.args.self.now.player) (payoff_steps g m c.args.self.now.player) c.in_err-payoff.field-0.0 c.in_ok-best.ensures.fits gives)

pub returns-then-is_less-clause-found : goal.returns-then-is_less-clause-found
returns-then-is_less-clause-found c =
    let g = table_game_at c.args.self.now in
    let m = mixed_at c.args.self.now in
    let gives = rw c.in_ok-payoff.was at c.in_ok-best.ensures.payoff in
    record {
      fit = All-append StepFits (value_steps g m c.args.self.now.player) (payoff_steps g m c.args.self.now.player) c.in_ok-best.ensures.fits gives.1;
      is_best = c.in_ok-best.ensures.best;
      payoff_is = gives.0;
      best_is = c.in_ok-best.ensures.value;
      pays_more = c.is_less.ensures.0 c.if-is_less.true;
    }

pub returns-else-is_less-clause-found : goal.returns-else-is_less-clause-found
returns-else-is_less-clause-found c =
    let g = table_game_at c.args.self.now in
    let m = mixed_at c.args.self.now in
    let gives = rw c.in_ok-payoff.was at c.in_ok-best.ensures.payoff in
    record {
      fit = All-append StepFits (value_steps g m c.args.self.now.player) (payoff_steps g m c.args.self.now.player) c.in_ok-best.ensures.fits gives.1;
      no_more = λ s b. le_trans _ _ _ (c.in_ok-best.ensures.best.greatest s b) (subst (λ x. x ≤ℚ payoff_of g m c.args.self.now.player) c.in_ok-best.ensures.value (subst (λ x. c.in_ok-best.field-0.best.value ≤ℚ x) gives.0
          (elim (le_or_lt c.in_ok-best.field-0.best.value c.in_ok-payoff.payoff) [ inl le ↦ le | inr lt ↦ absurd (false≢true (sym c.if-is_less.false ∙ c.is_less.ensures.1 lt)) ])));
    }
