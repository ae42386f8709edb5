-- What the verdict of a mixed profile tells.
use Rattle.std.proofs.Common.{ℕ, ◌<◌, ◌≡◌, All, length, get_or, sym, ◌∙◌, subst, subst₂, arith}
use Rattle.rational.specs.Rational.{ℚ, ◌≤ℚ◌, ◌<ℚ◌}
use Rattle.rational.proofs.Field.{not_lt_of_le}
use Rattle.game_theory.specs.Equilibrium.{IsEquilibrium}
use Rattle.game_theory.specs.Mixed.{Mixed, payoff as payoff_of, reply as with_reply}
use Rattle.game_theory.specs.Profiles.{Game}
use Rattle.frac128.specs.Steps.{StepFits}
use Rattle.best_replies.specs.Strategies.{strategy_value}
use Rattle.best_replies.proofs.StrategyLemmas.{best_strategies-tell, strategy_value-payoff}
use Rattle.verdicts.specs.TableChecks.{PassesTable, IsFirstBetter, table_player_steps}
use Rattle.verdicts.specs.TableLaws.{ShowsBetterStrategy, TableVerdictsFindEquilibria}

-- no strategy of a player who has no better one pays more than the profile
no_reply : (g : Game) (m : Mixed) (i s : ℕ) → i < length g.strategies → s < get_or g.strategies i 0 → PassesTable g m i → payoff_of g (with_reply m i s) i ≤ℚ payoff_of g m i
no_reply g m i s l b h =
    subst (λ x. x ≤ℚ payoff_of g m i) (strategy_value-payoff g m i s l b) (h.no_more s b)

-- at an equilibrium no player has a better strategy
none_better : (g : Game) (m : Mixed) (i : ℕ) → i < length g.strategies → IsEquilibrium g m → All StepFits (table_player_steps g m i) → PassesTable g m i
none_better g m i l e fit =
    record {
      fit = fit;
      no_more = λ s b. subst (λ x. x ≤ℚ payoff_of g m i) (sym (strategy_value-payoff g m i s l b)) (e.no_better_reply i s l b);
    }

-- the first better reply is the first of the best strategies, which is better
shows_better : (g : Game) (m : Mixed) (player reply : ℕ) (payoff best : ℚ) → IsFirstBetter g m player payoff best reply → ShowsBetterStrategy g m player reply payoff best
shows_better g m player reply payoff best h = record {
  has_better = (best_strategies-tell g m player reply h.is_player h.better.is_best).0 (subst₂ (λ x y. x <ℚ y) h.better.payoff_is h.better.best_is h.better.pays_more);
  earlier_have_none = λ i l r. not_lt_of_le _ _ (no_reply g m i r.strategy (omega (arith, l, h.is_player)) r.within (h.earlier i l)) r.pays_more;
  payoff_is = h.better.payoff_is;
  is_strategy = h.better.is_best.within;
  pays_best = sym (pays reply h.better.is_best.within) ∙ sym h.better.best_is;
  none_pays_more = λ s b. subst₂ (λ x y. x ≤ℚ y) (pays s b) (sym h.better.best_is) (h.better.is_best.greatest s b);
  earlier_pay_less = λ s b. subst₂ (λ x y. x <ℚ y) (pays s (omega (arith, b, h.better.is_best.within))) (sym h.better.best_is) (h.better.is_best.first s b);
}
  where
    pays : (s : ℕ) → s < get_or g.strategies player 0 → strategy_value g m player s ≡ payoff_of g (with_reply m player s) player
    pays s b = strategy_value-payoff g m player s h.is_player b

pub verdicts-tell : TableVerdictsFindEquilibria
verdicts-tell =
    record {
      equilibrium = λ g m valid v. record { valid = valid; no_better_reply = λ i s l b. no_reply g m i s l b (v i l) };
      better = shows_better;
      exactly = λ g m valid fit. (λ v. record { valid = valid; no_better_reply = λ i s l b. no_reply g m i s l b (v i l) }, λ e i l. none_better g m i l e (fit i l));
    }
