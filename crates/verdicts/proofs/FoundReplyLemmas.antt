-- What the check of one player says of all.
use Rattle.std.proofs.Common.{ℕ, ◌<◌, ◌≡◌, inl, inr, List, All, map, get_or, ◌∙◌, subst, arith}
use Rattle.rational.specs.Rational.{ℚ, ◌≤ℚ◌, ◌<ℚ◌}
use Rattle.rational.proofs.Field.{le_or_lt}
use Rattle.game_theory.specs.Trees.{Tree}
use Rattle.game_theory.specs.Behaviour.{Behaviour, payoff}
use Rattle.game_theory.specs.OwnSets.{own_sets}
use Rattle.game_theory.proofs.OwnSetLemmas.{map-among, own_sets-tell}
use Rattle.best_replies.specs.Replies.{reply_value, AreBestChoices}
use Rattle.frac128.specs.Steps.{StepFits}
use Rattle.verdicts.specs.TreeReplies.{AreChosen}
use Rattle.verdicts.specs.TreeSteps.{tree_player_steps}
use Rattle.verdicts.specs.TreeVerdicts.{PassesTree, IsBetter}

module _ (t : Tree) (b : Behaviour) (i : ℕ) (choice : ℕ → ℕ) (now best : ℚ) (is_best : AreBestChoices t b i choice) (now_is : now ≡ payoff t b i) (best_is : best ≡ reply_value t b i choice 0) (fit : All StepFits (tree_player_steps t b i choice)) where
  -- best choices that do not pay more
  pub none-better : (now <ℚ best → ⊥) → PassesTree t b i
  none-better not_less = record {
    choice = choice;
    is_best = is_best;
    fit = fit;
    no_more = subst (λ x. x ≤ℚ payoff t b i) best_is (subst (λ x. best ≤ℚ x) now_is (elim (le_or_lt best now) [ inl le ↦ le | inr lt ↦ absurd (not_less lt) ]));
  }

  -- best choices that pay more
  pub one-better : (choices reply : List ℕ) → i < t.players → ((j : ℕ) → j < i → PassesTree t b j) → now <ℚ best → AreChosen t i choice choices → reply ≡ map (λ s. get_or choices s 0) (own_sets t i) → IsBetter t b i now best reply
  one-better choices reply l earlier more chosen is = record {
    within = l;
    earlier = earlier;
    choice = choice;
    is_best = is_best;
    fit = fit;
    payoff_is = now_is;
    best_is = best_is;
    more = more;
    reply_is = is ∙ map-among _ choice (own_sets t i) (λ s among. let own = own_sets-tell t i s among in chosen s (omega arith) own.0 own.1);
  }
