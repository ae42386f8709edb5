-- Better replies and equilibria by the best choices.
use Rattle.std.proofs.Common.{ℕ, sym, subst}
use Rattle.rational.specs.Rational.{◌≤ℚ◌, ◌<ℚ◌}
use Rattle.rational.proofs.Field.{lt_of_lt_of_le, le_trans}
use Rattle.game_theory.specs.Trees.{Tree}
use Rattle.game_theory.specs.Behaviour.{Behaviour, IsChoice, payoff}
use Rattle.best_replies.specs.Replies.{AreBestChoices}
use Rattle.best_replies.specs.Laws.{BestChoicesShowBetterReplies, EquilibriaByBestChoices}
use Rattle.best_replies.proofs.BestChoiceLemmas.{best_choices-pay_most}
use Rattle.best_replies.proofs.ReplyValueLemmas.{root-reply_value}

-- best choices are choices
best_choices-are_choices : (t : Tree) (b : Behaviour) (i : ℕ) (choice : ℕ → ℕ) → AreBestChoices t b i choice → IsChoice t i choice
best_choices-are_choices t b i choice best s l o = (best s l o).within

-- a better pure reply exists exactly where the best choices pay more
pub best_choices-tell : BestChoicesShowBetterReplies
best_choices-tell t b i choice w recall best = (
  λ h. record { choice = choice; is_choice = best_choices-are_choices t b i choice best; pays_more = subst (λ x. payoff t b i <ℚ x) (root-reply_value t b i choice) h },
  λ h. subst (λ x. payoff t b i <ℚ x) (sym (root-reply_value t b i choice)) (lt_of_lt_of_le _ _ _ h.pays_more (best_choices-pay_most t b i choice h.choice w recall best h.is_choice)),
)

-- an equilibrium is a valid behaviour at which no player's best choices pay more
pub equilibria-by_best_choices : EquilibriaByBestChoices
equilibria-by_best_choices t b choice w recall best valid = (
  λ e i l. subst (λ x. x ≤ℚ payoff t b i) (sym (root-reply_value t b i (choice i))) (e.no_better_reply i (choice i) l (best_choices-are_choices t b i (choice i) (best i l))),
  λ h. record { valid = valid; no_better_reply = λ i other l c. le_trans _ _ _ (best_choices-pay_most t b i (choice i) other w (recall i l) (best i l) c) (subst (λ x. x ≤ℚ payoff t b i) (root-reply_value t b i (choice i)) (h i l)) },
)
