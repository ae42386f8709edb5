-- Verdicts tell equilibria.
use Rattle.std.proofs.Common.{ℕ, ◌<◌, ◌≡◌, List, refl, sym, ◌∙◌, subst, arith}
use Rattle.rational.specs.Rational.{ℚ, ◌≤ℚ◌, ◌<ℚ◌}
use Rattle.rational.proofs.Field.{le_trans, not_le_of_lt}
use Rattle.game_theory.specs.Trees.{Tree, IsTree}
use Rattle.game_theory.specs.Behaviour.{Behaviour, IsValid, payoff, reply}
use Rattle.game_theory.specs.TreeEquilibrium.{IsEquilibrium}
use Rattle.game_theory.specs.Recall.{HasPerfectRecall}
use Rattle.game_core.specs.Tree.{GameTree, IsGameTree as is_valid_tree}
use Rattle.game_core.specs.TreeGame.{game_of_tree}
use Rattle.best_replies.specs.Replies.{reply_value}
use Rattle.best_replies.proofs.BestChoiceLemmas.{best_choices-pay_most}
use Rattle.best_replies.proofs.ReplyValueLemmas.{root-reply_value}
use Rattle.best_replies.proofs.VerdictLemmas.{best_choices-tell}
use Rattle.frac128.proofs.FirstUnfitLemmas.{unfit_among}
use Rattle.verdicts.specs.declared.trees.TreeVerdict.{TreeVerdict}
use Rattle.verdicts.specs.declared.trees.TreeVerdict.TheVariants.{Equilibrium, Better, Range}
use Rattle.verdicts.specs.TreeVerdicts.{PassesTree, IsBetter, IsTreeVerdict}
use Rattle.verdicts.specs.TreeVerdictLaws.{AllPlayersFit, ShowsBetterReply, TreeVerdictsFindEquilibria}

module _ (t : Tree) (b : Behaviour) (w : IsTree t) (recall : (i : ℕ) → i < t.players → HasPerfectRecall t i) where
  -- where no player has better choices there is an equilibrium
  none-equilibrium : IsValid t b → ((i : ℕ) → i < t.players → PassesTree t b i) → IsEquilibrium t b
  none-equilibrium valid h = record {
    valid = valid;
    no_better_reply = λ i other l c. let best = h i l in
        le_trans _ _ _ (best_choices-pay_most t b i best.choice other w (recall i l) best.is_best c) (subst (λ x. x ≤ℚ payoff t b i) (root-reply_value t b i best.choice) best.no_more);
  }

  -- better choices are a better reply, the first and the best
  one-tells : (player : ℕ) (now best : ℚ) (actions : List ℕ) → IsBetter t b player now best actions → ShowsBetterReply t b player now best actions
  one-tells player now best actions h = record {
    has_better = (best_choices-tell t b player h.choice w (recall player h.within) h.is_best).0 more;
    earlier_have_none = λ j l better. let none = h.earlier j l in
        not_le_of_lt _ _ ((best_choices-tell t b j none.choice w (recall j (omega (arith, h.within))) none.is_best).1 better) none.no_more;
    payoff_is = h.payoff_is;
    choice = h.choice;
    is_choice = λ s l o. (h.is_best s l o).within;
    actions_are = h.reply_is;
    pays_best = sym (root-reply_value t b player h.choice) ∙ sym h.best_is;
    none_pays_more = λ other c. subst (λ x. payoff t (reply t b player other) player ≤ℚ x) (sym (root-reply_value t b player h.choice) ∙ sym h.best_is) (best_choices-pay_most t b player h.choice other w (recall player h.within) h.is_best c);
    first_best = h.is_best;
  }
    where
      more : payoff t b player <ℚ reply_value t b player h.choice 0
      more = subst (λ x. x <ℚ reply_value t b player h.choice 0) h.payoff_is (subst (λ x. now <ℚ x) h.best_is h.more)

  -- at an equilibrium where all steps fit there is no other verdict
  only-equilibrium : AllPlayersFit t b → IsEquilibrium t b → (verdict : TreeVerdict) (actions : List ℕ) → IsTreeVerdict t b verdict actions → verdict ≡ Equilibrium
  only-equilibrium fit e Equilibrium actions h = refl
  only-equilibrium fit e (Better player now best) actions h =
      (let tells = one-tells player now best actions h in
      let better = tells.has_better in
      absurd (not_le_of_lt _ _ better.pays_more (e.no_better_reply player better.choice h.within better.is_choice)))
  only-equilibrium fit e (Range step) actions h = absurd (unfit_among _ step h.0.first (fit h.0.player h.0.choice h.0.within h.0.is_best))

-- the law of verdicts, where trees stand for game trees
pub verdicts-tell : ((tree : GameTree) → is_valid_tree tree → IsTree (game_of_tree tree)) → TreeVerdictsFindEquilibria
verdicts-tell game = record {
  equilibrium = λ tree b actions valid recall valid_b h. none-equilibrium (game_of_tree tree) b (game tree valid) recall valid_b h.0;
  better = λ tree b player now best actions valid recall h. one-tells (game_of_tree tree) b (game tree valid) recall player now best actions h;
  exactly = λ tree b verdict actions valid recall valid_b fit h. (
    λ e. only-equilibrium (game_of_tree tree) b (game tree valid) recall fit e verdict actions h,
    λ is. none-equilibrium (game_of_tree tree) b (game tree valid) recall valid_b (subst (λ v. IsTreeVerdict (game_of_tree tree) b v actions) is h).0,
  );
}
