-- Behaviours that are the same at the players' sets have the same verdict.
use Rattle.std.proofs.Common.{ℕ, ◌≡◌, List, All, refl, ◌∙◌, subst, subst₂}
use Rattle.rational.specs.Rational.{◌≤ℚ◌}
use Rattle.game_theory.specs.Trees.{Tree, IsTree}
use Rattle.game_theory.specs.Behaviour.{Behaviour}
use Rattle.best_replies.specs.Replies.{AreBestChoices}
use Rattle.frac128.specs.Steps.{StepFits, IsFirstUnfit}
use Rattle.verdicts.specs.declared.trees.TreeVerdict.{TreeVerdict}
use Rattle.verdicts.specs.declared.trees.TreeVerdict.TheVariants.{Equilibrium, Better, Range}
use Rattle.verdicts.specs.TreeSteps.{tree_player_steps}
use Rattle.verdicts.specs.TreeVerdicts.{PassesTree, IsTreeVerdict}
use Rattle.verdicts.proofs.AlikeBehaviourLemmas.{AreAlike, best_choices-alike, reply_value-alike, value-alike}
use Rattle.verdicts.proofs.AlikeChoiceLemmas.{steps-alike}

module _ (t : Tree) (b other : Behaviour) (w : IsTree t) (alike : AreAlike t b other) where
  tree_player_steps-alike : (i : ℕ) (choice : ℕ → ℕ) → AreBestChoices t b i choice → tree_player_steps t b i choice ≡ tree_player_steps t other i choice
  tree_player_steps-alike i choice best = steps-alike t b other i choice choice w alike (λ s l o. (best s l o).within) (λ s l o. refl)

  no_better-alike : (i : ℕ) → PassesTree t b i → PassesTree t other i
  no_better-alike i h = record {
    choice = h.choice;
    is_best = best_choices-alike t b other w alike i h.choice h.is_best;
    fit = subst (All StepFits) (tree_player_steps-alike i h.choice h.is_best) h.fit;
    no_more = subst₂ (λ x y. x ≤ℚ y) (reply_value-alike t b other w alike i h.choice 0 w.some_node) (value-alike t b other w alike i 0 w.some_node) h.no_more;
  }

  pub verdict-alike : (verdict : TreeVerdict) (actions : List ℕ) → IsTreeVerdict t b verdict actions → IsTreeVerdict t other verdict actions
  verdict-alike Equilibrium actions h = (λ i l. no_better-alike i (h.0 i l), h.1)
  verdict-alike (Better player now best) actions h = record {
    within = h.within;
    earlier = λ i l. no_better-alike i (h.earlier i l);
    choice = h.choice;
    is_best = best_choices-alike t b other w alike player h.choice h.is_best;
    fit = subst (All StepFits) (tree_player_steps-alike player h.choice h.is_best) h.fit;
    payoff_is = h.payoff_is ∙ value-alike t b other w alike player 0 w.some_node;
    best_is = h.best_is ∙ reply_value-alike t b other w alike player h.choice 0 w.some_node;
    more = h.more;
    reply_is = h.reply_is;
  }
  verdict-alike (Range step) actions h = (
    record {
      player = h.0.player;
      within = h.0.within;
      earlier = λ i l. no_better-alike i (h.0.earlier i l);
      choice = h.0.choice;
      is_best = best_choices-alike t b other w alike h.0.player h.0.choice h.0.is_best;
      first = subst (λ steps. IsFirstUnfit steps step) (tree_player_steps-alike h.0.player h.0.choice h.0.is_best) h.0.first;
    },
    h.1,
  )
