-- A player's replies before the first decision.
use Rattle.std.proofs.Common.{ℕ, inl, inr, List, arith}
use Rattle.rational.specs.Rational.{ℚ}
use Rattle.game_theory.specs.Trees.{Tree, IsTree}
use Rattle.game_theory.specs.Behaviour.{Behaviour}
use Rattle.best_replies.specs.Order.{AscendOnPaths}
use Rattle.best_replies.specs.Replies.{AreBestChoices}
use Rattle.best_replies.proofs.WeightLemmas.{step-to}
use Rattle.verdicts.specs.TreeReplies.{AreDecided}
use Rattle.verdicts.specs.TreeWeights.{AreWeights}

-- before the last set nothing is decided
pub decided-none : (t : Tree) (b : Behaviour) (i : ℕ) (choice : ℕ → ℕ) (weights values : List ℚ) (choices : List ℕ) → IsTree t → AscendOnPaths t i → AreBestChoices t b i choice → AreWeights t b i weights t.size → AreDecided t b i choice weights choices values t.sets 0
decided-none t b i choice weights values choices w ascend best h = record {
  best = best;
  ascend = ascend;
  weights_are = h;
  choices_are = λ s from l o. absurd (omega arith);
  values_are = λ c s p l e o computed. let step = step-to t c s w p l e in absurd (elim computed [ inl from ↦ omega (arith, step.within) | inr now ↦ omega (arith, now.1) ]);
}
