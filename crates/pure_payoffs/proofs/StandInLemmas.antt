-- Nodes that stand for others.
use Rattle.std.proofs.Common.{ℕ, ◌<◌, ◌≡◌, Some, Result, Ok, Err, refl, sym, arith}
use Rattle.std.specs.Prelude.{IfOk}
use Rattle.rational.specs.Rational.{ℚ, zero_ℚ}
use Rattle.frac128.specs.Fraction.{Fits}
use Rattle.frac128.proofs.LikeSumLemmas.{left_zero}
use Rattle.frac128.specs.declared.steps.Unfit.{Unfit}
use Rattle.game_theory.specs.Trees.{Tree, IsTree}
use Rattle.game_theory.specs.Behaviour.{value, pure}
use Rattle.frac128.specs.Steps.{StepsGive}
use Rattle.pure_payoffs.specs.Steps.{steps_at}
use Rattle.pure_payoffs.specs.Shortcuts.{OnlyLeadsTo, StandsFor}
use Rattle.pure_payoffs.proofs.NodeValueLemmas.{owned-gives, following-refused, node-added}

-- ---- nodes that stand for others
module _ (t : Tree) (choice : ℕ → ℕ) (w : IsTree t) (chosen : (s j : ℕ) → s < t.sets → t.owner s ≡ Some j → choice s < t.actions s) where
  -- a node stands for itself
  pub StandsFor-self : (k : ℕ) → k < t.size → StandsFor t choice k k
  StandsFor-self k l = record { not_before = omega arith; within = l; gives = λ i r fits g. g }

  -- what the node after gives
  only-gives : (k c : ℕ) → k < t.size → OnlyLeadsTo t choice k c → (i : ℕ) (r : Result ℚ Unfit) → IfOk r Fits → StepsGive (steps_at t choice i c) (value t (pure choice) i c) r → StepsGive (steps_at t choice i k) (value t (pure choice) i k) r
  only-gives k c l o i (Ok x) fits g =
      let following = owned-gives t choice i k o.set o.owner c (t.owner o.set) (Ok x) o.own o.leads g in
      node-added t choice i w chosen k l o.set o.at_set zero_ℚ x (Ok x) (sym (o.pays_nothing i)) following.0 following.1 (left_zero zero_ℚ x refl fits).0 (left_zero zero_ℚ x refl fits).1 tt tt
  only-gives k c l o i (Err u) fits g = following-refused t choice i w chosen k l o.set o.at_set u (owned-gives t choice i k o.set o.owner c (t.owner o.set) (Err u) o.own o.leads g)

  -- what stands for the node after stands for the node
  pub StandsFor-before : (k c s : ℕ) → k < t.size → OnlyLeadsTo t choice k c → StandsFor t choice c s → StandsFor t choice k s
  StandsFor-before k c s l o h = record {
    not_before = omega (arith, o.later, h.not_before);
    within = h.within;
    gives = λ i r fits g. only-gives k c l o i r fits (h.gives i r fits g);
  }

-- what stands for a node that stands for another stands for that
pub StandsFor-onwards : (t : Tree) (choice : ℕ → ℕ) (k c s : ℕ) → StandsFor t choice k c → StandsFor t choice c s → StandsFor t choice k s
StandsFor-onwards t choice k c s h g = record {
  not_before = omega (arith, h.not_before, g.not_before);
  within = g.within;
  gives = λ i r fits give. h.gives i r fits (g.gives i r fits give);
}
