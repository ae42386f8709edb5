-- A decision at an own set, as its actions are weighed.
use Rattle.std.proofs.Common.{ℕ, suc, ◌+◌, ◌<◌, ◌≡◌, inl, inr, Some, List, All, length, get_or, set, sym, ap, ◌∙◌, subst, add-one, arith}
use Rattle.std.specs.List.{flat_map, range_with_len}
use Rattle.std.proofs.lemmas.Bool.{cases_eq, cases_lt}
use Rattle.std.proofs.lemmas.List.{get_or-set_same, get_or-set_other}
use Rattle.std.proofs.lemmas.List.Elements.{All-nil}
use Rattle.rational.specs.Rational.{ℚ, ◌≤ℚ◌, ◌<ℚ◌}
use Rattle.rational.proofs.Field.{le_refl}
use Rattle.game_theory.specs.Trees.{Tree, IsTree}
use Rattle.game_theory.specs.Behaviour.{Behaviour}
use Rattle.best_replies.specs.Greatest.{IsFirstGreatest}
use Rattle.best_replies.specs.Replies.{action_value}
use Rattle.best_replies.proofs.FirstGreatestLemmas.{first_greatest-unique, first_greatest-kept, first_greatest-passed}
use Rattle.best_replies.proofs.WeightLemmas.{step-to}
use Rattle.frac128.specs.Steps.{StepFits}
use Rattle.verdicts.specs.TreeReplies.{AreDecided, IsComputed}
use Rattle.verdicts.specs.TreeSteps.{action_steps, decision_steps}
use Rattle.frac128.proofs.StepPartLemmas.{parts-more}

module _ (t : Tree) (b : Behaviour) (i : ℕ) (choice : ℕ → ℕ) (weights : List ℚ) where
  -- the first n actions of set s are weighed, and this is the first of the greatest
  pub record AreWeighed (choices : List ℕ) (values : List ℚ) (s n best : ℕ) (most : ℚ) : Type 0 where
    pub decided : AreDecided t b i choice weights choices values (suc s) n
    pub greatest : 0 < n → IsFirstGreatest n (action_value t b i choice s) best
    pub most_is : 0 < n → most ≡ action_value t b i choice s best
    pub fit : All StepFits (flat_map (action_steps t b i choice s) (range_with_len 0 n))

  module _ (choices : List ℕ) (s : ℕ) where
    -- none is weighed at first
    pub weighed-none : (values : List ℚ) (best : ℕ) (most : ℚ) → AreDecided t b i choice weights choices values (suc s) 0 → AreWeighed choices values s 0 best most
    weighed-none values best most h = record { decided = h; greatest = λ p. absurd (omega (arith, p)); most_is = λ p. absurd (omega (arith, p)); fit = All-nil StepFits }

    module _ (old new : List ℚ) (n best : ℕ) (most v : ℚ) (h : AreWeighed choices old s n best most) (is : v ≡ action_value t b i choice s n) (decided : AreDecided t b i choice weights choices new (suc s) (suc n)) (fits : All StepFits (action_steps t b i choice s n)) where
      -- one more that is greater
      pub weighed-greater : (0 < n → most <ℚ v) → AreWeighed choices new s (n + 1) n v
      weighed-greater more = record {
        decided = subst (AreDecided t b i choice weights choices new (suc s)) (sym (add-one n)) decided;
        greatest = λ p. subst (λ x. IsFirstGreatest x (action_value t b i choice s) n) (sym (add-one n)) (elim (cases_lt 0 n) [
          | inl some ↦ first_greatest-passed n (action_value t b i choice s) best (h.greatest some) (subst (λ x. x <ℚ action_value t b i choice s n) (h.most_is some) (subst (λ x. most <ℚ x) is (more some)))
          | inr none ↦ record {
            within = omega arith;
            greatest = λ c l. let same : n ≡ c = omega arith in subst (λ x. action_value t b i choice s x ≤ℚ action_value t b i choice s n) same (le_refl _);
            first = λ c l. absurd (omega (arith, l));
          }
        ]);
        most_is = λ p. is;
        fit = parts-more (action_steps t b i choice s) n h.fit fits;
      }

      -- one more that is not
      pub weighed-other : (0 < n) × (v ≤ℚ most) → AreWeighed choices new s (n + 1) best most
      weighed-other less = record {
        decided = subst (AreDecided t b i choice weights choices new (suc s)) (sym (add-one n)) decided;
        greatest = λ p. subst (λ x. IsFirstGreatest x (action_value t b i choice s) best) (sym (add-one n))
            (first_greatest-kept n (action_value t b i choice s) best (h.greatest less.0) (subst (λ x. action_value t b i choice s n ≤ℚ x) (h.most_is less.0) (subst (λ x. x ≤ℚ most) is less.1)));
        most_is = λ p. h.most_is less.0;
        fit = parts-more (action_steps t b i choice s) n h.fit fits;
      }

    -- when all are weighed the set is decided
    pub weighed-all : (values : List ℚ) (n best : ℕ) (most : ℚ) → IsTree t → s < t.sets → t.owner s ≡ Some i → length choices ≡ t.sets → n ≡ t.actions s → AreWeighed choices values s n best most
        → AreDecided t b i choice weights (set choices s best) values s 0 × All StepFits (decision_steps t b i choice s)
    weighed-all values n best most w l o long all h = (
      record {
        best = h.decided.best;
        ascend = h.decided.ascend;
        weights_are = h.decided.weights_are;
        choices_are = λ r from k own. elim (cases_eq r s) [
          | inl same ↦ ap (λ x. get_or (set choices s best) x 0) same ∙ get_or-set_same choices s best 0 (omega (arith, long)) ∙ best_is ∙ ap choice (sym same)
          | inr apart ↦ get_or-set_other choices s r best 0 apart ∙ h.decided.choices_are r (omega arith) k own
        ];
        values_are = λ x r p k e own computed. h.decided.values_are x r p k e own (earlier x r p k e computed);
      },
      subst (λ m. All StepFits (flat_map (action_steps t b i choice s) (range_with_len 0 m))) all h.fit,
    )
      where
        some : 0 < n
        some = subst (λ m. 0 < m) (sym all) (w.some_action s l)

        best_is : best ≡ choice s
        best_is = first_greatest-unique (t.actions s) (action_value t b i choice s) best (choice s) (subst (λ m. IsFirstGreatest m (action_value t b i choice s) best) all (h.greatest some)) (h.decided.best s l o)

        earlier : (x r : ℕ) → 0 < x → x < t.size → t.set (t.parent x) ≡ Some r → IsComputed s 0 r (t.branch x) → IsComputed (suc s) n r (t.branch x)
        earlier x r p k e (inr now) = absurd (omega (arith, now.1))
        earlier x r p k e (inl from) = elim (cases_eq r s) [
          | inl same ↦ let step = step-to t x r w p k e in inr (ap suc same, subst (λ m. t.branch x < m) (ap t.actions same ∙ sym all) step.branch_below)
          | inr apart ↦ inl (omega arith)
        ]
