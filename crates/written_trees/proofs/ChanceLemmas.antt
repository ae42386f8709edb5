-- The tests of probabilities and payoffs say what the definitions say.
use Rattle.std.proofs.Common.{◌≡◌, ℕ, zero, suc, ◌<◌, List, [], ◌∷◌, length, map, Option, Some, None, All, Decides, IfSome, refl, sym, ap, ◌∙◌, subst, arith}
use Rattle.std.proofs.lemmas.List.{get_or-map, length-map}
use Rattle.std.proofs.lemmas.List.Elements.{All-nil, All-cons, All-head, All-tail, All-map}
use Rattle.std.proofs.lemmas.Bool.Decides.{Decides-ltb, Decides-and, Decides-like}
use Rattle.std.proofs.lemmas.Slice.Eq.{slice_eq-Decides}
use Rattle.rational.specs.Tests.{eq_ℚ}
use Rattle.rational.specs.Rational.{ℚ, ◌+ℚ◌, ◌≤ℚ◌, zero_ℚ, one_ℚ}
use Rattle.rational.specs.Sum.{sum_to}
use Rattle.rational.proofs.Decide.{le_test-true, eq_ℚ-decides}
use Rattle.rational.proofs.Field.{le-add_left}
use Rattle.rational.proofs.RationalRing.{+ℚ_assoc, +ℚ-zero}
use Rattle.rational.proofs.Rules.{zero-+ℚ}
use Rattle.rational.proofs.SumLemmas.{sum_to-first, sum_to-nonneg}
use Rattle.frac128.specs.Steps.{AddFits}
use Rattle.game_core.specs.declared.tree.Action.{Action}
use Rattle.game_core.specs.Tree.{probability_at}
use Rattle.game_core.proofs.TreeLaws.{part_has}
use Rattle.written_trees.specs.Described.{AddUpToOne, IsFirstList}
use Rattle.written_trees.specs.Building.{add_test, may_follow, adds_up, may_be_first, repeats_actions, repeats_payoffs}

-- the test of a sum that fits
pub add_test-Decides : (a b : ℚ) → Decides (add_test a b) (AddFits a b)
add_test-Decides a b =
    Decides-like (add_test a b) (λ h. record { left = h.0; right = h.1.0; top = h.1.1.0; den = h.1.1.1 }) (λ h. (h.left, (h.right, (h.top, h.den)))) (Decides-and _ _ (Decides-ltb _ _) (Decides-and _ _ (Decides-ltb _ _) (Decides-and _ _ (Decides-ltb _ _) (Decides-ltb _ _))))

-- the test of a probability that comes after others
may_follow-Decides : (sum prob : ℚ) → Decides (may_follow sum prob) ((zero_ℚ ≤ℚ prob) × (AddFits sum prob × ((sum +ℚ prob) ≤ℚ one_ℚ)))
unfolding may_follow
may_follow-Decides sum prob =
    Decides-and _ _ (le_test-true zero_ℚ prob) (Decides-and _ _ (add_test-Decides sum prob) (le_test-true (sum +ℚ prob) one_ℚ))

-- a probability that is not negative
abbrev IsNotNegative : Action → Type 0
IsNotNegative action = zero_ℚ ≤ℚ action.prob

-- probabilities that come after others with this sum, and end with 1
record EndWithOne (sum : ℚ) (actions : List Action) : Type 0 where
  not_negative : All IsNotNegative actions
  additions_fit : (a : ℕ) → a < length actions → AddFits (sum +ℚ sum_to a (probability_at actions)) (probability_at actions a)
  sum_is_one : sum +ℚ sum_to (length actions) (probability_at actions) ≡ one_ℚ

-- a first probability goes to the sum of those before it
pub sum_onward : (sum : ℚ) (n : ℕ) (f : ℕ → ℚ) → sum +ℚ sum_to (suc n) f ≡ (sum +ℚ f 0) +ℚ sum_to n (λ i. f (suc i))
sum_onward sum n f = ap (λ x. sum +ℚ x) (sum_to-first n f) ∙ sym (+ℚ_assoc sum (f 0) (sum_to n (λ i. f (suc i))))

-- probabilities that are not negative make no sum less
EndWithOne-le : (sum : ℚ) (actions : List Action) → EndWithOne sum actions → sum ≤ℚ one_ℚ
EndWithOne-le sum actions h =
    let each = All-map (λ q. zero_ℚ ≤ℚ q) (λ action. action.prob) actions h.not_negative in
    let rest : zero_ℚ ≤ℚ sum_to (length actions) (probability_at actions) = sum_to-nonneg (length actions) (probability_at actions) (λ i lt. each i zero_ℚ (rw length-map lt)) in
    subst (λ x. x ≤ℚ one_ℚ) (+ℚ-zero sum) (subst (λ x. (sum +ℚ zero_ℚ) ≤ℚ x) h.sum_is_one (le-add_left sum zero_ℚ (sum_to (length actions) (probability_at actions)) rest))

-- one more probability in front
EndWithOne-cons : (sum : ℚ) (x : Action) (actions : List Action) → zero_ℚ ≤ℚ x.prob → AddFits sum x.prob → EndWithOne (sum +ℚ x.prob) actions → EndWithOne sum (x ∷ actions)
EndWithOne-cons sum x actions nonneg fits h =
    record {
      not_negative = All-cons IsNotNegative x actions nonneg h.not_negative;
      additions_fit = each;
      sum_is_one = sum_onward sum (length actions) (probability_at (x ∷ actions)) ∙ h.sum_is_one;
    }
  where
    each : (a : ℕ) → a < length (x ∷ actions) → AddFits (sum +ℚ sum_to a (probability_at (x ∷ actions))) (probability_at (x ∷ actions) a)
    each zero lt = subst (λ s. AddFits s x.prob) (sym (+ℚ-zero sum)) fits
    each (suc a) lt = subst (λ s. AddFits s (probability_at actions a)) (sym (sum_onward sum a (probability_at (x ∷ actions)))) (h.additions_fit a (omega arith))

-- the first probability, and the others
EndWithOne-parts : (sum : ℚ) (x : Action) (actions : List Action) → EndWithOne sum (x ∷ actions) → (zero_ℚ ≤ℚ x.prob) × (AddFits sum x.prob × EndWithOne (sum +ℚ x.prob) actions)
EndWithOne-parts sum x actions h = (
  All-head IsNotNegative x actions h.not_negative,
  (
    subst (λ s. AddFits s x.prob) (+ℚ-zero sum) (h.additions_fit 0 (omega arith)),
    record {
      not_negative = All-tail IsNotNegative x actions h.not_negative;
      additions_fit = λ a lt. subst (λ s. AddFits s (probability_at actions a)) (sum_onward sum a (probability_at (x ∷ actions))) (h.additions_fit (suc a) (omega arith));
      sum_is_one = sym (sum_onward sum (length actions) (probability_at (x ∷ actions))) ∙ h.sum_is_one;
    },
  ),
)

-- the test of probabilities that come after others
adds_up_from : (sum : ℚ) (actions : List Action) → Decides (adds_up sum actions) (EndWithOne sum actions)
adds_up_from sum [] =
    Decides-like (eq_ℚ sum one_ℚ) (λ e. record { not_negative = All-nil IsNotNegative; additions_fit = λ a lt. absurd (omega arith); sum_is_one = +ℚ-zero sum ∙ e }) (λ h. sym (+ℚ-zero sum) ∙ h.sum_is_one) (eq_ℚ-decides sum one_ℚ)
adds_up_from sum (x ∷ actions) =
    Decides-like (adds_up sum (x ∷ actions)) (λ h. EndWithOne-cons sum x actions h.0.0 h.0.1.0 h.1) parts (Decides-and _ _ (may_follow-Decides sum x.prob) (adds_up_from (sum +ℚ x.prob) actions))
  where
    parts : EndWithOne sum (x ∷ actions) → ((zero_ℚ ≤ℚ x.prob) × (AddFits sum x.prob × ((sum +ℚ x.prob) ≤ℚ one_ℚ))) × EndWithOne (sum +ℚ x.prob) actions
    parts h = let p = EndWithOne-parts sum x actions h in ((p.0, (p.1.0, EndWithOne-le (sum +ℚ x.prob) actions p.1.1)), p.1.1)

-- the test of a list of probabilities
pub adds_up-Decides : (actions : List Action) → Decides (adds_up zero_ℚ actions) (AddUpToOne actions)
adds_up-Decides actions = Decides-like (adds_up zero_ℚ actions) there back (adds_up_from zero_ℚ actions)
  where
    there : EndWithOne zero_ℚ actions → AddUpToOne actions
    there h =
        record {
          is_distribution = record { not_negative = λ a below. part_has (λ q. zero_ℚ ≤ℚ q) (λ action. action.prob) actions a zero_ℚ h.not_negative below; sum_is_one = sym (zero-+ℚ _) ∙ h.sum_is_one };
          additions_fit = λ a lt. subst (λ s. AddFits s (probability_at actions a)) (zero-+ℚ _) (h.additions_fit a lt);
        }

    back : AddUpToOne actions → EndWithOne zero_ℚ actions
    back h =
        record {
          not_negative = λ a d below. subst (λ q. zero_ℚ ≤ℚ q) (get_or-map (λ action. action.prob) actions a d zero_ℚ below) (h.is_distribution.not_negative a below);
          additions_fit = λ a lt. subst (λ s. AddFits s (probability_at actions a)) (sym (zero-+ℚ _)) (h.additions_fit a lt);
          sum_is_one = zero-+ℚ _ ∙ h.is_distribution.sum_is_one;
        }

-- the test of a first list of actions
pub may_be_first-Decides : (owner : Option ℕ) (actions : List Action) → Decides (may_be_first owner actions) (IsFirstList owner actions)
may_be_first-Decides None actions = adds_up-Decides actions
may_be_first-Decides (Some i) actions = (λ e. tt, λ h. refl)

-- the test of a later list of actions
pub repeats_actions-Decides : (actions : List Action) (list : Option (List Action)) → Decides (repeats_actions actions list) (IfSome list (λ list. map (λ action. action.prob) list ≡ map (λ action. action.prob) actions))
repeats_actions-Decides actions None = (λ e. tt, λ h. refl)
repeats_actions-Decides actions (Some list) = slice_eq-Decides eq_ℚ-decides (map (λ action. action.prob) list) (map (λ action. action.prob) actions) _ refl

-- the test of later payoffs
pub repeats_payoffs-Decides : (payoffs : List ℚ) (list : Option (List ℚ)) → Decides (repeats_payoffs payoffs list) (IfSome list (λ list. list ≡ payoffs))
repeats_payoffs-Decides payoffs None = (λ e. tt, λ h. refl)
repeats_payoffs-Decides payoffs (Some list) = slice_eq-Decides eq_ℚ-decides list payoffs _ refl
