-- The plans that raw weights make, as stages.
use Rattle.std.proofs.Common.{ℕ, ◌<◌, ◌≡◌, ◌∙◌, inl, inr, All, List, Result, Ok, Err, length, map, refl, sym, subst, arith}
use Rattle.std.specs.List.{range_with_len}
use Rattle.std.proofs.lemmas.List.{ext_get_or}
use Rattle.std.proofs.lemmas.List.FromFn.{get_or-map-range_with_len, length-map-range_with_len}
use Rattle.answers.specs.Answers.{IsSingle, ◌>>◌, only, such_that}
use Rattle.answers.proofs.AnswerLemmas.{bind-single, only-single, such_that-single}
use Rattle.rational.specs.Rational.{ℚ, zero_ℚ}
use Rattle.frac128.specs.FirstUnfit.{all_steps_fit}
use Rattle.frac128.specs.Steps.{Step, StepFits, IsFirstUnfit}
use Rattle.frac128.proofs.FirstUnfitLemmas.{all_steps_fit-single}
use Rattle.sequence_forms.specs.Sides.{Side, sequences, IsOrderedSide}
use Rattle.rational.specs.Sum.{entry_at}
use Rattle.zero_sum_lp.specs.Plans.{IsRaised, IsTrimmed}
use Rattle.zero_sum_lp.specs.PlanSteps.{raising_steps, trimming_steps}
use Rattle.zero_sum_lp.specs.PlanStops.{IsRaisedPlan, IsTrimmedPlan, plan_in, raised_in, trimmed_in}
use Rattle.zero_sum_lp.proofs.ExactPlanLemmas.{raised_as, raised_once, trimmed_as, trimmed_once}
use Rattle.zero_sum_lp.proofs.PlanStepLemmas.{Agree, raising_same, trimming_same}

-- ---- plans with a property
module _ (is_plan : List ℚ → Type 0) (steps : List ℚ → List Step) where
  plan_in-single : ((a b : List ℚ) → is_plan a → is_plan b → a ≡ b) → IsSingle (plan_in is_plan steps)
  plan_in-single same =
      bind-single (such_that is_plan) (λ plan. all_steps_fit (steps plan) >> only plan) (such_that-single is_plan same)
      (λ plan _. bind-single (all_steps_fit (steps plan)) (λ _. only plan) (all_steps_fit-single (steps plan)) (λ _ _. only-single plan))

  plan_in-made : (plan : List ℚ) → is_plan plan → All StepFits (steps plan) → plan_in is_plan steps (Ok plan)
  plan_in-made plan p f = (plan, p, (tt, f, refl))

  plan_in-stop : (plan : List ℚ) (u : Step) → is_plan plan → IsFirstUnfit (steps plan) u → plan_in is_plan steps (Err u)
  plan_in-stop plan u p f = inr (plan, p, inl f)

  pub plan_in-value : (plan : List ℚ) → plan_in is_plan steps (Ok plan) → is_plan plan
  plan_in-value plan (made, p, (_, _, e)) = (let same : made ≡ plan = cc (e) in subst is_plan same p)

  pub plan_in-unfit : (u : Step) → plan_in is_plan steps (Err u) → ¬ (StepFits u)
  plan_in-unfit u (inl h) = absurd h
  plan_in-unfit u (inr (_, _, inl h)) = h.does_not_fit
  plan_in-unfit u (inr (_, _, inr (_, _, h))) = cc

  -- another property and its steps
  plan_in-as : (other : List ℚ → Type 0) (others : List ℚ → List Step) (answer : Result (List ℚ) Step) → ((plan : List ℚ) → is_plan plan → other plan) → ((plan : List ℚ) → steps plan ≡ others plan) → plan_in is_plan steps answer → plan_in other others answer
  plan_in-as other others (Ok made) turn same (plan, p, (_, f, e)) = (plan, turn plan p, (tt, subst (All StepFits) (same plan) f, e))
  plan_in-as other others (Err u) turn same (inl h) = absurd h
  plan_in-as other others (Err u) turn same (inr (plan, p, inl f)) = inr (plan, turn plan p, inl (subst (λ ss. IsFirstUnfit ss u) (same plan) f))
  plan_in-as other others (Err u) turn same (inr (plan, p, inr (_, f, e))) = inr (plan, turn plan p, inr (tt, subst (All StepFits) (same plan) f, e))

-- ---- the weights of a side
-- lists of a weight for each sequence
weights_once : (d : Side) (a b : List ℚ) → length a ≡ sequences d → length b ≡ sequences d → Agree d (entry_at a) (entry_at b) → a ≡ b
weights_once d a b p q e = ext_get_or zero_ℚ a b (p ∙ sym q) (λ i l. e i (subst (λ n. i < n) p l))

-- the first weights, as such a list
abbrev pub weights_of : Side → (ℕ → ℚ) → List ℚ
weights_of d z = map z (range_with_len 0 (sequences d))

pub weights_there : (d : Side) (z : ℕ → ℚ) → Agree d z (entry_at (weights_of d z))
weights_there d z q l = sym (get_or-map-range_with_len z 0 (sequences d) q q zero_ℚ l (omega arith))

module _ (d : Side) (o : IsOrderedSide d) where
  -- ---- raised plans
  pub raised_in-single : (x : ℕ → ℚ) → IsSingle (raised_in d x)
  raised_in-single x = plan_in-single (IsRaisedPlan d x) (λ plan. raising_steps d x (entry_at plan)) (λ a b h k. weights_once d a b h.0 k.0 (raised_once d o x (entry_at a) (entry_at b) h.1 k.1))

  pub raised_in-made : (x z : ℕ → ℚ) (plan : List ℚ) → length plan ≡ sequences d → Agree d z (entry_at plan) → IsRaised d x z → All StepFits (raising_steps d x z) → raised_in d x (Ok plan)
  raised_in-made x z plan c e r f =
      plan_in-made (IsRaisedPlan d x) (λ plan. raising_steps d x (entry_at plan)) plan (c, raised_as d o x x z (entry_at plan) (λ q l. refl) e r) (subst (All StepFits) (raising_same d o x x z (entry_at plan) (λ q l. refl) e) f)

  pub raised_in-stop : (x z : ℕ → ℚ) (u : Step) → IsRaised d x z → IsFirstUnfit (raising_steps d x z) u → raised_in d x (Err u)
  raised_in-stop x z u r f =
      let plan = weights_of d z in
      plan_in-stop (IsRaisedPlan d x) (λ plan. raising_steps d x (entry_at plan)) plan u (length-map-range_with_len z 0 (sequences d), raised_as d o x x z (entry_at plan) (λ q l. refl) (weights_there d z) r)
      (subst (λ ss. IsFirstUnfit ss u) (raising_same d o x x z (entry_at plan) (λ q l. refl) (weights_there d z)) f)

  pub raised_in-as : (x y : ℕ → ℚ) (answer : Result (List ℚ) Step) → Agree d x y → raised_in d x answer → raised_in d y answer
  raised_in-as x y answer e =
      plan_in-as (IsRaisedPlan d x) (λ plan. raising_steps d x (entry_at plan)) (IsRaisedPlan d y) (λ plan. raising_steps d y (entry_at plan)) answer
      (λ plan h. (h.0, raised_as d o x y (entry_at plan) (entry_at plan) e (λ q l. refl) h.1)) (λ plan. raising_same d o x y (entry_at plan) (entry_at plan) e (λ q l. refl))

  -- ---- trimmed plans
  pub trimmed_in-single : (x : ℕ → ℚ) → IsSingle (trimmed_in d x)
  trimmed_in-single x = plan_in-single (IsTrimmedPlan d x) (λ plan. trimming_steps d (entry_at plan)) (λ a b h k. weights_once d a b h.0 k.0 (trimmed_once d o x (entry_at a) (entry_at b) h.1 k.1))

  pub trimmed_in-made : (x z : ℕ → ℚ) (plan : List ℚ) → length plan ≡ sequences d → Agree d z (entry_at plan) → IsTrimmed d x z → All StepFits (trimming_steps d z) → trimmed_in d x (Ok plan)
  trimmed_in-made x z plan c e r f =
      plan_in-made (IsTrimmedPlan d x) (λ plan. trimming_steps d (entry_at plan)) plan (c, trimmed_as d o x x z (entry_at plan) (λ q l. refl) e r) (subst (All StepFits) (trimming_same d o z (entry_at plan) e) f)

  pub trimmed_in-stop : (x z : ℕ → ℚ) (u : Step) → IsTrimmed d x z → IsFirstUnfit (trimming_steps d z) u → trimmed_in d x (Err u)
  trimmed_in-stop x z u r f =
      let plan = weights_of d z in
      plan_in-stop (IsTrimmedPlan d x) (λ plan. trimming_steps d (entry_at plan)) plan u (length-map-range_with_len z 0 (sequences d), trimmed_as d o x x z (entry_at plan) (λ q l. refl) (weights_there d z) r)
      (subst (λ ss. IsFirstUnfit ss u) (trimming_same d o z (entry_at plan) (weights_there d z)) f)

  pub trimmed_in-as : (x y : ℕ → ℚ) (answer : Result (List ℚ) Step) → Agree d x y → trimmed_in d x answer → trimmed_in d y answer
  trimmed_in-as x y answer e =
      plan_in-as (IsTrimmedPlan d x) (λ plan. trimming_steps d (entry_at plan)) (IsTrimmedPlan d y) (λ plan. trimming_steps d (entry_at plan)) answer
      (λ plan h. (h.0, trimmed_as d o x y (entry_at plan) (entry_at plan) e (λ q l. refl) h.1)) (λ plan. refl)
