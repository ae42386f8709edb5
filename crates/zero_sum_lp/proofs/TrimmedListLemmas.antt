-- Trimmed plans in lists, action by action and set by set.
use Rattle.std.proofs.Common.{All, ℕ, suc, ◌<◌, ◌≤◌, ◌≡◌, ◌≢◌, ◌+◌, inl, inr, List, Ok, Err, length, sym, ap, ◌∙◌, subst, subst₂, arith}
use Rattle.rational.specs.Extremes.{IsLesser}
use Rattle.rational.specs.Rational.{ℚ, ◌-ℚ◌, one_ℚ}
use Rattle.rational.specs.Sum.{sum_to, entry_at}
use Rattle.rational.proofs.SumLemmas.{sum_to-same}
use Rattle.linear_systems.proofs.LexRowLemmas.{below_cases}
use Rattle.frac128.specs.declared.steps.Op.TheVariants.{Sub}
use Rattle.frac128.specs.Steps.{SubFits, step_of, Step, StepFits, IsFirstUnfit}
use Rattle.sequence_forms.specs.Sides.{Side, first, sequences, IsOrderedSide}
use Rattle.zero_sum_lp.specs.Plans.{IsTrimmed}
use Rattle.zero_sum_lp.specs.PlanLists.{AreShares, IsUnfitShare}
use Rattle.zero_sum_lp.specs.PlanSteps.{rest_steps}
use Rattle.zero_sum_lp.specs.PlanStops.{trimmed_in}
use Rattle.zero_sum_lp.proofs.ExactPlanLemmas.{is_trimmed, shares_once, trimmed_plan}
use Rattle.zero_sum_lp.proofs.PlanListLemmas.{IsMadeTo, IsSetOf, at_set, made_begins, made_next}
use Rattle.zero_sum_lp.proofs.PlanStageLemmas.{trimmed_in-made, trimmed_in-stop}
use Rattle.zero_sum_lp.proofs.PlanStepLemmas.{rest_fails, rest_fits, rest_next, rest_same, rest_unfit, unfit_next}

-- ---- one set
left_is : (w : ℚ) (z z' : ℕ → ℚ) (n : ℕ) (left : ℚ) → ((a : ℕ) → a < n → z' a ≡ z a) → left ≡ w -ℚ sum_to n z → left ≡ w -ℚ sum_to n z'
left_is w z z' n left h e = e ∙ ap (λ b. w -ℚ b) (sum_to-same n z z' (λ i m. sym (h i m)))

share_one : (w : ℚ) (x z z' : ℕ → ℚ) (n : ℕ) (left v share : ℚ) → ((a : ℕ) → a < n → z' a ≡ z a) → AreShares w x z n → left ≡ w -ℚ sum_to n z → v ≡ x n → IsLesser v left share → z' n ≡ share → AreShares w x z' (suc n)
share_one w x z z' n left v share h s el ev l ez a k = elim (below_cases a n k) [
  | inl e ↦ subst (λ i. IsLesser (x i) (w -ℚ sum_to i z') (z' i)) (sym e) (subst (λ b. IsLesser (x n) b (z' n)) (left_is w z z' n left h el) (subst₂ (λ b c. IsLesser b left c) ev (sym ez) l))
  | inr m ↦ subst₂ (λ b c. IsLesser (x a) (w -ℚ b) c) (sum_to-same a z z' (λ i p. sym (h i (omega arith)))) (sym (h a m)) (s a m)
]

pub share_next : (w : ℚ) (x z z' : ℕ → ℚ) (n : ℕ) (left v share : ℚ) → ((a : ℕ) → a < n → z' a ≡ z a) → AreShares w x z n → left ≡ w -ℚ sum_to n z → v ≡ x n → IsLesser v left share → z' n ≡ share → AreShares w x z' (n + 1)
share_next w x z z' n left v share h s el ev l ez a k = share_one w x z z' n left v share h s el ev l ez a (omega arith)

pub share_fits : (w : ℚ) (z z' : ℕ → ℚ) (n : ℕ) (left share : ℚ) → ((a : ℕ) → a < n → z' a ≡ z a) → left ≡ w -ℚ sum_to n z → z' n ≡ share → SubFits left share → All StepFits (rest_steps w z n) → All StepFits (rest_steps w z' (n + 1))
share_fits w z z' n left share h el ez f s =
    rest_fits w z' n left share (left_is w z z' n left h el) (sym ez) f (subst (All StepFits) (rest_same w z z' n (λ a m. sym (h a m))) s)

pub left_next : (w : ℚ) (z z' : ℕ → ℚ) (n : ℕ) (left share less : ℚ) → ((a : ℕ) → a < n → z' a ≡ z a) → left ≡ w -ℚ sum_to n z → z' n ≡ share → less ≡ left -ℚ share → less ≡ w -ℚ sum_to (n + 1) z'
left_next w z z' n left share less h el ez e = rest_next w z' n left share less (left_is w z z' n left h el) (sym ez) e

pub share_fails : (w : ℚ) (x z z' : ℕ → ℚ) (n count : ℕ) (left v share : ℚ) (u : Step) → n < count → ((a : ℕ) → a < n → z' a ≡ z a) → AreShares w x z n → All StepFits (rest_steps w z n) → left ≡ w -ℚ sum_to n z → v ≡ x n → IsLesser v left share → z' n ≡ share → ¬ (SubFits left share) → u ≡ step_of Sub left share → IsUnfitShare w x count u
share_fails w x z z' n count left v share u k h s fit el ev l ez f q y t =
    let same : (a : ℕ) → a < suc n → z' a ≡ y a = shares_once w x z' y (suc n) (share_one w x z z' n left v share h s el ev l ez) (λ a m. t a (omega (arith, k, m))) in
    rest_unfit w y (suc n) count u (omega arith) (subst (λ ss. IsFirstUnfit ss u) (rest_same w z' y (suc n) same) (rest_fails w z' n (suc n) left share u (omega arith) (left_is w z z' n left h el) (sym ez) f q (subst (All StepFits) (rest_same w z z' n (λ a m. sym (h a m))) fit)))

-- ---- trimmed plans under way
-- the steps of set j where z is the plan that is trimmed
abbrev pub trimmed_at : Side → (ℕ → ℚ) → ℕ → List Step
trimmed_at d z j = rest_steps (z (d.before j)) (λ a. z (first d j + a)) (d.count j)

-- after n sets
abbrev pub IsTrimmedTo : Side → ℕ → (ℕ → ℚ) → (ℕ → ℚ) → Type 0
IsTrimmedTo d n x w = IsMadeTo d n x (trimmed_plan d x) w (trimmed_at d (trimmed_plan d x))

-- one set's weights were trimmed
pub record Trims (w w' : ℕ → ℚ) (before f count : ℕ) : Type 0 where
  pub low : (q : ℕ) → q < f → w' q ≡ w q
  pub high : (q : ℕ) → f + count ≤ q → w' q ≡ w q
  pub shares : AreShares (w before) (λ a. w (f + a)) (λ a. w' (f + a)) count
  pub fits : All StepFits (rest_steps (w before) (λ a. w' (f + a)) count)

module _ (d : Side) (o : IsOrderedSide d) (n : ℕ) (h : n < d.sets) (x z w : ℕ → ℚ) (r : IsTrimmed d x z) (m : IsMadeTo d n x z w (trimmed_at d z)) where
  before_made : w (d.before n) ≡ z (d.before n)
  before_made = m.made (d.before n) (o.follows n h)

  -- the shares that the plan gives
  plan_shares : AreShares (w (d.before n)) (λ a. w (first d n + a)) (λ a. z (first d n + a)) (d.count n)
  plan_shares a l = subst₂ (λ b c. IsLesser b (c -ℚ sum_to a (λ i. z (first d n + i))) (z (first d n + a))) (sym (m.later (first d n + a) (omega arith))) (sym before_made) (r.shares n a h l)

  trimmed_next_set : (w' : ℕ → ℚ) → Trims w w' (d.before n) (first d n) (d.count n) → IsMadeTo d (n + 1) x z w' (trimmed_at d z)
  trimmed_next_set w' k =
      let here : (a : ℕ) → a < d.count n → w' (first d n + a) ≡ z (first d n + a) = shares_once (w (d.before n)) (λ a. w (first d n + a)) (λ a. w' (first d n + a)) (λ a. z (first d n + a)) (d.count n) k.shares plan_shares in
      made_next d n x z w w' (trimmed_at d z) m k.low here k.high (subst (All StepFits) (rest_same (w (d.before n)) _ _ (d.count n) here ∙ ap (λ b. rest_steps b (λ a. z (first d n + a)) (d.count n)) before_made) k.fits)

  trimmed_stops_at : (u : Step) → IsUnfitShare (w (d.before n)) (λ a. w (first d n + a)) (d.count n) u → IsFirstUnfit (trimmed_at d z n) u
  trimmed_stops_at u k = subst (λ b. IsFirstUnfit (rest_steps b (λ a. z (first d n + a)) (d.count n)) u) before_made (k (λ a. z (first d n + a)) plan_shares)

pub trimmed_begins : (d : Side) (o : IsOrderedSide d) (x w : ℕ → ℚ) → w 0 ≡ one_ℚ → ((q : ℕ) → q ≢ 0 → w q ≡ x q) → IsTrimmedTo d 0 x w
trimmed_begins d o x w e h = made_begins d x (trimmed_plan d x) w _ (is_trimmed d o x).empty e h

pub trimmed_next : (d : Side) (o : IsOrderedSide d) (n before f count : ℕ) (x w w' : ℕ → ℚ) → IsSetOf d n before f count → IsTrimmedTo d n x w → Trims w w' before f count → IsTrimmedTo d (n + 1) x w'
trimmed_next d o n before f count x w w' s m k = trimmed_next_set d o n s.within x (trimmed_plan d x) w (is_trimmed d o x) m w' (at_set d n before f count (Trims w w') s k)

pub trimmed_ends : (d : Side) (o : IsOrderedSide d) (n : ℕ) (x : ℕ → ℚ) (w : List ℚ) → n ≡ d.sets → length w ≡ sequences d → IsTrimmedTo d n x (entry_at w) → trimmed_in d x (Ok w)
trimmed_ends d o n x w e c m =
    let all : IsTrimmedTo d d.sets x (entry_at w) = subst (λ k. IsTrimmedTo d k x (entry_at w)) e m in
    trimmed_in-made d o x (trimmed_plan d x) w c (λ q l. sym (all.made q l)) (is_trimmed d o x) all.fits

pub trimmed_stops : (d : Side) (o : IsOrderedSide d) (n before f count : ℕ) (x w : ℕ → ℚ) (u : Step) → IsSetOf d n before f count → IsTrimmedTo d n x w → IsUnfitShare (w before) (λ a. w (f + a)) count u → trimmed_in d x (Err u)
trimmed_stops d o n before f count x w u s m k =
    trimmed_in-stop d o x (trimmed_plan d x) u (is_trimmed d o x)
    (unfit_next _ n d.sets u s.within m.fits (trimmed_stops_at d o n s.within x (trimmed_plan d x) w (is_trimmed d o x) m u (at_set d n before f count (λ b q c. IsUnfitShare (w b) (λ a. w (q + a)) c u) s k)))
