-- Plans in lists, set by set.
use Rattle.std.proofs.Common.{ℕ, ◌<◌, ◌≤◌, ◌≡◌, ◌≢◌, ◌+◌, ◌-◌, inl, inr, All, List, Ok, Err, length, sym, ap, ap₂, ◌∙◌, subst, subst₂, arith, add-one}
use Rattle.std.proofs.lemmas.Bool.{cases_eq, cases_lt}
use Rattle.std.proofs.lemmas.List.{length-map}
use Rattle.std.proofs.lemmas.List.Elements.{All-nil}
use Rattle.rational.specs.Rational.{ℚ, ◌+ℚ◌, ◌-ℚ◌, one_ℚ}
use Rattle.rational.specs.Sum.{sum_to, entry_at}
use Rattle.rational.proofs.SumLemmas.{sum_to-same}
use Rattle.frac128.specs.Steps.{Step, StepFits, IsFirstUnfit}
use Rattle.sequence_forms.specs.Sides.{Side, first, sequences, IsOrderedSide}
use Rattle.sequence_forms.proofs.SideLemmas.{first_up}
use Rattle.sequence_data.specs.Data.{SideData, side_of}
use Rattle.zero_sum_lp.specs.Plans.{IsRaised}
use Rattle.zero_sum_lp.specs.PlanSteps.{raise_steps}
use Rattle.zero_sum_lp.specs.PlanStops.{raised_in}
use Rattle.zero_sum_lp.proofs.ExactPlanLemmas.{raised_plan, is_raised}
use Rattle.zero_sum_lp.proofs.PlanStageLemmas.{raised_in-made, raised_in-stop}
use Rattle.zero_sum_lp.proofs.PlanStepLemmas.{fits_next, raise_same, steps_to, unfit_next}

-- ---- sets that are read
-- a set whose numbers were read
pub record IsSetOf (d : Side) (n before f count : ℕ) : Type 0 where
  pub within : n < d.sets
  pub before_is : before ≡ d.before n
  pub first_is : f ≡ first d n
  pub count_is : count ≡ d.count n

pub set_read : (sets : SideData) (n before f count : ℕ) → n < length sets.sets → before ≡ (side_of sets).before n → f ≡ first (side_of sets) n → count ≡ (side_of sets).count n → IsSetOf (side_of sets) n before f count
set_read sets n before f count l b q c = record { within = subst (λ k. n < k) (sym (length-map sets.sets (λ s. s.before))) l; before_is = b; first_is = q; count_is = c }

pub set_in : (d : Side) (o : IsOrderedSide d) (n before f count size : ℕ) → IsSetOf d n before f count → size ≡ sequences d → (before < size) × ((0 < count) × (f + count ≤ size))
set_in d o n before f count size s e =
    let b : before ≡ d.before n = s.before_is in
    let q : f ≡ first d n = s.first_is in
    let c : count ≡ d.count n = s.count_is in
    let up : first d n + d.count n ≤ sequences d = first_up d.count n d.sets s.within in
    let low : d.before n < first d n = o.follows n s.within in
    let some : 0 < d.count n = o.some_action n s.within in
    (omega arith, (omega arith, omega arith))

pub set_follows : (d : Side) (o : IsOrderedSide d) (n before f count : ℕ) → IsSetOf d n before f count → before < f
set_follows d o n before f count s = subst₂ (λ b q. b < q) (sym s.before_is) (sym s.first_is) (o.follows n s.within)

pub at_set : (d : Side) (n before f count : ℕ) (P : ℕ → ℕ → ℕ → Type 0) → IsSetOf d n before f count → P before f count → P (d.before n) (first d n) (d.count n)
at_set d n before f count P s p = subst (λ c. P (d.before n) (first d n) c) s.count_is (subst (λ q. P (d.before n) q count) s.first_is (subst (λ b. P b f count) s.before_is p))

-- ---- plans under way
-- w has the weights of the plan z up to the first n sets, whose steps fit, and the raw weights x after them
pub record IsMadeTo (d : Side) (n : ℕ) (x z w : ℕ → ℚ) (steps : ℕ → List Step) : Type 0 where
  pub made : (q : ℕ) → q < first d n → w q ≡ z q
  pub later : (q : ℕ) → first d n ≤ q → w q ≡ x q
  pub fits : All StepFits (steps_to steps n)

pub made_begins : (d : Side) (x z w : ℕ → ℚ) (steps : ℕ → List Step) → z 0 ≡ one_ℚ → w 0 ≡ one_ℚ → ((q : ℕ) → q ≢ 0 → w q ≡ x q) → IsMadeTo d 0 x z w steps
made_begins d x z w steps e f h =
    record {
      made = λ q l. subst (λ i. w i ≡ z i) (let k : 0 ≡ q = omega arith in k) (f ∙ sym e);
      later = λ q l. h q (λ k. omega (arith, k, l));
      fits = All-nil StepFits;
    }

pub made_next : (d : Side) (n : ℕ) (x z w w' : ℕ → ℚ) (steps : ℕ → List Step) → IsMadeTo d n x z w steps → ((q : ℕ) → q < first d n → w' q ≡ w q) → ((a : ℕ) → a < d.count n → w' (first d n + a) ≡ z (first d n + a)) → ((q : ℕ) → first d n + d.count n ≤ q → w' q ≡ w q) → All StepFits (steps n) → IsMadeTo d (n + 1) x z w' steps
made_next d n x z w w' steps m low here high fit =
    subst (λ k. IsMadeTo d k x z w' steps) (sym (add-one n)) (record {
      made = λ q l. elim (cases_lt q (first d n)) [
        | inl k ↦ (low q k ∙ m.made q k)
        | inr k ↦ (let e : first d n + (q - first d n) ≡ q = omega arith in subst (λ i. w' i ≡ z i) e (here (q - first d n) (omega arith)))
      ];
      later = λ q l. high q l ∙ m.later q (omega arith);
      fits = fits_next steps n m.fits fit;
    })

-- ---- raised plans under way
-- the steps of set j where x is raised to z
abbrev pub raise_at : Side → (ℕ → ℚ) → (ℕ → ℚ) → ℕ → List Step
raise_at d x z j = raise_steps (z (d.before j)) (λ a. x (first d j + a)) (d.count j)

-- after n sets
abbrev pub IsRaisedTo : Side → ℕ → (ℕ → ℚ) → (ℕ → ℚ) → Type 0
IsRaisedTo d n x w = IsMadeTo d n x (raised_plan d x) w (raise_at d x (raised_plan d x))

-- one set's weights were raised
pub record Raises (w w' : ℕ → ℚ) (before f count : ℕ) : Type 0 where
  pub first_action : w' f ≡ w f +ℚ (w before -ℚ sum_to count (λ a. w (f + a)))
  pub others : (q : ℕ) → q ≢ f → w' q ≡ w q
  pub fits : All StepFits (raise_steps (w before) (λ a. w (f + a)) count)

module _ (d : Side) (o : IsOrderedSide d) (n : ℕ) (h : n < d.sets) (x z w : ℕ → ℚ) (r : IsRaised d x z) (m : IsMadeTo d n x z w (raise_at d x z)) where
  before_made : w (d.before n) ≡ z (d.before n)
  before_made = m.made (d.before n) (o.follows n h)

  raw_there : (a : ℕ) → w (first d n + a) ≡ x (first d n + a)
  raw_there a = m.later (first d n + a) (omega arith)

  raise_there : raise_steps (w (d.before n)) (λ a. w (first d n + a)) (d.count n) ≡ raise_at d x z n
  raise_there =
      raise_same (w (d.before n)) _ _ (d.count n) (o.some_action n h) (λ a l. raw_there a) ∙ ap (λ b. raise_steps b (λ a. x (first d n + a)) (d.count n)) before_made

  raised_action : (w' : ℕ → ℚ) → Raises w w' (d.before n) (first d n) (d.count n) → (a : ℕ) → a < d.count n → w' (first d n + a) ≡ z (first d n + a)
  raised_action w' k a l = elim (cases_eq a 0) [
    | inl q ↦ (let at : first d n ≡ first d n + a = omega (arith, q) in subst (λ i. w' i ≡ z i) at (k.first_action ∙ ap₂ (λ b c. b +ℚ c) (m.later (first d n) (omega arith)) (ap₂ (λ b c. b -ℚ c) before_made (sum_to-same (d.count n) _ _ (λ i p. raw_there i))) ∙ sym (r.first_action n h)))
    | inr q ↦ (k.others (first d n + a) (λ e. omega (arith, e, q)) ∙ raw_there a ∙ sym (r.others n a h (omega (arith, q)) l))
  ]

  raised_next : (w' : ℕ → ℚ) → Raises w w' (d.before n) (first d n) (d.count n) → IsMadeTo d (n + 1) x z w' (raise_at d x z)
  raised_next w' k =
      let some : 0 < d.count n = o.some_action n h in
      made_next d n x z w w' (raise_at d x z) m (λ q l. k.others q (λ e. omega (arith, e, l))) (raised_action w' k) (λ q l. k.others q (λ e. omega (arith, e, l, some))) (subst (All StepFits) raise_there k.fits)

pub raise_begins : (d : Side) (o : IsOrderedSide d) (x w : ℕ → ℚ) → w 0 ≡ one_ℚ → ((q : ℕ) → q ≢ 0 → w q ≡ x q) → IsRaisedTo d 0 x w
raise_begins d o x w e h = made_begins d x (raised_plan d x) w _ (is_raised d o x).empty e h

pub raise_next : (d : Side) (o : IsOrderedSide d) (n before f count : ℕ) (x w w' : ℕ → ℚ) → IsSetOf d n before f count → IsRaisedTo d n x w → Raises w w' before f count → IsRaisedTo d (n + 1) x w'
raise_next d o n before f count x w w' s m k = raised_next d o n s.within x (raised_plan d x) w (is_raised d o x) m w' (at_set d n before f count (Raises w w') s k)

pub raise_ends : (d : Side) (o : IsOrderedSide d) (n : ℕ) (x : ℕ → ℚ) (w : List ℚ) → n ≡ d.sets → length w ≡ sequences d → IsRaisedTo d n x (entry_at w) → raised_in d x (Ok w)
raise_ends d o n x w e c m =
    let all : IsRaisedTo d d.sets x (entry_at w) = subst (λ k. IsRaisedTo d k x (entry_at w)) e m in
    raised_in-made d o x (raised_plan d x) w c (λ q l. sym (all.made q l)) (is_raised d o x) all.fits

pub raise_stops : (d : Side) (o : IsOrderedSide d) (n before f count : ℕ) (x w : ℕ → ℚ) (u : Step) → IsSetOf d n before f count → IsRaisedTo d n x w → IsFirstUnfit (raise_steps (w before) (λ a. w (f + a)) count) u → raised_in d x (Err u)
raise_stops d o n before f count x w u s m k =
    raised_in-stop d o x (raised_plan d x) u (is_raised d o x)
    (unfit_next _ n d.sets u s.within m.fits (subst (λ ss. IsFirstUnfit ss u) (raise_there d o n s.within x (raised_plan d x) w (is_raised d o x) m) (at_set d n before f count (λ b q c. IsFirstUnfit (raise_steps (w b) (λ a. w (q + a)) c) u) s k)))
