-- The steps in which plans are made.
use Rattle.std.proofs.Common.{ℕ, zero, suc, ◌<◌, ◌≤◌, ◌≡◌, ◌+◌, inl, inr, All, List, [], ◌∷◌, ◌++◌, map, refl, sym, ap, ap₂, ◌∙◌, subst, subst₂, arith, add-one}
use Rattle.std.specs.List.{flat_map, range_with_len}
use Rattle.std.proofs.lemmas.Bool.{cases_lt}
use Rattle.std.proofs.lemmas.List.{flat_map_more}
use Rattle.std.proofs.lemmas.List.Elements.{All-append}
use Rattle.std.proofs.lemmas.List.Folds.{flat_map-map}
use Rattle.std.proofs.lemmas.List.FromFn.{fill_by_all, get_or-map-range_with_len, length-map-range_with_len, map-range_with_len_more}
use Rattle.rational.specs.Rational.{ℚ, ◌-ℚ◌, zero_ℚ}
use Rattle.rational.specs.Sum.{sum_to}
use Rattle.rational.proofs.RationalRing.{rational_ring}
use Rattle.rational.proofs.SumLemmas.{sum_to-same}
use Rattle.rational.proofs.Ring.{ring, num, ◌:+◌, ◌:-◌, A, B, C}
use Rattle.linear_systems.proofs.LexRowLemmas.{below_cases}
use Rattle.frac128.specs.declared.steps.Op.TheVariants.{Add, Sub}
use Rattle.frac128.specs.Steps.{AddFits, SubFits, step_of, Step, StepFits, IsFirstUnfit}
use Rattle.frac128.proofs.StepRunLemmas.{first_unfit-more, first_unfit-following, fits-more, unfit-more}
use Rattle.sequence_forms.specs.Sides.{Side, first, sequences, IsOrderedSide}
use Rattle.sequence_forms.proofs.SideLemmas.{first_up, sequence_below}
use Rattle.zero_sum_lp.specs.PlanSteps.{rest_steps, raise_steps, raising_steps, trimming_steps}

-- ---- steps
-- the step of one action more
rest_more : (w : ℚ) (x : ℕ → ℚ) (n : ℕ) → rest_steps w x (suc n) ≡ rest_steps w x n ++ step_of Sub (w -ℚ sum_to n x) (x n) ∷ []
rest_more w x n = ap (rest_steps w x) (sym (add-one n)) ∙ map-range_with_len_more (λ a. step_of Sub (w -ℚ sum_to a x) (x a)) 0 n n (omega arith)

pub rest_unfit : (w : ℚ) (x : ℕ → ℚ) (m n : ℕ) (e : Step) → m ≤ n → IsFirstUnfit (rest_steps w x m) e → IsFirstUnfit (rest_steps w x n) e
rest_unfit w x m zero e l h = subst (λ k. IsFirstUnfit (rest_steps w x k) e) (let q : m ≡ 0 = omega arith in q) h
rest_unfit w x m (suc n) e l h = elim (cases_lt m (suc n)) [
  | inl k ↦ subst (λ steps. IsFirstUnfit steps e) (sym (rest_more w x n)) (first_unfit-more (rest_steps w x n) (step_of Sub (w -ℚ sum_to n x) (x n) ∷ []) e (rest_unfit w x m n e (omega arith) h))
  | inr k ↦ subst (λ i. IsFirstUnfit (rest_steps w x i) e) (let q : m ≡ suc n = omega arith in q) h
]

-- ---- the rest of a set
pub rest_begins : (w r : ℚ) → r ≡ w → r ≡ w -ℚ zero_ℚ
rest_begins w r e = e ∙ ring rational_ring (w ∷ []) A (A :- num 0) refl

pub rest_next : (w : ℚ) (x : ℕ → ℚ) (a : ℕ) (r v l : ℚ) → r ≡ w -ℚ sum_to a x → v ≡ x a → l ≡ r -ℚ v → l ≡ w -ℚ sum_to (a + 1) x
rest_next w x a r v l e f g =
    g ∙ ap₂ (λ b c. b -ℚ c) e f ∙ ring rational_ring (w ∷ sum_to a x ∷ x a ∷ []) ((A :- B) :- C) (A :- (B :+ C)) refl ∙ ap (λ k. w -ℚ sum_to k x) (sym (add-one a))

pub rest_fits : (w : ℚ) (x : ℕ → ℚ) (a : ℕ) (r v : ℚ) → r ≡ w -ℚ sum_to a x → v ≡ x a → SubFits r v → All StepFits (rest_steps w x a) → All StepFits (rest_steps w x (a + 1))
rest_fits w x a r v e f s h =
    subst (All StepFits) (sym (ap (rest_steps w x) (add-one a) ∙ rest_more w x a)) (fits-more (rest_steps w x a) (step_of Sub (w -ℚ sum_to a x) (x a)) h (subst₂ SubFits e f s))

pub rest_fails : (w : ℚ) (x : ℕ → ℚ) (a n : ℕ) (r v : ℚ) (u : Step) → a < n → r ≡ w -ℚ sum_to a x → v ≡ x a → ¬ (SubFits r v) → u ≡ step_of Sub r v → All StepFits (rest_steps w x a) → IsFirstUnfit (rest_steps w x n) u
rest_fails w x a n r v u l e f s q h =
    rest_unfit w x (suc a) n u (omega arith)
    (subst (λ steps. IsFirstUnfit steps u) (sym (rest_more w x a)) (unfit-more (rest_steps w x a) (step_of Sub (w -ℚ sum_to a x) (x a)) u h (λ k. s (subst₂ SubFits (sym e) (sym f) k)) (q ∙ ap₂ (step_of Sub) e f)))

pub rest_same : (w : ℚ) (x y : ℕ → ℚ) (n : ℕ) → ((a : ℕ) → a < n → x a ≡ y a) → rest_steps w x n ≡ rest_steps w y n
rest_same w x y zero h = refl
rest_same w x y (suc n) h =
    rest_more w x n
    ∙ ap₂ (λ ss s. ss ++ s ∷ []) (rest_same w x y n (λ a l. h a (omega arith))) (ap₂ (λ b c. step_of Sub (w -ℚ b) c) (sum_to-same n x y (λ a l. h a (omega arith))) (h n (omega arith)))
    ∙ sym (rest_more w y n)

-- ---- a set that is raised
pub raise_fits : (w : ℚ) (z : ℕ → ℚ) (f n : ℕ) (r v : ℚ) → r ≡ w -ℚ sum_to n (λ a. z (f + a)) → v ≡ z f → AddFits v r → All StepFits (rest_steps w (λ a. z (f + a)) n) → All StepFits (raise_steps w (λ a. z (f + a)) n)
raise_fits w z f n r v e q s h =
    fits-more (rest_steps w (λ a. z (f + a)) n) (step_of Add (z (f + 0)) (w -ℚ sum_to n (λ a. z (f + a)))) h (subst₂ AddFits (q ∙ ap z (let o : f ≡ f + 0 = omega arith in o)) e s)

pub raise_same : (w : ℚ) (x y : ℕ → ℚ) (n : ℕ) → 0 < n → ((a : ℕ) → a < n → x a ≡ y a) → raise_steps w x n ≡ raise_steps w y n
raise_same w x y n some h = ap₂ (λ ss s. ss ++ s ∷ []) (rest_same w x y n h) (ap₂ (λ b c. step_of Add b (w -ℚ c)) (h 0 some) (sum_to-same n x y h))

-- ---- one set after another
-- the steps of the first n sets, where each set has these
abbrev pub steps_to : (ℕ → List Step) → ℕ → List Step
steps_to steps n = flat_map steps (range_with_len 0 n)

module _ (steps : ℕ → List Step) where
  steps_next : (n : ℕ) → steps_to steps n ++ steps n ≡ steps_to steps (suc n)
  steps_next n =
      ap (λ ss. ss ++ steps n) (sym (flat_map-map (λ (ss : List Step). ss) steps (range_with_len 0 n)))
      ∙ flat_map_more (λ (ss : List Step). ss) [] (map steps (range_with_len 0 n)) (steps n)
      ∙ ap (flat_map (λ (ss : List Step). ss)) (sym (map-range_with_len_more steps 0 n n (omega arith)))
      ∙ flat_map-map (λ (ss : List Step). ss) steps (range_with_len 0 (n + 1))
      ∙ ap (steps_to steps) (add-one n)

  pub fits_next : (n : ℕ) → All StepFits (steps_to steps n) → All StepFits (steps n) → All StepFits (steps_to steps (suc n))
  fits_next n h f = subst (All StepFits) (steps_next n) (All-append StepFits (steps_to steps n) (steps n) h f)

  pub unfit_next : (n m : ℕ) (e : Step) → n < m → All StepFits (steps_to steps n) → IsFirstUnfit (steps n) e → IsFirstUnfit (steps_to steps m) e
  unfit_next n zero e l h u = absurd (omega arith)
  unfit_next n (suc m) e l h u = subst (λ ss. IsFirstUnfit ss e) (steps_next m) (elim (below_cases n m l) [
    | inl q ↦ subst (λ k. IsFirstUnfit (steps_to steps k ++ steps k) e) q (first_unfit-following (steps_to steps n) (steps n) e h u)
    | inr k ↦ first_unfit-more (steps_to steps m) (steps m) e (unfit_next n m e k h u)
  ])

-- sides whose sets have the same steps
sets_same : (d : Side) (steps others : ℕ → List Step) → ((j : ℕ) → j < d.sets → steps j ≡ others j) → steps_to steps d.sets ≡ steps_to others d.sets
sets_same d steps others h =
    sym (flat_map-map (λ (ss : List Step). ss) steps (range_with_len 0 d.sets))
    ∙ ap (flat_map (λ (ss : List Step). ss)) (sym (fill_by_all steps (map others (range_with_len 0 d.sets)) d.sets [] (length-map-range_with_len others 0 d.sets) (λ j l. get_or-map-range_with_len others 0 d.sets j j [] l (omega arith) ∙ sym (h j l))))
    ∙ flat_map-map (λ (ss : List Step). ss) others (range_with_len 0 d.sets)

-- weights that agree at all sequences of a side
abbrev pub Agree : Side → (ℕ → ℚ) → (ℕ → ℚ) → Type 0
Agree d x y = (q : ℕ) → q < sequences d → x q ≡ y q

module _ (d : Side) (o : IsOrderedSide d) where
  pub before_below : (j : ℕ) → j < d.sets → d.before j < sequences d
  before_below j h = let b : d.before j < first d j = o.follows j h in let u : first d j + d.count j ≤ sequences d = first_up d.count j d.sets h in omega arith

  pub raising_same : (x y z z' : ℕ → ℚ) → Agree d x y → Agree d z z' → raising_steps d x z ≡ raising_steps d y z'
  raising_same x y z z' e f =
      sets_same d _ _ (λ j h. ap (λ w. raise_steps w (λ a. x (first d j + a)) (d.count j)) (f (d.before j) (before_below j h)) ∙ raise_same (z' (d.before j)) _ _ (d.count j) (o.some_action j h) (λ a l. e (first d j + a) (sequence_below d j a h l)))

  pub trimming_same : (z z' : ℕ → ℚ) → Agree d z z' → trimming_steps d z ≡ trimming_steps d z'
  trimming_same z z' f =
      sets_same d _ _ (λ j h. ap (λ w. rest_steps w (λ a. z (first d j + a)) (d.count j)) (f (d.before j) (before_below j h)) ∙ rest_same (z' (d.before j)) _ _ (d.count j) (λ a l. f (first d j + a) (sequence_below d j a h l)))
