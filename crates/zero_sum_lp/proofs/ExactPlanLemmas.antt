-- Raw weights make one plan where they are raised, and one where they are trimmed.
use Rattle.std.proofs.Common.{ℕ, zero, suc, ◌+◌, ◌-◌, ◌<◌, ◌≤◌, ◌≡◌, inl, inr, cond, ltb, refl, sym, ap, ap₂, ◌∙◌, subst, subst₂, arith, add-one}
use Rattle.std.proofs.lemmas.Bool.{cases_eq, cases_lt, cond-true, cond-false, lt-ltb, le-ltb}
use Rattle.rational.specs.Extremes.{IsLesser}
use Rattle.rational.specs.Rational.{ℚ, ◌+ℚ◌, ◌-ℚ◌, one_ℚ}
use Rattle.rational.specs.Sum.{sum_to}
use Rattle.rational.proofs.Field.{le_refl, le_total}
use Rattle.rational.proofs.SumLemmas.{sum_to-same}
use Rattle.linear_systems.proofs.LexRowLemmas.{below_cases}
use Rattle.sequence_forms.specs.Sides.{Side, first, sequences, IsOrderedSide}
use Rattle.sequence_forms.proofs.SideLemmas.{first_up, first_pos, sequence_below}
use Rattle.zero_sum_lp.specs.Plans.{IsRaised, IsTrimmed}
use Rattle.zero_sum_lp.specs.PlanLists.{AreShares}
use Rattle.zero_sum_lp.proofs.PlanStepLemmas.{Agree, before_below, rest_begins, rest_next}
use Rattle.zero_sum_lp.proofs.PlanWeightLemmas.{each_sequence, lesser_once}

-- ---- weights set by set
-- action a of set j has weight f j w a, where w is the weight before the set
filled : Side → (ℕ → ℚ → ℕ → ℚ) → ℕ → ℕ → ℚ
filled d f zero q = one_ℚ
filled d f (suc n) q = cond (ltb q (first d n)) (filled d f n q) (f n (filled d f n (d.before n)) (q - first d n))

module _ (d : Side) (f : ℕ → ℚ → ℕ → ℚ) where
  filled_low : (n q : ℕ) → q < first d n → filled d f (suc n) q ≡ filled d f n q
  unfolding filled
  filled_low n q l = cond-true (ltb q (first d n)) _ _ (lt-ltb q (first d n) l)

  filled_empty : (n : ℕ) → filled d f n 0 ≡ one_ℚ
  unfolding filled
  filled_empty zero = refl
  filled_empty (suc n) = filled_low n 0 (first_pos d.count n) ∙ filled_empty n

  filled_kept : (n m q : ℕ) → n ≤ m → q < first d n → filled d f m q ≡ filled d f n q
  filled_kept n zero q h l = ap (λ k. filled d f k q) (let e : 0 ≡ n = omega arith in e)
  filled_kept n (suc m) q h l = elim (cases_lt n (suc m)) [
    | inl k ↦ filled_low m q (up (omega arith)) ∙ filled_kept n m q (omega arith) l
    | inr k ↦ ap (λ k. filled d f k q) (let e : suc m ≡ n = omega arith in e)
  ]
    where
      up : n ≤ m → q < first d m
      up k = elim (cases_lt n m) [
        | inl i ↦ (let u = first_up d.count n m i in omega arith)
        | inr i ↦ (let e : n ≡ m = omega arith in subst (λ k. q < first d k) e l)
      ]

  filled_set : (o : IsOrderedSide d) (j a : ℕ) → j < d.sets → a < d.count j → filled d f d.sets (first d j + a) ≡ f j (filled d f d.sets (d.before j)) a
  unfolding filled
  filled_set o j a h l =
      filled_kept (suc j) d.sets (first d j + a) (omega arith) (omega arith)
      ∙ cond-false (ltb (first d j + a) (first d j)) _ _ (le-ltb (first d j + a) (first d j) (omega arith))
      ∙ ap₂ (f j) (sym (filled_kept j d.sets (d.before j) (omega arith) (o.follows j h))) (let e : first d j + a - first d j ≡ a = omega arith in e)

-- ---- the plan that is raised
-- what the actions of a set get
abbrev raised_weight : Side → (ℕ → ℚ) → ℕ → ℚ → ℕ → ℚ
raised_weight d x j w zero = x (first d j) +ℚ (w -ℚ sum_to (d.count j) (λ a. x (first d j + a)))
raised_weight d x j w (suc a) = x (first d j + suc a)

other_weight : (d : Side) (x : ℕ → ℚ) (j : ℕ) (w : ℚ) (a : ℕ) → 0 < a → raised_weight d x j w a ≡ x (first d j + a)
other_weight d x j w zero l = absurd (omega arith)
other_weight d x j w (suc a) l = refl

pub raised_plan : Side → (ℕ → ℚ) → ℕ → ℚ
raised_plan d x = filled d (raised_weight d x) d.sets

pub is_raised : (d : Side) → IsOrderedSide d → (x : ℕ → ℚ) → IsRaised d x (raised_plan d x)
unfolding raised_plan
is_raised d o x =
    record {
      empty = filled_empty d (raised_weight d x) d.sets;
      first_action = λ j h. ap (filled d (raised_weight d x) d.sets) (let e : first d j ≡ first d j + 0 = omega arith in e) ∙ filled_set d (raised_weight d x) o j 0 h (o.some_action j h);
      others = λ j a h p l. filled_set d (raised_weight d x) o j a h l ∙ other_weight d x j _ a p;
    }

-- ---- the plan that is trimmed
some_lesser : (a b : ℚ) → (c : ℚ) × IsLesser a b c
some_lesser a b = elim (le_total a b) [
  | inl l ↦ (a, record { is_one = inl refl; left = le_refl a; right = l })
  | inr l ↦ (b, record { is_one = inr refl; left = l; right = le_refl b })
]

-- what n actions leave of w, and the share of each
left_after : ℚ → (ℕ → ℚ) → ℕ → ℚ
left_after w x zero = w
left_after w x (suc n) = left_after w x n -ℚ (some_lesser (x n) (left_after w x n)).0

abbrev share : ℚ → (ℕ → ℚ) → ℕ → ℚ
share w x n = (some_lesser (x n) (left_after w x n)).0

left_is : (w : ℚ) (x : ℕ → ℚ) (n : ℕ) → left_after w x n ≡ w -ℚ sum_to n (share w x)
unfolding left_after
left_is w x zero = rest_begins w w refl
left_is w x (suc n) = rest_next w (share w x) n (left_after w x n) (share w x n) (left_after w x (suc n)) (left_is w x n) refl refl ∙ ap (λ k. w -ℚ sum_to k (share w x)) (add-one n)

are_shares : (w : ℚ) (x : ℕ → ℚ) (n : ℕ) → AreShares w x (share w x) n
are_shares w x n a l = subst (λ b. IsLesser (x a) b (share w x a)) (left_is w x a) (some_lesser (x a) (left_after w x a)).1

abbrev trimmed_weight : Side → (ℕ → ℚ) → ℕ → ℚ → ℕ → ℚ
trimmed_weight d x j w a = share w (λ b. x (first d j + b)) a

pub trimmed_plan : Side → (ℕ → ℚ) → ℕ → ℚ
trimmed_plan d x = filled d (trimmed_weight d x) d.sets

pub is_trimmed : (d : Side) → IsOrderedSide d → (x : ℕ → ℚ) → IsTrimmed d x (trimmed_plan d x)
unfolding trimmed_plan
is_trimmed d o x =
    record {
      empty = filled_empty d (trimmed_weight d x) d.sets;
      shares = λ j a h l. (let at = filled_set d (trimmed_weight d x) o j in subst₂ (λ b c. IsLesser (x (first d j + a)) (trimmed_plan d x (d.before j) -ℚ b) c) (sum_to-same a _ _ (λ b k. sym (at b h (omega (arith, l, k))))) (sym (at a h l)) (are_shares (trimmed_plan d x (d.before j)) (λ b. x (first d j + b)) (d.count j) a l));
    }

-- ---- shares are one
pub shares_once : (w : ℚ) (x z z' : ℕ → ℚ) (n : ℕ) → AreShares w x z n → AreShares w x z' n → (a : ℕ) → a < n → z a ≡ z' a
shares_once w x z z' zero h g a l = absurd (omega arith)
shares_once w x z z' (suc n) h g a l =
    let earlier : (i : ℕ) → i < n → z i ≡ z' i = shares_once w x z z' n (λ i k. h i (omega (arith, k))) (λ i k. g i (omega (arith, k))) in
    elim (below_cases a n l) [
      | inl e ↦ subst (λ i. z i ≡ z' i) (sym e) (lesser_once (x n) (w -ℚ sum_to n z) (z n) (z' n) (h n (omega arith)) (subst (λ s. IsLesser (x n) (w -ℚ s) (z' n)) (sum_to-same n z' z (λ i k. sym (earlier i k))) (g n (omega arith))))
      | inr k ↦ earlier a k
    ]

module _ (d : Side) (o : IsOrderedSide d) where
  -- plans that agree after each set where they agree before it
  agree : (z z' : ℕ → ℚ) → z 0 ≡ z' 0 → ((j : ℕ) → j < d.sets → z (d.before j) ≡ z' (d.before j) → (a : ℕ) → a < d.count j → z (first d j + a) ≡ z' (first d j + a)) → Agree d z z'
  agree z z' e f = each_sequence d (λ q. z q ≡ z' q) o e f d.sets (omega arith)

  -- ---- raised plans
  pub raised_once : (x z z' : ℕ → ℚ) → IsRaised d x z → IsRaised d x z' → Agree d z z'
  raised_once x z z' r s =
      agree z z' (r.empty ∙ sym s.empty) (λ j h before a l. elim (cases_eq a 0) [
        | inl e ↦ (let at : first d j + a ≡ first d j = omega (arith, e) in ap z at ∙ r.first_action j h ∙ ap (λ w. x (first d j) +ℚ (w -ℚ sum_to (d.count j) (λ a. x (first d j + a)))) before ∙ sym (s.first_action j h) ∙ sym (ap z' at))
        | inr ne ↦ (let some : 0 < a = omega (arith, ne) in r.others j a h some l ∙ sym (s.others j a h some l))
      ])

  pub raised_as : (x y z z' : ℕ → ℚ) → Agree d x y → Agree d z z' → IsRaised d x z → IsRaised d y z'
  raised_as x y z z' e f r =
      record {
        empty = sym (f 0 (first_pos d.count d.sets)) ∙ r.empty;
        first_action = λ j h. sym (f (first d j) (at j h)) ∙ r.first_action j h ∙ ap₂ (λ b c. b +ℚ c) (e (first d j) (at j h)) (ap₂ (λ b c. b -ℚ c) (f (d.before j) (before_below d o j h)) (sum_to-same (d.count j) _ _ (λ a l. e (first d j + a) (sequence_below d j a h l))));
        others = λ j a h p l. sym (f (first d j + a) (sequence_below d j a h l)) ∙ r.others j a h p l ∙ e (first d j + a) (sequence_below d j a h l);
      }
    where
      at : (j : ℕ) → j < d.sets → first d j < sequences d
      at j h = let b = sequence_below d j 0 h (o.some_action j h) in omega arith

  -- ---- trimmed plans
  pub trimmed_once : (x z z' : ℕ → ℚ) → IsTrimmed d x z → IsTrimmed d x z' → Agree d z z'
  trimmed_once x z z' r s =
      agree z z' (r.empty ∙ sym s.empty) (λ j h before.
      shares_once (z (d.before j)) (λ a. x (first d j + a)) (λ a. z (first d j + a)) (λ a. z' (first d j + a)) (d.count j) (λ a l. r.shares j a h l)
      (λ a l. subst (λ w. IsLesser (x (first d j + a)) (w -ℚ sum_to a (λ b. z' (first d j + b))) (z' (first d j + a))) (sym before) (s.shares j a h l)))

  pub trimmed_as : (x y z z' : ℕ → ℚ) → Agree d x y → Agree d z z' → IsTrimmed d x z → IsTrimmed d y z'
  trimmed_as x y z z' e f r =
      record {
        empty = sym (f 0 (first_pos d.count d.sets)) ∙ r.empty;
        shares = λ j a h l. subst (λ b. IsLesser b (z' (d.before j) -ℚ sum_to a (λ b. z' (first d j + b))) (z' (first d j + a))) (e (first d j + a) (sequence_below d j a h l)) (subst₂ (λ b c. IsLesser (x (first d j + a)) b c) (ap₂ (λ b c. b -ℚ c) (f (d.before j) (before_below d o j h)) (sum_to-same a _ _ (λ b k. f (first d j + b) (sequence_below d j b h (omega (arith, k, l)))))) (f (first d j + a) (sequence_below d j a h l)) (r.shares j a h l));
      }
