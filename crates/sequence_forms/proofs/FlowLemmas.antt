-- Sets in order: a plan, and that only 0 flows from nothing.
use Rattle.std.proofs.Common.{ℕ, zero, suc, ◌+◌, ◌-◌, ◌<◌, ◌≤◌, ◌≡◌, inl, inr, Bool, true, false, Decides, refl, sym, ap, ◌∙◌, subst, arith}
use Rattle.std.specs.Prelude.{nat_lt, if◌then◌else◌}
use Rattle.std.proofs.lemmas.Bool.{cases_lt}
use Rattle.std.proofs.lemmas.Bool.Decides.{Decides-ltb}
use Rattle.rational.specs.Rational.{ℚ, ◌*ℚ◌, ◌≤ℚ◌, zero_ℚ, one_ℚ}
use Rattle.rational.specs.Sum.{sum_to}
use Rattle.rational.proofs.Field.{nonneg-mul, eq-sub}
use Rattle.rational.proofs.SumLemmas.{sum_to-same, sum_to-scale_right, each_zero}
use Rattle.rational.proofs.Rules.{one-*ℚ}
use Rattle.rational.proofs.InverseLemmas.{zero_le_one}
use Rattle.game_theory.specs.Mixed.{sure}
use Rattle.game_theory.proofs.SureStrategyLemmas.{sure-not_negative, sum_to-sure}
use Rattle.sequence_forms.specs.Sides.{Side, first, sequences, IsSide, IsOrderedSide, IsRealisationPlan}
use Rattle.sequence_forms.specs.Matrices.{row_total, AreNotNegative}
use Rattle.sequence_forms.specs.PriceLaws.{OrderedSidesHaveFlow}
use Rattle.sequence_forms.proofs.MatrixLemmas.{row-whole, row-set}
use Rattle.sequence_forms.proofs.SideLemmas.{first_up}

-- ordered sets are a side's
is_side : (d : Side) → IsOrderedSide d → IsSide d
is_side d o j h = let up = first_up d.count j d.sets h in let f = o.follows j h in omega arith

-- ---- only 0 flows
-- what is not negative and has rows of 0 is 0 at the sequences of the first n sets
zero_up_to : (d : Side) (x : ℕ → ℚ) → IsOrderedSide d → AreNotNegative (sequences d) x → ((k : ℕ) → k < suc d.sets → row_total d x k ≡ zero_ℚ) → (n : ℕ) → n ≤ d.sets → (q : ℕ) → q < first d n → x q ≡ zero_ℚ
zero_up_to d x o s r zero h q l = let e : q ≡ 0 = omega arith in ap x e ∙ sym (row-whole d x) ∙ r 0 (omega arith)
zero_up_to d x o s r (suc n) h q l = elim (cases_lt q (first d n)) [
  | inl m ↦ zero_up_to d x o s r n (omega arith) q m
  | inr m ↦ last (zero_up_to d x o s r n (omega arith) (d.before n) (o.follows n (omega arith))) m
]
  where
    up : first d n + d.count n ≤ sequences d
    up = first_up d.count n d.sets (omega arith)

    last : x (d.before n) ≡ zero_ℚ → first d n ≤ q → x q ≡ zero_ℚ
    last e m =
        let place : first d n + (q - first d n) ≡ q = omega arith in
        let whole : sum_to (d.count n) (λ a. x (first d n + a)) ≡ x (d.before n) =
        (eq-sub (sum_to (d.count n) (λ a. x (first d n + a))) (x (d.before n))).1 (sym (row-set d x n (is_side d o) (omega arith)) ∙ r (suc n) (omega arith)) in
        ap x (sym place) ∙ each_zero (d.count n) (λ a. x (first d n + a)) (λ a k. s (first d n + a) (omega (arith, up))) (whole ∙ e) (q - first d n) (omega arith)

-- ---- a plan
-- the plan that gives each set's first action the weight before it, for the first n sets
first_plan : Side → ℕ → ℕ → ℚ
first_plan d zero q = one_ℚ
first_plan d (suc n) q = if nat_lt q (first d n) then first_plan d n q else sure 0 (q - first d n) *ℚ first_plan d n (d.before n)

-- without sets there is the empty sequence
first_plan-start : (d : Side) → first_plan d 0 0 ≡ one_ℚ
unfolding first_plan
first_plan-start d = refl

-- below the sequences of set n nothing changes
first_plan-low : (d : Side) (n q : ℕ) → q < first d n → first_plan d (suc n) q ≡ first_plan d n q
unfolding first_plan
first_plan-low d n q h = if_low (nat_lt q (first d n)) _ _ ((Decides-ltb q (first d n)).1 h)
  where
    if_low : (b : Bool) (x y : ℚ) → b ≡ true → (if b then x else y) ≡ x
    if_low true x y e = refl
    if_low false x y e = cc

-- at them the first action has the weight before
first_plan-high : (d : Side) (n a : ℕ) → first_plan d (suc n) (first d n + a) ≡ sure 0 a *ℚ first_plan d n (d.before n)
unfolding first_plan
first_plan-high d n a = go (nat_lt (first d n + a) (first d n)) (Decides-ltb (first d n + a) (first d n))
  where
    go : (b : Bool) → Decides b (first d n + a < first d n) → (if b then first_plan d n (first d n + a) else sure 0 (first d n + a - first d n) *ℚ first_plan d n (d.before n)) ≡ sure 0 a *ℚ first_plan d n (d.before n)
    go true f = absurd (omega (arith, f.0 refl))
    go false f = let e : first d n + a - first d n ≡ a = omega arith in ap (λ b. sure 0 b *ℚ first_plan d n (d.before n)) e

-- so later sets change nothing
first_plan-later : (d : Side) (n m q : ℕ) → q < first d n → n ≤ m → m ≤ d.sets → first_plan d m q ≡ first_plan d n q
first_plan-later d n zero q h l b = let e : n ≡ 0 = omega arith in ap (λ k. first_plan d k q) (sym e)
first_plan-later d n (suc m) q h l b = elim (cases_lt n (suc m)) [
  | inl k ↦ first_plan-low d m q (below k) ∙ first_plan-later d n m q h (omega arith) (omega arith)
  | inr k ↦ (let e : suc m ≡ n = omega arith in ap (λ k. first_plan d k q) e)
]
  where
    below : n < suc m → q < first d m
    below k = elim (cases_lt n m) [
      | inl p ↦ (let up = first_up d.count n m p in omega arith)
      | inr p ↦ (let e : m ≡ n = omega arith in subst (λ j. q < first d j) (sym e) h)
    ]

-- no weight is negative
first_plan-sign : (d : Side) (n q : ℕ) → zero_ℚ ≤ℚ first_plan d n q
unfolding first_plan
first_plan-sign d zero q = zero_le_one
first_plan-sign d (suc n) q = go (nat_lt q (first d n)) (first_plan-sign d n q) (first_plan-sign d n (d.before n))
  where
    go : (b : Bool) → zero_ℚ ≤ℚ first_plan d n q → zero_ℚ ≤ℚ first_plan d n (d.before n) → zero_ℚ ≤ℚ (if b then first_plan d n q else sure 0 (q - first d n) *ℚ first_plan d n (d.before n))
    go true u v = u
    go false u v = nonneg-mul (sure 0 (q - first d n)) (first_plan d n (d.before n)) (sure-not_negative 0 (q - first d n)) v

-- it is a plan
first_is_plan : (d : Side) → IsOrderedSide d → IsRealisationPlan d (first_plan d d.sets)
first_is_plan d o = record { not_negative = λ q l. first_plan-sign d d.sets q; empty_is_one = first_plan-later d 0 d.sets 0 (omega arith) (omega arith) (omega arith) ∙ start; splits = splits }
  where
    start : first_plan d 0 0 ≡ one_ℚ
    start = first_plan-start d

    splits : (j : ℕ) → j < d.sets → sum_to (d.count j) (λ a. first_plan d d.sets (first d j + a)) ≡ first_plan d d.sets (d.before j)
    splits j h =
        sum_to-same (d.count j) _ (λ a. sure 0 a *ℚ first_plan d j (d.before j)) (λ a l. first_plan-later d (suc j) d.sets (first d j + a) (omega arith) (omega arith) (omega arith) ∙ first_plan-high d j a)
        ∙ sum_to-scale_right (d.count j) (first_plan d j (d.before j)) (sure 0)
        ∙ ap (λ u. u *ℚ first_plan d j (d.before j)) (sum_to-sure (d.count j) 0 (o.some_action j h)) ∙ one-*ℚ (first_plan d j (d.before j))
        ∙ sym (first_plan-later d j d.sets (d.before j) (o.follows j h) (omega arith) (omega arith))

-- sets in order have a plan, and only 0 flows
pub ordered_flow : OrderedSidesHaveFlow
ordered_flow d o = record { side = is_side d o; plan = (first_plan d d.sets, first_is_plan d o); only_zero = λ x s r. zero_up_to d x o s r d.sets (omega arith) }
