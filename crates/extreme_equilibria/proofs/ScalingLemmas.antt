-- Completely labelled pairs of nonzero points are the equilibria, divided by their payoffs
use Rattle.std.proofs.Common.{ℕ, ◌<◌, ◌≡◌, ◌≢◌, inl, inr, [], ◌∷◌, refl, sym, ap, ap₂, ◌∙◌, subst, subst₂}
use Rattle.rational.specs.Rational.{ℚ, ◌*ℚ◌, inv_ℚ, zero_ℚ, one_ℚ, ◌≤ℚ◌, ◌<ℚ◌}
use Rattle.rational.specs.Sum.{sum_to, IsDistribution}
use Rattle.rational.proofs.RationalRing.{rational_ring, *ℚ_comm}
use Rattle.rational.proofs.Ring.{ring, combine, ◌times◌is◌, num, ◌:*◌, A, B, C}
use Rattle.rational.proofs.Field.{nonneg-mul, le-mul_right, *ℚ-inv}
use Rattle.rational.proofs.Rules.{zero-*ℚ, one_times}
use Rattle.rational.proofs.SumLemmas.{sum_to-scale_right, sum_to-same}
use Rattle.rational.proofs.MeanLemmas.{support}
use Rattle.linear_systems.specs.Points.{IsNonzero}
use Rattle.extreme_equilibria.specs.ExtremeEquilibria.{AreSame}
use Rattle.extreme_equilibria.specs.Bimatrix.{gain, mean_gain, IsBestReply, IsBimatrixEquilibrium, IsPositive}
use Rattle.extreme_equilibria.specs.Polytopes.{IsInPolytope, IsLabelledPair, scaled}
use Rattle.extreme_equilibria.proofs.LabelLemmas.{IsLabelled}
use Rattle.rational.proofs.Field.{le_of_lt}
use Rattle.rational.proofs.InverseLemmas.{ne_zero_of_pos, inv_pos, zero_lt_one}
use Rattle.extreme_equilibria.proofs.PositiveNumberLemmas.{inv_same, sum-pos, nonzero_of_sum, mean-pos}
use Rattle.extreme_equilibria.proofs.LabelLemmas.{labels_out, labels_in}

-- ---- scaling of sums
pub gain-times : (n : ℕ) (a : ℕ → ℕ → ℚ) (y : ℕ → ℚ) (t : ℚ) (i : ℕ) → gain n a (λ j. y j *ℚ t) i ≡ gain n a y i *ℚ t
gain-times n a y t i = sum_to-same n _ (λ j. (a i j *ℚ y j) *ℚ t) (λ j h. ring rational_ring (a i j ∷ y j ∷ t ∷ []) (A :* (B :* C)) (A :* B :* C) refl) ∙ sum_to-scale_right n t (λ j. a i j *ℚ y j)

pub scaled_mix : (n : ℕ) (p : ℕ → ℚ) → ((i : ℕ) → i < n → zero_ℚ ≤ℚ p i) → zero_ℚ <ℚ sum_to n p → IsDistribution n (scaled n p)
scaled_mix n p h g =
    record {
      not_negative = λ i b. nonneg-mul (p i) (inv_ℚ (sum_to n p)) (h i b) (le_of_lt zero_ℚ _ (inv_pos (sum_to n p) g));
      sum_is_one = sum_to-scale_right n (inv_ℚ (sum_to n p)) p ∙ *ℚ-inv (sum_to n p) (ne_zero_of_pos _ g);
    }

-- a mix comes back from its multiples
pub scaled_back : (n : ℕ) (x : ℕ → ℚ) (w : ℚ) → sum_to n x ≡ one_ℚ → w ≢ zero_ℚ → (i : ℕ) → scaled n (λ i. x i *ℚ w) i ≡ x i
scaled_back n x w e h i =
    let s : sum_to n (λ i. x i *ℚ w) ≡ w = sum_to-scale_right n w x ∙ one_times (sum_to n x) w e in
    ap (λ u. (x i *ℚ w) *ℚ inv_ℚ u) s ∙ combine rational_ring (x i ∷ w ∷ inv_ℚ w ∷ []) ((A times B :* C is num 1) ∷ []) (A :* B :* C) A refl (*ℚ-inv w h, tt)

-- a point is its scaling times its sum
pub unscaled : (n : ℕ) (p : ℕ → ℚ) (i : ℕ) → sum_to n p ≢ zero_ℚ → sum_to n p *ℚ scaled n p i ≡ p i
unscaled n p i h = combine rational_ring (p i ∷ sum_to n p ∷ inv_ℚ (sum_to n p) ∷ []) ((A times B :* C is num 1) ∷ []) (B :* (A :* C)) A refl (*ℚ-inv (sum_to n p) h, tt)

-- ---- one player
-- the pair in the form that is worked with
pub record Pair (m n : ℕ) (a c : ℕ → ℕ → ℚ) (p q : ℕ → ℚ) : Type 0 where
  pub p_in : IsInPolytope m n c p
  pub q_in : IsInPolytope n m a q
  pub p_label : IsLabelled m n a p q
  pub q_label : IsLabelled n m c q p
  pub p_sum : zero_ℚ <ℚ sum_to m p
  pub q_sum : zero_ℚ <ℚ sum_to n q

pub swapped : {m n : ℕ} {a c : ℕ → ℕ → ℚ} {p q : ℕ → ℚ} → Pair m n a c p q → Pair n m c a q p
swapped r =
    record { p_in = r.q_in; q_in = r.p_in; p_label = r.q_label; q_label = r.p_label; p_sum = r.q_sum; q_sum = r.p_sum }

bound : {m n : ℕ} {a c : ℕ → ℕ → ℚ} {p q : ℕ → ℚ} → Pair m n a c p q → (i : ℕ) → i < m → gain n a (scaled n q) i ≤ℚ inv_ℚ (sum_to n q)
bound {m} {n} {a} {c} {p} {q} r i h =
    subst₂ (λ x y. x ≤ℚ y) (sym (gain-times n a q (inv_ℚ (sum_to n q)) i)) (one_times one_ℚ (inv_ℚ (sum_to n q)) refl) (le-mul_right (inv_ℚ (sum_to n q)) (gain n a q i) one_ℚ (le_of_lt zero_ℚ (inv_ℚ (sum_to n q)) (inv_pos (sum_to n q) r.q_sum)) (r.q_in.rows i h))

-- what the first player gets is 1 over the sum of the second point
pub value_is : {m n : ℕ} {a c : ℕ → ℕ → ℚ} {p q : ℕ → ℚ} → Pair m n a c p q → mean_gain m n a (scaled m p) (scaled n q) ≡ inv_ℚ (sum_to n q)
value_is {m} {n} {a} {c} {p} {q} r =
    let mix = scaled_mix m p r.p_in.not_negative r.p_sum in
    (support m (scaled m p) (gain n a (scaled n q)) (inv_ℚ (sum_to n q)) mix.not_negative mix.sum_is_one (bound r)).1 (λ i h. elim (r.p_label i h) [
      | inl e ↦ inl (ap (λ x. x *ℚ (inv_ℚ (sum_to m p))) e ∙ zero-*ℚ (inv_ℚ (sum_to m p)))
      | inr e ↦ inr (gain-times n a q (inv_ℚ (sum_to n q)) i ∙ one_times (gain n a q i) (inv_ℚ (sum_to n q)) e)
    ])

best_reply : {m n : ℕ} {a c : ℕ → ℕ → ℚ} {p q : ℕ → ℚ} → Pair m n a c p q → IsBestReply m n a (scaled m p) (scaled n q)
best_reply {m} {n} {a} {c} {p} {q} r i h = subst (λ u. gain n a (scaled n q) i ≤ℚ u) (sym (value_is r)) (bound r i h)

-- the scaled pair is an equilibrium
pub equilibrium_of : {m n : ℕ} {a c : ℕ → ℕ → ℚ} {p q : ℕ → ℚ} → Pair m n a c p q → IsBimatrixEquilibrium m n a c (scaled m p) (scaled n q)
equilibrium_of {m} {n} {a} {c} {p} {q} r =
    record { first_mixed = scaled_mix m p r.p_in.not_negative r.p_sum; second_mixed = scaled_mix n q r.q_in.not_negative r.q_sum; first_best = best_reply r; second_best = best_reply (swapped r) }

-- ---- back
nonzero_mix : (n : ℕ) (x : ℕ → ℚ) → IsDistribution n x → IsNonzero n x
nonzero_mix n x h = nonzero_of_sum n x (λ e. ne_zero_of_pos one_ℚ zero_lt_one (sym h.sum_is_one ∙ e))

pub gain-pos : (m n : ℕ) (a : ℕ → ℕ → ℚ) (y : ℕ → ℚ) (i : ℕ) → IsPositive m n a → IsDistribution n y → i < m → zero_ℚ <ℚ gain n a y i
gain-pos m n a y i h g b =
    subst (λ s. zero_ℚ <ℚ s) (sum_to-same n _ _ (λ j k. *ℚ_comm (y j) (a i j))) (mean-pos n y (a i) g.not_negative (λ j k. h i j b k) (nonzero_mix n y g))

pub payoff-pos : (m n : ℕ) (a : ℕ → ℕ → ℚ) (x y : ℕ → ℚ) → IsPositive m n a → IsDistribution m x → IsDistribution n y → zero_ℚ <ℚ mean_gain m n a x y
payoff-pos m n a x y h k g = mean-pos m x (gain n a y) k.not_negative (λ i b. gain-pos m n a y i h g b) (nonzero_mix m x k)

pub inside : (m n : ℕ) (c : ℕ → ℕ → ℚ) (x : ℕ → ℚ) (v : ℚ) → zero_ℚ <ℚ v → IsDistribution m x → ((j : ℕ) → j < n → gain m c x j ≤ℚ v) → IsInPolytope m n c (λ i. x i *ℚ inv_ℚ v)
inside m n c x v h k g =
    record {
      not_negative = λ i b. nonneg-mul (x i) (inv_ℚ v) (k.not_negative i b) (le_of_lt zero_ℚ _ (inv_pos v h));
      rows = λ j b. subst₂ (λ s t. s ≤ℚ t) (sym (gain-times m c x (inv_ℚ v) j)) (*ℚ-inv v (ne_zero_of_pos v h)) (le-mul_right (inv_ℚ v) (gain m c x j) v (le_of_lt zero_ℚ (inv_ℚ v) (inv_pos v h)) (g j b));
    }

label_of : (m n : ℕ) (a : ℕ → ℕ → ℚ) (x y : ℕ → ℚ) (w : ℚ) → zero_ℚ <ℚ mean_gain m n a x y → IsDistribution m x → IsBestReply m n a x y → IsLabelled m n a (λ i. x i *ℚ w) (λ j. y j *ℚ inv_ℚ (mean_gain m n a x y))
label_of m n a x y w h k best i b =
    let u : ℚ = mean_gain m n a x y in
    elim ((support m x (gain n a y) u k.not_negative k.sum_is_one best).0 refl i b) [
      | inl e ↦ inl (ap (λ x. x *ℚ w) e ∙ zero-*ℚ w)
      | inr e ↦ inr (gain-times n a y (inv_ℚ u) i ∙ ap (λ g. g *ℚ inv_ℚ u) e ∙ *ℚ-inv u (ne_zero_of_pos u h))
    ]

divided_sum : (n : ℕ) (x : ℕ → ℚ) (v : ℚ) → zero_ℚ <ℚ v → IsDistribution n x → zero_ℚ <ℚ sum_to n (λ i. x i *ℚ inv_ℚ v)
divided_sum n x v h k = subst (λ s. zero_ℚ <ℚ s) (sym (sum_to-scale_right n (inv_ℚ v) x ∙ one_times (sum_to n x) (inv_ℚ v) k.sum_is_one)) (inv_pos v h)

-- an equilibrium, divided by the other player's payoff, is a completely labelled pair
pub pair_of : (m n : ℕ) (a c : ℕ → ℕ → ℚ) (x y : ℕ → ℚ) → IsPositive m n a → IsPositive n m c → IsBimatrixEquilibrium m n a c x y → Pair m n a c (λ i. x i *ℚ inv_ℚ (mean_gain n m c y x)) (λ j. y j *ℚ inv_ℚ (mean_gain m n a x y))
pair_of m n a c x y pa pc s =
    let u = payoff-pos m n a x y pa s.first_mixed s.second_mixed in
    let v = payoff-pos n m c y x pc s.second_mixed s.first_mixed in
    record {
      p_in = inside m n c x (mean_gain n m c y x) v s.first_mixed s.second_best;
      q_in = inside n m a y (mean_gain m n a x y) u s.second_mixed s.first_best;
      p_label = label_of m n a x y (inv_ℚ (mean_gain n m c y x)) u s.first_mixed s.first_best;
      q_label = label_of n m c y x (inv_ℚ (mean_gain m n a x y)) v s.second_mixed s.second_best;
      p_sum = divided_sum m x (mean_gain n m c y x) v s.first_mixed;
      q_sum = divided_sum n y (mean_gain m n a x y) u s.second_mixed;
    }

-- ---- the two forms of a pair
pub pair_in : (m n : ℕ) (a c : ℕ → ℕ → ℚ) (p q : ℕ → ℚ) → IsLabelledPair m n a c p q → Pair m n a c p q
pair_in m n a c p q r =
    let l = labels_out m n a c p q r.labelled in
    record {
      p_in = r.first_inside;
      q_in = r.second_inside;
      p_label = l.0;
      q_label = l.1;
      p_sum = sum-pos m p r.first_inside.not_negative r.first_nonzero;
      q_sum = sum-pos n q r.second_inside.not_negative r.second_nonzero;
    }

pub pair_out : (m n : ℕ) (a c : ℕ → ℕ → ℚ) (p q : ℕ → ℚ) → Pair m n a c p q → IsLabelledPair m n a c p q
pair_out m n a c p q r =
    record {
      first_inside = r.p_in;
      second_inside = r.q_in;
      labelled = labels_in m n a c p q r.p_label r.q_label;
      first_nonzero = nonzero_of_sum m p (ne_zero_of_pos _ r.p_sum);
      second_nonzero = nonzero_of_sum n q (ne_zero_of_pos _ r.q_sum);
    }

-- ---- different pairs have different scalings
same_sum : {m n : ℕ} {a c : ℕ → ℕ → ℚ} {p q p' q' : ℕ → ℚ} → Pair m n a c p q → Pair m n a c p' q' → AreSame m (scaled m p) (scaled m p') → AreSame n (scaled n q) (scaled n q') → sum_to n q ≡ sum_to n q'
same_sum {m} {n} {a} {c} {p} {q} {p'} {q'} r s e f =
    inv_same (sum_to n q) (sum_to n q') (ne_zero_of_pos _ r.q_sum) (ne_zero_of_pos _ s.q_sum) (sym (value_is r) ∙ sum_to-same m _ _ (λ i h. ap₂ (λ x y. x *ℚ y) (e i h) (sum_to-same n _ _ (λ j k. ap (λ y. a i j *ℚ y) (f j k)))) ∙ value_is s)

pub second_same : {m n : ℕ} {a c : ℕ → ℕ → ℚ} {p q p' q' : ℕ → ℚ} → Pair m n a c p q → Pair m n a c p' q' → AreSame m (scaled m p) (scaled m p') → AreSame n (scaled n q) (scaled n q') → AreSame n q q'
second_same {m} {n} {a} {c} {p} {q} {p'} {q'} r s e f j h =
    sym (unscaled n q j (ne_zero_of_pos _ r.q_sum)) ∙ ap₂ (λ t y. t *ℚ y) (same_sum r s e f) (f j h) ∙ unscaled n q' j (ne_zero_of_pos _ s.q_sum)

pub first_same : {m n : ℕ} {a c : ℕ → ℕ → ℚ} {p q p' q' : ℕ → ℚ} → Pair m n a c p q → Pair m n a c p' q' → AreSame m (scaled m p) (scaled m p') → AreSame n (scaled n q) (scaled n q') → AreSame m p p'
first_same r s e f = second_same (swapped r) (swapped s) f e
