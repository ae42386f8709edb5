-- Extreme equilibria are the scalings of completely labelled pairs of nonzero extreme points
use Rattle.std.proofs.Common.{ℕ, pos, ◌≡◌, ◌≢◌, inl, inr, ◌↔◌, [], ◌∷◌, refl, sym, ap, ap₂, ◌∙◌, subst, subst₂, arith}
use Rattle.std.proofs.lemmas.Int.{ints}
use Rattle.rational.specs.Rational.{ℚ, ◌+ℚ◌, ◌*ℚ◌, inv_ℚ, zero_ℚ, one_ℚ, ◌≤ℚ◌, ◌<ℚ◌}
use Rattle.rational.specs.Sum.{sum_to}
use Rattle.rational.proofs.RationalRing.{rational_ring, +ℚ_comm}
use Rattle.rational.proofs.Ring.{ring, combine, ◌times◌is◌, num, ◌:+◌, ◌:*◌, :neg, A, B, C, D, E, F, G, H}
use Rattle.rational.proofs.Linear.{linear, at, lit, ◌⟨+⟩◌, ◌⟨≤⟩◌, ◌⟨=⟩◌}
use Rattle.rational.proofs.Field.{le_refl, *ℚ-inv}
use Rattle.rational.proofs.SumLemmas.{sum_to-same, sum_to-zero}
use Rattle.linear_systems.specs.Points.{IsNonzero}
use Rattle.extreme_equilibria.specs.ExtremeEquilibria.{AreSame, IsMidpoint, IsNoMidpoint}
use Rattle.extreme_equilibria.specs.Bimatrix.{gain, mean_gain, IsBimatrixEquilibrium, IsExtremeBimatrixEquilibrium, IsPositive}
use Rattle.extreme_equilibria.specs.Polytopes.{IsInPolytope, IsVertex, IsCompletelyLabelled, IsLabelledPair, IsVertexPair, IsScaledPair, scaled}
use Rattle.extreme_equilibria.proofs.LabelLemmas.{IsLabelled}
use Rattle.rational.proofs.InverseLemmas.{ne_zero_of_pos, inv_pos, zero_lt_one}
use Rattle.extreme_equilibria.proofs.PositiveNumberLemmas.{sum-pos, nonzero_of_sum}
use Rattle.extreme_equilibria.proofs.MeanLemmas.{IsMean, sum-midpoint, dot-midpoint, polytope_convex, equilibria_convex, alone_mean}
use Rattle.extreme_equilibria.proofs.LabelLemmas.{labels_out, labels_in}
use Rattle.extreme_equilibria.proofs.ScalingLemmas.{Pair, swapped, value_is, equilibrium_of, inside, payoff-pos, pair_of, pair_in, pair_out, scaled_back, unscaled, first_same, second_same}

-- ---- the zero point
gain-zero : (k : ℕ) (c : ℕ → ℕ → ℚ) (p : ℕ → ℚ) (j : ℕ) → AreSame k p (λ i. zero_ℚ) → gain k c p j ≡ zero_ℚ
gain-zero k c p j e = sum_to-same k _ (λ i. zero_ℚ) (λ i h. ap (λ x. c j i *ℚ x) (e i h) ∙ ring rational_ring (c j i ∷ []) (A :* num 0) (num 0) refl) ∙ sum_to-zero k

one_ne_zero_of_pos : one_ℚ ≢ zero_ℚ
one_ne_zero_of_pos = ne_zero_of_pos one_ℚ zero_lt_one

-- zero pairs with zero alone
pub zero_partner : (n m : ℕ) (c : ℕ → ℕ → ℚ) (p q : ℕ → ℚ) → IsLabelled n m c q p → AreSame m p (λ i. zero_ℚ) → AreSame n q (λ j. zero_ℚ)
zero_partner n m c p q l e j h = elim (l j h) [ inl z ↦ z | inr t ↦ absurd (one_ne_zero_of_pos (sym t ∙ gain-zero m c p j e)) ]

-- what pairs with a nonzero point is not zero
pub nonzero_partner : (n m : ℕ) (c : ℕ → ℕ → ℚ) (p q : ℕ → ℚ) → IsLabelled n m c q p → IsNonzero n q → IsNonzero m p
nonzero_partner n m c p q l z = elim (l z.place z.within) [
  | inl e ↦ absurd (z.differs e)
  | inr t ↦
      let f = nonzero_of_sum m (λ i. c z.place i *ℚ p i) (λ e. one_ne_zero_of_pos (sym t ∙ e)) in
      record { place = f.place; within = f.within; differs = λ e. f.differs (ap (λ x. c z.place f.place *ℚ x) e ∙ ring rational_ring (c z.place f.place ∷ []) (A :* num 0) (num 0) refl) }
]

-- the two zero points are completely labelled, and extreme
pub zeros_labelled : (m n : ℕ) (a c : ℕ → ℕ → ℚ) → IsCompletelyLabelled m n a c (λ i. zero_ℚ) (λ j. zero_ℚ)
zeros_labelled m n a c = labels_in m n a c (λ i. zero_ℚ) (λ j. zero_ℚ) (λ i h. inl refl) (λ j h. inl refl)

pub zero_extreme : (k r : ℕ) (c : ℕ → ℕ → ℚ) → IsVertex k r c (λ i. zero_ℚ)
zero_extreme k r c =
    record {
      inside = record { not_negative = λ i h. le_refl zero_ℚ; rows = λ j h. subst (λ g. g ≤ℚ one_ℚ) (sym (gain-zero k c (λ i. zero_ℚ) j (λ i h. refl))) (linear [] [] (lit (pos 0) ⟨≤⟩ lit (pos 1)) (λ one z u v. omega (arith, ints)) tt) };
      alone = λ p q s t e i h. linear (p i ∷ q i ∷ []) ((lit (pos 0) ⟨≤⟩ at 0) ∷ (lit (pos 0) ⟨≤⟩ at 1) ∷ ((at 0 ⟨+⟩ at 1) ⟨=⟩ (lit (pos 0) ⟨+⟩ lit (pos 0))) ∷ []) (at 0 ⟨=⟩ at 1) (λ one z u v. omega (arith, ints)) (s.not_negative i h, (t.not_negative i h, (e i h, tt)));
    }

-- ---- a midpoint at a completely labelled pair
pub zero_side : (p q z : ℚ) → zero_ℚ ≤ℚ p → zero_ℚ ≤ℚ q → p +ℚ q ≡ z +ℚ z → z ≡ zero_ℚ → p ≡ zero_ℚ
zero_side p q z h g e o =
    linear (p ∷ q ∷ z ∷ []) ((lit (pos 0) ⟨≤⟩ at 0) ∷ (lit (pos 0) ⟨≤⟩ at 1) ∷ ((at 0 ⟨+⟩ at 1) ⟨=⟩ (at 2 ⟨+⟩ at 2)) ∷ (at 2 ⟨=⟩ lit (pos 0)) ∷ []) (at 0 ⟨=⟩ lit (pos 0)) (λ one z u v. omega (arith, ints)) (h, (g, (e, (o, tt))))

tight_side : (p q z : ℚ) → p ≤ℚ one_ℚ → q ≤ℚ one_ℚ → p +ℚ q ≡ z +ℚ z → z ≡ one_ℚ → p ≡ one_ℚ
tight_side p q z h g e o =
    linear (p ∷ q ∷ z ∷ []) ((at 0 ⟨≤⟩ lit (pos 1)) ∷ (at 1 ⟨≤⟩ lit (pos 1)) ∷ ((at 0 ⟨+⟩ at 1) ⟨=⟩ (at 2 ⟨+⟩ at 2)) ∷ (at 2 ⟨=⟩ lit (pos 1)) ∷ []) (at 0 ⟨=⟩ lit (pos 1)) (λ one z u v. omega (arith, ints)) (h, (g, (e, (o, tt))))

-- the two points have the labels of their midpoint
pub face : {m n : ℕ} {a c : ℕ → ℕ → ℚ} {z y : ℕ → ℚ} (p q : ℕ → ℚ) → Pair m n a c z y → IsInPolytope m n c p → IsInPolytope m n c q → IsMidpoint m p q z → Pair m n a c p y
face {m} {n} {a} {c} {z} {y} p q r s t e =
    let second : IsLabelled n m c y p = λ j h. elim (r.q_label j h) [ inl o ↦ inl o | inr o ↦ inr (tight_side (gain m c p j) (gain m c q j) (gain m c z j) (s.rows j h) (t.rows j h) (dot-midpoint m (c j) p q z e) o) ] in
    record {
      p_in = s;
      q_in = r.q_in;
      p_label = λ i h. elim (r.p_label i h) [ inl o ↦ inl (zero_side (p i) (q i) (z i) (s.not_negative i h) (t.not_negative i h) (e i h) o) | inr o ↦ inr o ];
      q_label = second;
      p_sum = sum-pos m p s.not_negative (nonzero_partner n m c p y second (nonzero_of_sum n y (ne_zero_of_pos _ r.q_sum)));
      q_sum = r.q_sum;
    }

turned : (n : ℕ) (p q z : ℕ → ℚ) → IsMidpoint n p q z → IsMidpoint n q p z
turned n p q z e i h = +ℚ_comm (q i) (p i) ∙ e i h

-- ---- from equilibria to points
scaled-mean : (n : ℕ) (p q z : ℕ → ℚ) → IsMidpoint n p q z → sum_to n p ≢ zero_ℚ → sum_to n q ≢ zero_ℚ → sum_to n z ≢ zero_ℚ → IsMean n (sum_to n p) (sum_to n q) (scaled n p) (scaled n q) (scaled n z)
scaled-mean n p q z e hp hq hz i h =
    ap (λ s. s *ℚ scaled n z i) (sum-midpoint n p q z e) ∙ ring rational_ring (sum_to n z ∷ scaled n z i ∷ []) ((A :+ A) :* B) (A :* B :+ A :* B) refl ∙ ap₂ (λ a b. a +ℚ b) (unscaled n z i hz) (unscaled n z i hz) ∙ sym (e i h) ∙ ap₂ (λ a b. a +ℚ b) (sym (unscaled n p i hp)) (sym (unscaled n q i hq))

pub point_alone : {m n : ℕ} {a c : ℕ → ℕ → ℚ} {z y : ℕ → ℚ} → Pair m n a c z y → IsNoMidpoint m (λ x. IsBimatrixEquilibrium m n a c x (scaled n y)) (scaled m z) → IsNoMidpoint m (IsInPolytope m n c) z
point_alone {m} {n} {a} {c} {z} {y} r alone p q s t e =
    let left : Pair m n a c p y = face p q r s t e in
    let right : Pair m n a c q y = face q p r t s (turned m p q z e) in
    first_same left right (alone_mean m (λ x. IsBimatrixEquilibrium m n a c x (scaled n y)) (scaled m z) (equilibria_convex m n a c (scaled n y)) alone (sum_to m p) (sum_to m q) (scaled m p) (scaled m q) left.p_sum right.p_sum (scaled-mean m p q z e (ne_zero_of_pos _ left.p_sum) (ne_zero_of_pos _ right.p_sum) (ne_zero_of_pos _ r.p_sum)) (equilibrium_of left) (equilibrium_of right)) (λ j h. refl)

-- ---- from points to equilibria
divided-mean : (u v x y z i j w : ℚ) → u *ℚ i ≡ one_ℚ → v *ℚ j ≡ one_ℚ → x +ℚ y ≡ (z *ℚ w) +ℚ (z *ℚ w) → u +ℚ v ≡ w +ℚ w → (u +ℚ v) *ℚ z ≡ (u *ℚ (x *ℚ i)) +ℚ (v *ℚ (y *ℚ j))
divided-mean u v x y z i j w hu hv e s =
    combine rational_ring (u ∷ v ∷ x ∷ y ∷ z ∷ i ∷ j ∷ w ∷ []) ((:neg C times A :* F is num 1) ∷ (:neg D times B :* G is num 1) ∷ (:neg (num 1) times C :+ D is E :* H :+ E :* H) ∷ (E times A :+ B is H :+ H) ∷ []) ((A :+ B) :* E) (A :* (C :* F) :+ B :* (D :* G)) refl (hu, (hv, (e, (s, tt))))

pub scaled_same : (n : ℕ) (p q : ℕ → ℚ) → AreSame n p q → AreSame n (scaled n p) (scaled n q)
scaled_same n p q e i h = ap₂ (λ x s. x *ℚ inv_ℚ s) (e i h) (sum_to-same n p q e)

pub equilibrium_alone : {m n : ℕ} {a c : ℕ → ℕ → ℚ} {z y : ℕ → ℚ} → IsPositive n m c → Pair m n a c z y → IsNoMidpoint m (IsInPolytope m n c) z → IsNoMidpoint m (λ x. IsBimatrixEquilibrium m n a c x (scaled n y)) (scaled m z)
equilibrium_alone {m} {n} {a} {c} {z} {y} pc r alone p q s t e i h =
    let u : ℚ = mean_gain n m c (scaled n y) p in
    let v : ℚ = mean_gain n m c (scaled n y) q in
    let hu : zero_ℚ <ℚ u = payoff-pos n m c (scaled n y) p pc s.second_mixed s.first_mixed in
    let hv : zero_ℚ <ℚ v = payoff-pos n m c (scaled n y) q pc t.second_mixed t.first_mixed in
    let w : ℚ = inv_ℚ (sum_to m z) in
    let value : mean_gain n m c (scaled n y) (scaled m z) ≡ w = value_is (swapped r) in
    let sum : u +ℚ v ≡ w +ℚ w = dot-midpoint n (scaled n y) (gain m c p) (gain m c q) (gain m c (scaled m z)) (λ j b. dot-midpoint m (c j) p q (scaled m z) e) ∙ ap₂ (λ a b. a +ℚ b) value value in
    let same : AreSame m (λ i. p i *ℚ inv_ℚ u) (λ i. q i *ℚ inv_ℚ v) = alone_mean m (IsInPolytope m n c) z (polytope_convex m n c) alone u v (λ i. p i *ℚ inv_ℚ u) (λ i. q i *ℚ inv_ℚ v) hu hv (λ i h. divided-mean u v (p i) (q i) (z i) (inv_ℚ u) (inv_ℚ v) w (*ℚ-inv u (ne_zero_of_pos u hu)) (*ℚ-inv v (ne_zero_of_pos v hv)) (e i h) sum) (inside m n c p u hu s.first_mixed s.second_best) (inside m n c q v hv t.first_mixed t.second_best) in
    sym (scaled_back m p (inv_ℚ u) s.first_mixed.sum_is_one (ne_zero_of_pos _ (inv_pos u hu)) i) ∙ scaled_same m _ _ same i h ∙ scaled_back m q (inv_ℚ v) t.first_mixed.sum_is_one (ne_zero_of_pos _ (inv_pos v hv)) i

-- ---- both players
pub equilibrium_swap : {m n : ℕ} {a c : ℕ → ℕ → ℚ} {x y : ℕ → ℚ} → IsBimatrixEquilibrium m n a c x y → IsBimatrixEquilibrium n m c a y x
equilibrium_swap s = record { first_mixed = s.second_mixed; second_mixed = s.first_mixed; first_best = s.second_best; second_best = s.first_best }

pub points_of : {m n : ℕ} {a c : ℕ → ℕ → ℚ} {p q : ℕ → ℚ} → Pair m n a c p q → IsExtremeBimatrixEquilibrium m n a c (scaled m p) (scaled n q) → IsVertexPair m n a c p q
points_of {m} {n} {a} {c} {p} {q} r s =
    let l = pair_out m n a c p q r in
    record {
      first_vertex = record { inside = r.p_in; alone = point_alone r s.first_alone };
      second_vertex = record { inside = r.q_in; alone = point_alone (swapped r) (λ f g k l. s.second_alone f g (equilibrium_swap k) (equilibrium_swap l)) };
      labelled = l.labelled;
      first_nonzero = l.first_nonzero;
      second_nonzero = l.second_nonzero;
    }

pub pair_points : {m n : ℕ} {a c : ℕ → ℕ → ℚ} {p q : ℕ → ℚ} → IsVertexPair m n a c p q → IsLabelledPair m n a c p q
pair_points s = record { first_inside = s.first_vertex.inside; second_inside = s.second_vertex.inside; labelled = s.labelled; first_nonzero = s.first_nonzero; second_nonzero = s.second_nonzero }

pub of_points : {m n : ℕ} {a c : ℕ → ℕ → ℚ} {p q : ℕ → ℚ} → IsPositive m n a → IsPositive n m c → IsVertexPair m n a c p q → IsExtremeBimatrixEquilibrium m n a c (scaled m p) (scaled n q)
of_points {m} {n} {a} {c} {p} {q} pa pc s =
    let r : Pair m n a c p q = pair_in m n a c p q (pair_points s) in
    record {
      equilibrium = equilibrium_of r;
      first_alone = equilibrium_alone pc r s.first_vertex.alone;
      second_alone = λ f g k l. equilibrium_alone pa (swapped r) s.second_vertex.alone f g (equilibrium_swap k) (equilibrium_swap l);
    }

-- ---- equal entries
pub equilibrium_same : {m n : ℕ} {a c : ℕ → ℕ → ℚ} (x y x' y' : ℕ → ℚ) → AreSame m x x' → AreSame n y y' → IsBimatrixEquilibrium m n a c x y → IsBimatrixEquilibrium m n a c x' y'
equilibrium_same {m} {n} {a} {c} x y x' y' e f s =
    record {
      first_mixed = record { not_negative = λ i h. subst (λ v. zero_ℚ ≤ℚ v) (e i h) (s.first_mixed.not_negative i h); sum_is_one = sym (sum_to-same m x x' e) ∙ s.first_mixed.sum_is_one };
      second_mixed = record { not_negative = λ j h. subst (λ v. zero_ℚ ≤ℚ v) (f j h) (s.second_mixed.not_negative j h); sum_is_one = sym (sum_to-same n y y' f) ∙ s.second_mixed.sum_is_one };
      first_best = λ i h. subst₂ (λ g v. g ≤ℚ v) (gain_same n a y y' f i) (sum_to-same m _ _ (λ i h. ap₂ (λ v g. v *ℚ g) (e i h) (gain_same n a y y' f i))) (s.first_best i h);
      second_best = λ j h. subst₂ (λ g v. g ≤ℚ v) (gain_same m c x x' e j) (sum_to-same n _ _ (λ j h. ap₂ (λ v g. v *ℚ g) (f j h) (gain_same m c x x' e j))) (s.second_best j h);
    }
  where
    gain_same : (k : ℕ) (t : ℕ → ℕ → ℚ) (z z' : ℕ → ℚ) → AreSame k z z' → (i : ℕ) → gain k t z i ≡ gain k t z' i
    gain_same k t z z' g i = sum_to-same k _ _ (λ j h. ap (λ v. t i j *ℚ v) (g j h))

pub extreme_same : {m n : ℕ} {a c : ℕ → ℕ → ℚ} (x y x' y' : ℕ → ℚ) → AreSame m x x' → AreSame n y y' → IsExtremeBimatrixEquilibrium m n a c x y → IsExtremeBimatrixEquilibrium m n a c x' y'
extreme_same {m} {n} {a} {c} x y x' y' e f s =
    record {
      equilibrium = equilibrium_same x y x' y' e f s.equilibrium;
      first_alone = λ p q k l b. s.first_alone p q (equilibrium_same p y' p y (λ i h. refl) (λ j h. sym (f j h)) k) (equilibrium_same q y' q y (λ i h. refl) (λ j h. sym (f j h)) l) (λ i h. b i h ∙ sym (ap₂ (λ u v. u +ℚ v) (e i h) (e i h)));
      second_alone = λ p q k l b. s.second_alone p q (equilibrium_same x' p x p (λ i h. sym (e i h)) (λ j h. refl) k) (equilibrium_same x' q x q (λ i h. sym (e i h)) (λ j h. refl) l) (λ j h. b j h ∙ sym (ap₂ (λ u v. u +ℚ v) (f j h) (f j h)));
    }

-- ---- the theorem
pub extreme_points : (m n : ℕ) (a c : ℕ → ℕ → ℚ) (x y : ℕ → ℚ) → IsPositive m n a → IsPositive n m c → IsExtremeBimatrixEquilibrium m n a c x y ↔ IsScaledPair m n a c x y
extreme_points m n a c x y pa pc = (to, from)
  where
    to : IsExtremeBimatrixEquilibrium m n a c x y → IsScaledPair m n a c x y
    to s =
        let r = pair_of m n a c x y pa pc s.equilibrium in
        let u = payoff-pos m n a x y pa s.equilibrium.first_mixed s.equilibrium.second_mixed in
        let v = payoff-pos n m c y x pc s.equilibrium.second_mixed s.equilibrium.first_mixed in
        let e : AreSame m x (scaled m (λ i. x i *ℚ inv_ℚ (mean_gain n m c y x))) = λ i h. sym (scaled_back m x _ s.equilibrium.first_mixed.sum_is_one (ne_zero_of_pos _ (inv_pos _ v)) i) in
        let f : AreSame n y (scaled n (λ j. y j *ℚ inv_ℚ (mean_gain m n a x y))) = λ j h. sym (scaled_back n y _ s.equilibrium.second_mixed.sum_is_one (ne_zero_of_pos _ (inv_pos _ u)) j) in
        record {
          first = λ i. x i *ℚ inv_ℚ (mean_gain n m c y x);
          second = λ j. y j *ℚ inv_ℚ (mean_gain m n a x y);
          pair = points_of r (extreme_same x y _ _ e f s);
          first_is = e;
          second_is = f;
        }

    from : IsScaledPair m n a c x y → IsExtremeBimatrixEquilibrium m n a c x y
    from s = extreme_same _ _ x y (λ i h. sym (s.first_is i h)) (λ j h. sym (s.second_is j h)) (of_points pa pc s.pair)

-- different completely labelled pairs have different scalings
pub each_once : (m n : ℕ) (a c : ℕ → ℕ → ℚ) (p q p' q' : ℕ → ℚ) → IsLabelledPair m n a c p q → IsLabelledPair m n a c p' q' → AreSame m (scaled m p) (scaled m p') → AreSame n (scaled n q) (scaled n q') → AreSame m p p' × AreSame n q q'
each_once m n a c p q p' q' r s e f =
    (first_same (pair_in m n a c p q r) (pair_in m n a c p' q' s) e f, second_same (pair_in m n a c p q r) (pair_in m n a c p' q' s) e f)

-- in a completely labelled pair both points are zero or neither is
pub zero_together : (m n : ℕ) (a c : ℕ → ℕ → ℚ) (p q : ℕ → ℚ) → IsCompletelyLabelled m n a c p q → AreSame m p (λ i. zero_ℚ) ↔ AreSame n q (λ j. zero_ℚ)
zero_together m n a c p q l =
    let h = labels_out m n a c p q l in
    (zero_partner n m c p q h.1, zero_partner m n a q p h.0)

pub nonzero_together : (m n : ℕ) (a c : ℕ → ℕ → ℚ) (p q : ℕ → ℚ) → IsCompletelyLabelled m n a c p q → IsNonzero m p ↔ IsNonzero n q
nonzero_together m n a c p q l =
    let h = labels_out m n a c p q l in
    (nonzero_partner m n a q p h.0, nonzero_partner n m c p q h.1)
