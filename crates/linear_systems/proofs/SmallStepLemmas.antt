-- An extreme point is told by its zeros: from it a small step leads towards any point that is 0 wherever it is 0, and the same step away from that point
use Rattle.std.proofs.Common.{ℕ, pos, suc, zero, ◌<◌, ◌≡◌, refl, sym, ap, ap₂, ◌∙◌, subst, [], ◌∷◌, arith, ◌⊎◌, inl, inr, eq-or-lt_of_le, le_of_suc-le-suc}
use Rattle.std.proofs.lemmas.Int.{ints}
use Rattle.rational.proofs.InverseLemmas.{ne_zero_of_pos, inv_pos}
use Rattle.rational.specs.Rational.{ℚ, ◌+ℚ◌, ◌*ℚ◌, ◌-ℚ◌, neg_ℚ, inv_ℚ, zero_ℚ, one_ℚ, ◌≤ℚ◌, ◌<ℚ◌}
use Rattle.rational.specs.Sum.{sum_to}
use Rattle.rational.proofs.RationalRing.{rational_ring}
use Rattle.rational.proofs.Ring.{ring, combine, ◌times◌is◌, num, ◌:+◌, ◌:*◌, ◌:-◌, :neg, A, B, C, D, E}
use Rattle.rational.proofs.Linear.{linear, at, lit, ◌⟨+⟩◌, ◌⟨-⟩◌, ◌⟨≤⟩◌, ◌⟨<⟩◌, ◌⟨=⟩◌}
use Rattle.rational.proofs.Field.{le_refl, le_of_lt, eq_or_lt_of_le, le-mul_left, nonneg-mul, *ℚ-inv}
use Rattle.rational.proofs.SumLemmas.{sum_to-same, sum_to-add, sum_to-scale}
use Rattle.linear_systems.specs.Tableau.{Tableau, left, Solves}
use Rattle.linear_systems.specs.RowEquivalence.{IsVariableOf, in_row, in_column}
use Rattle.linear_systems.specs.Points.{IsFeasible, IsExtremePoint, AreEqualAt}

-- q is at most a multiple of p
record Bounded (n : ℕ) (p q : ℕ → ℚ) : Type 0 where
  by : ℚ
  some : one_ℚ ≤ℚ by
  most : (v : ℕ) → v < n → q v ≤ℚ (by *ℚ p v)

bounded : (n : ℕ) (p q : ℕ → ℚ) → ((v : ℕ) → v < n → zero_ℚ ≤ℚ p v) → ((v : ℕ) → v < n → zero_ℚ ≤ℚ q v) → ((v : ℕ) → v < n → p v ≡ zero_ℚ → q v ≡ zero_ℚ) → Bounded n p q
bounded zero p q hp hq z = record { by = one_ℚ; some = le_refl one_ℚ; most = λ v h. absurd (omega arith) }
bounded (suc n) p q hp hq z = go (bounded n p q (λ v h. hp v (omega arith)) (λ v h. hq v (omega arith)) (λ v h. z v (omega arith))) (eq_or_lt_of_le zero_ℚ (p n) (hp n (omega arith)))
  where
    -- one more entry, for any greater multiple that serves there
    more : (b : Bounded n p q) (c : ℚ) → zero_ℚ ≤ℚ c → q n ≤ℚ ((b.by +ℚ c) *ℚ p n) → Bounded (suc n) p q
    more b c hc top =
        record {
          by = b.by +ℚ c;
          some = linear (b.by ∷ c ∷ []) ((lit (pos 1) ⟨≤⟩ at 0) ∷ (lit (pos 0) ⟨≤⟩ at 1) ∷ []) (lit (pos 1) ⟨≤⟩ (at 0 ⟨+⟩ at 1)) (λ one z u v. omega (arith, ints)) (b.some, (hc, tt));
          most = λ v h. elim (eq-or-lt_of_le (le_of_suc-le-suc h)) [
            | inl e ↦ subst (λ i. q i ≤ℚ ((b.by +ℚ c) *ℚ p i)) (sym e) top
            | inr l ↦ linear (q v ∷ (b.by *ℚ p v) ∷ (c *ℚ p v) ∷ ((b.by +ℚ c) *ℚ p v) ∷ []) ((at 0 ⟨≤⟩ at 1) ∷ (lit (pos 0) ⟨≤⟩ at 2) ∷ (at 3 ⟨=⟩ (at 1 ⟨+⟩ at 2)) ∷ []) (at 0 ⟨≤⟩ at 3) (λ one z u v. omega (arith, ints)) (b.most v l, (nonneg-mul c (p v) hc (hp v h), (ring rational_ring (b.by ∷ c ∷ p v ∷ []) ((A :+ B) :* C) (A :* C :+ B :* C) refl, tt)))
          ];
        }

    go : Bounded n p q → (zero_ℚ ≡ p n) ⊎ (zero_ℚ <ℚ p n) → Bounded (suc n) p q
    go b (inl e) =
        more b zero_ℚ (le_refl zero_ℚ) (linear (q n ∷ ((b.by +ℚ zero_ℚ) *ℚ p n) ∷ []) ((at 0 ⟨=⟩ lit (pos 0)) ∷ (at 1 ⟨=⟩ lit (pos 0)) ∷ []) (at 0 ⟨≤⟩ at 1) (λ one z u v. omega (arith, ints)) (z n (omega arith) (sym e), (ap (λ x. (b.by +ℚ zero_ℚ) *ℚ x) (sym e) ∙ ring rational_ring (b.by ∷ []) ((A :+ num 0) :* num 0) (num 0) refl, tt)))
    go b (inr l) =
        more b (q n *ℚ inv_ℚ (p n)) (nonneg-mul (q n) (inv_ℚ (p n)) (hq n (omega arith)) (le_of_lt zero_ℚ (inv_ℚ (p n)) (inv_pos (p n) l)))
        (linear (q n ∷ (b.by *ℚ p n) ∷ ((b.by +ℚ (q n *ℚ inv_ℚ (p n))) *ℚ p n) ∷ []) ((lit (pos 0) ⟨≤⟩ at 1) ∷ (at 2 ⟨=⟩ (at 1 ⟨+⟩ at 0)) ∷ []) (at 0 ⟨≤⟩ at 2) (λ one z u v. omega (arith, ints))
        (nonneg-mul b.by (p n) (linear (b.by ∷ []) ((lit (pos 1) ⟨≤⟩ at 0) ∷ []) (lit (pos 0) ⟨≤⟩ at 0) (λ one z u v. omega (arith, ints)) (b.some, tt)) (hp n (omega arith)), (combine rational_ring (b.by ∷ q n ∷ p n ∷ inv_ℚ (p n) ∷ []) ((B times C :* D is num 1) ∷ []) ((A :+ B :* D) :* C) (A :* C :+ B) refl (*ℚ-inv (p n) (ne_zero_of_pos (p n) l), tt), tt)))

-- the same at all variables of a tableau
record BoundedAt (s : Tableau) (p q : ℕ → ℚ) : Type 0 where
  by : ℚ
  some : one_ℚ ≤ℚ by
  most : (v : ℕ) → IsVariableOf s v → q v ≤ℚ (by *ℚ p v)

bounded_at : (s : Tableau) (p q : ℕ → ℚ) → IsFeasible s p → IsFeasible s q → ((v : ℕ) → IsVariableOf s v → p v ≡ zero_ℚ → q v ≡ zero_ℚ) → BoundedAt s p q
bounded_at s p q hp hq z = go (bounded s.rows (λ i. p (s.basic i)) (λ i. q (s.basic i)) (λ i h. hp.nonnegative _ (in_row i h refl)) (λ i h. hq.nonnegative _ (in_row i h refl)) (λ i h. z _ (in_row i h refl))) (bounded s.width (λ j. p (s.nonbasic j)) (λ j. q (s.nonbasic j)) (λ j h. hp.nonnegative _ (in_column j h refl)) (λ j h. hq.nonnegative _ (in_column j h refl)) (λ j h. z _ (in_column j h refl)))
  where
    wider : (a b x y : ℚ) → one_ℚ ≤ℚ b → zero_ℚ ≤ℚ x → y ≤ℚ (a *ℚ x) → y ≤ℚ ((a +ℚ b) *ℚ x)
    wider a b x y hb hx h =
        linear (y ∷ (a *ℚ x) ∷ (b *ℚ x) ∷ ((a +ℚ b) *ℚ x) ∷ []) ((at 0 ⟨≤⟩ at 1) ∷ (lit (pos 0) ⟨≤⟩ at 2) ∷ (at 3 ⟨=⟩ (at 1 ⟨+⟩ at 2)) ∷ []) (at 0 ⟨≤⟩ at 3) (λ one z u v. omega (arith, ints)) (h, (nonneg-mul b x (linear (b ∷ []) ((lit (pos 1) ⟨≤⟩ at 0) ∷ []) (lit (pos 0) ⟨≤⟩ at 0) (λ one z u v. omega (arith, ints)) (hb, tt)) hx, (ring rational_ring (a ∷ b ∷ x ∷ []) ((A :+ B) :* C) (A :* C :+ B :* C) refl, tt)))

    most : (a : Bounded s.rows (λ i. p (s.basic i)) (λ i. q (s.basic i))) (b : Bounded s.width (λ j. p (s.nonbasic j)) (λ j. q (s.nonbasic j))) (v : ℕ) → IsVariableOf s v → q v ≤ℚ ((a.by +ℚ b.by) *ℚ p v)
    most a b v (in_row i h e) = subst (λ v. q v ≤ℚ ((a.by +ℚ b.by) *ℚ p v)) e (wider a.by b.by (p (s.basic i)) (q (s.basic i)) b.some (hp.nonnegative _ (in_row i h refl)) (a.most i h))
    most a b v (in_column j h e) = subst (λ v. q v ≤ℚ ((a.by +ℚ b.by) *ℚ p v)) e (subst (λ k. q (s.nonbasic j) ≤ℚ (k *ℚ p (s.nonbasic j))) (ring rational_ring (a.by ∷ b.by ∷ []) (B :+ A) (A :+ B) refl) (wider b.by a.by (p (s.nonbasic j)) (q (s.nonbasic j)) a.some (hp.nonnegative _ (in_column j h refl)) (b.most j h)))

    go : Bounded s.rows (λ i. p (s.basic i)) (λ i. q (s.basic i)) → Bounded s.width (λ j. p (s.nonbasic j)) (λ j. q (s.nonbasic j)) → BoundedAt s p q
    go a b = record { by = a.by +ℚ b.by; some = linear (a.by ∷ b.by ∷ []) ((lit (pos 1) ⟨≤⟩ at 0) ∷ (lit (pos 1) ⟨≤⟩ at 1) ∷ []) (lit (pos 1) ⟨≤⟩ (at 0 ⟨+⟩ at 1)) (λ one z u v. omega (arith, ints)) (a.some, (b.some, tt)); most = most a b }

-- what lies on the line through two solutions is a solution
left_between : (s : Tableau) (p q : ℕ → ℚ) (c : ℚ) (i : ℕ) → left s (λ v. p v +ℚ (c *ℚ (q v -ℚ p v))) i ≡ left s p i +ℚ (c *ℚ (left s q i -ℚ left s p i))
unfolding left
left_between s p q c i =
    let f = λ (j : ℕ). s.cell i j *ℚ p (s.nonbasic j) in
    let g = λ (j : ℕ). s.cell i j *ℚ q (s.nonbasic j) in
    ap (λ x. (p (s.basic i) +ℚ (c *ℚ (q (s.basic i) -ℚ p (s.basic i)))) +ℚ x) (sum_to-same s.width _ (λ j. ((one_ℚ -ℚ c) *ℚ f j) +ℚ (c *ℚ g j)) (λ j h. ring rational_ring (s.cell i j ∷ p (s.nonbasic j) ∷ q (s.nonbasic j) ∷ c ∷ []) (A :* (B :+ D :* (C :- B))) ((num 1 :- D) :* (A :* B) :+ D :* (A :* C)) refl) ∙ sum_to-add s.width (λ j. (one_ℚ -ℚ c) *ℚ f j) (λ j. c *ℚ g j) ∙ ap₂ (λ x y. x +ℚ y) (sum_to-scale s.width (one_ℚ -ℚ c) f) (sum_to-scale s.width c g))
    ∙ ring rational_ring (p (s.basic i) ∷ q (s.basic i) ∷ c ∷ sum_to s.width f ∷ sum_to s.width g ∷ []) ((A :+ C :* (B :- A)) :+ ((num 1 :- C) :* D :+ C :* E)) ((A :+ D) :+ C :* ((B :+ E) :- (A :+ D))) refl

between : (s : Tableau) (p q : ℕ → ℚ) (c : ℚ) → Solves s p → Solves s q → Solves s (λ v. p v +ℚ (c *ℚ (q v -ℚ p v)))
between s p q c hp hq i h =
    left_between s p q c i ∙ ap₂ (λ x y. x +ℚ (c *ℚ (y -ℚ x))) (hp i h) (hq i h) ∙ ring rational_ring (s.right i ∷ c ∷ []) (A :+ B :* (A :- A)) A refl

-- as far as c from p towards q, and as far away from it, no entry is negative
forth_nonneg : (p q c by : ℚ) → zero_ℚ ≤ℚ p → zero_ℚ ≤ℚ q → zero_ℚ ≤ℚ c → one_ℚ ≤ℚ by → by *ℚ c ≡ one_ℚ → zero_ℚ ≤ℚ (p +ℚ (c *ℚ (q -ℚ p)))
forth_nonneg p q c by hp hq hc hb e =
    let short : zero_ℚ ≤ℚ (one_ℚ -ℚ c) = linear ((c *ℚ one_ℚ) ∷ (c *ℚ by) ∷ c ∷ []) ((at 0 ⟨≤⟩ at 1) ∷ (at 0 ⟨=⟩ at 2) ∷ (at 1 ⟨=⟩ lit (pos 1)) ∷ []) (lit (pos 0) ⟨≤⟩ (lit (pos 1) ⟨-⟩ at 2)) (λ one z u v. omega (arith, ints)) (le-mul_left c one_ℚ by hc hb, (ring rational_ring (c ∷ []) (A :* num 1) A refl, (ring rational_ring (c ∷ by ∷ []) (A :* B) (B :* A) refl ∙ e, tt))) in
    linear ((p +ℚ (c *ℚ (q -ℚ p))) ∷ ((one_ℚ -ℚ c) *ℚ p) ∷ (c *ℚ q) ∷ []) ((at 0 ⟨=⟩ (at 1 ⟨+⟩ at 2)) ∷ (lit (pos 0) ⟨≤⟩ at 1) ∷ (lit (pos 0) ⟨≤⟩ at 2) ∷ []) (lit (pos 0) ⟨≤⟩ at 0) (λ one z u v. omega (arith, ints)) (ring rational_ring (p ∷ q ∷ c ∷ []) (A :+ C :* (B :- A)) ((num 1 :- C) :* A :+ C :* B) refl, (nonneg-mul (one_ℚ -ℚ c) p short hp, (nonneg-mul c q hc hq, tt)))

back_nonneg : (p q c by : ℚ) → zero_ℚ ≤ℚ p → zero_ℚ ≤ℚ c → q ≤ℚ (by *ℚ p) → by *ℚ c ≡ one_ℚ → zero_ℚ ≤ℚ (p +ℚ (neg_ℚ c *ℚ (q -ℚ p)))
back_nonneg p q c by hp hc hq e =
    linear ((p +ℚ (neg_ℚ c *ℚ (q -ℚ p))) ∷ p ∷ (c *ℚ p) ∷ (c *ℚ q) ∷ (c *ℚ (by *ℚ p)) ∷ []) ((at 0 ⟨=⟩ ((at 1 ⟨+⟩ at 2) ⟨-⟩ at 3)) ∷ (lit (pos 0) ⟨≤⟩ at 2) ∷ (at 3 ⟨≤⟩ at 4) ∷ (at 4 ⟨=⟩ at 1) ∷ []) (lit (pos 0) ⟨≤⟩ at 0) (λ one z u v. omega (arith, ints)) (ring rational_ring (p ∷ q ∷ c ∷ []) (A :+ :neg C :* (B :- A)) ((A :+ C :* A) :- C :* B) refl, (nonneg-mul c p hc hp, (le-mul_left c q (by *ℚ p) hc hq, (combine rational_ring (p ∷ c ∷ by ∷ []) ((A times C :* B is num 1) ∷ []) (B :* (C :* A)) A refl (e, tt), tt))))

-- a point that is 0 wherever an extreme point is 0 is that point
pub extreme_alone : (s : Tableau) (p q : ℕ → ℚ) → IsExtremePoint s p → IsFeasible s q → ((v : ℕ) → IsVariableOf s v → p v ≡ zero_ℚ → q v ≡ zero_ℚ) → AreEqualAt s p q
extreme_alone s p q hp hq z v h = go (bounded_at s p q hp.point hq z)
  where
    two_sides : (b : BoundedAt s p q) → b.by *ℚ inv_ℚ b.by ≡ one_ℚ → zero_ℚ ≤ℚ inv_ℚ b.by → p v +ℚ (inv_ℚ b.by *ℚ (q v -ℚ p v)) ≡ p v +ℚ (neg_ℚ (inv_ℚ b.by) *ℚ (q v -ℚ p v))
    two_sides b e hc = let c = inv_ℚ b.by in
        hp.alone (λ u. p u +ℚ (c *ℚ (q u -ℚ p u))) (λ u. p u +ℚ (neg_ℚ c *ℚ (q u -ℚ p u)))
        (record { solves = between s p q c hp.point.solves hq.solves; nonnegative = λ u l. forth_nonneg (p u) (q u) c b.by (hp.point.nonnegative u l) (hq.nonnegative u l) hc b.some e })
        (record { solves = between s p q (neg_ℚ c) hp.point.solves hq.solves; nonnegative = λ u l. back_nonneg (p u) (q u) c b.by (hp.point.nonnegative u l) hc (b.most u l) e })
        (λ u l. ring rational_ring (p u ∷ q u ∷ c ∷ []) ((A :+ C :* (B :- A)) :+ (A :+ :neg C :* (B :- A))) (A :+ A) refl) v h

    go : BoundedAt s p q → p v ≡ q v
    go b = let c = inv_ℚ b.by in
        let one_up : zero_ℚ <ℚ b.by = linear (b.by ∷ []) ((lit (pos 1) ⟨≤⟩ at 0) ∷ []) (lit (pos 0) ⟨<⟩ at 0) (λ one z u v. omega (arith, ints)) (b.some, tt) in
        let inverse : b.by *ℚ c ≡ one_ℚ = *ℚ-inv b.by (ne_zero_of_pos b.by one_up) in
        let alike : p v +ℚ (c *ℚ (q v -ℚ p v)) ≡ p v +ℚ (neg_ℚ c *ℚ (q v -ℚ p v)) = two_sides b inverse (le_of_lt zero_ℚ c (inv_pos b.by one_up)) in
        linear (p v ∷ q v ∷ []) (((at 0 ⟨+⟩ at 0) ⟨=⟩ (at 1 ⟨+⟩ at 1)) ∷ []) (at 0 ⟨=⟩ at 1) (λ one z u v. omega (arith, ints)) (combine rational_ring (p v ∷ q v ∷ b.by ∷ c ∷ []) ((:neg C times (A :+ D :* (B :- A)) is (A :+ :neg D :* (B :- A))) ∷ ((B :- A) :+ (B :- A) times C :* D is num 1) ∷ []) (A :+ A) (B :+ B) refl (alike, (inverse, tt)), tt)
