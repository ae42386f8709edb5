-- The basic solutions of reached tableaux that are closed under lexicographic pivots are all the extreme points
use Rattle.std.proofs.Common.{ℕ, pos, suc, zero, ◌<◌, ◌≡◌, refl, sym, ap, ◌∙◌, subst, [], ◌∷◌, arith, ◌⊎◌, inl, inr, eq-or-lt_of_le, le_of_suc-le-suc}
use Rattle.std.proofs.lemmas.Int.{ints}
use Rattle.rational.specs.Rational.{ℚ, ◌*ℚ◌, ◌-ℚ◌, neg_ℚ, zero_ℚ, one_ℚ, ◌≤ℚ◌, ◌<ℚ◌}
use Rattle.rational.specs.Sum.{sum_to}
use Rattle.rational.proofs.RationalRing.{rational_ring}
use Rattle.rational.proofs.Ring.{ring, num, ◌:*◌, ◌:-◌, :neg, A, B}
use Rattle.rational.proofs.Linear.{linear, minus, at, lit, ◌⟨+⟩◌, ◌⟨-⟩◌, ◌⟨≤⟩◌, ◌⟨<⟩◌, ◌⟨=⟩◌}
use Rattle.rational.proofs.Field.{le_refl, le_or_lt, le_of_lt, lt_irrefl, nonneg-mul, trichotomy}
use Rattle.rational.proofs.SumLemmas.{sum_to-nonneg, sum_to-zeros, each_zero}
use Rattle.rational.proofs.InverseLemmas.{zero_lt_one}
use Rattle.rational.proofs.Rules.{times_zero}
use Rattle.linear_systems.specs.Tableau.{Tableau}
use Rattle.linear_systems.specs.Lex.{IsLexLess}
use Rattle.linear_systems.specs.Rows.{unit_at, basic_solution, coefficient, IsLexicographicRow}
use Rattle.linear_systems.specs.RowEquivalence.{IsVariableOf, in_row, in_column}
use Rattle.linear_systems.proofs.LexLemmas.{less_trans, less_apart, compare}
use Rattle.linear_systems.proofs.LexRowLemmas.{lex_row_is}
use Rattle.linear_systems.proofs.RowLemmas.{coefficient_absent, coefficient_cell}
use Rattle.linear_systems.specs.Points.{IsFeasible, IsExtremePoint, AreEqualAt}
use Rattle.linear_systems.specs.LexFeasible.{IsFeasibleStart, IsLexFeasible, IsClosed, HasNeighbour}
use Rattle.linear_systems.specs.ExtremePointLaws.{HasPoint}
use Rattle.linear_systems.proofs.SmallStepLemmas.{extreme_alone}
use Rattle.linear_systems.proofs.SolutionLemmas.{rights_nonnegative, solution_basic, solution_nonbasic, solution_point, solves_reached, Standing, in_basis, outside, absent, place}
use Rattle.linear_systems.proofs.WeightLemmas.{reduced, reduced_at, reduced_basic, reduced_key, improves, costs_sum}

-- ---- among finitely many sequences one is lexicographically greatest
record Greatest (K n : ℕ) (f : ℕ → ℕ → ℚ) : Type 0 where
  place : ℕ
  within : place < K
  most : (j : ℕ) → j < K → IsLexLess n (f place) (f j) → ⊥

greatest : (K n : ℕ) (f : ℕ → ℕ → ℚ) → Greatest (suc K) n f
greatest zero n f = record { place = 0; within = omega arith; most = λ j h p. less_apart n (f 0) (f j) p (λ i l. ap (λ k. f k i) (let e : 0 ≡ j = omega arith in e)) }
greatest (suc K) n f = go (greatest K n f)
  where
    self : (k j : ℕ) → k ≡ j → IsLexLess n (f k) (f j) → ⊥
    self k j e p = less_apart n (f k) (f j) p (λ i l. ap (λ k. f k i) e)

    old : (g : Greatest (suc K) n f) → (IsLexLess n (f g.place) (f (suc K)) → ⊥) → Greatest (suc (suc K)) n f
    old g last = record { place = g.place; within = (let w : g.place < suc K = g.within in omega arith); most = λ j h p. elim (eq-or-lt_of_le (le_of_suc-le-suc h)) [ inl e ↦ last (subst (λ j. IsLexLess n (f g.place) (f j)) e p) | inr l ↦ g.most j l p ] }

    go : Greatest (suc K) n f → Greatest (suc (suc K)) n f
    go g = elim (compare n (f g.place) (f (suc K))) [
      | inl p ↦ record { place = suc K; within = omega arith; most = λ j h q. elim (eq-or-lt_of_le (le_of_suc-le-suc h)) [ inl e ↦ self (suc K) j (sym e) q | inr l ↦ g.most j l (less_trans n (f g.place) (f (suc K)) (f j) p q) ] }
      | inr (inl e) ↦ old g (λ p. less_apart n (f g.place) (f (suc K)) p e)
      | inr (inr q) ↦ old g (λ p. self g.place g.place refl (less_trans n (f g.place) (f (suc K)) (f g.place) p q))
    ]

-- ---- the weights that mark the zeros of a point
record Marks (p w : ℕ → ℚ) : Type 0 where
  nonnegative : (v : ℕ) → zero_ℚ ≤ℚ w v
  none : (v : ℕ) → w v *ℚ p v ≡ zero_ℚ
  some : (v : ℕ) → p v ≡ zero_ℚ → w v ≡ one_ℚ

mark_of : (a : ℚ) → (a <ℚ zero_ℚ) ⊎ ((a ≡ zero_ℚ) ⊎ (zero_ℚ <ℚ a)) → ℚ
mark_of a (inl l) = zero_ℚ
mark_of a (inr (inl e)) = one_ℚ
mark_of a (inr (inr l)) = zero_ℚ

mark_nonnegative : (a : ℚ) (s : (a <ℚ zero_ℚ) ⊎ ((a ≡ zero_ℚ) ⊎ (zero_ℚ <ℚ a))) → zero_ℚ ≤ℚ mark_of a s
unfolding mark_of
mark_nonnegative a (inl l) = le_refl zero_ℚ
mark_nonnegative a (inr (inl e)) = le_of_lt zero_ℚ one_ℚ zero_lt_one
mark_nonnegative a (inr (inr l)) = le_refl zero_ℚ

mark_none : (a : ℚ) (s : (a <ℚ zero_ℚ) ⊎ ((a ≡ zero_ℚ) ⊎ (zero_ℚ <ℚ a))) → mark_of a s *ℚ a ≡ zero_ℚ
unfolding mark_of
mark_none a (inl l) = ring rational_ring (a ∷ []) (num 0 :* A) (num 0) refl
mark_none a (inr (inl e)) = ap (λ x. one_ℚ *ℚ x) e ∙ ring rational_ring [] (num 1 :* num 0) (num 0) refl
mark_none a (inr (inr l)) = ring rational_ring (a ∷ []) (num 0 :* A) (num 0) refl

mark_some : (a : ℚ) (s : (a <ℚ zero_ℚ) ⊎ ((a ≡ zero_ℚ) ⊎ (zero_ℚ <ℚ a))) → a ≡ zero_ℚ → mark_of a s ≡ one_ℚ
unfolding mark_of
mark_some a (inl l) e = absurd (lt_irrefl zero_ℚ (subst (λ x. x <ℚ zero_ℚ) e l))
mark_some a (inr (inl q)) e = refl
mark_some a (inr (inr l)) e = absurd (lt_irrefl zero_ℚ (subst (λ x. zero_ℚ <ℚ x) e l))

mark : (ℕ → ℚ) → ℕ → ℚ
mark p v = mark_of (p v) (trichotomy (p v) zero_ℚ)

marks : (p : ℕ → ℚ) → Marks p (mark p)
unfolding mark
marks p = record { nonnegative = λ v. mark_nonnegative (p v) (trichotomy (p v) zero_ℚ); none = λ v. mark_none (p v) (trichotomy (p v) zero_ℚ); some = λ v. mark_some (p v) (trichotomy (p v) zero_ℚ) }

-- ---- where no column is negative, the basic solution has no weight
no_weight : (N : ℕ) (s t : Tableau) (w p : ℕ → ℚ) → IsLexFeasible N s t → IsFeasible s p → Marks p w → ((j : ℕ) → j < t.width → zero_ℚ ≤ℚ reduced N w t (unit_at (t.nonbasic j)) zero_ℚ) → (i : ℕ) → i < t.rows → w (t.basic i) *ℚ t.right i ≡ zero_ℚ
no_weight N s t w p q hp m best = each_zero t.rows (λ i. w (t.basic i) *ℚ t.right i) (λ i hi. nonneg-mul (w (t.basic i)) (t.right i) (m.nonnegative (t.basic i)) (rights_nonnegative N s t i q (omega (arith, rows)))) none
  where
    rows : t.rows ≡ s.rows
    rows = q.reached.rows

    term : (v : ℕ) → v < N → zero_ℚ ≤ℚ (p v *ℚ reduced N w t (unit_at v) zero_ℚ)
    term v hv = go (place t v)
      where
        go : Standing t v → zero_ℚ ≤ℚ (p v *ℚ reduced N w t (unit_at v) zero_ℚ)
        go (in_basis i hi e) = subst (λ v. zero_ℚ ≤ℚ (p v *ℚ reduced N w t (unit_at v) zero_ℚ)) e (subst (λ a. zero_ℚ ≤ℚ a) (sym (times_zero (p (t.basic i)) _ (reduced_basic N w s t i q.reached hi))) (le_refl zero_ℚ))
        go (outside j hj e) = subst (λ v. zero_ℚ ≤ℚ (p v *ℚ reduced N w t (unit_at v) zero_ℚ)) e (nonneg-mul (p (t.nonbasic j)) _ (hp.nonnegative _ (q.variables _ (in_column j hj refl))) (best j hj))
        go (absent h g) = subst (λ a. zero_ℚ ≤ℚ a) (sym (ap (λ a. p v *ℚ a) (reduced_at N w t v hv ∙ ap (λ a. w v -ℚ a) (sum_to-zeros t.rows _ (λ i hi. times_zero (w (t.basic i)) _ (coefficient_absent t i v (h i hi) g)))) ∙ ring rational_ring (p v ∷ w v ∷ []) (A :* (B :- num 0)) (B :* A) refl ∙ m.none v)) (le_refl zero_ℚ)

    none : sum_to t.rows (λ i. w (t.basic i) *ℚ t.right i) ≡ zero_ℚ
    none =
        linear (sum_to N (λ v. p v *ℚ reduced N w t (unit_at v) zero_ℚ) ∷ sum_to N (λ v. w v *ℚ p v) ∷ sum_to t.rows (λ i. w (t.basic i) *ℚ t.right i) ∷ []) ((lit (pos 0) ⟨≤⟩ at 0) ∷ (at 0 ⟨=⟩ (at 1 ⟨-⟩ at 2)) ∷ (at 1 ⟨=⟩ lit (pos 0)) ∷ (lit (pos 0) ⟨≤⟩ at 2) ∷ []) (at 2 ⟨=⟩ lit (pos 0)) (λ one z u v. omega (arith, ints))
        (sum_to-nonneg N _ term, (costs_sum N w s t p q.reached (solves_reached N s t p q.reached hp.solves), (sum_to-zeros N _ (λ v hv. m.none v), (sum_to-nonneg t.rows _ (λ i hi. nonneg-mul (w (t.basic i)) (t.right i) (m.nonnegative (t.basic i)) (rights_nonnegative N s t i q (omega (arith, rows)))), tt))))

-- so it is the extreme point
best_solution : (N : ℕ) (s t : Tableau) (p : ℕ → ℚ) → IsLexFeasible N s t → IsExtremePoint s p → ((j : ℕ) → j < t.width → zero_ℚ ≤ℚ reduced N (mark p) t (unit_at (t.nonbasic j)) zero_ℚ) → AreEqualAt s p (basic_solution t)
best_solution N s t p q ex best = extreme_alone s p (basic_solution t) ex (solution_point N s t q) (λ v hv z. zeros v z (q.reached.variables v hv))
  where
    zeros : (v : ℕ) → p v ≡ zero_ℚ → IsVariableOf t v → basic_solution t v ≡ zero_ℚ
    zeros v z (in_row i hi e) =
        subst (λ v. basic_solution t v ≡ zero_ℚ) e (solution_basic t i q.reached.proper hi
        ∙ sym (ring rational_ring (t.right i ∷ []) (num 1 :* A) A refl) ∙ ap (λ a. a *ℚ t.right i) (sym ((marks p).some (t.basic i) (ap p e ∙ z))) ∙ no_weight N s t (mark p) p q ex.point (marks p) best i hi)
    zeros v z (in_column j hj e) = subst (λ v. basic_solution t v ≡ zero_ℚ) e (solution_nonbasic t j q.reached.proper hj)

-- a column without a positive entry is not negative
idle_column : (N : ℕ) (s t : Tableau) (w : ℕ → ℚ) (c : ℕ) → IsLexFeasible N s t → ((v : ℕ) → zero_ℚ ≤ℚ w v) → c < t.width → ((i : ℕ) → i < s.rows → t.cell i c ≤ℚ zero_ℚ) → zero_ℚ ≤ℚ reduced N w t (unit_at (t.nonbasic c)) zero_ℚ
idle_column N s t w c q hw hc none =
    let rows : t.rows ≡ s.rows = q.reached.rows in
    let width : t.width ≡ s.width = q.reached.width in
    let v = t.nonbasic c in
    let taken = λ (i : ℕ). w (t.basic i) *ℚ coefficient t i v in
    linear (reduced N w t (unit_at v) zero_ℚ ∷ w v ∷ sum_to t.rows taken ∷ []) ((at 0 ⟨=⟩ (at 1 ⟨-⟩ at 2)) ∷ (lit (pos 0) ⟨≤⟩ at 1) ∷ (at 2 ⟨≤⟩ lit (pos 0)) ∷ []) (lit (pos 0) ⟨≤⟩ at 0) (λ one z u v. omega (arith, ints))
    (reduced_at N w t v (q.reached.nonbasic_below c (omega arith)), (hw v, (at_most t.rows taken (λ i hi. not_above (w (t.basic i)) (coefficient t i v) (hw (t.basic i)) (subst (λ a. a ≤ℚ zero_ℚ) (sym (coefficient_cell t i c q.reached.proper hi hc)) (none i (omega arith)))), tt)))
  where
    not_above : (a b : ℚ) → zero_ℚ ≤ℚ a → b ≤ℚ zero_ℚ → (a *ℚ b) ≤ℚ zero_ℚ
    not_above a b ha hb = linear ((a *ℚ b) ∷ (a *ℚ neg_ℚ b) ∷ []) ((lit (pos 0) ⟨≤⟩ at 1) ∷ (at 0 ⟨=⟩ minus (at 1)) ∷ []) (at 0 ⟨≤⟩ lit (pos 0)) (λ one z u v. omega (arith, ints)) (nonneg-mul a (neg_ℚ b) ha (linear (b ∷ []) ((at 0 ⟨≤⟩ lit (pos 0)) ∷ []) (lit (pos 0) ⟨≤⟩ minus (at 0)) (λ one z u v. omega (arith, ints)) (hb, tt)), (ring rational_ring (a ∷ b ∷ []) (A :* B) (:neg (A :* :neg B)) refl, tt))

    at_most : (n : ℕ) (f : ℕ → ℚ) → ((i : ℕ) → i < n → f i ≤ℚ zero_ℚ) → sum_to n f ≤ℚ zero_ℚ
    at_most zero f h = le_refl zero_ℚ
    at_most (suc n) f h = linear (sum_to n f ∷ f n ∷ []) ((at 0 ⟨≤⟩ lit (pos 0)) ∷ (at 1 ⟨≤⟩ lit (pos 0)) ∷ []) ((at 0 ⟨+⟩ at 1) ⟨≤⟩ lit (pos 0)) (λ one z u v. omega (arith, ints)) (at_most n f (λ i k. h i (omega arith)), (h n (omega arith), tt))

-- ---- the theorem: the greatest of the tableaux has no negative column, or its neighbour were greater
pub covers : (N : ℕ) (s : Tableau) (K : ℕ) (ts : ℕ → Tableau) (p : ℕ → ℚ) → IsFeasibleStart N s → 0 < K → ((k : ℕ) → k < K → IsLexFeasible N s (ts k)) → IsClosed s K ts → IsExtremePoint s p → HasPoint s K ts p
covers N s zero ts p st h reach shut ex = absurd (omega arith)
covers N s (suc K) ts p st h reach shut ex = go (greatest K (suc s.rows) (λ k. reduced_key N (mark p) s (ts k)))
  where
    go : Greatest (suc K) (suc s.rows) (λ k. reduced_key N (mark p) s (ts k)) → HasPoint s (suc K) ts p
    go g = record { place = g.place; within = g.within; same = best_solution N s (ts g.place) p (reach g.place g.within) ex free }
      where
        q : IsLexFeasible N s (ts g.place)
        q = reach g.place g.within

        column : (j : ℕ) → j < s.width → reduced N (mark p) (ts g.place) (unit_at ((ts g.place).nonbasic j)) zero_ℚ <ℚ zero_ℚ → ((i : ℕ) → i < s.rows → (ts g.place).cell i j ≤ℚ zero_ℚ) ⊎ ((r : ℕ) × IsLexicographicRow s.rows s.basic (ts g.place) j r) → ⊥
        column j hj neg (inl none) = lt_irrefl zero_ℚ (linear (reduced N (mark p) (ts g.place) (unit_at ((ts g.place).nonbasic j)) zero_ℚ ∷ []) ((at 0 ⟨<⟩ lit (pos 0)) ∷ (lit (pos 0) ⟨≤⟩ at 0) ∷ []) (lit (pos 0) ⟨<⟩ lit (pos 0)) (λ one z u v. omega (arith, ints)) (neg, (idle_column N s (ts g.place) (mark p) j q (marks p).nonnegative (let width : (ts g.place).width ≡ s.width = q.reached.width in omega arith) none, tt)))
        column j hj neg (inr x) = greater (shut.to g.place g.within x.0 j hj x.1)
          where
            greater : HasNeighbour (suc K) ts (ts g.place) x.0 j → ⊥
            greater b = g.most b.place b.within (improves N (mark p) s (ts g.place) (ts b.place) x.0 j q (reach b.place b.within) (x.1).within hj (x.1).positive b.neighbour neg)

        free : (j : ℕ) → j < (ts g.place).width → zero_ℚ ≤ℚ reduced N (mark p) (ts g.place) (unit_at ((ts g.place).nonbasic j)) zero_ℚ
        free j hj = elim (le_or_lt zero_ℚ (reduced N (mark p) (ts g.place) (unit_at ((ts g.place).nonbasic j)) zero_ℚ)) [ inl l ↦ l | inr l ↦ absurd (column j (let width : (ts g.place).width ≡ s.width = q.reached.width in omega arith) l (lex_row_is N s.rows s (ts g.place) j st.start q.reached)) ]
