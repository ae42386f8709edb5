-- An improving column with no positive entry in a constraint makes the program unbounded.
use Rattle.std.proofs.Common.{ℕ, pos, ◌<◌, ◌≤◌, ◌≡◌, refl, sym, ap, ap₂, ◌∙◌, subst, [], ◌∷◌, arith, inl, inr}
use Rattle.std.proofs.lemmas.Int.{ints}
use Rattle.std.proofs.lemmas.Bool.{cases_eq, cases_lt}
use Rattle.rational.specs.Rational.{ℚ, ◌+ℚ◌, ◌*ℚ◌, neg_ℚ, zero_ℚ, ◌≤ℚ◌, ◌<ℚ◌}
use Rattle.rational.specs.Sum.{sum_to}
use Rattle.linear_systems.specs.Tableau.{Tableau, left}
use Rattle.rational.proofs.RationalRing.{rational_ring}
use Rattle.rational.proofs.Ring.{◌times◌is◌, combine, ring, num, ◌:+◌, ◌:*◌, ◌:-◌, :neg, A, B, C}
use Rattle.rational.proofs.Linear.{linear, minus, at, lit, ◌⟨+⟩◌, ◌⟨≤⟩◌, ◌⟨<⟩◌, ◌⟨=⟩◌}
use Rattle.rational.proofs.Field.{nonneg-mul}
use Rattle.rational.proofs.SumLemmas.{sum_to-same, sum_to-zeros, sum_to-nonneg, sum_to-only}
use Rattle.rational.proofs.Rules.{times_zero}
use Rattle.linear_systems.specs.Rows.{unit_at, row, HasDistinctVariables, IsLexicographicRow}
use Rattle.linear_systems.specs.RowEquivalence.{IsRowEquivalent, IsStart}
use Rattle.zero_sum_lp.specs.Paths.{IsUnbounded}
use Rattle.linear_systems.proofs.RowLemmas.{unit_self, unit_other, unit_nonneg}
use Rattle.zero_sum_lp.proofs.UnitLemmas.{neg_nonneg, sum_unit}
use Rattle.linear_systems.proofs.LexRowLemmas.{Scan, none, best, scan}

-- ---- what solves a reached tableau solves the start
pub solves_start : (N m : ℕ) (s t : Tableau) (x : ℕ → ℚ) (y : ℚ) → IsStart N m s → IsRowEquivalent N m s t → ((i : ℕ) → i < t.rows → row t x y i ≡ zero_ℚ) → (k : ℕ) → k < s.rows → row s x y k ≡ zero_ℚ
solves_start N m s t x y st p h k hk =
    let rows : t.rows ≡ s.rows = p.rows in
    let rated : m ≤ s.rows = st.rated in
    let first : (q : ℕ) → q < m → row s x y q ≡ zero_ℚ = λ q hq. (p.back q hq).same x y ∙ sum_to-zeros m _ (λ i hi. times_zero ((p.back q hq).by i) _ (h i (omega arith))) in
    elim (cases_lt k m) [
      | inl l ↦ first k l
      | inr l ↦ combine rational_ring (row t x y k ∷ row s x y k ∷ []) ((:neg (num 1) times A :- B is num 0) ∷ (num 1 times A is num 0) ∷ []) B (num 0) refl ((p.rest k l hk).same x y ∙ sum_to-zeros m _ (λ i hi. times_zero ((p.rest k l hk).by i) _ (first i hi)), (h k (omega arith), tt))
    ]

-- ---- the direction of a column: 1 for its variable, and for each basic one the entry with its sign changed
pub ray : Tableau → ℕ → ℕ → ℚ
ray t c v = unit_at (t.nonbasic c) v +ℚ sum_to t.rows (λ i. neg_ℚ (t.cell i c) *ℚ unit_at (t.basic i) v)

pub ray_basic : (t : Tableau) (c i : ℕ) → HasDistinctVariables t → c < t.width → i < t.rows → ray t c (t.basic i) ≡ neg_ℚ (t.cell i c)
unfolding ray
ray_basic t c i p hc hi =
    ap₂ (λ a b. a +ℚ b) (unit_other (t.nonbasic c) (t.basic i) (p.apart i c hi hc)) (sum_to-only t.rows i _ hi (λ j hj ne. times_zero (neg_ℚ (t.cell j c)) _ (unit_other (t.basic j) (t.basic i) (λ e. ne (p.basic_once j i hj hi (sym e))))) ∙ ap (λ u. neg_ℚ (t.cell i c) *ℚ u) (unit_self (t.basic i)))
    ∙ ring rational_ring (t.cell i c ∷ []) (num 0 :+ :neg A :* num 1) (:neg A) refl

pub ray_nonbasic : (t : Tableau) (c j : ℕ) → HasDistinctVariables t → c < t.width → j < t.width → ray t c (t.nonbasic j) ≡ unit_at c j
unfolding ray
ray_nonbasic t c j p hc hj =
    ap (λ b. unit_at (t.nonbasic c) (t.nonbasic j) +ℚ b) (sum_to-zeros t.rows _ (λ i hi. times_zero (neg_ℚ (t.cell i c)) _ (unit_other (t.basic i) (t.nonbasic j) (λ e. p.apart i j hi hj (sym e)))))
    ∙ ring rational_ring (unit_at (t.nonbasic c) (t.nonbasic j) ∷ []) (A :+ num 0) A refl
    ∙ elim (cases_eq j c) [ inl e ↦ (ap (λ k. unit_at (t.nonbasic c) (t.nonbasic k)) e ∙ unit_self (t.nonbasic c) ∙ sym (ap (unit_at c) e ∙ unit_self c)) | inr n ↦ (unit_other (t.nonbasic c) (t.nonbasic j) (λ e. n (p.nonbasic_once j c hj hc e)) ∙ sym (unit_other c j n)) ]

pub ray_left : (t : Tableau) (c i : ℕ) → HasDistinctVariables t → c < t.width → i < t.rows → left t (ray t c) i ≡ zero_ℚ
unfolding left
ray_left t c i p hc hi =
    ap₂ (λ a b. a +ℚ b) (ray_basic t c i p hc hi) (sum_to-same t.width _ (λ j. t.cell i j *ℚ unit_at c j) (λ j hj. ap (λ u. t.cell i j *ℚ u) (ray_nonbasic t c j p hc hj)) ∙ sum_unit t.width (t.cell i) c hc)
    ∙ ring rational_ring (t.cell i c ∷ []) (:neg A :+ A) (num 0) refl

pub ray_nonneg : (t : Tableau) (c v : ℕ) → ((i : ℕ) → i < t.rows → v ≡ t.basic i → t.cell i c ≤ℚ zero_ℚ) → zero_ℚ ≤ℚ ray t c v
unfolding ray
ray_nonneg t c v h =
    linear (unit_at (t.nonbasic c) v ∷ sum_to t.rows (λ i. neg_ℚ (t.cell i c) *ℚ unit_at (t.basic i) v) ∷ []) ((lit (pos 0) ⟨≤⟩ at 0) ∷ (lit (pos 0) ⟨≤⟩ at 1) ∷ []) (lit (pos 0) ⟨≤⟩ (at 0 ⟨+⟩ at 1)) (λ one z p h. omega (arith, ints)) (unit_nonneg (t.nonbasic c) v, (sum_to-nonneg t.rows _ part, tt))
  where
    part : (i : ℕ) → i < t.rows → zero_ℚ ≤ℚ (neg_ℚ (t.cell i c) *ℚ unit_at (t.basic i) v)
    part i hi =
        elim (cases_eq v (t.basic i)) [
          | inl e ↦ nonneg-mul (neg_ℚ (t.cell i c)) (unit_at (t.basic i) v) (neg_nonneg (t.cell i c) (h i hi e)) (unit_nonneg (t.basic i) v)
          | inr n ↦ linear ((neg_ℚ (t.cell i c) *ℚ unit_at (t.basic i) v) ∷ []) ((at 0 ⟨=⟩ lit (pos 0)) ∷ []) (lit (pos 0) ⟨≤⟩ at 0) (λ one z p h. omega (arith, ints)) (times_zero (neg_ℚ (t.cell i c)) _ (unit_other (t.basic i) v n), tt)
        ]

-- ---- the ray of the start
pub has_ray : (N m : ℕ) (s t : Tableau) (c : ℕ) → IsStart N m s → m < s.rows → IsRowEquivalent N m s t → c < t.width → t.cell m c <ℚ zero_ℚ → ((i : ℕ) → i < m → t.cell i c ≤ℚ zero_ℚ) → IsUnbounded m s
has_ray N m s t c st hm p hc neg none_up =
    let rows : t.rows ≡ s.rows = p.rows in
    record {
      along = ray t c;
      holds = λ k hk. combine rational_ring (row s (ray t c) zero_ℚ k ∷ left s (ray t c) k ∷ s.right k ∷ []) ((num 1 times B :+ num 0 :* C is num 0) ∷ []) B (num 0) refl (solves_start N m s t (ray t c) zero_ℚ st p (λ i hi. ap (λ u. u +ℚ (zero_ℚ *ℚ t.right i)) (ray_left t c i p.proper hc hi) ∙ ring rational_ring (t.right i ∷ []) (num 0 :+ num 0 :* A) (num 0) refl) k hk, tt);
      not_negative = λ v away. ray_nonneg t c v (λ i hi e. elim (cases_lt i m) [ inl l ↦ none_up i l | inr l ↦ absurd (away i l (omega arith) (e ∙ p.stays i l (omega arith))) ]);
      up = subst (λ u. zero_ℚ <ℚ u) (sym (ap (ray t c) (sym (p.stays m (omega arith) hm)) ∙ ray_basic t c m p.proper hc (omega arith))) (linear (t.cell m c ∷ []) ((at 0 ⟨<⟩ lit (pos 0)) ∷ []) (lit (pos 0) ⟨<⟩ minus (at 0)) (λ one z u v. omega (arith, ints)) (neg, tt));
    }

-- where the start has no ray, an improving column has its lexicographic row
pub leaving_row : (N m : ℕ) (s t : Tableau) (c : ℕ) → IsStart N m s → m < s.rows → (IsUnbounded m s → ⊥) → IsRowEquivalent N m s t → c < t.width → t.cell m c <ℚ zero_ℚ → (r : ℕ) × IsLexicographicRow m s.basic t c r
leaving_row N m s t c st hm bounded p hc neg = go (scan N m m s t c st p (omega arith))
  where
    go : Scan m m s.basic t c → (r : ℕ) × IsLexicographicRow m s.basic t c r
    go (none f) = absurd (bounded (has_ray N m s t c st hm p hc neg f))
    go (best r l) = (r, l)
