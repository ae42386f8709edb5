-- the lexicographic row: its pivot keeps keys positive, no two quotients are equal, there is just one
use Rattle.std.proofs.Common.{ℕ, suc, zero, pos, ◌<◌, ◌≤◌, ◌≡◌, ◌≢◌, refl, sym, ap, ap₂, ◌∙◌, subst, [], ◌∷◌, arith, ◌⊎◌, inl, inr, eq-or-lt_of_le, le_of_suc-le-suc}
use Rattle.std.proofs.lemmas.Int.{ints}
use Rattle.std.proofs.lemmas.Bool.{cases_eq}
use Rattle.rational.proofs.InverseLemmas.{ne_zero_of_pos, inv_pos}
use Rattle.rational.specs.Rational.{ℚ, ◌*ℚ◌, ◌-ℚ◌, inv_ℚ, zero_ℚ, one_ℚ, ◌≤ℚ◌, ◌<ℚ◌}
use Rattle.rational.specs.Sum.{sum_to}
use Rattle.linear_systems.specs.Tableau.{Tableau, pivot}
use Rattle.rational.proofs.RationalRing.{rational_ring}
use Rattle.rational.proofs.Ring.{◌times◌is◌, combine, ring, num, ◌:*◌, :neg, A, B, C, D, E}
use Rattle.rational.proofs.Linear.{linear, at, lit, ◌⟨≤⟩◌, ◌⟨<⟩◌, ◌⟨=⟩◌}
use Rattle.rational.proofs.Field.{*ℚ-inv, le_or_lt, lt_irrefl}
use Rattle.rational.proofs.SumLemmas.{sum_to-same, sum_to-scale}
use Rattle.linear_systems.specs.Lex.{IsLexPositive, IsLexLess}
use Rattle.linear_systems.specs.Rows.{unit_at, coefficient, key, row, IsLexicographicRow, IsLexicographicRowAmong, Alike}
use Rattle.linear_systems.specs.RowEquivalence.{IsRowEquivalent, IsStart}
use Rattle.linear_systems.proofs.LexLemmas.{lex_same, lex_scale, lex_kept, compare, less_trans, less_apart}
use Rattle.linear_systems.proofs.RowLemmas.{key_same, key_other, key_alike, coefficient_row, coefficient_own, coefficient_basic}
use Rattle.linear_systems.proofs.SpanLemmas.{spanned_is}

-- ---- the pivot on the lexicographic row keeps every rated key positive
pub keys_stay : (m : ℕ) (b : ℕ → ℕ) (t : Tableau) (c r : ℕ) → c < t.width → IsLexicographicRow m b t c r → ((i : ℕ) → i < m → IsLexPositive (suc m) (key b t i)) → (i : ℕ) → i < m → IsLexPositive (suc m) (key b (pivot t r c) i)
keys_stay m b t c r hc l keys i hi =
    let ne = ne_zero_of_pos (t.cell r c) l.positive in
    elim (cases_eq i r) [
      | inl e ↦ subst (λ k. IsLexPositive (suc m) (key b (pivot t r c) k)) (sym e) (lex_same (suc m) (λ p. inv_ℚ (t.cell r c) *ℚ key b t r p) _ (λ p _. ring rational_ring (inv_ℚ (t.cell r c) ∷ key b t r p ∷ []) (A :* B) (B :* A) refl ∙ sym (key_same b t r c p hc ne)) (lex_scale (suc m) (inv_ℚ (t.cell r c)) (key b t r) (inv_pos (t.cell r c) l.positive) (keys r l.within)))
      | inr n ↦ lex_same (suc m) _ (key b (pivot t r c) i) (λ p _. sym (key_other b t r c i p n hc ne)) (lex_kept (suc m) (t.cell r c) (t.cell i c) (key b t r) (key b t i) l.positive (keys r l.within) (keys i hi) (λ h. (l.least i hi n h).by))
    ]

-- the same for a tableau that agrees with the pivot where it has cells
pub keys_stay_alike : (m : ℕ) (b : ℕ → ℕ) (t u : Tableau) (c r : ℕ) → m ≤ t.rows → c < t.width → IsLexicographicRow m b t c r → Alike (pivot t r c) u → ((i : ℕ) → i < m → IsLexPositive (suc m) (key b t i)) → (i : ℕ) → i < m → IsLexPositive (suc m) (key b u i)
keys_stay_alike m b t u c r hm hc l a keys i hi =
    lex_same (suc m) _ _ (λ p _. key_alike b (pivot t r c) u i p a (omega arith)) (keys_stay m b t c r hc l keys i hi)

-- ---- the coefficients of the start's basic variables tell the whole row
pub row_is : (N m : ℕ) (s t : Tableau) (k : ℕ) (x : ℕ → ℚ) (y : ℚ) → IsStart N m s → IsRowEquivalent N m s t → k < m → row t x y k ≡ sum_to m (λ q. coefficient t k (s.basic q) *ℚ row s x y q)
row_is N m s t k x y a p h =
    spanned_is m s (λ x y. row t x y k) a.proper a.rated (p.from k h) x y
    ∙ sum_to-same m _ _ (λ q _. ap (λ u. u *ℚ row s x y q) (coefficient_row t k (s.basic q)))

-- so no two rated rows have their coefficients in one ratio
pub quotients_apart : (N m : ℕ) (s t : Tableau) (i k : ℕ) (a b : ℚ) → IsStart N m s → IsRowEquivalent N m s t → i < m → k < m → i ≢ k → a ≢ zero_ℚ → ((p : ℕ) → p < m → coefficient t i (s.basic p) *ℚ inv_ℚ a ≡ coefficient t k (s.basic p) *ℚ inv_ℚ b) → ⊥
quotients_apart N m s t i k a b st p hi hk ne an e =
    let rows : t.rows ≡ s.rows = p.rows in
    let rated : m ≤ s.rows = st.rated in
    let x = unit_at (t.basic i) in
    let at_i : row t x zero_ℚ i ≡ one_ℚ = coefficient_row t i (t.basic i) ∙ coefficient_own t i p.proper (omega arith) in
    let at_k : row t x zero_ℚ k ≡ zero_ℚ = coefficient_row t k (t.basic i) ∙ coefficient_basic t k i p.proper (omega arith) (omega arith) (λ q. ne (sym q)) in
    let scaled : inv_ℚ a *ℚ row t x zero_ℚ i ≡ inv_ℚ b *ℚ row t x zero_ℚ k =
    ap (λ u. inv_ℚ a *ℚ u) (row_is N m s t i x zero_ℚ st p hi)
    ∙ sym (sum_to-scale m (inv_ℚ a) (λ q. coefficient t i (s.basic q) *ℚ row s x zero_ℚ q))
    ∙ sum_to-same m _ _ (λ q h. ring rational_ring (inv_ℚ a ∷ coefficient t i (s.basic q) ∷ row s x zero_ℚ q ∷ []) (A :* (B :* C)) (B :* A :* C) refl ∙ ap (λ u. u *ℚ row s x zero_ℚ q) (e q h) ∙ ring rational_ring (inv_ℚ b ∷ coefficient t k (s.basic q) ∷ row s x zero_ℚ q ∷ []) (B :* A :* C) (A :* (B :* C)) refl)
    ∙ sum_to-scale m (inv_ℚ b) (λ q. coefficient t k (s.basic q) *ℚ row s x zero_ℚ q)
    ∙ ap (λ u. inv_ℚ b *ℚ u) (sym (row_is N m s t k x zero_ℚ st p hk)) in
    lt_irrefl zero_ℚ (linear (zero_ℚ ∷ one_ℚ ∷ []) ((at 0 ⟨=⟩ at 1) ∷ (at 0 ⟨=⟩ lit (pos 0)) ∷ (at 1 ⟨=⟩ lit (pos 1)) ∷ []) (lit (pos 0) ⟨<⟩ lit (pos 0)) (λ one z u v. omega (arith, ints)) (combine rational_ring (a ∷ inv_ℚ a ∷ row t x zero_ℚ i ∷ row t x zero_ℚ k ∷ inv_ℚ b ∷ []) ((:neg A times (B :* C) is (E :* D)) ∷ (A :* B times C is num 1) ∷ (:neg (A :* E) times D is num 0) ∷ (num 1 times A :* B is num 1) ∷ []) (num 0) (num 1) refl (scaled, (at_i, (at_k, (*ℚ-inv a an, tt)))), (refl, (refl, tt))))

pub quotients_differ : (N m : ℕ) (s t : Tableau) (i k : ℕ) (a b : ℚ) → IsStart N m s → IsRowEquivalent N m s t → i < m → k < m → i ≢ k → a ≢ zero_ℚ → ((p : ℕ) → p < suc m → key s.basic t i p *ℚ inv_ℚ a ≡ key s.basic t k p *ℚ inv_ℚ b) → ⊥
quotients_differ N m s t i k a b st p hi hk ne an e = quotients_apart N m s t i k a b st p hi hk ne an (λ q h. e (suc q) (omega arith))

-- ---- the same row by keys of the same variables
key_by : (m : ℕ) (b d : ℕ → ℕ) (t : Tableau) (i p : ℕ) → ((q : ℕ) → q < m → b q ≡ d q) → p < suc m → key b t i p ≡ key d t i p
key_by m b d t i zero h l = refl
key_by m b d t i (suc p) h l = ap (coefficient t i) (h p (omega arith))

pub lex_row_by : (k m : ℕ) (b d : ℕ → ℕ) (t : Tableau) (c r : ℕ) → ((q : ℕ) → q < m → b q ≡ d q) → IsLexicographicRowAmong k m b t c r → IsLexicographicRowAmong k m d t c r
lex_row_by k m b d t c r h l =
    record {
      within = l.within;
      positive = l.positive;
      least = λ i hi ne p. record { by = lex_same (suc m) _ _ (λ j hj. ap₂ (λ x y. (x *ℚ inv_ℚ (t.cell i c)) -ℚ (y *ℚ inv_ℚ (t.cell r c))) (key_by m b d t i j h hj) (key_by m b d t r j h hj)) (l.least i hi ne p).by };
    }

-- ---- just one
pub lex_row_once : (m : ℕ) (b : ℕ → ℕ) (t : Tableau) (c r k : ℕ) → IsLexicographicRow m b t c r → IsLexicographicRow m b t c k → r ≡ k
lex_row_once m b t c r k p q =
    elim (cases_eq r k) [ inl e ↦ e | inr n ↦ absurd (less_apart (suc m) _ _ (less_trans (suc m) _ _ _ (p.least k q.within (λ e. n (sym e)) q.positive) (q.least r p.within n p.positive)) (λ j h. refl)) ]

-- the scan of the rows: the first positive entry, a row that is passed over, and a row that is better
pub below_cases : (i k : ℕ) → i < suc k → (i ≡ k) ⊎ (i < k)
below_cases i k h = eq-or-lt_of_le (le_of_suc-le-suc h)

pub lex_first : (k m : ℕ) (b : ℕ → ℕ) (t : Tableau) (c : ℕ) → ((i : ℕ) → i < k → t.cell i c ≤ℚ zero_ℚ) → zero_ℚ <ℚ t.cell k c → IsLexicographicRowAmong (suc k) m b t c k
lex_first k m b t c none h =
    record {
      within = omega arith;
      positive = h;
      least = λ i hi ne p. elim (below_cases i k hi) [ inl e ↦ absurd (ne e) | inr l ↦ absurd (lt_irrefl zero_ℚ (linear (t.cell i c ∷ []) ((at 0 ⟨≤⟩ lit (pos 0)) ∷ (lit (pos 0) ⟨<⟩ at 0) ∷ []) (lit (pos 0) ⟨<⟩ lit (pos 0)) (λ one z u v. omega (arith, ints)) (none i l, (p, tt)))) ];
    }

pub lex_pass : (k m : ℕ) (b : ℕ → ℕ) (t : Tableau) (c r : ℕ) → IsLexicographicRowAmong k m b t c r → (zero_ℚ <ℚ t.cell k c → IsLexLess (suc m) (λ p. key b t r p *ℚ inv_ℚ (t.cell r c)) (λ p. key b t k p *ℚ inv_ℚ (t.cell k c))) → IsLexicographicRowAmong (suc k) m b t c r
lex_pass k m b t c r l h =
    record {
      within = (let w : r < k = l.within in omega arith);
      positive = l.positive;
      least = λ i hi ne p. elim (below_cases i k hi) [ inl e ↦ subst (λ i. IsLexLess (suc m) (λ p. key b t r p *ℚ inv_ℚ (t.cell r c)) (λ p. key b t i p *ℚ inv_ℚ (t.cell i c))) (sym e) (h (subst (λ i. zero_ℚ <ℚ t.cell i c) e p)) | inr q ↦ l.least i q ne p ];
    }

pub lex_take : (k m : ℕ) (b : ℕ → ℕ) (t : Tableau) (c r : ℕ) → IsLexicographicRowAmong k m b t c r → zero_ℚ <ℚ t.cell k c → IsLexLess (suc m) (λ p. key b t k p *ℚ inv_ℚ (t.cell k c)) (λ p. key b t r p *ℚ inv_ℚ (t.cell r c)) → IsLexicographicRowAmong (suc k) m b t c k
lex_take k m b t c r l h less =
    record {
      within = omega arith;
      positive = h;
      least = λ i hi ne p. elim (below_cases i k hi) [
        | inl e ↦ absurd (ne e)
        | inr q ↦ elim (cases_eq i r) [
          | inl e ↦ subst (λ i. IsLexLess (suc m) (λ p. key b t k p *ℚ inv_ℚ (t.cell k c)) (λ p. key b t i p *ℚ inv_ℚ (t.cell i c))) (sym e) less
          | inr n ↦ less_trans (suc m) _ _ _ less (l.least i q n p)
        ]
      ];
    }

-- there is one wherever a rated entry is positive
pub data Scan (k m : ℕ) (b : ℕ → ℕ) (t : Tableau) (c : ℕ) : Type 0 where
  none : ((i : ℕ) → i < k → t.cell i c ≤ℚ zero_ℚ) → Scan k m b t c
  best : (r : ℕ) → IsLexicographicRowAmong k m b t c r → Scan k m b t c

pub scan : (N k m : ℕ) (s t : Tableau) (c : ℕ) → IsStart N m s → IsRowEquivalent N m s t → k ≤ m → Scan k m s.basic t c
scan N zero m s t c st p h = none (λ i q. absurd (omega arith))
scan N (suc k) m s t c st p h = go (scan N k m s t c st p (omega arith)) (le_or_lt (t.cell k c) zero_ℚ)
  where
    quotient : ℕ → ℕ → ℚ
    quotient i p = key s.basic t i p *ℚ inv_ℚ (t.cell i c)

    tie : (r : ℕ) → IsLexicographicRowAmong k m s.basic t c r → zero_ℚ <ℚ t.cell k c → IsLexLess (suc m) (λ p. key s.basic t r p *ℚ inv_ℚ (t.cell r c)) (λ p. key s.basic t k p *ℚ inv_ℚ (t.cell k c)) ⊎ (((p : ℕ) → p < suc m → key s.basic t r p *ℚ inv_ℚ (t.cell r c) ≡ key s.basic t k p *ℚ inv_ℚ (t.cell k c)) ⊎ IsLexLess (suc m) (λ p. key s.basic t k p *ℚ inv_ℚ (t.cell k c)) (λ p. key s.basic t r p *ℚ inv_ℚ (t.cell r c))) → Scan (suc k) m s.basic t c
    tie r l pk (inl less) = best r (lex_pass k m s.basic t c r l (λ _. less))
    tie r l pk (inr (inr less)) = best k (lex_take k m s.basic t c r l pk less)
    tie r l pk (inr (inl e)) = let w : r < k = l.within in absurd (quotients_differ N m s t r k (t.cell r c) (t.cell k c) st p (omega arith) h (omega arith) (ne_zero_of_pos (t.cell r c) l.positive) e)

    go : Scan k m s.basic t c → (t.cell k c ≤ℚ zero_ℚ) ⊎ (zero_ℚ <ℚ t.cell k c) → Scan (suc k) m s.basic t c
    go (none f) (inl q) = none (λ i hi. elim (below_cases i k hi) [ inl e ↦ subst (λ i. t.cell i c ≤ℚ zero_ℚ) (sym e) q | inr l ↦ f i l ])
    go (none f) (inr q) = best k (lex_first k m s.basic t c f q)
    go (best r l) (inl q) = best r (lex_pass k m s.basic t c r l (λ u. absurd (lt_irrefl zero_ℚ (linear (t.cell k c ∷ []) ((at 0 ⟨≤⟩ lit (pos 0)) ∷ (lit (pos 0) ⟨<⟩ at 0) ∷ []) (lit (pos 0) ⟨<⟩ lit (pos 0)) (λ one z u v. omega (arith, ints)) (q, (u, tt))))))
    go (best r l) (inr q) = tie r l q (compare (suc m) (λ p. key s.basic t r p *ℚ inv_ℚ (t.cell r c)) (λ p. key s.basic t k p *ℚ inv_ℚ (t.cell k c)))

pub lex_row_is : (N m : ℕ) (s t : Tableau) (c : ℕ) → IsStart N m s → IsRowEquivalent N m s t → ((i : ℕ) → i < m → t.cell i c ≤ℚ zero_ℚ) ⊎ ((r : ℕ) × IsLexicographicRow m s.basic t c r)
lex_row_is N m s t c st p = go (scan N m m s t c st p (omega arith))
  where
    go : Scan m m s.basic t c → ((i : ℕ) → i < m → t.cell i c ≤ℚ zero_ℚ) ⊎ ((r : ℕ) × IsLexicographicRow m s.basic t c r)
    go (none f) = inl f
    go (best r l) = inr (r, l)
