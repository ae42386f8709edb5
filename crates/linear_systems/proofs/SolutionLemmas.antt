-- The basic solution of a tableau, and that it is an extreme point where the tableau is reached
use Rattle.std.proofs.Common.{ℕ, pos, suc, zero, ◌<◌, ◌≤◌, ◌≡◌, ◌≢◌, refl, sym, ap, ap₂, ◌∙◌, subst, [], ◌∷◌, arith, ◌⊎◌, inl, inr, eq-or-lt_of_le, le_of_suc-le-suc}
use Rattle.std.proofs.lemmas.Int.{ints}
use Rattle.std.proofs.lemmas.Bool.{cases_eq}
use Rattle.rational.specs.Rational.{ℚ, ◌+ℚ◌, ◌*ℚ◌, neg_ℚ, zero_ℚ, one_ℚ, ◌≤ℚ◌, ◌<ℚ◌}
use Rattle.rational.proofs.RationalRing.{rational_ring}
use Rattle.rational.proofs.Ring.{ring, combine, ◌times◌is◌, num, ◌:+◌, ◌:*◌, :neg, A, B}
use Rattle.rational.proofs.Linear.{linear, at, lit, ◌⟨+⟩◌, ◌⟨≤⟩◌, ◌⟨=⟩◌}
use Rattle.rational.proofs.Field.{le_refl, le_of_lt}
use Rattle.rational.proofs.Rules.{times_one, times_zero}
use Rattle.rational.specs.Sum.{sum_to}
use Rattle.rational.proofs.SumLemmas.{sum_to-zeros, sum_to-only}
use Rattle.linear_systems.specs.Tableau.{Tableau, left, Solves}
use Rattle.linear_systems.specs.Lex.{IsLexPositive}
use Rattle.linear_systems.specs.Rows.{unit_at, basic_solution, row, key, HasDistinctVariables}
use Rattle.linear_systems.specs.RowEquivalence.{IsCombination, IsRowEquivalent, IsVariableOf, in_row, in_column}
use Rattle.linear_systems.proofs.RowLemmas.{unit_self, unit_other}
use Rattle.linear_systems.specs.Points.{IsFeasible, IsExtremePoint, AreEqualAt}
use Rattle.linear_systems.specs.LexFeasible.{IsLexFeasible}

-- ---- solutions, from the start to a reached tableau and back
row_at_solution : (t : Tableau) (x : ℕ → ℚ) (i : ℕ) → left t x i ≡ t.right i → row t x (neg_ℚ one_ℚ) i ≡ zero_ℚ
row_at_solution t x i e = ap (λ a. a +ℚ (neg_ℚ one_ℚ *ℚ t.right i)) e ∙ ring rational_ring (t.right i ∷ []) (A :+ :neg (num 1) :* A) (num 0) refl

solution_of_row : (t : Tableau) (x : ℕ → ℚ) (i : ℕ) → row t x (neg_ℚ one_ℚ) i ≡ zero_ℚ → left t x i ≡ t.right i
solution_of_row t x i e = combine rational_ring (left t x i ∷ t.right i ∷ []) ((num 1 times (A :+ :neg (num 1) :* B) is num 0) ∷ []) A B refl (e, tt)

combined : (m : ℕ) (t : Tableau) (F : (ℕ → ℚ) → ℚ → ℚ) (x : ℕ → ℚ) → m ≤ t.rows → IsCombination m t F → Solves t x → F x (neg_ℚ one_ℚ) ≡ zero_ℚ
combined m t F x hm c h =
    c.same x (neg_ℚ one_ℚ) ∙ sum_to-zeros m _ (λ q hq. times_zero (c.by q) _ (row_at_solution t x q (h q (omega arith))))

pub solves_reached : (N : ℕ) (s t : Tableau) (x : ℕ → ℚ) → IsRowEquivalent N s.rows s t → Solves s x → Solves t x
solves_reached N s t x p h i hi =
    let rows : t.rows ≡ s.rows = p.rows in
    solution_of_row t x i (combined s.rows s (λ x y. row t x y i) x (omega arith) (p.from i (omega arith)) h)

pub solves_start : (N : ℕ) (s t : Tableau) (x : ℕ → ℚ) → IsRowEquivalent N s.rows s t → Solves t x → Solves s x
solves_start N s t x p h i hi =
    let rows : t.rows ≡ s.rows = p.rows in
    solution_of_row s x i (combined s.rows t (λ x y. row s x y i) x (omega arith) (p.back i hi) h)

-- ---- the values of the basic solution
-- a sum over the rows, in which only that of the variable counts
pub basic_sum : (t : Tableau) (f : ℕ → ℚ) (i : ℕ) → HasDistinctVariables t → i < t.rows → sum_to t.rows (λ k. f k *ℚ unit_at (t.basic i) (t.basic k)) ≡ f i
basic_sum t f i p hi =
    sum_to-only t.rows i _ hi (λ k hk ne. times_zero (f k) _ (unit_other (t.basic i) (t.basic k) (λ e. ne (p.basic_once k i hk hi e)))) ∙ times_one (f i) _ (unit_self (t.basic i))

pub sum_elsewhere : (t : Tableau) (f : ℕ → ℚ) (v : ℕ) → ((i : ℕ) → i < t.rows → t.basic i ≢ v) → sum_to t.rows (λ k. f k *ℚ unit_at v (t.basic k)) ≡ zero_ℚ
sum_elsewhere t f v h = sum_to-zeros t.rows _ (λ i hi. times_zero (f i) _ (unit_other v (t.basic i) (h i hi)))

pub solution_basic : (t : Tableau) (i : ℕ) → HasDistinctVariables t → i < t.rows → basic_solution t (t.basic i) ≡ t.right i
solution_basic t i p hi = basic_sum t t.right i p hi

pub solution_elsewhere : (t : Tableau) (v : ℕ) → ((i : ℕ) → i < t.rows → t.basic i ≢ v) → basic_solution t v ≡ zero_ℚ
solution_elsewhere t v h = sum_elsewhere t t.right v h

pub solution_nonbasic : (t : Tableau) (j : ℕ) → HasDistinctVariables t → j < t.width → basic_solution t (t.nonbasic j) ≡ zero_ℚ
solution_nonbasic t j p hj = solution_elsewhere t (t.nonbasic j) (λ i hi. p.apart i j hi hj)

pub solution_solves : (t : Tableau) → HasDistinctVariables t → Solves t (basic_solution t)
unfolding left
solution_solves t p i hi =
    ap₂ (λ a b. a +ℚ b) (solution_basic t i p hi) (sum_to-zeros t.width _ (λ j hj. times_zero (t.cell i j) _ (solution_nonbasic t j p hj))) ∙ ring rational_ring (t.right i ∷ []) (A :+ num 0) A refl

-- a row that is lexicographically positive begins with no negative number
first_nonnegative : (n : ℕ) (f : ℕ → ℚ) → IsLexPositive (suc n) f → zero_ℚ ≤ℚ f 0
first_nonnegative n f p = go p.place refl
  where
    go : (k : ℕ) → p.place ≡ k → zero_ℚ ≤ℚ f 0
    go zero e = le_of_lt zero_ℚ (f 0) (subst (λ k. zero_ℚ <ℚ f k) e p.above)
    go (suc k) e = subst (λ a. zero_ℚ ≤ℚ a) (sym (p.before 0 (omega arith))) (le_refl zero_ℚ)

pub rights_nonnegative : (N : ℕ) (s t : Tableau) (i : ℕ) → IsLexFeasible N s t → i < s.rows → zero_ℚ ≤ℚ t.right i
rights_nonnegative N s t i p hi = first_nonnegative s.rows (key s.basic t i) (p.keys i hi)

-- ---- it is a point, and an extreme one
-- a variable is basic, nonbasic, or not in the tableau
pub data Standing (t : Tableau) (v : ℕ) : Type 0 where
  in_basis : (i : ℕ) → i < t.rows → t.basic i ≡ v → Standing t v
  outside : (j : ℕ) → j < t.width → t.nonbasic j ≡ v → Standing t v
  absent : ((i : ℕ) → i < t.rows → t.basic i ≢ v) → ((j : ℕ) → j < t.width → t.nonbasic j ≢ v) → Standing t v

found_or : (n : ℕ) (f : ℕ → ℕ) (v : ℕ) → ((i : ℕ) → i < n → f i ≢ v) ⊎ ((i : ℕ) × (i < n) × (f i ≡ v))
found_or zero f v = inl (λ i h. absurd (omega arith))
found_or (suc n) f v = elim (found_or n f v) [
  | inr x ↦ inr (x.0, omega (arith, x.1), x.2)
  | inl h ↦ elim (cases_eq (f n) v) [ inl e ↦ inr (n, omega arith, e) | inr ne ↦ inl (λ i hi. elim (eq-or-lt_of_le (le_of_suc-le-suc hi)) [ inl e ↦ subst (λ k. f k ≢ v) (sym e) ne | inr l ↦ h i l ]) ]
]

pub place : (t : Tableau) (v : ℕ) → Standing t v
place t v = elim (found_or t.rows t.basic v) [ inr x ↦ in_basis x.0 x.1 x.2 | inl h ↦ elim (found_or t.width t.nonbasic v) [ inr x ↦ outside x.0 x.1 x.2 | inl g ↦ absent h g ] ]

solution_nonnegative : (N : ℕ) (s t : Tableau) (v : ℕ) → IsLexFeasible N s t → zero_ℚ ≤ℚ basic_solution t v
solution_nonnegative N s t v p = go (place t v)
  where
    rows : t.rows ≡ s.rows
    rows = p.reached.rows

    go : Standing t v → zero_ℚ ≤ℚ basic_solution t v
    go (in_basis i hi e) = subst (λ v. zero_ℚ ≤ℚ basic_solution t v) e (subst (λ a. zero_ℚ ≤ℚ a) (sym (solution_basic t i p.reached.proper hi)) (rights_nonnegative N s t i p (omega (arith, rows))))
    go (outside j hj e) = subst (λ v. zero_ℚ ≤ℚ basic_solution t v) e (subst (λ a. zero_ℚ ≤ℚ a) (sym (solution_nonbasic t j p.reached.proper hj)) (le_refl zero_ℚ))
    go (absent h g) = subst (λ a. zero_ℚ ≤ℚ a) (sym (solution_elsewhere t v h)) (le_refl zero_ℚ)

pub solution_point : (N : ℕ) (s t : Tableau) → IsLexFeasible N s t → IsFeasible s (basic_solution t)
solution_point N s t p = record { solves = solves_start N s t (basic_solution t) p.reached (solution_solves t p.reached.proper); nonnegative = λ v h. solution_nonnegative N s t v p }

-- a solution that is 0 at the nonbasic variables is the basic one
alone_at : (N m : ℕ) (s t : Tableau) (x : ℕ → ℚ) (i : ℕ) → IsRowEquivalent N m s t → Solves t x → ((j : ℕ) → j < t.width → x (t.nonbasic j) ≡ zero_ℚ) → i < t.rows → x (t.basic i) ≡ t.right i
unfolding left
alone_at N m s t x i p h z hi =
    sym (ring rational_ring (x (t.basic i) ∷ []) (A :+ num 0) A refl) ∙ ap (λ a. x (t.basic i) +ℚ a) (sym (sum_to-zeros t.width _ (λ j hj. times_zero (t.cell i j) _ (z j hj)))) ∙ h i hi

pub solution_extreme : (N : ℕ) (s t : Tableau) → IsLexFeasible N s t → IsExtremePoint s (basic_solution t)
solution_extreme N s t p = record { point = solution_point N s t p; alone = alone }
  where
    rows : t.rows ≡ s.rows
    rows = p.reached.rows

    two_zeros : (a b : ℚ) → zero_ℚ ≤ℚ a → zero_ℚ ≤ℚ b → a +ℚ b ≡ zero_ℚ +ℚ zero_ℚ → a ≡ zero_ℚ
    two_zeros a b ha hb e = linear (a ∷ b ∷ []) ((lit (pos 0) ⟨≤⟩ at 0) ∷ (lit (pos 0) ⟨≤⟩ at 1) ∷ ((at 0 ⟨+⟩ at 1) ⟨=⟩ lit (pos 0)) ∷ []) (at 0 ⟨=⟩ lit (pos 0)) (λ one z u v. omega (arith, ints)) (ha, (hb, (e ∙ ring rational_ring [] (num 0 :+ num 0) (num 0) refl, tt)))

    alone : (x y : ℕ → ℚ) → IsFeasible s x → IsFeasible s y → ((v : ℕ) → IsVariableOf s v → x v +ℚ y v ≡ basic_solution t v +ℚ basic_solution t v) → AreEqualAt s x y
    alone x y hx hy mid v hv = go (p.reached.variables v hv)
      where
        -- at the tableau's nonbasic variables both are 0
        first_zero : (j : ℕ) → j < t.width → x (t.nonbasic j) ≡ zero_ℚ
        first_zero j hj = let u = t.nonbasic j in let hu : IsVariableOf s u = p.variables u (in_column j hj refl) in let z : basic_solution t u ≡ zero_ℚ = solution_nonbasic t j p.reached.proper hj in
            two_zeros (x u) (y u) (hx.nonnegative u hu) (hy.nonnegative u hu) (mid u hu ∙ ap₂ (λ a b. a +ℚ b) z z)

        second_zero : (j : ℕ) → j < t.width → y (t.nonbasic j) ≡ zero_ℚ
        second_zero j hj = let u = t.nonbasic j in let hu : IsVariableOf s u = p.variables u (in_column j hj refl) in let z : basic_solution t u ≡ zero_ℚ = solution_nonbasic t j p.reached.proper hj in
            two_zeros (y u) (x u) (hy.nonnegative u hu) (hx.nonnegative u hu) (ring rational_ring (x u ∷ y u ∷ []) (B :+ A) (A :+ B) refl ∙ mid u hu ∙ ap₂ (λ a b. a +ℚ b) z z)

        go : IsVariableOf t v → x v ≡ y v
        go (in_row i hi e) = subst (λ v. x v ≡ y v) e (alone_at N s.rows s t x i p.reached (solves_reached N s t x p.reached hx.solves) first_zero hi ∙ sym (alone_at N s.rows s t y i p.reached (solves_reached N s t y p.reached hy.solves) second_zero hi))
        go (in_column j hj e) = subst (λ v. x v ≡ y v) e (first_zero j hj ∙ sym (second_zero j hj))
