-- The extreme points of the two systems are the vertices of the two polytopes, with their slacks.
use Rattle.std.proofs.Common.{ℕ, pos, suc, ◌+◌, ◌-◌, ◌<◌, ◌≡◌, inl, inr, [], ◌∷◌, refl, sym, ap, ap₂, ◌∙◌, subst, arith}
use Rattle.std.proofs.lemmas.Int.{ints}
use Rattle.std.proofs.lemmas.Bool.{cases_lt}
use Rattle.rational.specs.Rational.{ℚ, ◌+ℚ◌, ◌*ℚ◌, ◌-ℚ◌, zero_ℚ, one_ℚ, ◌≤ℚ◌}
use Rattle.rational.proofs.RationalRing.{rational_ring}
use Rattle.rational.proofs.Ring.{ring, combine, ◌times◌is◌, num, ◌:+◌, ◌:-◌, :neg, A, B, C}
use Rattle.rational.proofs.Linear.{linear, at, lit, ◌⟨+⟩◌, ◌⟨-⟩◌, ◌⟨≤⟩◌, ◌⟨=⟩◌}
use Rattle.rational.proofs.SumLemmas.{sum_to-same}
use Rattle.linear_systems.specs.Tableau.{Tableau, Solves, left}
use Rattle.linear_systems.specs.RowEquivalence.{IsVariableOf, in_row, in_column}
use Rattle.extreme_equilibria.specs.ExtremeEquilibria.{AreSame, IsMidpoint}
use Rattle.extreme_equilibria.specs.Bimatrix.{gain}
use Rattle.extreme_equilibria.specs.Polytopes.{IsInPolytope, IsVertex, first_variable, second_variable}
use Rattle.linear_systems.specs.Points.{IsFeasible, IsExtremePoint}
use Rattle.extreme_equilibria.specs.Systems.{first_system, second_system}
use Rattle.extreme_equilibria.specs.Laws.{SolutionsAreThePolytopes}
use Rattle.extreme_equilibria.proofs.MeanLemmas.{dot-midpoint}
use Rattle.extreme_equilibria.proofs.LabelLemmas.{choose_low, choose_high}

-- ---- numbers
slack_of : (s g : ℚ) → s +ℚ g ≡ one_ℚ → s ≡ one_ℚ -ℚ g
slack_of s g e = combine rational_ring (s ∷ g ∷ []) ((num 1 times A :+ B is num 1) ∷ []) A (num 1 :- B) refl (e, tt)

row_bound : (s g : ℚ) → s +ℚ g ≡ one_ℚ → zero_ℚ ≤ℚ s → g ≤ℚ one_ℚ
row_bound s g e h = linear (s ∷ g ∷ []) (((at 0 ⟨+⟩ at 1) ⟨=⟩ lit (pos 1)) ∷ (lit (pos 0) ⟨≤⟩ at 0) ∷ []) (at 1 ⟨≤⟩ lit (pos 1)) (λ one z u v. omega (arith, ints)) (e, (h, tt))

slack-not_negative : (g : ℚ) → g ≤ℚ one_ℚ → zero_ℚ ≤ℚ (one_ℚ -ℚ g)
slack-not_negative g h = linear (g ∷ []) ((at 0 ⟨≤⟩ lit (pos 1)) ∷ []) (lit (pos 0) ⟨≤⟩ (lit (pos 1) ⟨-⟩ at 0)) (λ one z u v. omega (arith, ints)) (h, tt)

slack_middle : (p q z : ℚ) → p +ℚ q ≡ z +ℚ z → (one_ℚ -ℚ p) +ℚ (one_ℚ -ℚ q) ≡ (one_ℚ -ℚ z) +ℚ (one_ℚ -ℚ z)
slack_middle p q z e = combine rational_ring (p ∷ q ∷ z ∷ []) ((:neg (num 1) times A :+ B is C :+ C) ∷ []) (num 1 :- A :+ (num 1 :- B)) (num 1 :- C :+ (num 1 :- C)) refl (e, tt)

-- ---- any numbering of the variables
-- a system of rows with their slacks, and right sides 1
abbrev pub system : ℕ → ℕ → (ℕ → ℕ → ℚ) → (ℕ → ℕ) → (ℕ → ℕ) → Tableau
system k r c w b = record { rows = r; width = k; basic = b; nonbasic = w; cell = c; right = λ i. one_ℚ }

-- `fill` gives each variable its value at a point: w j is the entry j, and b i the slack of row i
pub record Fills (k r : ℕ) (c : ℕ → ℕ → ℚ) (w b : ℕ → ℕ) (fill : (ℕ → ℚ) → ℕ → ℚ) : Type 0 where
  pub entry : (p : ℕ → ℚ) (j : ℕ) → j < k → fill p (w j) ≡ p j
  pub slack : (p : ℕ → ℚ) (i : ℕ) → i < r → fill p (b i) ≡ one_ℚ -ℚ gain k c p i

pub gain-same : (k : ℕ) (c : ℕ → ℕ → ℚ) (p q : ℕ → ℚ) (i : ℕ) → AreSame k p q → gain k c p i ≡ gain k c q i
gain-same k c p q i e = sum_to-same k _ _ (λ j h. ap (λ x. c i j *ℚ x) (e j h))

module _ (k r : ℕ) (c : ℕ → ℕ → ℚ) (w b : ℕ → ℕ) (fill : (ℕ → ℚ) → ℕ → ℚ) (s : Fills k r c w b fill) where
  abbrev pub t : Tableau
  t = system k r c w b

  -- the entries of a solution
  abbrev pub entries_of : (ℕ → ℚ) → ℕ → ℚ
  entries_of x j = x (w j)

  rows_out : (x : ℕ → ℚ) → Solves t x → (i : ℕ) → i < r → x (b i) +ℚ gain k c (λ j. x (w j)) i ≡ one_ℚ
  unfolding left
  rows_out x h i l = h i l

  rows_in : (x : ℕ → ℚ) → ((i : ℕ) → i < r → x (b i) +ℚ gain k c (λ j. x (w j)) i ≡ one_ℚ) → Solves t x
  unfolding left
  rows_in x h i l = h i l

  pub point_of : (x : ℕ → ℚ) → IsFeasible t x → IsInPolytope k r c (λ j. x (w j))
  point_of x h =
      record {
        not_negative = λ j l. h.nonnegative (w j) (in_column j l refl);
        rows = λ i l. row_bound (x (b i)) (gain k c (λ j. x (w j)) i) (rows_out x h.solves i l) (h.nonnegative (b i) (in_row i l refl));
      }

  pub filled : (p : ℕ → ℚ) → IsInPolytope k r c p → IsFeasible t (fill p)
  filled p h = record { solves = rows_in (fill p) (λ i d. ap₂ (λ x y. x +ℚ y) (s.slack p i d) (gain-same k c (λ j. fill p (w j)) p i (s.entry p)) ∙ ring rational_ring (gain k c p i ∷ []) (num 1 :- A :+ A) (num 1) refl); nonnegative = nonnegative }
    where
      nonnegative : (v : ℕ) → IsVariableOf t v → zero_ℚ ≤ℚ fill p v
      nonnegative v (in_row i l e) = subst (λ v. zero_ℚ ≤ℚ fill p v) e (subst (λ x. zero_ℚ ≤ℚ x) (sym (s.slack p i l)) (slack-not_negative (gain k c p i) (h.rows i l)))
      nonnegative v (in_column j l e) = subst (λ v. zero_ℚ ≤ℚ fill p v) e (subst (λ x. zero_ℚ ≤ℚ x) (sym (s.entry p j l)) (h.not_negative j l))

  -- the entries determine a solution
  pub determined : (x : ℕ → ℚ) → IsFeasible t x → (v : ℕ) → IsVariableOf t v → x v ≡ fill (λ j. x (w j)) v
  determined x h v (in_row i l e) = subst (λ v. x v ≡ fill (λ j. x (w j)) v) e (slack_of (x (b i)) (gain k c (λ j. x (w j)) i) (rows_out x h.solves i l) ∙ sym (s.slack (λ j. x (w j)) i l))
  determined x h v (in_column j l e) = subst (λ v. x v ≡ fill (λ j. x (w j)) v) e (sym (s.entry (λ j. x (w j)) j l))

  pub fill_same : (p q : ℕ → ℚ) → AreSame k p q → (v : ℕ) → IsVariableOf t v → fill p v ≡ fill q v
  fill_same p q f v (in_row i l e) = subst (λ v. fill p v ≡ fill q v) e (s.slack p i l ∙ ap (λ x. one_ℚ -ℚ x) (gain-same k c p q i f) ∙ sym (s.slack q i l))
  fill_same p q f v (in_column j l e) = subst (λ v. fill p v ≡ fill q v) e (s.entry p j l ∙ f j l ∙ sym (s.entry q j l))

  fill_middle : (p q z : ℕ → ℚ) → IsMidpoint k p q z → (v : ℕ) → IsVariableOf t v → fill p v +ℚ fill q v ≡ fill z v +ℚ fill z v
  fill_middle p q z f v (in_row i l e) = subst (λ v. fill p v +ℚ fill q v ≡ fill z v +ℚ fill z v) e (ap₂ (λ x y. x +ℚ y) (s.slack p i l) (s.slack q i l) ∙ slack_middle (gain k c p i) (gain k c q i) (gain k c z i) (dot-midpoint k (c i) p q z f) ∙ sym (ap₂ (λ x y. x +ℚ y) (s.slack z i l) (s.slack z i l)))
  fill_middle p q z f v (in_column j l e) = subst (λ v. fill p v +ℚ fill q v ≡ fill z v +ℚ fill z v) e (ap₂ (λ x y. x +ℚ y) (s.entry p j l) (s.entry q j l) ∙ f j l ∙ sym (ap₂ (λ x y. x +ℚ y) (s.entry z j l) (s.entry z j l)))

  -- an extreme point's entries are a vertex
  pub vertex_of : (x : ℕ → ℚ) → IsExtremePoint t x → IsVertex k r c (λ j. x (w j))
  vertex_of x h =
      record {
        inside = point_of x h.point;
        alone = λ p q f g e j l.
            sym (s.entry p j l) ∙ h.alone (fill p) (fill q) (filled p f) (filled q g) (λ v d. fill_middle p q (λ j. x (w j)) e v d ∙ sym (ap₂ (λ x y. x +ℚ y) (determined x h.point v d) (determined x h.point v d))) (w j) (in_column j l refl) ∙ s.entry q j l;
      }

  -- and a vertex with its slacks is an extreme point
  pub vertex_filled : (z : ℕ → ℚ) → IsVertex k r c z → IsExtremePoint t (fill z)
  vertex_filled z h =
      record {
        point = filled z h.inside;
        alone = λ p q f g e v d.
            determined p f v d ∙ fill_same (λ j. p (w j)) (λ j. q (w j)) (h.alone (λ j. p (w j)) (λ j. q (w j)) (point_of p f) (point_of q g) (λ j l. e (w j) (in_column j l refl) ∙ ap₂ (λ x y. x +ℚ y) (s.entry z j l) (s.entry z j l))) v d ∙ sym (determined q g v d);
      }

-- ---- the two systems
-- the values of the variables at a point, where they are numbered from 1
abbrev pub first_fill : ℕ → (ℕ → ℕ → ℚ) → (ℕ → ℚ) → ℕ → ℚ
first_fill m c p v = first_variable m c p (v - 1)

abbrev pub second_fill : ℕ → ℕ → (ℕ → ℕ → ℚ) → (ℕ → ℚ) → ℕ → ℚ
second_fill m n a p v = second_variable m n a p (v - 1)

pub before : (j : ℕ) → suc j - 1 ≡ j
before j = omega arith

before_second : (m j : ℕ) → m + suc j - 1 ≡ m + j
before_second m j = omega arith

pub first_fills : (m n : ℕ) (c : ℕ → ℕ → ℚ) → Fills m n c (λ i. suc i) (λ j. m + suc j) (first_fill m c)
first_fills m n c =
    record {
      entry = λ p j h. ap (λ l. first_variable m c p l) (before j) ∙ choose_low m j (p j) _ h;
      slack = λ p i h. ap (λ l. first_variable m c p l) (before_second m i) ∙ choose_high m i (p (m + i)) (λ k. one_ℚ -ℚ gain m c p k);
    }

pub second_fills : (m n : ℕ) (a : ℕ → ℕ → ℚ) → Fills n m a (λ j. m + suc j) (λ i. suc i) (second_fill m n a)
second_fills m n a =
    record {
      entry = λ p j h. ap (λ l. second_variable m n a p l) (before_second m j) ∙ choose_high m j (one_ℚ -ℚ gain n a p (m + j)) p;
      slack = λ p i h. ap (λ l. second_variable m n a p l) (before i) ∙ choose_low m i _ (p (i - m)) h;
    }

-- each number from 1 to m + n is a variable of both
pub first_variables : (m n : ℕ) (c : ℕ → ℕ → ℚ) (l : ℕ) → l < m + n → IsVariableOf (first_system m n c) (suc l)
first_variables m n c l h = elim (cases_lt l m) [ inl b ↦ in_column l b refl | inr b ↦ in_row (l - m) (omega arith) (omega arith) ]

pub second_variables : (m n : ℕ) (a : ℕ → ℕ → ℚ) (l : ℕ) → l < m + n → IsVariableOf (second_system m n a) (suc l)
second_variables m n a l h = elim (cases_lt l m) [ inl b ↦ in_row l b refl | inr b ↦ in_column (l - m) (omega arith) (omega arith) ]

pub solutions_are_the_polytopes : SolutionsAreThePolytopes
solutions_are_the_polytopes =
    record {
      first = λ m n c x h. point_of m n c (λ i. suc i) (λ j. m + suc j) (first_fill m c) (first_fills m n c) x h;
      first_back = λ m n c p h. (first_fill m c p, filled m n c (λ i. suc i) (λ j. m + suc j) (first_fill m c) (first_fills m n c) p h, (first_fills m n c).entry p);
      second = λ m n a x h. point_of n m a (λ j. m + suc j) (λ i. suc i) (second_fill m n a) (second_fills m n a) x h;
      second_back = λ m n a q h. (second_fill m n a q, filled n m a (λ j. m + suc j) (λ i. suc i) (second_fill m n a) (second_fills m n a) q h, (second_fills m n a).entry q);
    }
