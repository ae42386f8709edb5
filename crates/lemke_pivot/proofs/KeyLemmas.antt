-- tableaux of the problem with positive keys, and their pivots
use Rattle.std.proofs.Common.{ℕ, suc, ◌<◌, ◌≤◌, ◌≡◌, ◌+◌, ◌-◌, ◌⊎◌, inl, inr, false, [], ◌∷◌, refl, sym, ap, ap₂, ◌∙◌, subst, arith, true≢false}
use Rattle.std.proofs.lemmas.Bool.{cases_lt}
use Rattle.rational.specs.Rational.{ℚ, ◌+ℚ◌, ◌*ℚ◌, neg_ℚ, one_ℚ}
use Rattle.rational.proofs.RationalRing.{rational_ring}
use Rattle.rational.proofs.Ring.{ring, combine, ◌times◌is◌, num, ◌:+◌, ◌:*◌, :neg, A, B, C}
use Rattle.rational.proofs.SumLemmas.{sum_to-zeros}
use Rattle.linear_systems.specs.Tableau.{Tableau, left, Solves, pivot}
use Rattle.linear_systems.specs.Lex.{IsLexPositive}
use Rattle.linear_systems.specs.Rows.{Alike, row, key}
use Rattle.linear_systems.specs.RowEquivalence.{IsRowEquivalent, IsStart, IsVariableOf, in_row, in_column, IsCombination}
use Rattle.rational.proofs.InverseLemmas.{ne_zero_of_pos}
use Rattle.linear_systems.proofs.AgreementLemmas.{alike_refl, alike_lex_row}
use Rattle.linear_systems.proofs.LexRowLemmas.{keys_stay_alike}
use Rattle.linear_systems.proofs.RowEquivalenceLemmas.{reached_pivot, reached_alike}
use Rattle.linear_systems.proofs.PivotLemmas.{basic_r, nonbasic_c}
use Rattle.lemke_pivot.specs.Values.{is_basic}
use Rattle.lemke_pivot.proofs.EdgeLemmas.{swap, Pivots}
use Rattle.lemke_pivot.specs.ProblemPaths.{w_of, start, Replaces}
use Rattle.lemke_pivot.proofs.AlikeTableauLemmas.{into_width, alike_basic}
use Rattle.lemke_pivot.proofs.ValueLemmas.{basic_yes, basic_no, nonbasic_no}
use Rattle.lemke_pivot.proofs.PivotLemmas.{basic_swap, undone, same_leaves}

-- a tableau of this system, with positive keys
pub record HasPositiveKeys (n : ℕ) (M : ℕ → ℕ → ℚ) (b : ℕ → ℚ) (t : Tableau) : Type 0 where
  pub reached : IsRowEquivalent (suc (suc (n + n))) n (start n M b) t
  pub positive : (i : ℕ) → i < n → IsLexPositive (suc n) (key w_of t i)

abbrev pub Reaches : ℕ → (ℕ → ℕ → ℚ) → (ℕ → ℚ) → Tableau → Type 0
Reaches n M b t = IsRowEquivalent (suc (suc (n + n))) n (start n M b) t

pub is_start : (n : ℕ) (M : ℕ → ℕ → ℚ) (b : ℕ → ℚ) → IsStart (suc (suc (n + n))) n (start n M b)
is_start n M b =
    record {
      rated = omega arith;
      proper = record {
        basic_once = λ i k h l e. omega arith;
        nonbasic_once = λ i k h l e. omega arith;
        apart = λ i j h l e. absurd (omega (arith, e, h));
      };
      basic_below = λ i h. omega arith;
      nonbasic_below = λ j h. omega arith;
    }

-- rows that combine those of a solved tableau are solved
solved_by : (n : ℕ) (s t : Tableau) (x : ℕ → ℚ) (k : ℕ) → ((i : ℕ) → i < n → left s x i ≡ s.right i) → IsCombination n s (λ x y. row t x y k) → left t x k ≡ t.right k
solved_by n s t x k h p =
    combine rational_ring (left t x k ∷ t.right k ∷ row t x (neg_ℚ one_ℚ) k ∷ []) ((:neg (num 1) times C is A :+ :neg (num 1) :* B) ∷ (num 1 times C is num 0) ∷ []) A B refl
    (refl, (p.same x (neg_ℚ one_ℚ) ∙ sum_to-zeros n _ (λ i l. ap (λ a. p.by i *ℚ (a +ℚ (neg_ℚ one_ℚ *ℚ s.right i))) (h i l) ∙ ring rational_ring (p.by i ∷ s.right i ∷ []) (A :* (B :+ :neg (num 1) :* B)) (num 0) refl), tt))

module _ (n : ℕ) (M : ℕ → ℕ → ℚ) (b : ℕ → ℚ) (t : Tableau) (R : Reaches n M b t) where
  pub row_in : (i : ℕ) → i < n → i < t.rows
  row_in i h = subst (λ m. i < m) (sym R.rows) h

  pub row_out : (i : ℕ) → i < t.rows → i < n
  row_out i h = subst (λ m. i < m) R.rows h

  pub solves : (x : ℕ → ℚ) → Solves (start n M b) x → Solves t x
  solves x s i h = solved_by n (start n M b) t x i s (R.from i (row_out i h))

  pub solves_back : (x : ℕ → ℚ) → Solves t x → Solves (start n M b) x
  solves_back x s i h = solved_by n t (start n M b) x i (λ k l. s k (row_in k l)) (R.back i h)

  pub basic_past : (v : ℕ) → suc (suc (n + n)) ≤ v → is_basic t v ≡ false
  basic_past v h = basic_no t v (λ i k e. let l = R.basic_below i (row_out i k) in absurd (omega (arith, l, e, h)))

  -- a variable that is not basic is nonbasic
  pub nonbasic_which : (v : ℕ) → 0 < v → v < suc (suc (n + n)) → is_basic t v ≡ false → (j : ℕ) × (j < t.width) × (t.nonbasic j ≡ v)
  nonbasic_which v h l e = go (R.variables v (at_start (cases_lt n v)))
    where
      at_start : (n < v) ⊎ (v ≤ n) → IsVariableOf (start n M b) v
      at_start (inl k) = in_column (v - suc n) (omega arith) (omega arith)
      at_start (inr k) = in_row (v - 1) (omega arith) (omega arith)

      go : IsVariableOf t v → (j : ℕ) × (j < t.width) × (t.nonbasic j ≡ v)
      go (in_row i k q) = absurd (true≢false (sym (ap (is_basic t) (sym q) ∙ basic_yes t i k) ∙ e))
      go (in_column j k q) = (j, k, q)

-- ---- pivots
module _ (n : ℕ) (M : ℕ → ℕ → ℚ) (b : ℕ → ℚ) where
  -- c enters t, which has positive keys, l leaves, and that makes t'
  abbrev pub Enters : Tableau → ℕ → ℕ → Tableau → Type 0
  Enters t c l t' = HasPositiveKeys n M b t × Replaces n t c l t'

  pub next_keys : (t t' : Tableau) (c l : ℕ) → Enters t c l t' → HasPositiveKeys n M b t'
  next_keys t t' c l e =
      record {
        reached = reached_alike (suc (suc (n + n))) n (start n M b) (pivot t e.1.row e.1.column) t' (omega arith) e.1.to (reached_pivot (suc (suc (n + n))) n (start n M b) t e.1.row e.1.column (omega arith) e.1.chosen.within e.1.column_in (ne_zero_of_pos (t.cell e.1.row e.1.column) e.1.chosen.positive) e.0.reached);
        positive = keys_stay_alike n w_of t t' e.1.column e.1.row (let q : t.rows ≡ n = e.0.reached.rows in omega arith) e.1.column_in e.1.chosen e.1.to e.0.positive;
      }

  pub after : (t t' : Tableau) (c l : ℕ) → Enters t c l t' → (v : ℕ) → is_basic t' v ≡ swap (is_basic t) c l v
  after t t' c l e v = sym (alike_basic (pivot t e.1.row e.1.column) t' e.1.to v) ∙ basic_swap t e.1.row e.1.column e.0.reached.proper (row_in n M b t e.0.reached e.1.row e.1.chosen.within) e.1.column_in v ∙ ap₂ (λ c l. swap (is_basic t) c l v) e.1.c_is e.1.l_is

  pub back : (t t' : Tableau) (c l : ℕ) → Enters t c l t' → (t'' : Tableau) × Enters t' l c t''
  back t t' c l e = (pivot t' e.1.row e.1.column, (next_keys t t' c l e, step))
    where
      from : Alike (pivot t e.1.row e.1.column) t'
      from = e.1.to

      row_is : e.1.row < t.rows
      row_is = row_in n M b t e.0.reached e.1.row e.1.chosen.within

      step : Replaces n t' l c (pivot t' e.1.row e.1.column)
      step =
          record {
            column = e.1.column;
            row = e.1.row;
            column_in = into_width (pivot t e.1.row e.1.column) t' from e.1.column e.1.column_in;
            c_is = sym (from.nonbasic e.1.column e.1.column_in) ∙ nonbasic_c t e.1.row e.1.column ∙ e.1.l_is;
            l_is = sym (from.basic e.1.row row_is) ∙ basic_r t e.1.row e.1.column ∙ e.1.c_is;
            chosen = alike_lex_row n n w_of (pivot t e.1.row e.1.column) t' e.1.column e.1.row (let q : t.rows ≡ n = e.0.reached.rows in omega arith) e.1.column_in from (undone n w_of t e.1.column e.1.row e.1.column_in e.1.chosen e.0.positive);
            to = alike_refl (pivot t' e.1.row e.1.column);
          }

  pub leaves : (t t' s s' : Tableau) (c l k : ℕ) → ((v : ℕ) → is_basic t v ≡ is_basic s v) → Enters t c l t' → Enters s c k s' → l ≡ k
  leaves t t' s s' c l k same e f =
      sym e.1.l_is ∙ same_leaves (suc (suc (n + n))) n (start n M b) t s w_of refl (is_start n M b) e.0.reached f.0.reached same e.1.column f.1.column e.1.row f.1.row e.1.column_in f.1.column_in (e.1.c_is ∙ sym f.1.c_is) e.1.chosen f.1.chosen ∙ f.1.l_is

  -- the tableaux of the problem, as the path takes them
  abbrev pub pivots : Pivots
  pivots =
      record {
        T = Tableau;
        basic = is_basic;
        Enters = Enters;
        was_out = λ t t' c l e. ap (is_basic t) (sym e.1.c_is) ∙ nonbasic_no t e.0.reached.proper e.1.column e.1.column_in;
        was_in = λ t t' c l e. ap (is_basic t) (sym e.1.l_is) ∙ basic_yes t e.1.row (row_in n M b t e.0.reached e.1.row e.1.chosen.within);
        after = after;
        same_leaves = leaves;
        undone = back;
      }
