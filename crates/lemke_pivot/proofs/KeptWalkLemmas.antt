-- what the walk keeps
use Rattle.std.proofs.Common.{ℕ, suc, ◌<◌, ◌≤◌, ◌≡◌, ◌≢◌, ◌+◌, ◌^◌, inr, List, [], ◌∷◌, length, map, get_or, Some, None, refl, sym, ap, ap₂, ◌∙◌, subst, arith, All}
use Rattle.std.proofs.lemmas.List.{length-map}
use Rattle.rational.specs.Rational.{ℚ, zero_ℚ}
use Rattle.rational.proofs.Field.{not_lt_of_le}
use Rattle.linear_systems.specs.Rows.{basic_solution, Alike, IsLexicographicRow}
use Rattle.linear_systems.proofs.LexRowLemmas.{lex_row_by}
use Rattle.frac128.specs.declared.steps.Unfit.{Unfit}
use Rattle.lists.specs.Listed.{IsIndexOf}
use Rattle.lex_tableau.specs.Rows.{WholeTableau, tableau, IsTableau, IsPivotOf}
use Rattle.lex_tableau.specs.Ratio.{variable_at, IsLeavingRow, IsRatioRow}
use Rattle.frac128.specs.Steps.{StepFits, IsFirstUnfit}
use Rattle.lex_tableau.specs.Pivots.{IsFittingPivot, pivot_number, steps_of_pivot}
use Rattle.lemke_pivot.specs.ProblemPaths.{w_of, z_of, z0_of, complement, start, PathTo}
use Rattle.lemke_pivot.proofs.KeyLemmas.{HasPositiveKeys, nonbasic_which}
use Rattle.linear_systems.proofs.AgreementLemmas.{alike_trans, alike_pivot}
use Rattle.lemke_pivot.proofs.FirstBasisLemmas.{entry_not}
use Rattle.lemke_pivot.proofs.ProblemPathLemmas.{keys, short, leaving_row, next_is_out, basic_is_variable}
use Rattle.lemke_pivot.specs.Paths.{ExactPathTo, EndsSolved, EndsUnfit, IsPathStart}

-- the path has come to t, and c is next; a step was counted for each pivot
pub record OnWalk (n r : ℕ) (m t : WholeTableau) (c from now step : ℕ) : Type 0 where
  pub earlier : List WholeTableau
  pub path : ExactPathTo m n r earlier t c
  pub counts : from + suc (length earlier) ≡ now
  pub number : step ≡ pivot_number (suc (length earlier))
  pub starts : t.starts ≡ m.starts
  pub rated : t.rated ≡ n

-- the path over whole numbers is one over fractions
pub path_of_numbers : (n r : ℕ) (m : WholeTableau) (M : ℕ → ℕ → ℚ) (b : ℕ → ℚ) → Alike (start n M b) (tableau m) → r < n → (ss : List WholeTableau) (t : WholeTableau) (c : ℕ) → ExactPathTo m n r ss t c → PathTo n M b r (map tableau ss) (tableau t) c
path_of_numbers n r m M b a h [] t c p = (alike_trans _ _ (tableau t) (alike_pivot (start n M b) (tableau m) r n h (omega arith) a) p.1.pivot.fractions, p.2)
path_of_numbers n r m M b a h (s ∷ ss) t c p = (p.0, p.1, path_of_numbers n r m M b a h ss s p.0 p.2, p.3, p.4.replaces, p.5)

module _ (n r : ℕ) (m : WholeTableau) (S : IsPathStart n r m) where
  start_rows : length m.basics ≡ n
  start_rows = sym S.alike.rows

  pub row_rated : r < m.rated
  row_rated = subst (λ k. r < k) (sym S.rated) S.first.is_least.within

  pub z0_column : n < length m.nonbasics
  z0_column = subst (λ k. n < k) S.alike.width (omega arith)

  pub z0_entry : (tableau m).cell r n ≢ zero_ℚ
  z0_entry e = entry_not n S.matrix S.right r S.first (S.alike.cell r n S.first.is_least.within (omega arith) ∙ e)

  exact_path : (ss : List WholeTableau) (t : WholeTableau) (c : ℕ) → ExactPathTo m n r ss t c → PathTo n S.matrix S.right r (map tableau ss) (tableau t) c
  exact_path = path_of_numbers n r m S.matrix S.right S.alike S.first.is_least.within

  pub walk_begins : (t : WholeTableau) (from now : ℕ) → IsTableau t → IsPivotOf m r n t → All StepFits (steps_of_pivot m r n) → now ≡ from + 1 → OnWalk n r m t (z_of n r) from now 1
  walk_begins t from now v p f e = record { earlier = []; path = (S.valid, record { is_tableau = v; pivot = p; fits = f }, refl); counts = omega (arith, e); number = refl; starts = p.starts; rated = p.rated ∙ S.rated }

  module _ (t : WholeTableau) (c from now step : ℕ) (o : OnWalk n r m t c from now step) where
    path : PathTo n S.matrix S.right r (map tableau o.earlier) (tableau t) c
    path = exact_path o.earlier t c o.path

    here : HasPositiveKeys n S.matrix S.right (tableau t)
    here = keys n S.matrix S.right r S.first (map tableau o.earlier) (tableau t) c path

    pub rows_are : length t.basics ≡ n
    rows_are = here.reached.rows

    pub walk_value : (t₁ : WholeTableau) (v : ℕ) (q : ℚ) → t₁ ≡ t → v ≡ z0_of n → q ≡ basic_solution (tableau t₁) v → q ≡ basic_solution (tableau t) (z0_of n)
    walk_value t₁ v q e f V = V ∙ ap₂ (λ (m : WholeTableau) (k : ℕ). basic_solution (tableau m) k) e f

    pub walk_bound : now ≤ from + 2 ^ suc (suc (n + n))
    walk_bound =
        let h : suc (length o.earlier) ≤ 2 ^ suc (suc (n + n)) = subst (λ k. suc k ≤ 2 ^ suc (suc (n + n))) (length-map o.earlier tableau) (short n S.matrix S.right r S.first (map tableau o.earlier) (tableau t) c path) in
        let e : from + suc (length o.earlier) ≡ now = o.counts in
        omega (arith, h, e)

    pub walk_solved : basic_solution (tableau t) (z0_of n) ≡ zero_ℚ → EndsSolved m n r t
    walk_solved z = (o.earlier, c, o.path, z)

    module _ (ne : basic_solution (tableau t) (z0_of n) ≢ zero_ℚ) where
      pub walk_stands : (t₁ : WholeTableau) → t₁ ≡ t → IsIndexOf t₁.nonbasics c None → ⊥
      walk_stands t₁ e none =
          let w = next_is_out n S.matrix S.right r S.first (map tableau o.earlier) (tableau t) c path ne in
          let a : 0 < c = w.0 in
          let b : c ≤ n + n = w.1 in
          let j = nonbasic_which n S.matrix S.right (tableau t) here.reached c a (omega arith) w.2 in
          subst (λ (m : WholeTableau). IsIndexOf m.nonbasics c None) e none j.0 j.1 j.2

      pub walk_variable : (i : ℕ) → i < n → (0 < (tableau t).basic i) × ((tableau t).basic i ≤ z0_of n)
      walk_variable i h = basic_is_variable n S.matrix S.right r S.first (map tableau o.earlier) (tableau t) c i path ne (subst (λ k. i < k) (sym rows_are) h)

      -- the row that the tableau finds is the path's
      pub walk_best : (t₁ : WholeTableau) (column row : ℕ) → t₁ ≡ t → IsLeavingRow t₁ column row → IsLexicographicRow n w_of (tableau t) column row
      walk_best t₁ column row e B =
          let L : IsLeavingRow t column row = subst (λ m. IsLeavingRow m column row) e B in
          lex_row_by n n (variable_at t.starts) w_of (tableau t) column row (λ q h. ap (λ s. get_or s q 0) o.starts ∙ S.starts q h)
          (subst (λ k. IsLexicographicRow k (variable_at t.starts) (tableau t) column row) o.rated L)

      pub walk_never : (t₁ : WholeTableau) (column : ℕ) → t₁ ≡ t → IsIndexOf t.nonbasics c (Some column) → IsRatioRow t₁ column None → ⊥
      walk_never t₁ column e h none =
          let w = leaving_row n S.matrix S.right r S.first (map tableau o.earlier) (tableau t) c column S.excludes_rays path ne h.0 h.1 in
          not_lt_of_le ((tableau t).cell w.0 column) zero_ℚ (subst (λ m. IsRatioRow m column None) e none w.0 (subst (λ k. w.0 < k) (sym o.rated) w.1.within)) w.1.positive

      module _ (column row : ℕ) (h : IsIndexOf t.nonbasics c (Some column)) (L : IsLexicographicRow n w_of (tableau t) column row) where
        pub walk_next : (t' : WholeTableau) (c' later number : ℕ) → IsFittingPivot t row column t' → c' ≡ complement n ((tableau t).basic row) → later ≡ now + 1 → number ≡ pivot_number (suc (suc (length o.earlier))) → OnWalk n r m t' c' from later number
        walk_next t' c' later number p q g k =
            record {
              earlier = t ∷ o.earlier;
              path = (c, (tableau t).basic row, o.path, ne, record { replaces = record { column = column; row = row; column_in = h.0; c_is = h.1; l_is = refl; chosen = L; to = p.pivot.fractions }; fitting = p }, q);
              counts = let a : from + suc (length o.earlier) ≡ now = o.counts in omega (arith, a, g);
              number = k;
              starts = p.pivot.starts ∙ o.starts;
              rated = p.pivot.rated ∙ o.rated;
            }

        pub walk_stops : (number : ℕ) (u : Unfit) → number ≡ pivot_number (suc (suc (length o.earlier))) → IsFirstUnfit (steps_of_pivot t row column) u → EndsUnfit m n r (record { number = number; entering = c; unfit = u })
        walk_stops number u k f = inr (o.earlier, t, record { path = o.path; goes_on = ne; column = column; row = row; column_in = h.0; entering_is = h.1; chosen = L; unfit = f; number = k })
