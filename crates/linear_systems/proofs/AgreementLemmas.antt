-- Tableaux that agree wherever they have cells: the same lexicographic rows, and pivots that agree
use Rattle.std.proofs.Common.{ℕ, ◌<◌, ◌≤◌, ◌≡◌, eqb, cond, true, false, refl, sym, ap, ap₂, ◌∙◌, subst, suc, arith}
use Rattle.rational.specs.Rational.{◌*ℚ◌, ◌-ℚ◌, neg_ℚ, inv_ℚ, zero_ℚ, ◌<ℚ◌}
use Rattle.rational.specs.Sum.{change}
use Rattle.linear_systems.specs.Tableau.{Tableau, pivot}
use Rattle.linear_systems.specs.Rows.{Alike, HasDistinctVariables, IsLexicographicRowAmong}
use Rattle.linear_systems.proofs.LexLemmas.{lex_same}
use Rattle.linear_systems.proofs.RowLemmas.{key_alike}

pub alike_refl : (t : Tableau) → Alike t t
alike_refl t = record { rows = refl; width = refl; basic = λ i h. refl; nonbasic = λ j h. refl; cell = λ i j h k. refl; right = λ i h. refl }

pub alike_sym : (t u : Tableau) → Alike t u → Alike u t
alike_sym t u a =
    record {
      rows = sym a.rows;
      width = sym a.width;
      basic = λ i h. sym (a.basic i (subst (λ n. i < n) (sym a.rows) h));
      nonbasic = λ j h. sym (a.nonbasic j (subst (λ n. j < n) (sym a.width) h));
      cell = λ i j h k. sym (a.cell i j (subst (λ n. i < n) (sym a.rows) h) (subst (λ n. j < n) (sym a.width) k));
      right = λ i h. sym (a.right i (subst (λ n. i < n) (sym a.rows) h));
    }

pub alike_trans : (t u v : Tableau) → Alike t u → Alike u v → Alike t v
alike_trans t u v a b =
    record {
      rows = a.rows ∙ b.rows;
      width = a.width ∙ b.width;
      basic = λ i h. a.basic i h ∙ b.basic i (subst (λ n. i < n) a.rows h);
      nonbasic = λ j h. a.nonbasic j h ∙ b.nonbasic j (subst (λ n. j < n) a.width h);
      cell = λ i j h k. a.cell i j h k ∙ b.cell i j (subst (λ n. i < n) a.rows h) (subst (λ n. j < n) a.width k);
      right = λ i h. a.right i h ∙ b.right i (subst (λ n. i < n) a.rows h);
    }

-- two that agree with a third
pub alike_both : (t a b : Tableau) → Alike t a → Alike t b → Alike a b
alike_both t a b p q = alike_trans a t b (alike_sym t a p) q

pub alike_pivot : (t u : Tableau) (r c : ℕ) → r < t.rows → c < t.width → Alike t u → Alike (pivot t r c) (pivot u r c)
alike_pivot t u r c hr hc a =
    let q : inv_ℚ (t.cell r c) ≡ inv_ℚ (u.cell r c) = ap inv_ℚ (a.cell r c hr hc) in
    record {
      rows = a.rows;
      width = a.width;
      basic = λ i h. ap₂ (λ x y. cond (eqb i r) x y) (a.nonbasic c hc) (a.basic i h);
      nonbasic = λ j h. ap₂ (λ x y. cond (eqb j c) x y) (a.basic r hr) (a.nonbasic j h);
      cell = λ i j h k. elim (eqb i r) as (λ b. cond b (change (λ j. t.cell r j *ℚ inv_ℚ (t.cell r c)) c (inv_ℚ (t.cell r c))) (change (λ j. t.cell i j -ℚ (t.cell i c *ℚ (t.cell r j *ℚ inv_ℚ (t.cell r c)))) c (neg_ℚ (t.cell i c *ℚ inv_ℚ (t.cell r c)))) j ≡ cond b (change (λ j. u.cell r j *ℚ inv_ℚ (u.cell r c)) c (inv_ℚ (u.cell r c))) (change (λ j. u.cell i j -ℚ (u.cell i c *ℚ (u.cell r j *ℚ inv_ℚ (u.cell r c)))) c (neg_ℚ (u.cell i c *ℚ inv_ℚ (u.cell r c)))) j) [
        | true ↦ ap₂ (λ x y. cond (eqb j c) x y) q (ap₂ (λ x y. x *ℚ y) (a.cell r j hr k) q)
        | false ↦ ap₂ (λ x y. cond (eqb j c) x y) (ap₂ (λ x y. neg_ℚ (x *ℚ y)) (a.cell i c h hc) q) (ap₂ (λ x y. x -ℚ y) (a.cell i j h k) (ap₂ (λ x y. x *ℚ y) (a.cell i c h hc) (ap₂ (λ x y. x *ℚ y) (a.cell r j hr k) q)))
      ];
      right = λ i h. ap₂ (λ x y. cond (eqb i r) x y) (ap₂ (λ x y. x *ℚ y) (a.right r hr) q) (ap₂ (λ x y. x -ℚ y) (a.right i h) (ap₂ (λ x y. x *ℚ y) (a.cell i c h hc) (ap₂ (λ x y. x *ℚ y) (a.right r hr) q)));
    }

pub alike_lex_row : (k m : ℕ) (b : ℕ → ℕ) (t u : Tableau) (c r : ℕ) → k ≤ t.rows → c < t.width → Alike t u → IsLexicographicRowAmong k m b t c r → IsLexicographicRowAmong k m b u c r
alike_lex_row k m b t u c r hk hc a l =
    let w : r < k = l.within in
    record {
      within = l.within;
      positive = subst (λ x. zero_ℚ <ℚ x) (a.cell r c (omega arith) hc) l.positive;
      least = λ i hi ne p. record { by = lex_same (suc m) _ _ (λ j _. ap₂ (λ x y. x -ℚ y) (ap₂ (λ x y. x *ℚ inv_ℚ y) (key_alike b t u i j a (omega arith)) (a.cell i c (omega arith) hc)) (ap₂ (λ x y. x *ℚ inv_ℚ y) (key_alike b t u r j a (omega arith)) (a.cell r c (omega arith) hc))) (l.least i hi ne (subst (λ x. zero_ℚ <ℚ x) (sym (a.cell i c (omega arith) hc)) p)).by };
    }

pub alike_distinct : (s t : Tableau) → Alike s t → HasDistinctVariables s → HasDistinctVariables t
alike_distinct s t a p =
    record {
      basic_once = λ i k hi hk e. p.basic_once i k (back i hi) (back k hk) (a.basic i (back i hi) ∙ e ∙ sym (a.basic k (back k hk)));
      nonbasic_once = λ i k hi hk e. p.nonbasic_once i k (across i hi) (across k hk) (a.nonbasic i (across i hi) ∙ e ∙ sym (a.nonbasic k (across k hk)));
      apart = λ i j hi hj e. p.apart i j (back i hi) (across j hj) (a.basic i (back i hi) ∙ e ∙ sym (a.nonbasic j (across j hj)));
    }
  where
    back : (i : ℕ) → i < t.rows → i < s.rows
    back i h = subst (λ n. i < n) (sym a.rows) h

    across : (j : ℕ) → j < t.width → j < s.width
    across j h = subst (λ n. j < n) (sym a.width) h
