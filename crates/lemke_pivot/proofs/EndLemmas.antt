-- the ends of the path: a solution, or a ray whose direction has some z
use Rattle.std.proofs.Common.{ℕ, zero, suc, pos, ◌<◌, ◌≡◌, ◌≢◌, ◌-◌, ◌⊎◌, inl, inr, Bool, true, false, not, List, [], ◌∷◌, refl, sym, ap, ap₂, ◌∙◌, subst, arith, true≢false}
use Rattle.std.proofs.lemmas.Int.{ints}
use Rattle.std.proofs.lemmas.Bool.{cases_eq}
use Rattle.rational.specs.Rational.{ℚ, ◌+ℚ◌, ◌*ℚ◌, zero_ℚ, one_ℚ, ◌≤ℚ◌, ◌<ℚ◌}
use Rattle.rational.proofs.RationalRing.{rational_ring}
use Rattle.rational.proofs.Ring.{ring, combine, ◌times◌is◌, num, ◌:+◌, ◌:*◌, :neg, A, B, C, D, E, F, G, H}
use Rattle.rational.proofs.Linear.{linear, minus, at, lit, ◌⟨≤⟩◌, ◌⟨<⟩◌, ◌⟨=⟩◌}
use Rattle.rational.proofs.Field.{le_refl, lt_irrefl, le_of_lt}
use Rattle.rational.proofs.SumLemmas.{sum_to-zeros}
use Rattle.linear_systems.specs.Tableau.{Tableau, Solves}
use Rattle.linear_systems.specs.Lex.{IsLexPositive}
use Rattle.linear_systems.specs.Rows.{basic_solution, key}
use Rattle.linear_systems.proofs.RowLemmas.{unit_nonneg, unit_other}
use Rattle.lemke_pivot.specs.Vectors.{image}
use Rattle.lemke_pivot.specs.Problems.{ExcludesRays}
use Rattle.linear_systems.proofs.SolutionLemmas.{solution_basic, solution_solves}
use Rattle.lemke_pivot.specs.Values.{direction, is_basic}
use Rattle.lemke_pivot.proofs.EdgeLemmas.{swap, Almost, At, at_first, swap_out, swap_other}
use Rattle.lemke_pivot.specs.ProblemPaths.{w_of, z_of, z0_of, complement, IsFirstRow, SolvesAt, IsRayAt}
use Rattle.lemke_pivot.proofs.KeyLemmas.{HasPositiveKeys, pivots, row_out, solves_back, basic_past}
use Rattle.lemke_pivot.proofs.FirstBasisLemmas.{basis_without, solves_start, without_z0, without_s, without_w, without_z, without_0, one_row, first, first_basis, first_keys, beginning}
use Rattle.lemke_pivot.proofs.VectorLemmas.{dot-two}
use Rattle.lemke_pivot.proofs.NoRayLemmas.{no_ray}
use Rattle.lemke_pivot.proofs.ValueLemmas.{row_of, basic_which, value_out, direction_basic, direction_out, direction_self, direction_level, left_add}
use Rattle.lemke_pivot.proofs.ComplementLemmas.{Which, which, complement_of_w, complement_of_z, complement_twice, complement_neither, labels}

lex_first : (n : ℕ) (f : ℕ → ℚ) → IsLexPositive n f → zero_ℚ ≤ℚ f 0
lex_first n f p = go p.place refl
  where
    go : (k : ℕ) → p.place ≡ k → zero_ℚ ≤ℚ f 0
    go zero e = le_of_lt zero_ℚ (f 0) (subst (λ j. zero_ℚ <ℚ f j) e p.above)
    go (suc k) e = subst (λ x. zero_ℚ ≤ℚ x) (sym (p.before 0 (omega arith))) (le_refl zero_ℚ)

module _ (n : ℕ) (M : ℕ → ℕ → ℚ) (b : ℕ → ℚ) (t : Tableau) (R : HasPositiveKeys n M b t) where
  pub value_sign : (v : ℕ) → zero_ℚ ≤ℚ basic_solution t v
  value_sign v = go (is_basic t v) refl
    where
      go : (y : Bool) → is_basic t v ≡ y → zero_ℚ ≤ℚ basic_solution t v
      go true e = let w = basic_which t v e in subst (λ x. zero_ℚ ≤ℚ x) (sym (solution_basic t (row_of t v) R.reached.proper w.0) ∙ ap (basic_solution t) w.1) (lex_first (suc n) (key w_of t (row_of t v)) (R.positive (row_of t v) (row_out n M b t R.reached (row_of t v) w.0)))
      go false e = subst (λ x. zero_ℚ ≤ℚ x) (sym (value_out t R.reached.proper v e)) (le_refl zero_ℚ)

  point : (i : ℕ) → i < n → basic_solution t (w_of i) ≡ (b i +ℚ image n M (λ j. basic_solution t (z_of n j)) i) +ℚ basic_solution t (z0_of n)
  point i h = solves_start n M b (basic_solution t) (solves_back n M b t R.reached (basic_solution t) (solution_solves t R.reached.proper)) i h

  -- where no pair is basic with both variables and z0 is 0, the values solve the problem
  pub solved : ((i : ℕ) → i < n → (is_basic t (w_of i) ≡ false) ⊎ (is_basic t (z_of n i) ≡ false)) → basic_solution t (z0_of n) ≡ zero_ℚ → SolvesAt n M b t
  solved pairs z0 =
      record {
        rows = λ i h. combine rational_ring (basic_solution t (w_of i) ∷ b i ∷ image n M (λ j. basic_solution t (z_of n j)) i ∷ basic_solution t (z0_of n) ∷ []) ((num 1 times A is B :+ C :+ D) ∷ (num 1 times D is num 0) ∷ []) A (B :+ C) refl (point i h, (z0, tt));
        w_sign = λ i h. value_sign (w_of i);
        z_sign = λ i h. value_sign (z_of n i);
        meets = λ i h. meet i (pairs i h);
      }
    where
      meet : (i : ℕ) → (is_basic t (w_of i) ≡ false) ⊎ (is_basic t (z_of n i) ≡ false) → basic_solution t (w_of i) *ℚ basic_solution t (z_of n i) ≡ zero_ℚ
      meet i (inl e) = ap (λ x. x *ℚ basic_solution t (z_of n i)) (value_out t R.reached.proper (w_of i) e) ∙ ring rational_ring (basic_solution t (z_of n i) ∷ []) (num 0 :* A) (num 0) refl
      meet i (inr e) = ap (λ x. basic_solution t (w_of i) *ℚ x) (value_out t R.reached.proper (z_of n i) e) ∙ ring rational_ring (basic_solution t (w_of i) ∷ []) (A :* num 0) (num 0) refl

  -- ---- a column with no positive entry, at a basis that lacks one pair
  module _ (c column : ℕ) (hc : column < t.width) (c_is : t.nonbasic column ≡ c) (a : Almost (labels n) (is_basic t) c) (none : (i : ℕ) → i < n → t.cell i column ≤ℚ zero_ℚ) where
    out_c : (v : ℕ) → is_basic t v ≡ false → v ≢ c → direction t column v ≡ zero_ℚ
    out_c v e ne = direction_out t R.reached.proper column v e ∙ unit_other (t.nonbasic column) v (λ q. ne (q ∙ c_is))

    at_c : direction t column c ≡ one_ℚ
    at_c = ap (direction t column) (sym c_is) ∙ direction_self t R.reached.proper column hc

    direction_sign : (v : ℕ) → zero_ℚ ≤ℚ direction t column v
    direction_sign v = go (is_basic t v) refl
      where
        go : (y : Bool) → is_basic t v ≡ y → zero_ℚ ≤ℚ direction t column v
        go true e = let w = basic_which t v e in linear (direction t column v ∷ t.cell (row_of t v) column ∷ []) ((at 0 ⟨=⟩ minus (at 1)) ∷ (at 1 ⟨≤⟩ lit (pos 0)) ∷ []) (lit (pos 0) ⟨≤⟩ at 0) (λ one z p h. omega (arith, ints)) (ap (direction t column) (sym w.1) ∙ direction_basic t R.reached.proper column (row_of t v) hc w.0, (none (row_of t v) (row_out n M b t R.reached (row_of t v) w.0), tt))
        go false e = subst (λ x. zero_ℚ ≤ℚ x) (sym (direction_out t R.reached.proper column v e)) (unit_nonneg (t.nonbasic column) v)

    way : (i : ℕ) → i < n → direction t column (w_of i) ≡ image n M (λ j. direction t column (z_of n j)) i +ℚ direction t column (z0_of n)
    way i h =
        combine rational_ring (direction t column (w_of i) ∷ basic_solution t (w_of i) ∷ b i ∷ image n M (λ j. basic_solution t (z_of n j)) i ∷ image n M (λ j. direction t column (z_of n j)) i ∷ basic_solution t (z0_of n) ∷ direction t column (z0_of n) ∷ image n M (λ j. basic_solution t (z_of n j) +ℚ direction t column (z_of n j)) i ∷ []) ((num 1 times B :+ A is C :+ H :+ (F :+ G)) ∷ (num 1 times H is D :+ E) ∷ (:neg (num 1) times B is C :+ D :+ F) ∷ []) A (E :+ G) refl (solves_start n M b (λ v. basic_solution t v +ℚ direction t column v) (solves_back n M b t R.reached _ both) i h, (dot-two n (M i) (λ j. basic_solution t (z_of n j)) (λ j. direction t column (z_of n j)), (point i h, tt)))
      where
        both : Solves t (λ v. basic_solution t v +ℚ direction t column v)
        both i h = left_add t (basic_solution t) (direction t column) i ∙ ap₂ (λ x y. x +ℚ y) (solution_solves t R.reached.proper i h) (direction_level t R.reached.proper column i hc h) ∙ ring rational_ring (t.right i ∷ []) (A :+ num 0) A refl

    -- of a pair one variable is 0 at the point and in the direction
    abbrev Off : ℕ → Type 0
    Off v = (basic_solution t v ≡ zero_ℚ) × (direction t column v ≡ zero_ℚ)

    off : (v : ℕ) → is_basic t v ≡ false → v ≢ c → Off v
    off v e ne = (value_out t R.reached.proper v e, out_c v e ne)

    complement_off : (v : ℕ) → complement n v ≢ v → (is_basic t v ≡ true) ⊎ (v ≡ c) → Off (complement n v)
    complement_off v p (inl e) =
        off (complement n v) (a.others v p (λ q. true≢false (sym e ∙ ap (is_basic t) q ∙ a.out)) ne' ∙ ap not e) (λ q. ne' (sym (complement_twice n v) ∙ ap (complement n) q))
      where
        ne' : v ≢ complement n c
        ne' q = true≢false (sym e ∙ ap (is_basic t) q ∙ a.partner_out)
    complement_off v p (inr e) = off (complement n v) (ap (λ u. is_basic t (complement n u)) e ∙ a.partner_out) (λ q. a.paired (ap (complement n) (sym e) ∙ q))

    one_off : (i : ℕ) → i < n → Off (w_of i) ⊎ Off (z_of n i)
    one_off i h = go (is_basic t (w_of i)) refl (cases_eq (w_of i) c)
      where
        pi : complement n (w_of i) ≡ z_of n i
        pi = complement_of_w n i h

        pair : complement n (w_of i) ≢ w_of i
        pair e = absurd (omega (arith, sym pi ∙ e, h))

        go : (y : Bool) → is_basic t (w_of i) ≡ y → (w_of i ≡ c) ⊎ (w_of i ≢ c) → Off (w_of i) ⊎ Off (z_of n i)
        go true e d = inr (subst Off pi (complement_off (w_of i) pair (inl e)))
        go false e (inl q) = inr (subst Off pi (complement_off (w_of i) pair (inr q)))
        go false e (inr q) = inl (off (w_of i) e q)

    zero_product : (x y : ℕ → ℚ) (i : ℕ) → (x (w_of i) ≡ zero_ℚ) ⊎ (y (z_of n i) ≡ zero_ℚ) → x (w_of i) *ℚ y (z_of n i) ≡ zero_ℚ
    zero_product x y i (inl e) = ap (λ z. z *ℚ y (z_of n i)) e ∙ ring rational_ring (y (z_of n i) ∷ []) (num 0 :* A) (num 0) refl
    zero_product x y i (inr e) = ap (λ z. x (w_of i) *ℚ z) e ∙ ring rational_ring (x (w_of i) ∷ []) (A :* num 0) (num 0) refl

    -- where the direction has no z, the basis has z0 and all w but c
    all_w : ((i : ℕ) → i < n → direction t column (z_of n i) ≡ zero_ℚ) → (k : ℕ) × (k < n) × (c ≡ w_of k) × ((v : ℕ) → is_basic t v ≡ basis_without n k v)
    all_w zs = (c - 1, c_w.0, c_w.1, same)
      where
        one_zero : one_ℚ ≡ zero_ℚ → ⊥
        one_zero e = lt_irrefl zero_ℚ (linear (zero_ℚ ∷ one_ℚ ∷ []) ((at 1 ⟨=⟩ at 0) ∷ (at 1 ⟨=⟩ lit (pos 1)) ∷ (at 0 ⟨=⟩ lit (pos 0)) ∷ []) (lit (pos 0) ⟨<⟩ lit (pos 0)) (λ one z p h. omega (arith, ints)) (e, (refl, (refl, tt))))

        c_w : (c - 1 < n) × (c ≡ w_of (c - 1))
        c_w = go (which n c)
          where
            go : Which n c → (c - 1 < n) × (c ≡ w_of (c - 1))
            go (inl h) = let p = h.0 in let q = h.1 in (omega arith, omega arith)
            go (inr (inl h)) = let l = h.0 in let u = h.1 in let e : z_of n (c - suc n) ≡ c = omega arith in absurd (one_zero (sym at_c ∙ ap (direction t column) (sym e) ∙ zs (c - suc n) (omega arith)))
            go (inr (inr h)) = absurd (a.paired (complement_neither n c h))

        flat : (i : ℕ) → i < n → direction t column (w_of i) ≡ direction t column (z0_of n)
        flat i h = way i h ∙ ap (λ x. x +ℚ direction t column (z0_of n)) (sum_to-zeros n _ (λ j k. ap (λ x. M i j *ℚ x) (zs j k) ∙ ring rational_ring (M i j ∷ []) (A :* num 0) (num 0) refl)) ∙ ring rational_ring (direction t column (z0_of n) ∷ []) (num 0 :+ A) A refl

        basic_others : (i : ℕ) → i < n → w_of i ≢ c → is_basic t (w_of i) ≡ true
        basic_others i h ne = go (is_basic t (w_of i)) refl
          where
            go : (y : Bool) → is_basic t (w_of i) ≡ y → is_basic t (w_of i) ≡ true
            go true e = e
            go false e = absurd (one_zero (sym at_c ∙ ap (direction t column) c_w.1 ∙ flat (c - 1) c_w.0 ∙ sym (flat i h) ∙ out_c (w_of i) e ne))

        pc : complement n c ≡ z_of n (c - 1)
        pc = ap (complement n) c_w.1 ∙ complement_of_w n (c - 1) c_w.0

        out_z : (i : ℕ) → i < n → is_basic t (z_of n i) ≡ false
        out_z i h =
            elim (cases_eq (w_of i) c) [
              | inl e ↦ ap (is_basic t) (sym (complement_of_w n i h) ∙ ap (complement n) e) ∙ a.partner_out
              | inr ne ↦ ap (is_basic t) (sym (complement_of_w n i h)) ∙ a.others (w_of i) (λ e. absurd (omega (arith, sym (complement_of_w n i h) ∙ e, h))) ne (λ e. absurd (omega (arith, e ∙ pc, h))) ∙ ap not (basic_others i h ne)
            ]

        same : (v : ℕ) → is_basic t v ≡ basis_without n (c - 1) v
        same v = go (which n v) (cases_eq v c) (cases_eq v (z0_of n))
          where
            go : Which n v → (v ≡ c) ⊎ (v ≢ c) → (v ≡ z0_of n) ⊎ (v ≢ z0_of n) → is_basic t v ≡ basis_without n (c - 1) v
            go w (inl e) d = ap (is_basic t) e ∙ a.out ∙ sym (ap (basis_without n (c - 1)) (e ∙ c_w.1) ∙ without_s n (c - 1) c_w.0)
            go w (inr ne) (inl e) = ap (is_basic t) e ∙ a.has_z0 ∙ sym (ap (basis_without n (c - 1)) e ∙ without_z0 n (c - 1) c_w.0)
            go (inl h) (inr ne) (inr d) = let p = h.0 in let q = h.1 in let e : w_of (v - 1) ≡ v = omega arith in ap (is_basic t) (sym e) ∙ basic_others (v - 1) (omega arith) (λ f. ne (sym e ∙ f)) ∙ sym (without_w n (c - 1) c_w.0 v p q (λ f. ne (f ∙ sym c_w.1)))
            go (inr (inl h)) (inr ne) (inr d) = let l = h.0 in let u = h.1 in let e : z_of n (v - suc n) ≡ v = omega arith in ap (is_basic t) (sym e) ∙ out_z (v - suc n) (omega arith) ∙ sym (without_z n (c - 1) c_w.0 v l d)
            go (inr (inr (inl h))) (inr ne) (inr d) = nothing (is_basic t v) refl ∙ sym (without_0 n (c - 1) c_w.0 v h)
              where
                nothing : (y : Bool) → is_basic t v ≡ y → is_basic t v ≡ false
                nothing false e = e
                nothing true e = absurd (a.only v e d (complement_neither n v (inl h)))
            go (inr (inr (inr h))) (inr ne) (inr d) = let k = h in basic_past n M b t R.reached v (omega (arith, d)) ∙ sym (without_z n (c - 1) c_w.0 v (omega arith) d)

    -- a ray, but for what it has to say of u
    pub ray : zero_ℚ <ℚ basic_solution t (z0_of n) → (((i : ℕ) → i < n → direction t column (z_of n i) ≡ zero_ℚ) → ⊥) → IsRayAt n M b t column
    ray up some =
        record {
          point = point;
          way = way;
          w_sign = λ i h. value_sign (w_of i);
          z_sign = λ i h. value_sign (z_of n i);
          v_sign = λ i h. direction_sign (w_of i);
          u_sign = λ i h. direction_sign (z_of n i);
          z0_above = up;
          u0_sign = direction_sign (z0_of n);
          u_some = some;
          wz = λ i h. zero_product (basic_solution t) (basic_solution t) i (elim (one_off i h) [ inl o ↦ inl o.0 | inr o ↦ inr o.0 ]);
          wu = λ i h. zero_product (basic_solution t) (direction t column) i (elim (one_off i h) [ inl o ↦ inl o.0 | inr o ↦ inr o.1 ]);
          vz = λ i h. zero_product (direction t column) (basic_solution t) i (elim (one_off i h) [ inl o ↦ inl o.1 | inr o ↦ inr o.0 ]);
          vu = λ i h. zero_product (direction t column) (direction t column) i (elim (one_off i h) [ inl o ↦ inl o.1 | inr o ↦ inr o.1 ]);
        }

-- ---- the path
module _ (n : ℕ) (M : ℕ → ℕ → ℚ) (b : ℕ → ℚ) (r : ℕ) (fr : IsFirstRow n b r) where
  -- the path has come to t, which c enters next, over these bases
  abbrev pub OnPath : Tableau → ℕ → List (ℕ → Bool) → Type 0
  OnPath t c earlier = At (pivots n M b) (labels n) (beginning n M b r fr) t c earlier

  pub path_ray : (t : Tableau) (c column : ℕ) (earlier : List (ℕ → Bool)) → OnPath t c earlier → HasPositiveKeys n M b t → column < t.width → t.nonbasic column ≡ c → ((i : ℕ) → i < n → t.cell i column ≤ℚ zero_ℚ) → zero_ℚ <ℚ basic_solution t (z0_of n) → IsRayAt n M b t column
  unfolding beginning
  path_ray t c column earlier o R hc c_is none up = ray n M b t R c column hc c_is o.almost none up some
    where
      some : ((i : ℕ) → i < n → direction t column (z_of n i) ≡ zero_ℚ) → ⊥
      some zs = go (all_w n M b t R c column hc c_is o.almost none zs)
        where
          here : (k : ℕ) → k < n → c ≡ w_of k → ((v : ℕ) → is_basic t v ≡ basis_without n k v) → (k ≡ r) ⊎ (k ≢ r) → ⊥
          here k h q same (inl e) = absurd (omega (arith, sym (at_first (pivots n M b) (labels n) (beginning n M b r fr) t c earlier o (λ v. same v ∙ ap (λ s. basis_without n s v) e ∙ sym (first_basis n M b r fr v))), q, e, fr.is_least.within))
          here k h q same (inr ne) = one_row n M b r k (first n M b r fr) t fr.is_least.within h (first_keys n M b r fr) R (first_basis n M b r fr) same ne

          go : (k : ℕ) × (k < n) × (c ≡ w_of k) × ((v : ℕ) → is_basic t v ≡ basis_without n k v) → ⊥
          go w = here w.0 w.1 w.2 w.3 (cases_eq w.0 r)

  -- where the problem excludes rays, some row has a positive entry
  pub path_goes_on : (t : Tableau) (c column : ℕ) (earlier : List (ℕ → Bool)) → ExcludesRays n M b → OnPath t c earlier → HasPositiveKeys n M b t → column < t.width → t.nonbasic column ≡ c → zero_ℚ <ℚ basic_solution t (z0_of n) → ((i : ℕ) → i < n → t.cell i column ≤ℚ zero_ℚ) → ⊥
  path_goes_on t c column earlier cop o R hc c_is up none = no_ray n M b _ _ _ _ (basic_solution t (z0_of n)) (direction t column (z0_of n)) cop (path_ray t c column earlier o R hc c_is none up)

  -- no pair is basic with both variables
  path_pairs : (t : Tableau) (c : ℕ) (earlier : List (ℕ → Bool)) → OnPath t c earlier → (i : ℕ) → i < n → (is_basic t (w_of i) ≡ false) ⊎ (is_basic t (z_of n i) ≡ false)
  path_pairs t c earlier o i h = go (is_basic t (w_of i)) refl
    where
      pi : complement n (w_of i) ≡ z_of n i
      pi = complement_of_w n i h

      go : (y : Bool) → is_basic t (w_of i) ≡ y → (is_basic t (w_of i) ≡ false) ⊎ (is_basic t (z_of n i) ≡ false)
      go false e = inl e
      go true e = inr (ap (is_basic t) (sym pi) ∙ o.almost.others (w_of i) (λ q. absurd (omega (arith, sym pi ∙ q, h))) (λ q. true≢false (sym e ∙ ap (is_basic t) q ∙ o.almost.out)) (λ q. true≢false (sym e ∙ ap (is_basic t) q ∙ o.almost.partner_out)) ∙ ap not e)

  -- where z0 is 0, the problem is solved
  pub path_solved : (t : Tableau) (c : ℕ) (earlier : List (ℕ → Bool)) → OnPath t c earlier → HasPositiveKeys n M b t → basic_solution t (z0_of n) ≡ zero_ℚ → SolvesAt n M b t
  path_solved t c earlier o R z0 = solved n M b t R (path_pairs t c earlier o) z0

  -- where z0 has left, too
  pub path_left : (t t' : Tableau) (c : ℕ) (earlier : List (ℕ → Bool)) → OnPath t c earlier → HasPositiveKeys n M b t' → ((v : ℕ) → is_basic t' v ≡ swap (is_basic t) c (z0_of n) v) → SolvesAt n M b t'
  path_left t t' c earlier o R same = solved n M b t' R (λ i h. pairs i h (path_pairs t c earlier o i h) (cases_eq (w_of i) c) (cases_eq (z_of n i) c)) (value_out t' R.reached.proper (z0_of n) (same (z0_of n) ∙ swap_out (is_basic t) c (z0_of n) (λ e. true≢false (sym o.almost.has_z0 ∙ ap (is_basic t) e ∙ o.almost.out))))
    where
      stays : (v : ℕ) → v ≢ c → is_basic t v ≡ false → is_basic t' v ≡ false
      stays v ne e = same v ∙ swap_other (is_basic t) c (z0_of n) v ne (λ q. true≢false (sym o.almost.has_z0 ∙ ap (is_basic t) (sym q) ∙ e)) ∙ e

      pairs : (i : ℕ) → i < n → (is_basic t (w_of i) ≡ false) ⊎ (is_basic t (z_of n i) ≡ false) → (w_of i ≡ c) ⊎ (w_of i ≢ c) → (z_of n i ≡ c) ⊎ (z_of n i ≢ c) → (is_basic t' (w_of i) ≡ false) ⊎ (is_basic t' (z_of n i) ≡ false)
      pairs i h (inl e) (inr ne) d = inl (stays (w_of i) ne e)
      pairs i h (inl e) (inl q) d = let pc : complement n c ≡ z_of n i = ap (complement n) (sym q) ∙ complement_of_w n i h in inr (stays (z_of n i) (λ f. absurd (omega (arith, f ∙ sym q, h))) (ap (is_basic t) (sym pc) ∙ o.almost.partner_out))
      pairs i h (inr e) d (inr ne) = inr (stays (z_of n i) ne e)
      pairs i h (inr e) d (inl q) = let pc : complement n c ≡ w_of i = ap (complement n) (sym q) ∙ complement_of_z n i h in inl (stays (w_of i) (λ f. absurd (omega (arith, q ∙ sym f, h))) (ap (is_basic t) (sym pc) ∙ o.almost.partner_out))
