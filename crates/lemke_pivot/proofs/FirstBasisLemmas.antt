-- the bases that have z0 and all w but one: their rows, and the beginning of the path
use Rattle.std.proofs.Common.{ℕ, zero, suc, pos, ◌<◌, ◌≤◌, ◌≡◌, ◌≢◌, ◌+◌, ◌-◌, ◌⊎◌, inl, inr, eqb, ltb, true, false, not, cond, [], ◌∷◌, refl, sym, ap, ap₂, ◌∙◌, subst, arith, tests, true≢false, Bool}
use Rattle.std.proofs.lemmas.Int.{ints}
use Rattle.std.proofs.lemmas.Bool.{cases_eq, cases_lt}
use Rattle.std.proofs.Math.Path.{fun_ext}
use Rattle.rational.specs.Rational.{ℚ, ◌+ℚ◌, ◌*ℚ◌, ◌-ℚ◌, neg_ℚ, zero_ℚ, one_ℚ, ◌<ℚ◌}
use Rattle.rational.proofs.RationalRing.{rational_ring}
use Rattle.rational.proofs.Ring.{ring, combine, ◌times◌is◌, num, ◌:+◌, ◌:*◌, ◌:-◌, :neg, A, B, C, D, E, F}
use Rattle.rational.proofs.Linear.{linear, minus, at, lit, ◌⟨-⟩◌, ◌⟨<⟩◌, ◌⟨=⟩◌}
use Rattle.rational.proofs.Field.{lt_irrefl, eq_or_lt_of_le}
use Rattle.rational.proofs.SumLemmas.{sum_to-same, sum_to-neg, sum_to-zeros}
use Rattle.linear_systems.specs.Tableau.{Tableau, left, Solves, pivot}
use Rattle.linear_systems.specs.Lex.{IsLexPositive}
use Rattle.linear_systems.specs.Rows.{unit_at, key, Alike}
use Rattle.linear_systems.proofs.LexLemmas.{lex_same}
use Rattle.linear_systems.proofs.RowLemmas.{unit_self, unit_other, key_alike}
use Rattle.linear_systems.proofs.RowEquivalenceLemmas.{reached_start, reached_pivot, reached_alike}
use Rattle.lemke_pivot.specs.Vectors.{image}
use Rattle.lemke_pivot.specs.Values.{is_basic}
use Rattle.lemke_pivot.proofs.EdgeLemmas.{swap, Almost, Start}
use Rattle.lemke_pivot.specs.ProblemPaths.{is_w, w_of, z_of, z0_of, complement, start, IsFirstRow}
use Rattle.lemke_pivot.proofs.KeyLemmas.{HasPositiveKeys, Reaches, is_start, row_in, row_out, solves, nonbasic_which, pivots}
use Rattle.lemke_pivot.proofs.ValueLemmas.{row_of, basic_yes, basic_no, basic_which, nonbasic_no, left_out, left_one}
use Rattle.lemke_pivot.proofs.ComplementLemmas.{Which, which, complement_w, complement_z, complement_neither, complement_of_z, labels}
use Rattle.lemke_pivot.proofs.PivotLemmas.{lex_opposite, basic_swap}

-- all w but that of row s, and z0
abbrev pub basis_without : ℕ → ℕ → ℕ → Bool
basis_without n s = swap (is_w n) (z0_of n) (w_of s)

-- ---- the start's rows as equations
start_left : (n : ℕ) (M : ℕ → ℕ → ℚ) (b x : ℕ → ℚ) (i : ℕ) → left (start n M b) x i ≡ (x (w_of i) -ℚ image n M (λ j. x (z_of n j)) i) -ℚ x (z0_of n)
unfolding left
start_left n M b x i = ap (λ a. x (suc i) +ℚ a) (ap₂ (λ u v. u +ℚ (v *ℚ x (suc (n + n)))) (sum_to-same n _ (λ j. neg_ℚ (M i j *ℚ x (suc (n + j)))) (λ j h. let e : eqb j n ≡ false = grind (arith, tests) in ap (λ t. cond t (neg_ℚ one_ℚ) (neg_ℚ (M i j)) *ℚ x (suc (n + j))) e ∙ ring rational_ring (M i j ∷ x (suc (n + j)) ∷ []) (:neg A :* B) (:neg (A :* B)) refl) ∙ sum_to-neg n (λ j. M i j *ℚ x (suc (n + j)))) (let e : eqb n n ≡ true = grind (arith, tests) in ap (λ t. cond t (neg_ℚ one_ℚ) (neg_ℚ (M i n))) e)) ∙ ring rational_ring (x (suc i) ∷ image n M (λ j. x (z_of n j)) i ∷ x (suc (n + n)) ∷ []) (A :+ (:neg B :+ :neg (num 1) :* C)) (A :- B :- C) refl

start_solves : (n : ℕ) (M : ℕ → ℕ → ℚ) (b x : ℕ → ℚ) → ((i : ℕ) → i < n → x (w_of i) ≡ (b i +ℚ image n M (λ j. x (z_of n j)) i) +ℚ x (z0_of n)) → Solves (start n M b) x
start_solves n M b x h i k = start_left n M b x i ∙ combine rational_ring (x (suc i) ∷ image n M (λ j. x (z_of n j)) i ∷ x (z0_of n) ∷ b i ∷ []) ((num 1 times A is D :+ B :+ C) ∷ []) (A :- B :- C) D refl (h i k, tt)

pub solves_start : (n : ℕ) (M : ℕ → ℕ → ℚ) (b x : ℕ → ℚ) → Solves (start n M b) x → (i : ℕ) → i < n → x (w_of i) ≡ (b i +ℚ image n M (λ j. x (z_of n j)) i) +ℚ x (z0_of n)
solves_start n M b x s i k = combine rational_ring (x (suc i) ∷ image n M (λ j. x (z_of n j)) i ∷ x (z0_of n) ∷ b i ∷ []) ((num 1 times A :- B :- C is D) ∷ []) A (D :+ B :+ C) refl (sym (start_left n M b x i) ∙ s i k, tt)

-- ---- the basis without the w of row s
module _ (n s : ℕ) (hs : s < n) where
  pub without_z0 : basis_without n s (z0_of n) ≡ true
  without_z0 = grind (arith, tests)

  pub without_s : basis_without n s (w_of s) ≡ false
  without_s = grind (arith, tests)

  pub without_w : (v : ℕ) → 0 < v → v ≤ n → v ≢ w_of s → basis_without n s v ≡ true
  without_w v p h g = grind (arith, tests)

  pub without_z : (v : ℕ) → n < v → v ≢ z0_of n → basis_without n s v ≡ false
  without_z v h g = grind (arith, tests)

  pub without_0 : (v : ℕ) → v ≡ 0 → basis_without n s v ≡ false
  without_0 v h = grind (arith, tests)

  -- it lacks the pair of row s
  pub almost_without : Almost (labels n) (basis_without n s) (z_of n s)
  almost_without =
      record {
        paired = λ e. absurd (omega (arith, sym pz ∙ e, hs));
        out = without_z (z_of n s) (omega arith) (λ e. absurd (omega (arith, e, hs)));
        partner_out = ap (basis_without n s) pz ∙ without_s;
        has_z0 = without_z0;
        others = others;
        only = only;
      }
    where
      pz : complement n (z_of n s) ≡ w_of s
      pz = complement_of_z n s hs

      others : (v : ℕ) → complement n v ≢ v → v ≢ z_of n s → v ≢ complement n (z_of n s) → basis_without n s (complement n v) ≡ not (basis_without n s v)
      others v p a d = go (which n v)
        where
          go : Which n v → basis_without n s (complement n v) ≡ not (basis_without n s v)
          go (inl h) = let k = h.0 in let l = h.1 in ap (basis_without n s) (complement_w n v k l) ∙ without_z (v + n) (omega arith) (λ e. absurd (omega (arith, e, l))) ∙ ap not (sym (without_w v k l (λ e. d (e ∙ sym pz))))
          go (inr (inl h)) = let l = h.0 in let u = h.1 in ap (basis_without n s) (complement_z n v l u) ∙ without_w (v - n) (omega arith) (omega arith) (λ e. a (omega (arith, e, l))) ∙ ap not (sym (without_z v l (λ e. absurd (omega (arith, e, u)))))
          go (inr (inr h)) = absurd (p (complement_neither n v h))

      only : (v : ℕ) → basis_without n s v ≡ true → v ≢ z0_of n → complement n v ≢ v
      only v t ne = go (which n v)
        where
          go : Which n v → complement n v ≢ v
          go (inl h) = let k = h.0 in let l = h.1 in λ e. absurd (omega (arith, sym (complement_w n v k l) ∙ e, k, l))
          go (inr (inl h)) = λ e. true≢false (sym t ∙ without_z v h.0 ne)
          go (inr (inr (inl h))) = λ e. true≢false (sym t ∙ without_0 v h)
          go (inr (inr (inr h))) = λ e. true≢false (sym t ∙ without_z v (let k = h in omega arith) ne)

-- the values where all z are 0 and z0 is a
level : ℕ → (ℕ → ℚ) → ℚ → ℕ → ℚ
level n b a zero = zero_ℚ
level n b a (suc v) = cond (ltb v n) (b v +ℚ a) (cond (eqb v (n + n)) a zero_ℚ)

level_w : (n : ℕ) (b : ℕ → ℚ) (a : ℚ) (i : ℕ) → i < n → level n b a (w_of i) ≡ b i +ℚ a
unfolding level
level_w n b a v h = grind (arith, tests)

level_z0 : (n : ℕ) (b : ℕ → ℚ) (a : ℚ) → level n b a (z0_of n) ≡ a
unfolding level
level_z0 n b a = grind (arith, tests)

level_z : (n : ℕ) (b : ℕ → ℚ) (a : ℚ) (v : ℕ) → n < v → v ≢ z0_of n → level n b a v ≡ zero_ℚ
unfolding level
level_z n b a zero h g = refl
level_z n b a (suc v) h g = let k : v ≢ n + n = λ e. g (ap suc e) in grind (arith, tests)

level_solves : (n : ℕ) (M : ℕ → ℕ → ℚ) (b : ℕ → ℚ) (a : ℚ) → Solves (start n M b) (level n b a)
level_solves n M b a =
    start_solves n M b (level n b a) (λ i h. level_w n b a i h ∙ combine rational_ring (b i ∷ a ∷ image n M (λ j. level n b a (z_of n j)) i ∷ level n b a (z0_of n) ∷ []) ((:neg (num 1) times C is num 0) ∷ (:neg (num 1) times D is B) ∷ []) (A :+ B) (A :+ C :+ D) refl (sum_to-zeros n _ (λ j k. ap (λ x. M i j *ℚ x) (level_z n b a (z_of n j) (omega arith) (λ e. absurd (omega (arith, e, k)))) ∙ ring rational_ring (M i j ∷ []) (A :* num 0) (num 0) refl), (level_z0 n b a, tt)))

pub minus_one : zero_ℚ <ℚ neg_ℚ one_ℚ → ⊥
minus_one h = lt_irrefl zero_ℚ (linear [] ((lit (pos 0) ⟨<⟩ minus (lit (pos 1))) ∷ []) (lit (pos 0) ⟨<⟩ lit (pos 0)) (λ one z u v. omega (arith, ints)) (h, tt))

-- ---- the rows of a tableau with this basis
module _ (n : ℕ) (M : ℕ → ℕ → ℚ) (b : ℕ → ℚ) (s : ℕ) (hs : s < n) (t : Tableau) (R : Reaches n M b t) (same : (v : ℕ) → is_basic t v ≡ basis_without n s v) where
  -- a nonbasic variable is that of row s, or has level 0
  nonbasic_level : (a : ℚ) (v : ℕ) → is_basic t v ≡ false → v ≢ w_of s → level n b a v ≡ zero_ℚ
  unfolding level
  nonbasic_level a v e ne = go (which n v)
    where
      not_z0 : v ≢ z0_of n
      not_z0 q = true≢false (sym (without_z0 n s hs) ∙ ap (basis_without n s) (sym q) ∙ sym (same v) ∙ e)

      go : Which n v → level n b a v ≡ zero_ℚ
      go (inl h) = absurd (true≢false (sym (without_w n s hs v h.0 h.1 ne) ∙ sym (same v) ∙ e))
      go (inr (inl h)) = level_z n b a v h.0 not_z0
      go (inr (inr (inl h))) = ap (level n b a) h
      go (inr (inr (inr h))) = level_z n b a v (let k = h in omega arith) not_z0

  -- a basic variable is z0 or another w
  abbrev IsOther : ℕ → Type 0
  IsOther v = (k : ℕ) × (k < n) × (k ≢ s) × (v ≡ w_of k)

  basic_w : (v : ℕ) → is_basic t v ≡ true → (v ≡ z0_of n) ⊎ IsOther v
  basic_w v e = go (which n v) (cases_eq v (z0_of n))
    where
      not_s : v ≢ w_of s
      not_s q = true≢false (sym e ∙ same v ∙ ap (basis_without n s) q ∙ without_s n s hs)

      go : Which n v → (v ≡ z0_of n) ⊎ (v ≢ z0_of n) → (v ≡ z0_of n) ⊎ IsOther v
      go w (inl q) = inl q
      go (inl h) (inr q) = let a = h.0 in let l = h.1 in inr (v - 1, omega arith, (λ p. not_s (omega (arith, p, a))), omega arith)
      go (inr (inl h)) (inr q) = absurd (true≢false (sym e ∙ same v ∙ without_z n s hs v h.0 q))
      go (inr (inr (inl h))) (inr q) = absurd (true≢false (sym e ∙ same v ∙ without_0 n s hs v h))
      go (inr (inr (inr h))) (inr q) = absurd (true≢false (sym e ∙ same v ∙ without_z n s hs v (let k = h in omega arith) q))

  right_is : (i : ℕ) → i < t.rows → t.right i ≡ level n b (neg_ℚ (b s)) (t.basic i)
  right_is i h = sym (solves n M b t R (level n b (neg_ℚ (b s))) (level_solves n M b (neg_ℚ (b s))) i h) ∙ left_out t R.proper (level n b (neg_ℚ (b s))) i (λ j k. none (t.nonbasic j) (nonbasic_no t R.proper j k) (cases_eq (t.nonbasic j) (w_of s)))
    where
      none : (v : ℕ) → is_basic t v ≡ false → (v ≡ w_of s) ⊎ (v ≢ w_of s) → level n b (neg_ℚ (b s)) v ≡ zero_ℚ
      none v e (inl q) = ap (level n b (neg_ℚ (b s))) q ∙ level_w n b (neg_ℚ (b s)) s hs ∙ ring rational_ring (b s ∷ []) (A :+ :neg A) (num 0) refl
      none v e (inr q) = nonbasic_level (neg_ℚ (b s)) v e q

  module _ (c : ℕ) (hc : c < t.width) (c_is : t.nonbasic c ≡ w_of s) where
    apart_s : (j : ℕ) → j < t.width → j ≢ c → t.nonbasic j ≢ w_of s
    apart_s j k ne q = ne (R.proper.nonbasic_once j c k hc (q ∙ sym c_is))

    -- the column of that w has -1 in each row
    pub cell_is : (i : ℕ) → i < t.rows → t.cell i c ≡ neg_ℚ one_ℚ
    cell_is i h = combine rational_ring (t.cell i c ∷ level n b a (t.basic i) ∷ level n b (neg_ℚ (b s)) (t.basic i) ∷ level n b a (t.nonbasic c) ∷ t.right i ∷ []) ((num 1 times B :+ A :* D is E) ∷ (num 1 times E is C) ∷ (:neg A times D is num 1) ∷ (:neg (num 1) times B is C :+ num 1) ∷ []) A (:neg (num 1)) refl (solved, (right_is i h, (ap (level n b a) c_is ∙ level_w n b a s hs ∙ ring rational_ring (b s ∷ []) (A :+ (num 1 :- A)) (num 1) refl, (up (basic_w (t.basic i) (basic_yes t i h)), tt))))
      where
        a : ℚ
        a = one_ℚ -ℚ b s

        solved : level n b a (t.basic i) +ℚ (t.cell i c *ℚ level n b a (t.nonbasic c)) ≡ t.right i
        solved = sym (left_one t R.proper (level n b a) i c hc (λ j k ne. nonbasic_level a (t.nonbasic j) (nonbasic_no t R.proper j k) (apart_s j k ne))) ∙ solves n M b t R (level n b a) (level_solves n M b a) i h

        up : (t.basic i ≡ z0_of n) ⊎ IsOther (t.basic i) → level n b a (t.basic i) ≡ level n b (neg_ℚ (b s)) (t.basic i) +ℚ one_ℚ
        up (inl q) = ap (level n b a) q ∙ level_z0 n b a ∙ ring rational_ring (b s ∷ []) (num 1 :- A) (:neg A :+ num 1) refl ∙ ap (λ x. x +ℚ one_ℚ) (sym (ap (level n b (neg_ℚ (b s))) q ∙ level_z0 n b (neg_ℚ (b s))))
        up (inr w) = ap (level n b a) w.3 ∙ level_w n b a w.0 w.1 ∙ ring rational_ring (b w.0 ∷ b s ∷ []) (A :+ (num 1 :- B)) (A :+ :neg B :+ num 1) refl ∙ ap (λ x. x +ℚ one_ℚ) (sym (ap (level n b (neg_ℚ (b s))) w.3 ∙ level_w n b (neg_ℚ (b s)) w.0 w.1))

    -- the keys of the row of another w
    key_is : (i k m : ℕ) → i < t.rows → t.basic i ≡ w_of k → k < n → m < n → key w_of t i (suc m) ≡ unit_at (w_of m) (w_of k) -ℚ unit_at (w_of m) (w_of s)
    key_is i k m h e hk hm = go (cases_eq m s)
      where
        go : (m ≡ s) ⊎ (m ≢ s) → left t (unit_at (w_of m)) i ≡ unit_at (w_of m) (w_of k) -ℚ unit_at (w_of m) (w_of s)
        go (inl q) =
            left_one t R.proper (unit_at (w_of m)) i c hc (λ j l ne. unit_other (w_of m) (t.nonbasic j) (λ p. apart_s j l ne (p ∙ ap suc q)))
            ∙ combine rational_ring (unit_at (w_of m) (t.basic i) ∷ t.cell i c ∷ unit_at (w_of m) (t.nonbasic c) ∷ unit_at (w_of m) (w_of k) ∷ unit_at (w_of m) (w_of s) ∷ []) ((num 1 times A is D) ∷ (C times B is :neg (num 1)) ∷ (:neg (num 1) times C is E) ∷ []) (A :+ B :* C) (D :- E) refl (ap (unit_at (w_of m)) e, (cell_is i h, (ap (unit_at (w_of m)) c_is, tt)))
        go (inr q) =
            left_out t R.proper (unit_at (w_of m)) i (λ j l. unit_other (w_of m) (t.nonbasic j) (λ p. true≢false (sym (same (w_of m) ∙ without_w n s hs (w_of m) (omega arith) (omega arith) (λ f. q (omega (arith, f)))) ∙ ap (is_basic t) (sym p) ∙ nonbasic_no t R.proper j l)))
            ∙ combine rational_ring (unit_at (w_of m) (t.basic i) ∷ unit_at (w_of m) (w_of k) ∷ unit_at (w_of m) (w_of s) ∷ []) ((num 1 times A is B) ∷ (num 1 times C is num 0) ∷ []) A (B :- C) refl (ap (unit_at (w_of m)) e, (unit_other (w_of m) (w_of s) (λ p. q (omega (arith, p))), tt))

    key_first : (i k : ℕ) → i < t.rows → t.basic i ≡ w_of k → k < n → key w_of t i 0 ≡ b k -ℚ b s
    key_first i k h e hk = right_is i h ∙ ap (level n b (neg_ℚ (b s))) e ∙ level_w n b (neg_ℚ (b s)) k hk

-- the row that leaves first is known by the basis alone
pub one_row : (n : ℕ) (M : ℕ → ℕ → ℚ) (b : ℕ → ℚ) (r s : ℕ) (f t : Tableau) → r < n → s < n → HasPositiveKeys n M b f → HasPositiveKeys n M b t → ((v : ℕ) → is_basic f v ≡ basis_without n r v) → ((v : ℕ) → is_basic t v ≡ basis_without n s v) → s ≢ r → ⊥
one_row n M b r s f t hr hs F R same_f same_t ne = go (row_of t (w_of r), (basic_which t (w_of r) (same_t (w_of r) ∙ without_w n s hs (w_of r) (omega arith) (omega arith) (λ e. ne (omega (arith, e)))))) (row_of f (w_of s), (basic_which f (w_of s) (same_f (w_of s) ∙ without_w n r hr (w_of s) (omega arith) (omega arith) (λ e. ne (omega (arith, e)))))) (nonbasic_which n M b t R.reached (w_of s) (omega arith) (omega arith) (same_t (w_of s) ∙ without_s n s hs)) (nonbasic_which n M b f F.reached (w_of r) (omega arith) (omega arith) (same_f (w_of r) ∙ without_s n r hr))
  where
    go : (i : ℕ) × ((i < t.rows) × (t.basic i ≡ w_of r)) → (k : ℕ) × ((k < f.rows) × (f.basic k ≡ w_of s)) → (c : ℕ) × (c < t.width) × (t.nonbasic c ≡ w_of s) → (d : ℕ) × (d < f.width) × (f.nonbasic d ≡ w_of r) → ⊥
    go i k c d = lex_opposite (suc n) (key w_of t i.0) (key w_of f k.0) opposite (R.positive i.0 (row_out n M b t R.reached i.0 i.1.0)) (F.positive k.0 (row_out n M b f F.reached k.0 k.1.0))
      where
        opposite : (m : ℕ) → m < suc n → key w_of f k.0 m ≡ neg_ℚ (key w_of t i.0 m)
        opposite zero h = key_first n M b r hr f F.reached same_f d.0 d.1 d.2 k.0 s k.1.0 k.1.1 hs ∙ ring rational_ring (b s ∷ b r ∷ []) (A :- B) (:neg (B :- A)) refl ∙ ap neg_ℚ (sym (key_first n M b s hs t R.reached same_t c.0 c.1 c.2 i.0 r i.1.0 i.1.1 hr))
        opposite (suc m) h = key_is n M b r hr f F.reached same_f d.0 d.1 d.2 k.0 s m k.1.0 k.1.1 hs (omega arith) ∙ ring rational_ring (unit_at (w_of m) (w_of s) ∷ unit_at (w_of m) (w_of r) ∷ []) (A :- B) (:neg (B :- A)) refl ∙ ap neg_ℚ (sym (key_is n M b s hs t R.reached same_t c.0 c.1 c.2 i.0 r m i.1.0 i.1.1 hr (omega arith)))

-- ---- the beginning
basic_start : (n : ℕ) (M : ℕ → ℕ → ℚ) (b : ℕ → ℚ) (v : ℕ) → is_basic (start n M b) v ≡ is_w n v
basic_start n M b v = go (which n v)
  where
    go : Which n v → is_basic (start n M b) v ≡ is_w n v
    go (inl h) = let a = h.0 in let l = h.1 in let e : suc (v - 1) ≡ v = omega arith in ap (is_basic (start n M b)) (sym e) ∙ basic_yes (start n M b) (v - 1) (omega arith) ∙ sym (let e : is_w n v ≡ true = grind (arith, tests) in e)
    go (inr (inl h)) = let l = h.0 in basic_no (start n M b) v (λ i k e. absurd (omega (arith, e, l, k))) ∙ sym (let e : is_w n v ≡ false = grind (arith, tests) in e)
    go (inr (inr (inl h))) = basic_no (start n M b) v (λ i k e. absurd (omega (arith, e, h, k))) ∙ sym (let e : is_w n v ≡ false = grind (arith, tests) in e)
    go (inr (inr (inr h))) = let l : n < v = omega arith in basic_no (start n M b) v (λ i k e. absurd (omega (arith, e, l, k))) ∙ sym (let e : is_w n v ≡ false = grind (arith, tests) in e)

module _ (n : ℕ) (M : ℕ → ℕ → ℚ) (b : ℕ → ℚ) (r : ℕ) (fr : IsFirstRow n b r) where
  abbrev pub first : Tableau
  first = pivot (start n M b) r n

  pub entry : (start n M b).cell r n ≡ neg_ℚ one_ℚ
  entry = let e : eqb n n ≡ true = grind (arith, tests) in ap (λ t. cond t (neg_ℚ one_ℚ) (neg_ℚ (M r n))) e

  pub entry_not : (start n M b).cell r n ≢ zero_ℚ
  entry_not e = lt_irrefl zero_ℚ (linear ((start n M b).cell r n ∷ []) ((at 0 ⟨=⟩ minus (lit (pos 1))) ∷ (at 0 ⟨=⟩ lit (pos 0)) ∷ []) (lit (pos 0) ⟨<⟩ lit (pos 0)) (λ one z u v. omega (arith, ints)) (entry, (e, tt)))

  reaches_first : Reaches n M b first
  reaches_first = reached_pivot (suc (suc (n + n))) n (start n M b) (start n M b) r n (omega arith) fr.is_least.within (omega arith) entry_not (reached_start (suc (suc (n + n))) n (start n M b) (is_start n M b))

  pub first_basis : (v : ℕ) → is_basic first v ≡ basis_without n r v
  first_basis v = basic_swap (start n M b) r n (is_start n M b).proper fr.is_least.within (omega arith) v ∙ ap (λ f. swap f (z0_of n) (w_of r) v) (fun_ext (basic_start n M b))

  positive_first : (i : ℕ) → i < n → IsLexPositive (suc n) (key w_of first i)
  positive_first i h = go (basic_w n M b r fr.is_least.within first reaches_first first_basis (first.basic i) (basic_yes first i h))
    where
      c : (j : ℕ) × (j < first.width) × (first.nonbasic j ≡ w_of r)
      c = nonbasic_which n M b first reaches_first (w_of r) (omega arith) (let k = fr.is_least.within in omega arith) (first_basis (w_of r) ∙ without_s n r fr.is_least.within)

      later : (k : ℕ) → first.basic i ≡ w_of k → k < n → k ≢ r → (b r <ℚ b k) ⊎ ((b r ≡ b k) × (k < r)) → IsLexPositive (suc n) (key w_of first i)
      later k e hk ne (inl l) =
          record {
            place = 0;
            within = omega arith;
            before = λ j q. absurd (omega arith);
            above = linear (first.right i ∷ b k ∷ b r ∷ []) ((at 0 ⟨=⟩ (at 1 ⟨-⟩ at 2)) ∷ (at 2 ⟨<⟩ at 1) ∷ []) (lit (pos 0) ⟨<⟩ at 0) (λ one z u v. omega (arith, ints)) (key_first n M b r fr.is_least.within first reaches_first first_basis c.0 c.1 c.2 i k h e hk, (l, tt));
          }
      later k e hk ne (inr w) =
          record {
            place = suc k;
            within = omega arith;
            before = before;
            above = linear (left first (unit_at (w_of k)) i ∷ unit_at (w_of k) (w_of k) ∷ unit_at (w_of k) (w_of r) ∷ []) ((at 0 ⟨=⟩ (at 1 ⟨-⟩ at 2)) ∷ (at 1 ⟨=⟩ lit (pos 1)) ∷ (at 2 ⟨=⟩ lit (pos 0)) ∷ []) (lit (pos 0) ⟨<⟩ at 0) (λ one z u v. omega (arith, ints)) (key_is n M b r fr.is_least.within first reaches_first first_basis c.0 c.1 c.2 i k k h e hk hk, (unit_self (w_of k), (unit_other (w_of k) (w_of r) (λ q. ne (omega (arith, q))), tt)));
          }
        where
          before : (j : ℕ) → j < suc k → key w_of first i j ≡ zero_ℚ
          before zero q = combine rational_ring (first.right i ∷ b k ∷ b r ∷ []) ((num 1 times A is B :- C) ∷ (:neg (num 1) times C is B) ∷ []) A (num 0) refl (key_first n M b r fr.is_least.within first reaches_first first_basis c.0 c.1 c.2 i k h e hk, (w.0, tt))
          before (suc v) q = let kr = w.1 in key_is n M b r fr.is_least.within first reaches_first first_basis c.0 c.1 c.2 i k v h e hk (omega arith) ∙ combine rational_ring (unit_at (w_of v) (w_of k) ∷ unit_at (w_of v) (w_of r) ∷ []) ((num 1 times A is num 0) ∷ (:neg (num 1) times B is num 0) ∷ []) (A :- B) (num 0) refl (unit_other (w_of v) (w_of k) (λ p. absurd (omega (arith, p, q))), (unit_other (w_of v) (w_of r) (λ p. absurd (omega (arith, p, q, kr))), tt))

      cases : (k : ℕ) → k < n → k ≢ r → (b r ≡ b k) ⊎ (b r <ℚ b k) → (b r <ℚ b k) ⊎ ((b r ≡ b k) × (k < r))
      cases k h ne (inr l) = inl l
      cases k h ne (inl q) = elim (cases_lt k r) [ inl l ↦ inr (q, l) | inr l ↦ inl (fr.is_least.last k (omega (arith, ne)) h) ]

      go : (first.basic i ≡ z0_of n) ⊎ ((k : ℕ) × (k < n) × (k ≢ r) × (first.basic i ≡ w_of k)) → IsLexPositive (suc n) (key w_of first i)
      go (inl e) =
          record {
            place = 0;
            within = omega arith;
            before = λ j q. absurd (omega arith);
            above = linear (first.right i ∷ b r ∷ []) ((at 0 ⟨=⟩ minus (at 1)) ∷ (at 1 ⟨<⟩ lit (pos 0)) ∷ []) (lit (pos 0) ⟨<⟩ at 0) (λ one z u v. omega (arith, ints)) (right_is n M b r fr.is_least.within first reaches_first first_basis i h ∙ ap (level n b (neg_ℚ (b r))) e ∙ level_z0 n b (neg_ℚ (b r)), (fr.negative, tt));
          }
      go (inr w) = later w.0 w.3 w.1 w.2 (cases w.0 w.1 w.2 (eq_or_lt_of_le (b r) (b w.0) (fr.is_least.least w.0 w.1)))

  pub first_keys : HasPositiveKeys n M b first
  first_keys = record { reached = reaches_first; positive = positive_first }

  unfoldable pub beginning : Start (pivots n M b) (labels n)
  beginning =
      record {
        first = first;
        enters = z_of n r;
        almost = subst (λ f. Almost (labels n) f (z_of n r)) (sym (fun_ext first_basis)) (almost_without n r fr.is_least.within);
        dead = λ t t' l same e. minus_one (subst (λ x. zero_ℚ <ℚ x) (cell_is n M b r fr.is_least.within t e.0.reached (λ v. same v ∙ first_basis v) e.1.column e.1.column_in (e.1.c_is ∙ complement_of_z n r fr.is_least.within) e.1.row (row_in n M b t e.0.reached e.1.row e.1.chosen.within)) e.1.chosen.positive);
      }

-- a tableau in memory need agree only where it has cells
pub keys_alike : (n : ℕ) (M : ℕ → ℕ → ℚ) (b : ℕ → ℚ) (t u : Tableau) → Alike t u → HasPositiveKeys n M b t → HasPositiveKeys n M b u
keys_alike n M b t u a R =
    record {
      reached = reached_alike (suc (suc (n + n))) n (start n M b) t u (omega arith) a R.reached;
      positive = λ i h. lex_same (suc n) (key w_of t i) _ (λ p _. key_alike w_of t u i p a (row_in n M b t R.reached i h)) (R.positive i h);
    }
