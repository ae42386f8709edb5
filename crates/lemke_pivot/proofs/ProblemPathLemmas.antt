-- the laws of the path
use Rattle.std.proofs.Common.{add-one, ℕ, zero, suc, pos, ◌≡◌, ◌≢◌, ◌<◌, ◌≤◌, ◌+◌, ◌^◌, ◌⊎◌, inl, inr, Bool, true, false, List, [], ◌∷◌, All, length, map, refl, sym, ap, ◌∙◌, subst, arith, true≢false}
use Rattle.std.proofs.lemmas.Bool.{cases_eq}
use Rattle.std.proofs.lemmas.Int.{ints}
use Rattle.std.proofs.lemmas.List.{length-map}
use Rattle.std.proofs.lemmas.List.Elements.{All-nil, All-cons}
use Rattle.std.proofs.lemmas.List.Kept.{AllPairs-cons}
use Rattle.std.specs.Prelude.{AllPairs}
use Rattle.rational.specs.Rational.{ℚ, neg_ℚ, zero_ℚ, ◌≤ℚ◌, ◌<ℚ◌}
use Rattle.rational.proofs.Field.{le_refl, le_trans, le_or_lt, le_of_lt, eq_or_lt_of_le}
use Rattle.rational.proofs.Linear.{linear, minus, at, lit, ◌⟨≤⟩◌, ◌⟨<⟩◌, ◌⟨=⟩◌}
use Rattle.linear_systems.specs.Tableau.{Tableau, pivot}
use Rattle.linear_systems.specs.Rows.{basic_solution, Alike, IsLexicographicRow}
use Rattle.linear_systems.proofs.AgreementLemmas.{alike_sym, alike_trans, alike_both, alike_pivot, alike_lex_row}
use Rattle.linear_systems.proofs.LexRowLemmas.{lex_row_once, lex_row_is}
use Rattle.lemke_pivot.specs.Vectors.{zeros}
use Rattle.lemke_pivot.specs.Problems.{costs_of, size, matrix, right_sides, ExcludesRays}
use Rattle.lemke_pivot.proofs.EdgeLemmas.{swap, At, at_begin, at_next, no_basis_twice, swap_out}
use Rattle.lemke_pivot.specs.Values.{is_basic}
use Rattle.lemke_pivot.specs.ProblemPaths.{w_of, z_of, z0_of, complement, SolvesAt, IsRayAt, start, IsFirstRow, IsLeastRow, Replaces, PathTo}
use Rattle.lemke_pivot.proofs.KeyLemmas.{HasPositiveKeys, is_start, row_in, pivots, next_keys, after, basic_past}
use Rattle.lemke_pivot.specs.ProblemLaws.{NoBasisOccursTwice, PathsAreShort, PathsAreUnique, PathsEndSolved, PathsEndInRays, FirstRowsExist, AlwaysALeavingRow, LeastIsNegative}
use Rattle.lemke_pivot.proofs.ProblemBlockLemmas.{six_p}
use Rattle.lemke_pivot.proofs.RayExclusionLemmas.{sides_exclude_rays}
use Rattle.lemke_pivot.proofs.SetCountLemmas.{Below, sets-bound}
use Rattle.lemke_pivot.proofs.ValueLemmas.{value_out, basic_yes}
use Rattle.lemke_pivot.proofs.ComplementLemmas.{Which, which, complement_neither, labels}
use Rattle.lemke_pivot.proofs.AlikeTableauLemmas.{into_width, alike_basic}
use Rattle.lemke_pivot.proofs.FirstBasisLemmas.{first, first_keys, beginning, keys_alike}
use Rattle.lemke_pivot.proofs.EndLemmas.{OnPath, path_ray, path_goes_on, path_solved, path_left, value_sign}

-- the path, where z0 has not left
abbrev GoesOn : ℕ → (ℕ → ℕ → ℚ) → (ℕ → ℚ) → ℕ → List Tableau → Tableau → ℕ → Type 0
GoesOn n M b r [] t c = Alike (pivot (start n M b) r n) t × (c ≡ z_of n r)
GoesOn n M b r (s ∷ ss) t c = (d : ℕ) × (l : ℕ) × GoesOn n M b r ss s d × Replaces n s d l t × (l ≢ z0_of n) × (c ≡ complement n l)

module _ (n : ℕ) (M : ℕ → ℕ → ℚ) (b : ℕ → ℚ) (r : ℕ) (fr : IsFirstRow n b r) where
  -- what the proofs keep along it
  on_path : (ss : List Tableau) (t : Tableau) (c : ℕ) → GoesOn n M b r ss t c → OnPath n M b r fr t c (map is_basic ss) × HasPositiveKeys n M b t
  unfolding beginning
  on_path [] t c p = (subst (λ d. At (pivots n M b) (labels n) (beginning n M b r fr) t d []) (sym p.1) (at_begin (pivots n M b) (labels n) (beginning n M b r fr) t (λ v. sym (alike_basic (first n M b r fr) t p.0 v))), keys_alike n M b (first n M b r fr) t p.0 (first_keys n M b r fr))
  on_path (s ∷ ss) t c p = let w = on_path ss s p.0 p.2 in
      (subst (λ d. At (pivots n M b) (labels n) (beginning n M b r fr) t d (is_basic s ∷ map is_basic ss)) (sym p.5) (at_next (pivots n M b) (labels n) (beginning n M b r fr) s t p.0 p.1 (map is_basic ss) w.0 (w.1, p.3) p.4), next_keys n M b s t p.0 p.1 (w.1, p.3))

  -- where z0 leaves, it is basic no more
  left_out : (s t : Tableau) (d l : ℕ) → HasPositiveKeys n M b s → is_basic s (z0_of n) ≡ true → is_basic s d ≡ false → Replaces n s d l t → l ≡ z0_of n → is_basic t (z0_of n) ≡ false
  left_out s t d l R z0_in d_out p e = after n M b s t d l (R, p) (z0_of n) ∙ ap (λ k. swap (is_basic s) d k (z0_of n)) e ∙ swap_out (is_basic s) d (z0_of n) (λ q. true≢false (sym z0_in ∙ ap (is_basic s) q ∙ d_out))

  goes_on : (ss : List Tableau) (t : Tableau) (c : ℕ) → PathTo n M b r ss t c → basic_solution t (z0_of n) ≢ zero_ℚ → GoesOn n M b r ss t c
  goes_on [] t c p ne = p
  goes_on (s ∷ ss) t c p ne = let g = goes_on ss s p.0 p.2 p.3 in let w = on_path ss s p.0 g in
      (p.0, p.1, g, p.4, (λ e. ne (value_out t (next_keys n M b s t p.0 p.1 (w.1, p.4)).reached.proper (z0_of n) (left_out s t p.0 p.1 w.1 w.0.almost.has_z0 w.0.almost.out p.4 e))), p.5)

  -- at the last tableau z0 may have left
  pub Ending : List Tableau → Tableau → ℕ → Type 0
  Ending ss t c = GoesOn n M b r ss t c ⊎ ((s : Tableau) × (rest : List Tableau) × (d : ℕ) × (ss ≡ s ∷ rest) × GoesOn n M b r rest s d × Replaces n s d (z0_of n) t)

  ending : (ss : List Tableau) (t : Tableau) (c : ℕ) → PathTo n M b r ss t c → Ending ss t c
  unfolding Ending
  ending [] t c p = inl p
  ending (s ∷ ss) t c p = let g = goes_on ss s p.0 p.2 p.3 in elim (cases_eq p.1 (z0_of n)) [
    | inl e ↦ inr (s, ss, p.0, refl, g, subst (λ l. Replaces n s p.0 l t) e p.4)
    | inr ne ↦ inl (p.0, p.1, g, p.4, ne, p.5)
  ]

  pub keys : (ss : List Tableau) (t : Tableau) (c : ℕ) → PathTo n M b r ss t c → HasPositiveKeys n M b t
  keys [] t c p = (on_path [] t c p).1
  keys (s ∷ ss) t c p = next_keys n M b s t p.0 p.1 ((on_path ss s p.0 (goes_on ss s p.0 p.2 p.3)).1, p.4)

  -- a set without z0 is none of the bases before
  apart_all : (f : ℕ → Bool) → f (z0_of n) ≡ false → (ss : List Tableau) (s : Tableau) (d : ℕ) → GoesOn n M b r ss s d → All (λ h. f ≢ h) (map is_basic (s ∷ ss))
  apart_all f z0_out [] s d g =
      All-cons (λ h. f ≢ h) (is_basic s) [] (λ e. true≢false (sym (on_path [] s d g).0.almost.has_z0 ∙ ap (λ (h : ℕ → Bool). h (z0_of n)) (sym e) ∙ z0_out)) (All-nil (λ h. f ≢ h))
  apart_all f z0_out (u ∷ us) s d g =
      All-cons (λ h. f ≢ h) (is_basic s) (map is_basic (u ∷ us)) (λ e. true≢false (sym (on_path (u ∷ us) s d g).0.almost.has_z0 ∙ ap (λ (h : ℕ → Bool). h (z0_of n)) (sym e) ∙ z0_out)) (apart_all f z0_out us u g.0 g.2)

  distinct : (ss : List Tableau) (t : Tableau) (c : ℕ) → GoesOn n M b r ss t c → AllPairs (λ x y. x ≢ y) (map is_basic (t ∷ ss))
  distinct ss t c g = no_basis_twice (pivots n M b) (labels n) (beginning n M b r fr) t c (map is_basic ss) (on_path ss t c g).0

  pub all_distinct : (ss : List Tableau) (t : Tableau) (c : ℕ) → PathTo n M b r ss t c → AllPairs (λ x y. x ≢ y) (map is_basic (t ∷ ss))
  unfolding Ending
  all_distinct ss t c p = go (ending ss t c p)
    where
      go : Ending ss t c → AllPairs (λ x y. x ≢ y) (map is_basic (t ∷ ss))
      go (inl g) = distinct ss t c g
      go (inr w) = let o = on_path w.1 w.0 w.2 w.4 in
          subst (λ l. AllPairs (λ x y. x ≢ y) (map is_basic (t ∷ l))) (sym w.3) (AllPairs-cons (λ x y. x ≢ y) (is_basic t) (map is_basic (w.0 ∷ w.1)) (apart_all (is_basic t) (left_out w.0 t w.2 (z0_of n) o.1 o.0.almost.has_z0 o.0.almost.out w.5 refl) w.1 w.0 w.2 w.4) (distinct w.1 w.0 w.2 w.4))

  all_below : (ss : List Tableau) (t : Tableau) (c : ℕ) → PathTo n M b r ss t c → All (Below (suc (suc (n + n)))) (map is_basic (t ∷ ss))
  all_below [] t c p = All-cons (Below (suc (suc (n + n)))) (is_basic t) [] (basic_past n M b t (keys [] t c p).reached) (All-nil (Below (suc (suc (n + n)))))
  all_below (s ∷ ss) t c p = All-cons (Below (suc (suc (n + n)))) (is_basic t) (map is_basic (s ∷ ss)) (basic_past n M b t (keys (s ∷ ss) t c p).reached) (all_below ss s p.0 p.2)

  pub short : (ss : List Tableau) (t : Tableau) (c : ℕ) → PathTo n M b r ss t c → suc (length ss) ≤ 2 ^ suc (suc (n + n))
  short ss t c p = subst (λ m. suc m ≤ 2 ^ suc (suc (n + n))) (length-map ss is_basic) (sets-bound (suc (suc (n + n))) (map is_basic (t ∷ ss)) (all_below ss t c p) (all_distinct ss t c p))

  pub solved : (ss : List Tableau) (t : Tableau) (c : ℕ) → PathTo n M b r ss t c → basic_solution t (z0_of n) ≡ zero_ℚ → SolvesAt n M b t
  unfolding Ending
  solved ss t c p z = go (ending ss t c p)
    where
      go : Ending ss t c → SolvesAt n M b t
      go (inl g) = let w = on_path ss t c g in path_solved n M b r fr t c (map is_basic ss) w.0 w.1 z
      go (inr w) = let o = on_path w.1 w.0 w.2 w.4 in path_left n M b r fr w.0 t w.2 (map is_basic w.1) o.0 (next_keys n M b w.0 t w.2 (z0_of n) (o.1, w.5)) (after n M b w.0 t w.2 (z0_of n) (o.1, w.5))

  -- the value of z0 is positive where it is not 0
  above : (t : Tableau) → HasPositiveKeys n M b t → basic_solution t (z0_of n) ≢ zero_ℚ → zero_ℚ <ℚ basic_solution t (z0_of n)
  above t R ne = elim (eq_or_lt_of_le zero_ℚ (basic_solution t (z0_of n)) (value_sign n M b t R (z0_of n))) [ inl q ↦ absurd (ne (sym q)) | inr l ↦ l ]

  pub in_ray : (ss : List Tableau) (t : Tableau) (c column : ℕ) → PathTo n M b r ss t c → basic_solution t (z0_of n) ≢ zero_ℚ → column < t.width → t.nonbasic column ≡ c → ((i : ℕ) → i < n → t.cell i column ≤ℚ zero_ℚ) → IsRayAt n M b t column
  in_ray ss t c column p ne hc e none = let w = on_path ss t c (goes_on ss t c p ne) in path_ray n M b r fr t c column (map is_basic ss) w.0 w.1 hc e none (above t w.1 ne)

  pub leaving_row : (ss : List Tableau) (t : Tableau) (c column : ℕ) → ExcludesRays n M b → PathTo n M b r ss t c → basic_solution t (z0_of n) ≢ zero_ℚ → column < t.width → t.nonbasic column ≡ c → (row : ℕ) × IsLexicographicRow n w_of t column row
  leaving_row ss t c column cop p ne hc e = let w = on_path ss t c (goes_on ss t c p ne) in
      elim (lex_row_is (suc (suc (n + n))) n (start n M b) t column (is_start n M b) w.1.reached) [
        | inl none ↦ absurd (path_goes_on n M b r fr t c column (map is_basic ss) cop w.0 w.1 hc e (above t w.1 ne) none)
        | inr q ↦ q
      ]

  -- the variable that is next is nonbasic
  pub next_is_out : (ss : List Tableau) (t : Tableau) (c : ℕ) → PathTo n M b r ss t c → basic_solution t (z0_of n) ≢ zero_ℚ → (0 < c) × (c ≤ n + n) × (is_basic t c ≡ false)
  next_is_out ss t c p ne = go (which n c)
    where
      o : At (pivots n M b) (labels n) (beginning n M b r fr) t c (map is_basic ss)
      o = (on_path ss t c (goes_on ss t c p ne)).0

      go : Which n c → (0 < c) × (c ≤ n + n) × (is_basic t c ≡ false)
      go (inl h) = (h.0, (let k = h.1 in omega arith), o.almost.out)
      go (inr (inl h)) = ((let k = h.0 in omega arith), h.1, o.almost.out)
      go (inr (inr h)) = absurd (o.almost.paired (complement_neither n c h))

  -- only variables are basic
  pub basic_is_variable : (ss : List Tableau) (t : Tableau) (c i : ℕ) → PathTo n M b r ss t c → basic_solution t (z0_of n) ≢ zero_ℚ → i < t.rows → (0 < t.basic i) × (t.basic i ≤ z0_of n)
  basic_is_variable ss t c i p ne h = go (which n (t.basic i)) (cases_eq (t.basic i) (z0_of n))
    where
      o : At (pivots n M b) (labels n) (beginning n M b r fr) t c (map is_basic ss)
      o = (on_path ss t c (goes_on ss t c p ne)).0

      go : Which n (t.basic i) → (t.basic i ≡ z0_of n) ⊎ (t.basic i ≢ z0_of n) → (0 < t.basic i) × (t.basic i ≤ z0_of n)
      go w (inl e) = (omega (arith, e), omega (arith, e))
      go (inl a) (inr q) = (a.0, (let k = a.1 in omega arith))
      go (inr (inl a)) (inr q) = ((let k = a.0 in omega arith), (let k = a.1 in omega arith))
      go (inr (inr a)) (inr q) = absurd (o.almost.only (t.basic i) (basic_yes t i h) q (complement_neither n (t.basic i) a))

pub no_basis_occurs_twice : NoBasisOccursTwice
no_basis_occurs_twice n M b r ss t c fr p = all_distinct n M b r fr ss t c p

pub paths_are_short : PathsAreShort
paths_are_short n M b r ss t c fr p = short n M b r fr ss t c p

pub paths_end_in_rays : PathsEndInRays
paths_end_in_rays n M b r ss t c column fr p ne hc e none = in_ray n M b r fr ss t c column p ne hc e none

pub paths_end_solved : PathsEndSolved
paths_end_solved n M b r ss t c fr p z = solved n M b r fr ss t c p z

pub always_a_leaving_row : AlwaysALeavingRow
always_a_leaving_row rows columns one two r ss t c column f g costs fr p ne hc e = let s = costs_of rows columns one two in
    leaving_row (size s) (matrix s) (right_sides s) r fr ss t c column (sides_exclude_rays rows columns one two f g costs) p ne hc e

pub least_is_negative : LeastIsNegative
unfolding right_sides
least_is_negative rows columns one two r least = let s = costs_of rows columns one two in let i = s.X + (s.Y + 0) in
    linear (right_sides s r ∷ right_sides s i ∷ []) ((at 0 ⟨≤⟩ at 1) ∷ (at 1 ⟨=⟩ minus (lit (pos 1))) ∷ []) (at 0 ⟨<⟩ lit (pos 0)) (λ one z p h. omega (arith, ints)) (least i (omega arith), (six_p s zeros zeros (λ r. neg_ℚ (s.e r)) s.e (λ r. neg_ℚ (s.f r)) s.f 0 (omega arith), tt))

pub paths_are_unique : PathsAreUnique
paths_are_unique n M b r [] [] t t' c c' fr p q e = (alike_both (pivot (start n M b) r n) t t' p.0 q.0, p.1 ∙ sym q.1)
paths_are_unique n M b r [] (s ∷ ss) t t' c c' fr p q e = absurd (omega arith)
paths_are_unique n M b r (s ∷ ss) [] t t' c c' fr p q e = absurd (omega arith)
paths_are_unique n M b r (s ∷ ss) (s' ∷ ss') t t' c c' fr p q e = step (paths_are_unique n M b r ss ss' s s' p.0 q.0 fr p.2 q.2 (omega arith)) (keys n M b r fr ss s p.0 p.2) (keys n M b r fr ss' s' q.0 q.2)
  where
    step : Alike s s' × (p.0 ≡ q.0) → HasPositiveKeys n M b s → HasPositiveKeys n M b s' → Alike t t' × (c ≡ c')
    step w R R' = (alike_both (pivot s p.4.row p.4.column) t t' p.4.to (alike_trans (pivot s p.4.row p.4.column) (pivot s' p.4.row p.4.column) t' (alike_pivot s s' p.4.row p.4.column row_is p.4.column_in w.0) (subst (λ k. Alike (pivot s' k p.4.column) t') (sym row) (subst (λ j. Alike (pivot s' q.4.row j) t') (sym column) q.4.to))), p.5 ∙ ap (complement n) leaves ∙ sym q.5)
      where
        from : Alike s' s
        from = alike_sym s s' w.0

        row_is : p.4.row < s.rows
        row_is = row_in n M b s R.reached p.4.row p.4.chosen.within

        q_in : q.4.column < s.width
        q_in = into_width s' s from q.4.column q.4.column_in

        column : p.4.column ≡ q.4.column
        column = R.reached.proper.nonbasic_once p.4.column q.4.column p.4.column_in q_in (p.4.c_is ∙ w.1 ∙ sym q.4.c_is ∙ sym (w.0.nonbasic q.4.column q_in))

        row : p.4.row ≡ q.4.row
        row = lex_row_once n w_of s p.4.column p.4.row q.4.row p.4.chosen (subst (λ j. IsLexicographicRow n w_of s j q.4.row) (sym column) (alike_lex_row n n w_of s' s q.4.column q.4.row (let k : s'.rows ≡ n = R'.reached.rows in omega arith) q.4.column_in from q.4.chosen))

        leaves : p.1 ≡ q.1
        leaves = sym p.4.l_is ∙ w.0.basic p.4.row row_is ∙ ap s'.basic row ∙ q.4.l_is

-- ---- the least row
pub least_begins : (b : ℕ → ℚ) → IsLeastRow 1 b 0
least_begins b =
    record { within = omega arith; least = λ i h. (let e : i ≡ 0 = omega arith in subst (λ j. b 0 ≤ℚ b j) (sym e) (le_refl (b 0))); last = λ i l h. absurd (omega arith) }

pub least_taken : (k : ℕ) (b : ℕ → ℚ) (r : ℕ) → IsLeastRow k b r → b k ≤ℚ b r → IsLeastRow (k + 1) b k
least_taken k b r p h =
    record {
      within = omega arith;
      least = λ i l. elim (cases_eq i k) [ inl e ↦ subst (λ j. b k ≤ℚ b j) (sym e) (le_refl (b k)) | inr d ↦ le_trans (b k) (b r) (b i) h (p.least i (omega (arith, d))) ];
      last = λ i l g. absurd (omega arith);
    }

pub least_kept : (k : ℕ) (b : ℕ → ℚ) (r : ℕ) → IsLeastRow k b r → b r <ℚ b k → IsLeastRow (k + 1) b r
least_kept k b r p h =
    record {
      within = (let w : r < k = p.within in omega arith);
      least = λ i l. elim (cases_eq i k) [ inl e ↦ subst (λ j. b r ≤ℚ b j) (sym e) (le_of_lt (b r) (b k) h) | inr d ↦ p.least i (omega (arith, d)) ];
      last = λ i l g. elim (cases_eq i k) [ inl e ↦ subst (λ j. b r <ℚ b j) (sym e) h | inr d ↦ p.last i l (omega (arith, d)) ];
    }

-- some row is the last of those with the least right side
pub least_row : (n : ℕ) (b : ℕ → ℚ) → 0 < n → (r : ℕ) × IsLeastRow n b r
least_row zero b h = absurd (omega arith)
least_row (suc zero) b h = (0, least_begins b)
least_row (suc (suc n)) b h =
    let w = least_row (suc n) b (omega arith) in
    elim (le_or_lt (b (suc n)) (b w.0)) [
      | inl l ↦ (suc n, subst (λ m. IsLeastRow m b (suc n)) (add-one (suc n)) (least_taken (suc n) b w.0 w.1 l))
      | inr l ↦ (w.0, subst (λ m. IsLeastRow m b w.0) (add-one (suc n)) (least_kept (suc n) b w.0 w.1 l))
    ]

-- ---- the first row
pub first_rows_exist : FirstRowsExist
first_rows_exist n b i h neg = let w = least_row n b (omega arith) in
    (w.0, record { is_least = w.1; negative = linear (b w.0 ∷ b i ∷ []) ((at 0 ⟨≤⟩ at 1) ∷ (at 1 ⟨<⟩ lit (pos 0)) ∷ []) (at 0 ⟨<⟩ lit (pos 0)) (λ one z p q. omega (arith, ints)) (w.1.least i h, (neg, tt)) })
