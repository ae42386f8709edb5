-- The path is determined: after n steps there is at most one tableau, and no path goes on past its end.
use Rattle.std.proofs.Common.{ℕ, suc, zero, pos, ◌<◌, ◌≤◌, ◌≡◌, sym, subst, subst₂, [], ◌∷◌, arith, ◌^◌, add-one, ◌⊎◌, inl, inr}
use Rattle.std.proofs.lemmas.Bool.{cases_lt}
use Rattle.linear_systems.specs.Lex.{IsLexLess}
use Rattle.std.proofs.lemmas.Int.{ints}
use Rattle.rational.specs.Rational.{zero_ℚ, ◌≤ℚ◌, ◌<ℚ◌}
use Rattle.linear_systems.specs.Tableau.{Tableau, pivot}
use Rattle.rational.proofs.Linear.{linear, at, lit, ◌⟨≤⟩◌, ◌⟨<⟩◌}
use Rattle.rational.proofs.Field.{lt_irrefl, le_or_lt, not_lt_of_le}
use Rattle.linear_systems.specs.Rows.{key, HasDistinctVariables, Alike, IsLexicographicRow}
use Rattle.zero_sum_lp.specs.Paths.{LinearProgram, IsFeasibleAndBounded, IsEntering, IsOptimal, IsPathPivot, IsAfter}
use Rattle.linear_systems.proofs.LexLemmas.{lex_same}
use Rattle.linear_systems.proofs.RowLemmas.{key_alike}
use Rattle.linear_systems.proofs.AgreementLemmas.{alike_both, alike_trans, alike_pivot, alike_lex_row}
use Rattle.linear_systems.proofs.RowEquivalenceLemmas.{reached_alike}
use Rattle.linear_systems.proofs.LexRowLemmas.{lex_row_once, below_cases}
use Rattle.zero_sum_lp.proofs.PathBeginLemmas.{start_on_path}
use Rattle.zero_sum_lp.proofs.ObjectiveGrowthLemmas.{IsLexicographicallyFeasible, path_step, step_grows}
use Rattle.zero_sum_lp.proofs.RayLemmas.{leaving_row}
use Rattle.zero_sum_lp.proofs.PartialPathLemmas.{IsUnderway, underway_start, underway_step, underway_less}

-- ---- agreement
pub alike_entering : (m : ℕ) (t u : Tableau) (c : ℕ) → m < t.rows → Alike t u → IsEntering m t c → IsEntering m u c
alike_entering m t u c hm a e =
    record {
      column = subst (λ n. c < n) a.width e.column;
      negative = subst (λ x. x <ℚ zero_ℚ) (a.cell m c hm e.column) e.negative;
      least = λ j hj n. (let k : j < t.width = subst (λ n. j < n) (sym a.width) hj in subst₂ (λ x y. x ≤ y) (a.nonbasic c e.column) (a.nonbasic j k) (e.least j k (subst (λ x. x <ℚ zero_ℚ) (sym (a.cell m j hm k)) n)));
    }

pub entering_once : (m : ℕ) (t : Tableau) (c k : ℕ) → HasDistinctVariables t → IsEntering m t c → IsEntering m t k → c ≡ k
entering_once m t c k p a b =
    p.nonbasic_once c k a.column b.column (both (a.least k b.column b.negative) (b.least c a.column a.negative))
  where
    both : {x y : ℕ} → x ≤ y → y ≤ x → x ≡ y
    both h l = omega arith

-- ---- the path
begin : (g : LinearProgram) → IsFeasibleAndBounded g → IsLexicographicallyFeasible g.bound g.rated g.start g.start
begin g p = start_on_path g.bound g.rated g.start p.begins p.feasible

pub after_on_path : (g : LinearProgram) (n : ℕ) (t : Tableau) → IsFeasibleAndBounded g → IsAfter g n t → IsLexicographicallyFeasible g.bound g.rated g.start t
after_on_path g zero t p a =
    record {
      reached = reached_alike g.bound g.rated g.start g.start t p.begins.rated a (begin g p).reached;
      keys = λ i hi. (let w : g.rated ≤ g.start.rows = p.begins.rated in lex_same (suc g.rated) (key g.start.basic g.start i) _ (λ j _. key_alike g.start.basic g.start t i j a (omega arith)) ((begin g p).keys i hi));
    }
after_on_path g (suc n) u p f =
    let st = f.1.1 in
    path_step g.bound g.rated g.rated g.start f.0 u st.column st.row p.begins (after_on_path g n f.0 p f.1.0) (record { column = st.entering.column; negative = st.entering.negative; lex_row = st.leaving }) st.turned

-- two steps from tableaux that agree lead to tableaux that agree
pub step_once : (g : LinearProgram) (t t' u u' : Tableau) → IsFeasibleAndBounded g → IsLexicographicallyFeasible g.bound g.rated g.start t → IsLexicographicallyFeasible g.bound g.rated g.start t' → Alike t t' → IsPathPivot g t u → IsPathPivot g t' u' → Alike u u'
step_once g t t' u u' p x y w a b =
    let rows : t.rows ≡ g.start.rows = x.reached.rows in
    let hm : g.rated < g.start.rows = p.objective in
    let rl : a.row < g.rated = a.leaving.within in
    let same_c : a.column ≡ b.column = entering_once g.rated t' a.column b.column y.reached.proper (alike_entering g.rated t t' a.column (omega arith) w a.entering) b.entering in
    let same_r : a.row ≡ b.row = lex_row_once g.rated g.start.basic t' b.column a.row b.row (subst (λ c. IsLexicographicRow g.rated g.start.basic t' c a.row) same_c (alike_lex_row g.rated g.rated g.start.basic t t' a.column a.row (omega arith) a.entering.column w a.leaving)) b.leaving in
    alike_both (pivot t a.row a.column) u u' a.turned (alike_trans (pivot t a.row a.column) (pivot t' a.row a.column) u' (alike_pivot t t' a.row a.column (omega arith) a.entering.column w) (subst₂ (λ r c. Alike (pivot t' r c) u') (sym same_r) (sym same_c) b.turned))

pub after_once : (g : LinearProgram) (n : ℕ) (t u : Tableau) → IsFeasibleAndBounded g → IsAfter g n t → IsAfter g n u → Alike t u
after_once g zero t u p a b = alike_both g.start t u a b
after_once g (suc n) t u p f h = step_once g f.0 h.0 t u p (after_on_path g n f.0 p f.1.0) (after_on_path g n h.0 p h.1.0) (after_once g n f.0 h.0 p f.1.0 h.1.0) f.1.1 h.1.1

-- where the last row has no negative entry the path is at its end
pub path_ends : (g : LinearProgram) (n : ℕ) (t u : Tableau) → IsFeasibleAndBounded g → IsAfter g n t → IsOptimal g.rated t → IsAfter g (suc n) u → ⊥
path_ends g n t u p f none h =
    let x = after_on_path g n h.0 p h.1.0 in
    let rows : h.0.rows ≡ g.start.rows = x.reached.rows in
    let hm : g.rated < g.start.rows = p.objective in
    let within : g.rated < h.0.rows = omega arith in
    let k = alike_entering g.rated h.0 t h.1.1.column within (after_once g n h.0 t p h.1.0 f) h.1.1.entering in
    lt_irrefl zero_ℚ (linear (t.cell g.rated h.1.1.column ∷ []) ((lit (pos 0) ⟨≤⟩ at 0) ∷ (at 0 ⟨<⟩ lit (pos 0)) ∷ []) (lit (pos 0) ⟨<⟩ lit (pos 0)) (λ one z u v. omega (arith, ints)) (none h.1.1.column k.column, (k.negative, tt)))

-- the path has fewer than 2 ^ bound steps
pub after_chain : (g : LinearProgram) (n : ℕ) (t : Tableau) → IsFeasibleAndBounded g → IsAfter g n t → IsUnderway g t 0 n
after_chain g zero t p a = underway_start g t 0 (after_on_path g zero t p a)
after_chain g (suc n) u p f =
    let st = f.1.1 in
    subst (IsUnderway g u 0) (add-one n) (underway_step g f.0 u st.column st.row 0 n p (after_chain g n f.0 p f.1.0) st.entering.column st.entering.negative st.leaving st.turned)

pub path_is_short : (g : LinearProgram) (n : ℕ) (t : Tableau) → IsFeasibleAndBounded g → IsAfter g n t → n < 2 ^ g.bound
path_is_short g n t p f = let h = underway_less g t 0 n p (after_chain g n t p f) in omega arith

-- the objective row grows
pub after_grows : (g : LinearProgram) (n : ℕ) (t u : Tableau) → IsFeasibleAndBounded g → IsAfter g n t → IsPathPivot g t u → IsLexLess (suc g.rated) (key g.start.basic t g.rated) (key g.start.basic u g.rated)
after_grows g n t u p a st =
    step_grows g.bound g.rated g.rated g.start t u st.column st.row p.begins (omega arith) p.objective (after_on_path g n t p a) (record { column = st.entering.column; negative = st.entering.negative; lex_row = st.leaving }) st.turned

-- an entering column has its lexicographic row
pub after_leaves : (g : LinearProgram) (n : ℕ) (t : Tableau) (c : ℕ) → IsFeasibleAndBounded g → IsAfter g n t → IsEntering g.rated t c → (r : ℕ) × IsLexicographicRow g.rated g.start.basic t c r
after_leaves g n t c p a e = leaving_row g.bound g.rated g.start t c p.begins p.objective p.bounded (after_on_path g n t p a).reached e.column e.negative

-- the entering column among the first n, or none of them is negative
enters : (m n : ℕ) (t : Tableau) → n ≤ t.width → ((j : ℕ) → j < n → zero_ℚ ≤ℚ t.cell m j) ⊎ ((c : ℕ) × ((c < n) × ((t.cell m c <ℚ zero_ℚ) × ((j : ℕ) → j < n → t.cell m j <ℚ zero_ℚ → t.nonbasic c ≤ t.nonbasic j))))
enters m zero t h = inl (λ j l. absurd (omega arith))
enters m (suc n) t h = go (enters m n t (omega arith)) (le_or_lt zero_ℚ (t.cell m n))
  where
    Found : ℕ → ℕ → Type 0
    Found n c = (c < n) × ((t.cell m c <ℚ zero_ℚ) × ((j : ℕ) → j < n → t.cell m j <ℚ zero_ℚ → t.nonbasic c ≤ t.nonbasic j))

    go : ((j : ℕ) → j < n → zero_ℚ ≤ℚ t.cell m j) ⊎ ((c : ℕ) × Found n c) → (zero_ℚ ≤ℚ t.cell m n) ⊎ (t.cell m n <ℚ zero_ℚ) → ((j : ℕ) → j < suc n → zero_ℚ ≤ℚ t.cell m j) ⊎ ((c : ℕ) × Found (suc n) c)
    go (inl f) (inl l) = inl (λ j k. elim (below_cases j n k) [ inl e ↦ subst (λ i. zero_ℚ ≤ℚ t.cell m i) (sym e) l | inr k ↦ f j k ])
    go (inl f) (inr l) = inr (n, (omega arith, (l, λ j k q. elim (below_cases j n k) [ inl e ↦ subst (λ i. t.nonbasic n ≤ t.nonbasic i) (sym e) (omega arith) | inr k ↦ absurd (not_lt_of_le zero_ℚ (t.cell m j) (f j k) q) ])))
    go (inr w) (inl l) = inr (w.0, (let b = w.1.0 in omega arith, (w.1.1.0, λ j k q. elim (below_cases j n k) [ inl e ↦ absurd (not_lt_of_le zero_ℚ (t.cell m n) l (subst (λ i. t.cell m i <ℚ zero_ℚ) e q)) | inr k ↦ w.1.1.1 j k q ])))
    go (inr w) (inr l) = elim (cases_lt (t.nonbasic n) (t.nonbasic w.0)) [
      | inl less ↦ inr (n, (omega arith, (l, λ j k q. elim (below_cases j n k) [ inl e ↦ subst (λ i. t.nonbasic n ≤ t.nonbasic i) (sym e) (omega arith) | inr k ↦ (let b = w.1.1.1 j k q in omega arith) ])))
      | inr more ↦ inr (w.0, (let b = w.1.0 in omega arith, (w.1.1.0, λ j k q. elim (below_cases j n k) [ inl e ↦ subst (λ i. t.nonbasic w.0 ≤ t.nonbasic i) (sym e) more | inr k ↦ w.1.1.1 j k q ])))
    ]

-- a tableau of the path is optimal or goes on
pub after_goes_on : (g : LinearProgram) (n : ℕ) (t : Tableau) → IsFeasibleAndBounded g → IsAfter g n t → IsOptimal g.rated t ⊎ ((c : ℕ) × (IsEntering g.rated t c × ((r : ℕ) × IsLexicographicRow g.rated g.start.basic t c r)))
after_goes_on g n t p a = elim (enters g.rated t.width t (omega arith)) [
  | inl f ↦ inl f
  | inr w ↦ (let e : IsEntering g.rated t w.0 = record { column = w.1.0; negative = w.1.1.0; least = w.1.1.1 } in inr (w.0, (e, after_leaves g n t w.0 p a e)))
]
