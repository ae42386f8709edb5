-- The path has one end.
use Rattle.std.proofs.Common.{ℕ, suc, ◌<◌, ◌≡◌, ◌≢◌, inl, inr, List, [], ◌∷◌, Ok, Err, length, sym, ap, ◌∙◌, subst, subst₂, arith, All}
use Rattle.std.proofs.lemmas.Bool.{cases_lt}
use Rattle.rational.specs.Rational.{ℚ, zero_ℚ}
use Rattle.rational.proofs.Field.{not_lt_of_le}
use Rattle.linear_systems.specs.Rows.{basic_solution, IsLexicographicRow}
use Rattle.linear_systems.proofs.LexRowLemmas.{lex_row_once, below_cases}
use Rattle.frac128.specs.Steps.{StepFits, IsFirstUnfit}
use Rattle.frac128.proofs.FirstUnfitLemmas.{unfit_among, unfit_once}
use Rattle.lex_tableau.specs.Pivots.{pivot_number, steps_of_pivot}
use Rattle.lex_tableau.specs.declared.unfit_pivot.UnfitPivot.{UnfitPivot}
use Rattle.lex_tableau.specs.Rows.{WholeTableau, tableau, IsPivotOf, IsTableau}
use Rattle.lex_tableau.proofs.TableauLemmas.{pivot_once}
use Rattle.lemke_pivot.specs.ProblemPaths.{IsLeastRow, complement, w_of, z0_of}
use Rattle.lemke_pivot.specs.Ends.{EndsAreSingle}
use Rattle.lemke_pivot.specs.Parts.{Problem, size_of}
use Rattle.lemke_pivot.specs.Paths.{EndsSolved, EndsUnfit, ExactPathTo, ReplacesExactly, StopsAt}

-- ---- the first row
least_once : (n : ℕ) (b : ℕ → ℚ) (r s : ℕ) → IsLeastRow n b r → IsLeastRow n b s → r ≡ s
least_once n b r s h k = elim (cases_lt r s) [
  | inl l ↦ absurd (not_lt_of_le (b s) (b r) (k.least r h.within) (h.last s l k.within))
  | inr l ↦ elim (cases_lt s r) [
    | inl m ↦ absurd (not_lt_of_le (b r) (b s) (h.least s k.within) (k.last r m h.within))
    | inr m ↦ omega (arith, l, m)
  ]
]

-- ---- one pivot
-- where a variable enters
module _ (n : ℕ) (s : WholeTableau) (v : IsTableau s) (c i j k l : ℕ) (hi : i < (tableau s).width) (hj : j < (tableau s).width) (ei : (tableau s).nonbasic i ≡ c) (ej : (tableau s).nonbasic j ≡ c) (rk : IsLexicographicRow n w_of (tableau s) i k) (rl : IsLexicographicRow n w_of (tableau s) j l) where
  same_column : i ≡ j
  same_column = v.reached.reached.proper.nonbasic_once i j hi hj (ei ∙ sym ej)

  same_row : k ≡ l
  same_row = lex_row_once n w_of (tableau s) j k l (subst (λ x. IsLexicographicRow n w_of (tableau s) x k) same_column rk) rl

module _ (n : ℕ) (s : WholeTableau) (v : IsTableau s) (c l k : ℕ) (t u : WholeTableau) (p : ReplacesExactly n s c l t) (q : ReplacesExactly n s c k u) where
  column_is : p.replaces.column ≡ q.replaces.column
  column_is = same_column n s v c p.replaces.column q.replaces.column p.replaces.row q.replaces.row p.replaces.column_in q.replaces.column_in p.replaces.c_is q.replaces.c_is p.replaces.chosen q.replaces.chosen

  row_is : p.replaces.row ≡ q.replaces.row
  row_is = same_row n s v c p.replaces.column q.replaces.column p.replaces.row q.replaces.row p.replaces.column_in q.replaces.column_in p.replaces.c_is q.replaces.c_is p.replaces.chosen q.replaces.chosen

  replaces_same : (t ≡ u) × (l ≡ k)
  replaces_same = (
    pivot_once s t u q.replaces.row q.replaces.column p.fitting.is_tableau q.fitting.is_tableau (subst₂ (λ x y. IsPivotOf s x y t) row_is column_is p.fitting.pivot) q.fitting.pivot,
    sym p.replaces.l_is ∙ ap (λ x. (tableau s).basic x) row_is ∙ q.replaces.l_is,
  )

-- ---- the path
-- a path goes on from its tableau of this number
record GoesOn (m : WholeTableau) (n r k : ℕ) : Type 0 where
  earlier : List WholeTableau
  before : WholeTableau
  enters : ℕ
  leaves : ℕ
  after : WholeTableau
  length_is : length earlier ≡ k
  path : ExactPathTo m n r earlier before enters
  not_zero : basic_solution (tableau before) (z0_of n) ≢ zero_ℚ
  step : ReplacesExactly n before enters leaves after

module _ (m : WholeTableau) (n r : ℕ) where
  -- each tableau of a path is one
  pub valid_at : (ss : List WholeTableau) (t : WholeTableau) (c : ℕ) → ExactPathTo m n r ss t c → IsTableau t
  valid_at [] t c p = p.1.is_tableau
  valid_at (s ∷ ss) t c p = p.4.fitting.is_tableau

  path_same : (ss us : List WholeTableau) (t u : WholeTableau) (c d : ℕ) → ExactPathTo m n r ss t c → ExactPathTo m n r us u d → length ss ≡ length us → (t ≡ u) × (c ≡ d)
  path_same [] [] t u c d p q e = (pivot_once m t u r n p.1.is_tableau q.1.is_tableau p.1.pivot q.1.pivot, p.2 ∙ sym q.2)
  path_same [] (z ∷ us) t u c d p q e = absurd (omega (arith, e))
  path_same (s ∷ ss) [] t u c d p q e = absurd (omega (arith, e))
  path_same (s ∷ ss) (z ∷ us) t u c d p q e =
      let h : length ss ≡ length us = omega (arith, e) in
      let i = path_same ss us s z p.0 q.0 p.2 q.2 h in
      let here : ReplacesExactly n z q.0 p.1 t = subst₂ (λ a b. ReplacesExactly n a b p.1 t) i.0 i.1 p.4 in
      let last = replaces_same n z (valid_at us z q.0 q.2) q.0 p.1 q.1 t u here q.4 in
      (last.0, p.5 ∙ ap (complement n) last.1 ∙ sym q.5)

  begins_fit : (ss : List WholeTableau) (t : WholeTableau) (c : ℕ) → ExactPathTo m n r ss t c → All StepFits (steps_of_pivot m r n)
  begins_fit [] t c p = p.1.fits
  begins_fit (s ∷ ss) t c p = begins_fit ss s p.0 p.2

  goes_on : (ss : List WholeTableau) (t : WholeTableau) (c k : ℕ) → k < length ss → ExactPathTo m n r ss t c → GoesOn m n r k
  goes_on [] t c k h p = absurd (omega (arith, h))
  goes_on (s ∷ ss) t c k h p = elim (below_cases k (length ss) h) [
    | inl e ↦ record { earlier = ss; before = s; enters = p.0; leaves = p.1; after = t; length_is = sym e; path = p.2; not_zero = p.3; step = p.4 }
    | inr l ↦ goes_on ss s p.0 k l p.2
  ]

  -- no path goes on from where another ends
  solved_ends : (t : WholeTableau) (a : EndsSolved m n r t) → GoesOn m n r (length a.0) → ⊥
  solved_ends t a g =
      let s = path_same a.0 g.earlier t g.before a.1 g.enters a.2 g.path (sym g.length_is) in
      g.not_zero (sym (ap (λ (x : WholeTableau). basic_solution (tableau x) (z0_of n)) s.0) ∙ a.3)

  stop_ends : (stop : UnfitPivot) (earlier : List WholeTableau) (t : WholeTableau) → StopsAt m n r stop earlier t → GoesOn m n r (length earlier) → ⊥
  stop_ends stop earlier t a g =
      let s = path_same earlier g.earlier t g.before stop.entering g.enters a.path g.path (sym g.length_is) in
      let q : ReplacesExactly n t stop.entering g.leaves g.after = subst₂ (λ x y. ReplacesExactly n x y g.leaves g.after) (sym s.0) (sym s.1) g.step in
      let column : q.replaces.column ≡ a.column = same_column n t (valid_at earlier t stop.entering a.path) stop.entering q.replaces.column a.column q.replaces.row a.row q.replaces.column_in a.column_in q.replaces.c_is a.entering_is q.replaces.chosen a.chosen in
      let row : q.replaces.row ≡ a.row = same_row n t (valid_at earlier t stop.entering a.path) stop.entering q.replaces.column a.column q.replaces.row a.row q.replaces.column_in a.column_in q.replaces.c_is a.entering_is q.replaces.chosen a.chosen in
      unfit_among (steps_of_pivot t a.row a.column) stop.unfit a.unfit (subst₂ (λ x y. All StepFits (steps_of_pivot t x y)) row column q.fitting.fits)

  solved_same : (t u : WholeTableau) → EndsSolved m n r t → EndsSolved m n r u → t ≡ u
  solved_same t u a b = elim (cases_lt (length a.0) (length b.0)) [
    | inl l ↦ absurd (solved_ends t a (goes_on b.0 u b.1 (length a.0) l b.2))
    | inr l ↦ elim (cases_lt (length b.0) (length a.0)) [
      | inl k ↦ absurd (solved_ends u b (goes_on a.0 t a.1 (length b.0) k a.2))
      | inr k ↦ (path_same a.0 b.0 t u a.1 b.1 a.2 b.2 (omega (arith, l, k))).0
    ]
  ]

  solved_stops : (t : WholeTableau) (stop : UnfitPivot) (earlier : List WholeTableau) (u : WholeTableau) → EndsSolved m n r t → StopsAt m n r stop earlier u → ⊥
  solved_stops t stop earlier u a b = elim (cases_lt (length a.0) (length earlier)) [
    | inl l ↦ solved_ends t a (goes_on earlier u stop.entering (length a.0) l b.path)
    | inr l ↦ elim (cases_lt (length earlier) (length a.0)) [
      | inl k ↦ stop_ends stop earlier u b (goes_on a.0 t a.1 (length earlier) k a.2)
      | inr k ↦ b.goes_on (sym (ap (λ (x : WholeTableau). basic_solution (tableau x) (z0_of n)) (path_same a.0 earlier t u a.1 stop.entering a.2 b.path (omega (arith, l, k))).0) ∙ a.3)
    ]
  ]

  not_both : (t : WholeTableau) (stop : UnfitPivot) → EndsSolved m n r t → EndsUnfit m n r stop → ⊥
  not_both t stop a (inl b) = unfit_among (steps_of_pivot m r n) stop.unfit b.3 (begins_fit a.0 t a.1 a.2)
  not_both t stop a (inr b) = solved_stops t stop b.0 b.1 a b.2

  stops_here : (stop : UnfitPivot) (ss : List WholeTableau) (t : WholeTableau) (last : UnfitPivot) (us : List WholeTableau) (u : WholeTableau) → StopsAt m n r stop ss t → StopsAt m n r last us u → length ss ≡ length us → stop ≡ last
  stops_here stop ss t last us u a b q =
      let s = path_same ss us t u stop.entering last.entering a.path b.path q in
      let nonbasic : (tableau u).nonbasic a.column ≡ last.entering = sym (ap (λ (x : WholeTableau). (tableau x).nonbasic a.column) s.0) ∙ a.entering_is ∙ s.1 in
      let column_in : a.column < (tableau u).width = subst (λ x. a.column < (tableau x).width) s.0 a.column_in in
      let chosen : IsLexicographicRow n w_of (tableau u) a.column a.row = subst (λ x. IsLexicographicRow n w_of (tableau x) a.column a.row) s.0 a.chosen in
      let column = same_column n u (valid_at us u last.entering b.path) last.entering a.column b.column a.row b.row column_in b.column_in nonbasic b.entering_is chosen b.chosen in
      let row = same_row n u (valid_at us u last.entering b.path) last.entering a.column b.column a.row b.row column_in b.column_in nonbasic b.entering_is chosen b.chosen in
      let here : IsFirstUnfit (steps_of_pivot u b.row b.column) stop.unfit = subst₂ (λ x y. IsFirstUnfit (steps_of_pivot u x y) stop.unfit) row column (subst (λ x. IsFirstUnfit (steps_of_pivot x a.row a.column) stop.unfit) s.0 a.unfit) in
      let number : stop.number ≡ last.number = a.number ∙ ap (λ k. pivot_number (suc (suc k))) q ∙ sym b.number in
      let entering : stop.entering ≡ last.entering = s.1 in
      let unfit : stop.unfit ≡ last.unfit = unfit_once (steps_of_pivot u b.row b.column) stop.unfit last.unfit here b.unfit in
      λ i. record { number = number i; entering = entering i; unfit = unfit i }

  stops_same : (stop : UnfitPivot) (ss : List WholeTableau) (t : WholeTableau) (last : UnfitPivot) (us : List WholeTableau) (u : WholeTableau) → StopsAt m n r stop ss t → StopsAt m n r last us u → stop ≡ last
  stops_same stop ss t last us u a b = elim (cases_lt (length ss) (length us)) [
    | inl l ↦ absurd (stop_ends stop ss t a (goes_on us u last.entering (length ss) l b.path))
    | inr l ↦ elim (cases_lt (length us) (length ss)) [
      | inl k ↦ absurd (stop_ends last us u b (goes_on ss t stop.entering (length us) k a.path))
      | inr k ↦ stops_here stop ss t last us u a b (omega (arith, l, k))
    ]
  ]

  unfit_same : (stop last : UnfitPivot) → EndsUnfit m n r stop → EndsUnfit m n r last → stop ≡ last
  unfit_same stop last (inl a) (inl b) =
      (let number : stop.number ≡ last.number = a.0 ∙ sym b.0 in
      let entering : stop.entering ≡ last.entering = a.1 ∙ sym b.1 in
      let unfit : stop.unfit ≡ last.unfit = unfit_once (steps_of_pivot m r n) stop.unfit last.unfit a.3 b.3 in
      λ i. record { number = number i; entering = entering i; unfit = unfit i })
  unfit_same stop last (inl a) (inr b) = absurd (unfit_among (steps_of_pivot m r n) stop.unfit a.3 (begins_fit b.0 b.1 last.entering b.2.path))
  unfit_same stop last (inr a) (inl b) = absurd (unfit_among (steps_of_pivot m r n) last.unfit b.3 (begins_fit a.0 a.1 stop.entering a.2.path))
  unfit_same stop last (inr a) (inr b) = stops_same stop a.0 a.1 last b.0 b.1 a.2 b.2

-- the step that ends a path
pub path_unfit : (m : WholeTableau) (n r : ℕ) (stop : UnfitPivot) → EndsUnfit m n r stop → ¬ (StepFits stop.unfit)
path_unfit m n r stop (inl a) = a.3.does_not_fit
path_unfit m n r stop (inr a) = a.2.unfit.does_not_fit

-- a problem by its parts
problem_same : (a b : Problem) → a.first ≡ b.first → a.second ≡ b.second → a.tableau ≡ b.tableau → a ≡ b
problem_same a b e f g = λ i. record { first = e i; second = f i; tableau = g i }

module _ (p : Problem) where
  row_once : (r s : ℕ) → IsLeastRow (size_of p) (tableau p.tableau).right r → IsLeastRow (size_of p) (tableau p.tableau).right s → s ≡ r
  row_once r s h k = least_once (size_of p) (tableau p.tableau).right s r k h

pub ends_same : EndsAreSingle
ends_same p h (Ok a) (Ok b) one other =
    (let path : EndsSolved p.tableau (size_of p) one.row b.tableau = subst (λ r. EndsSolved p.tableau (size_of p) r b.tableau) (row_once p one.row other.row one.begins other.begins) other.path in
    ap Ok (problem_same a b (one.first ∙ sym other.first) (one.second ∙ sym other.second) (solved_same p.tableau (size_of p) one.row a.tableau b.tableau one.path path)))
ends_same p h (Ok a) (Err stop) one other =
    (let path : EndsUnfit p.tableau (size_of p) one.row stop = subst (λ r. EndsUnfit p.tableau (size_of p) r stop) (row_once p one.row other.row one.begins other.begins) other.path in
    absurd (not_both p.tableau (size_of p) one.row a.tableau stop one.path path))
ends_same p h (Err stop) (Ok b) one other =
    (let path : EndsUnfit p.tableau (size_of p) other.row stop = subst (λ r. EndsUnfit p.tableau (size_of p) r stop) (row_once p other.row one.row other.begins one.begins) one.path in
    absurd (not_both p.tableau (size_of p) other.row b.tableau stop other.path path))
ends_same p h (Err stop) (Err last) one other =
    (let path : EndsUnfit p.tableau (size_of p) one.row last = subst (λ r. EndsUnfit p.tableau (size_of p) r last) (row_once p one.row other.row one.begins other.begins) other.path in
    ap Err (unfit_same p.tableau (size_of p) one.row stop last one.path path))
