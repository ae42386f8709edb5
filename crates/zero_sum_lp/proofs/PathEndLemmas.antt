-- The path has one end.
use Rattle.std.proofs.Common.{ℕ, zero, suc, ◌<◌, ◌≡◌, inl, inr, Ok, Err, sym, ap, ap₂, ◌∙◌, subst, subst₂, arith, All}
use Rattle.std.proofs.lemmas.Bool.{cases_lt}
use Rattle.rational.specs.Rational.{zero_ℚ}
use Rattle.rational.proofs.Field.{not_lt_of_le}
use Rattle.linear_systems.proofs.LexRowLemmas.{lex_row_once, below_cases}
use Rattle.zero_sum_lp.specs.Paths.{IsEntering, IsOptimal}
use Rattle.zero_sum_lp.proofs.DeterminedPathLemmas.{entering_once}
use Rattle.frac128.specs.Steps.{StepFits, IsFirstUnfit}
use Rattle.frac128.proofs.FirstUnfitLemmas.{unfit_among, unfit_once}
use Rattle.lex_tableau.specs.Pivots.{pivot_number, steps_of_pivot}
use Rattle.lex_tableau.specs.Ratio.{variable_at, IsLeavingRow}
use Rattle.lex_tableau.specs.declared.unfit_pivot.UnfitPivot.{UnfitPivot}
use Rattle.lex_tableau.specs.Rows.{WholeTableau, tableau, IsPivotOf, IsTableau}
use Rattle.lex_tableau.proofs.TableauLemmas.{pivot_once}
use Rattle.zero_sum_lp.specs.Ends.{EndsAreSingle}
use Rattle.zero_sum_lp.specs.Parts.{Program}
use Rattle.zero_sum_lp.specs.ExactPaths.{IsExactStep, LeadsTo, EndsPath, IsUnfitPivot}

-- ---- one step
-- the pivot of a tableau that is determined
module _ (m : WholeTableau) (v : IsTableau m) (c d r s : ℕ) (ec : IsEntering m.rated (tableau m) c) (ed : IsEntering m.rated (tableau m) d) (lr : IsLeavingRow m c r) (ls : IsLeavingRow m d s) where
  same_column : c ≡ d
  same_column = entering_once m.rated (tableau m) c d v.reached.reached.proper ec ed

  same_row : r ≡ s
  same_row = lex_row_once m.rated (variable_at m.starts) (tableau m) d r s (subst (λ x. IsLeavingRow m x r) same_column lr) ls

step_same : (m n o : WholeTableau) → IsTableau m → IsExactStep m n → IsExactStep m o → n ≡ o
step_same m n o v a b =
    let c = same_column m v a.column b.column a.row b.row a.entering b.entering a.leaving b.leaving in
    let r = same_row m v a.column b.column a.row b.row a.entering b.entering a.leaving b.leaving in
    pivot_once m n o b.row b.column a.fitting.is_tableau b.fitting.is_tableau (subst₂ (λ x y. IsPivotOf m x y n) r c a.fitting.pivot) b.fitting.pivot

-- ---- the path
-- what a path leads to is a tableau
pub valid_at : (first n : WholeTableau) (k : ℕ) → IsTableau first → LeadsTo first k n → IsTableau n
valid_at first n zero v e = subst IsTableau (sym e) v
valid_at first n (suc k) v w = w.1.1.fitting.is_tableau

path_same : (first n o : WholeTableau) (k : ℕ) → IsTableau first → LeadsTo first k n → LeadsTo first k o → n ≡ o
path_same first n o zero v e f = e ∙ sym f
path_same first n o (suc k) v w x =
    let e = path_same first w.0 x.0 k v w.1.0 x.1.0 in step_same x.0 n o (valid_at first x.0 k v x.1.0) (subst (λ m. IsExactStep m n) e w.1.1) x.1.1

-- a longer path takes a step from each tableau before its end
step_at : (first n : WholeTableau) (j k : ℕ) → k < j → LeadsTo first j n → (m : WholeTableau) × ((o : WholeTableau) × (LeadsTo first k m × IsExactStep m o))
step_at first n zero k l w = absurd (omega arith)
step_at first n (suc j) k l w = elim (below_cases k j l) [
  | inl e ↦ (w.0, (n, (subst (λ i. LeadsTo first i w.0) (sym e) w.1.0, w.1.1)))
  | inr h ↦ step_at first w.0 j k h w.1.0
]

not_optimal : (n : WholeTableau) (c : ℕ) → IsOptimal n.rated (tableau n) → IsEntering n.rated (tableau n) c → ⊥
not_optimal n c o e = not_lt_of_le zero_ℚ ((tableau n).cell n.rated c) (o c e.column) e.negative

module _ (first : WholeTableau) (v : IsTableau first) where
  -- from where a path takes a step there is another end neither of the path nor of its arithmetic
  step_from : (n o : WholeTableau) (k j : ℕ) → k < j → LeadsTo first k n → LeadsTo first j o → (p : WholeTableau) × IsExactStep n p
  step_from n o k j l w x =
      let s = step_at first o j k l x in
      (s.1.0, subst (λ m. IsExactStep m s.1.0) (path_same first s.0 n k v s.1.1.0 w) s.1.1.1)

  ended_goes_on : (n o : WholeTableau) (k j : ℕ) → k < j → LeadsTo first k n → IsOptimal n.rated (tableau n) → LeadsTo first j o → ⊥
  ended_goes_on n o k j l w opt x = let s = step_from n o k j l w x in not_optimal n s.1.column opt s.1.entering

  unfit_goes_on : (stop : UnfitPivot) (u : IsUnfitPivot first stop) (o : WholeTableau) (j : ℕ) → u.count < j → LeadsTo first j o → ⊥
  unfit_goes_on stop u o j l x =
      let s = step_from u.before o u.count j l u.path x in
      let w = valid_at first u.before u.count v u.path in
      let c = same_column u.before w s.1.column u.column s.1.row u.row s.1.entering u.enters s.1.leaving u.leaves in
      let r = same_row u.before w s.1.column u.column s.1.row u.row s.1.entering u.enters s.1.leaving u.leaves in
      unfit_among (steps_of_pivot u.before u.row u.column) stop.unfit u.first_unfit (subst₂ (λ a b. All StepFits (steps_of_pivot u.before a b)) r c s.1.fitting.fits)

  optima_same : (n o : WholeTableau) → EndsPath first n → EndsPath first o → n ≡ o
  optima_same n o a b = elim (cases_lt a.count b.count) [
    | inl l ↦ absurd (ended_goes_on n o a.count b.count l a.path a.optimal b.path)
    | inr l ↦ elim (cases_lt b.count a.count) [
      | inl k ↦ absurd (ended_goes_on o n b.count a.count k b.path b.optimal a.path)
      | inr k ↦ path_same first n o b.count v (subst (λ i. LeadsTo first i n) (let e : a.count ≡ b.count = omega (arith, l, k) in e) a.path) b.path
    ]
  ]

  not_both : (n : WholeTableau) (stop : UnfitPivot) → EndsPath first n → IsUnfitPivot first stop → ⊥
  not_both n stop a u = elim (cases_lt a.count u.count) [
    | inl l ↦ ended_goes_on n u.before a.count u.count l a.path a.optimal u.path
    | inr l ↦ elim (cases_lt u.count a.count) [
      | inl k ↦ unfit_goes_on stop u n a.count k a.path
      | inr k ↦ (let e : n ≡ u.before = path_same first n u.before u.count v (subst (λ i. LeadsTo first i n) (let q : a.count ≡ u.count = omega (arith, l, k) in q) a.path) u.path in not_optimal u.before u.column (subst (λ m. IsOptimal m.rated (tableau m)) e a.optimal) u.enters)
    ]
  ]

  unfit_same : (stop other : UnfitPivot) → (u : IsUnfitPivot first stop) → (w : IsUnfitPivot first other) → stop ≡ other
  unfit_same stop other u w = elim (cases_lt u.count w.count) [
    | inl l ↦ absurd (unfit_goes_on stop u w.before w.count l w.path)
    | inr l ↦ elim (cases_lt w.count u.count) [
      | inl k ↦ absurd (unfit_goes_on other w u.before u.count k u.path)
      | inr k ↦ same_here (let q : u.count ≡ w.count = omega (arith, l, k) in q)
    ]
  ]
    where
      same_here : u.count ≡ w.count → stop ≡ other
      same_here q =
          let e : u.before ≡ w.before = path_same first u.before w.before w.count v (subst (λ i. LeadsTo first i u.before) q u.path) w.path in
          let valid = valid_at first w.before w.count v w.path in
          let enters : IsEntering w.before.rated (tableau w.before) u.column = subst (λ m. IsEntering m.rated (tableau m) u.column) e u.enters in
          let leaves : IsLeavingRow w.before u.column u.row = subst (λ m. IsLeavingRow m u.column u.row) e u.leaves in
          let c = same_column w.before valid u.column w.column u.row w.row enters w.enters leaves w.leaves in
          let r = same_row w.before valid u.column w.column u.row w.row enters w.enters leaves w.leaves in
          let here : IsFirstUnfit (steps_of_pivot w.before w.row w.column) stop.unfit = subst₂ (λ a b. IsFirstUnfit (steps_of_pivot w.before a b) stop.unfit) r c (subst (λ m. IsFirstUnfit (steps_of_pivot m u.row u.column) stop.unfit) e u.first_unfit) in
          let number : stop.number ≡ other.number = u.is_number ∙ ap (λ i. pivot_number (suc i)) q ∙ sym w.is_number in
          let entering : stop.entering ≡ other.entering = u.variable ∙ ap₂ (λ (m : WholeTableau) (i : ℕ). (tableau m).nonbasic i) e c ∙ sym w.variable in
          let unfit : stop.unfit ≡ other.unfit = unfit_once (steps_of_pivot w.before w.row w.column) stop.unfit other.unfit here w.first_unfit in
          λ i. record { number = number i; entering = entering i; unfit = unfit i }

-- a program by its parts
program_same : (a b : Program) → a.first ≡ b.first → a.second ≡ b.second → a.tableau ≡ b.tableau → a ≡ b
program_same a b e f g = λ i. record { first = e i; second = f i; tableau = g i }

pub ends_same : EndsAreSingle
ends_same p h (Ok a) (Ok b) one other =
    ap Ok (program_same a b (one.first ∙ sym other.first) (one.second ∙ sym other.second) (optima_same p.tableau h.start.valid a.tableau b.tableau one.path other.path))
ends_same p h (Ok a) (Err stop) one other = absurd (not_both p.tableau h.start.valid a.tableau stop one.path other)
ends_same p h (Err stop) (Ok b) one other = absurd (not_both p.tableau h.start.valid b.tableau stop other.path one)
ends_same p h (Err stop) (Err last) one other = ap Err (unfit_same p.tableau h.start.valid stop last one other)
