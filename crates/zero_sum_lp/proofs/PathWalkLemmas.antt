-- The path over whole numbers is the path of the linear program.
use Rattle.std.proofs.Common.{ℕ, zero, suc, ◌<◌, ◌≡◌, ◌+◌, ◌-◌, ◌^◌, length, refl, sym, ap, ◌∙◌, subst, subst₂, arith}
use Rattle.rational.specs.Rational.{zero_ℚ, ◌≤ℚ◌}
use Rattle.rational.proofs.Field.{not_lt_of_le}
use Rattle.linear_systems.specs.Rows.{IsLexicographicRow}
use Rattle.linear_systems.proofs.LexRowLemmas.{lex_row_by}
use Rattle.zero_sum_lp.specs.Paths.{IsEntering, IsOptimal, IsAfter}
use Rattle.zero_sum_lp.proofs.DeterminedPathLemmas.{after_on_path, after_leaves, path_is_short}
use Rattle.frac128.specs.declared.steps.Unfit.{Unfit}
use Rattle.lex_tableau.specs.Rows.{WholeTableau, tableau}
use Rattle.lex_tableau.specs.Ratio.{variable_at}
use Rattle.frac128.specs.Steps.{IsFirstUnfit}
use Rattle.lex_tableau.specs.Pivots.{pivot_number, steps_of_pivot}
use Rattle.lex_tableau.proofs.PivotNumberLemmas.{pivot_number_next}
use Rattle.zero_sum_lp.specs.ExactPaths.{linear_program, IsProgramStart, IsExactStep, LeadsTo, EndsPath, IsUnfitPivot}

-- where a walk along the path is: after pivots that were counted from `past` on, and before the pivot
-- of this number
pub record IsUnderWay (first now : WholeTableau) (past pivots number : ℕ) : Type 0 where
  pub count : ℕ
  pub path : LeadsTo first count now
  pub counted : pivots ≡ count + past
  pub is_number : number ≡ pivot_number (suc count)

-- what the path keeps
pub kept : (first n : WholeTableau) (k : ℕ) → LeadsTo first k n → (n.starts ≡ first.starts) × (n.rated ≡ first.rated)
kept first n zero e = (ap (λ x. x.starts) e, ap (λ x. x.rated) e)
kept first n (suc k) w = let b = kept first w.0 k w.1.0 in (w.1.1.fitting.pivot.starts ∙ b.0, w.1.1.fitting.pivot.rated ∙ b.1)

-- a path over whole numbers is one of the linear program
pub leads_after : (first n : WholeTableau) (k : ℕ) → IsProgramStart first → LeadsTo first k n → IsAfter (linear_program first) k (tableau n)
leads_after first n zero s e = subst (λ x. IsAfter (linear_program first) 0 (tableau x)) (sym e) (record { rows = refl; width = refl; basic = λ i h. refl; nonbasic = λ j h. refl; cell = λ i j h l. refl; right = λ i h. refl })
leads_after first n (suc k) s w =
    let b = kept first w.0 k w.1.0 in
    let st = w.1.1 in (
      tableau w.0,
      (
        leads_after first w.0 k s w.1.0,
        record {
          column = st.column;
          row = st.row;
          entering = subst (λ m. IsEntering m (tableau w.0) st.column) b.1 st.entering;
          leaving = lex_row_by first.rated first.rated (variable_at first.starts) (tableau first).basic (tableau w.0) st.column st.row s.basics (subst₂ (λ m starts. IsLexicographicRow m (variable_at starts) (tableau w.0) st.column st.row) b.1 b.0 st.leaving);
          turned = st.fitting.pivot.fractions;
        },
      ),
    )

-- ---- where the path is
module _ (first now : WholeTableau) (k : ℕ) (s : IsProgramStart first) (w : LeadsTo first k now) where
  pub rows_kept : length now.basics ≡ length first.basics
  rows_kept = (after_on_path (linear_program first) k (tableau now) s.program (leads_after first now k s w)).reached.rows

  pub width_kept : length now.nonbasics ≡ length first.nonbasics
  width_kept = (after_on_path (linear_program first) k (tableau now) s.program (leads_after first now k s w)).reached.width

  pub objective_in : (m : ℕ) → m ≡ first.rated → m < length now.basics
  objective_in m e = let r = rows_kept in let o : first.rated < length first.basics = s.program.objective in omega arith

  pub short : k < 2 ^ suc (length first.basics + length first.nonbasics)
  short = path_is_short (linear_program first) k (tableau now) s.program (leads_after first now k s w)

  -- what a scan of all columns found enters
  pub found_enters : (m c : ℕ) → m ≡ first.rated → IsEntering m (tableau now) c → IsEntering now.rated (tableau now) c
  found_enters m c em e = subst (λ o. IsEntering o (tableau now) c) (em ∙ sym (kept first now k w).1) e

  pub none_optimal : (m : ℕ) → m ≡ first.rated → IsOptimal m (tableau now) → IsOptimal now.rated (tableau now)
  none_optimal m em h = subst (λ o. IsOptimal o (tableau now)) (em ∙ sym (kept first now k w).1) h

  -- an entering column has a positive entry in a constraint
  pub some_leaves : (c : ℕ) → IsEntering now.rated (tableau now) c → ((i : ℕ) → i < now.rated → (tableau now).cell i c ≤ℚ zero_ℚ) → ⊥
  some_leaves c e none =
      let same : now.rated ≡ first.rated = (kept first now k w).1 in
      let l = after_leaves (linear_program first) k (tableau now) c s.program (leads_after first now k s w) (subst (λ o. IsEntering o (tableau now) c) same e) in
      not_lt_of_le ((tableau now).cell l.0 c) zero_ℚ (none l.0 (subst (λ x. l.0 < x) (sym same) l.1.within)) l.1.positive

-- ---- for the loop
-- what a scan of the tableau as it was read found enters
pub read_enters : (first now seen : WholeTableau) (past pivots number m c : ℕ) → IsProgramStart first → IsUnderWay first now past pivots number → m ≡ first.rated → seen ≡ now → IsEntering m (tableau seen) c → IsEntering now.rated (tableau now) c
read_enters first now seen past pivots number m c s u em e f = found_enters first now u.count s u.path m c em (subst (λ x. IsEntering m (tableau x) c) e f)

-- and the tableau that was read has its lexicographic row
pub read_leaves : (now seen : WholeTableau) (c r : ℕ) → seen ≡ now → IsLexicographicRow seen.rated (variable_at seen.starts) (tableau seen) c r → IsLexicographicRow now.rated (variable_at now.starts) (tableau now) c r
read_leaves now seen c r e l = subst (λ x. IsLexicographicRow x.rated (variable_at x.starts) (tableau x) c r) e l

pub read_end : (first now seen : WholeTableau) (past pivots number m : ℕ) → IsProgramStart first → IsUnderWay first now past pivots number → m ≡ first.rated → seen ≡ now → IsOptimal m (tableau seen) → EndsPath first now
read_end first now seen past pivots number m s u em e f =
    record { count = u.count; path = u.path; optimal = none_optimal first now u.count s u.path m em (subst (λ x. IsOptimal m (tableau x)) e f) }

pub under_way_next : (first now new : WholeTableau) (past pivots pivots' number number' : ℕ) → IsUnderWay first now past pivots number → IsExactStep now new → pivots' ≡ pivots + 1 → number' ≡ pivot_number (suc number) → IsUnderWay first new past pivots' number'
under_way_next first now new past pivots pivots' number number' u st e n =
    let c : pivots ≡ u.count + past = u.counted in
    record { count = suc u.count; path = (now, (u.path, st)); counted = omega arith; is_number = n ∙ ap (λ k. pivot_number (suc k)) u.is_number ∙ pivot_number_next (suc u.count) }

pub under_way_less : (first now : WholeTableau) (past pivots number : ℕ) → IsProgramStart first → IsUnderWay first now past pivots number → pivots < 2 ^ suc (length first.basics + length first.nonbasics) + past
under_way_less first now past pivots number s u =
    let c : pivots ≡ u.count + past = u.counted in
    let b : u.count < 2 ^ suc (length first.basics + length first.nonbasics) = short first now u.count s u.path in
    omega arith

pub measure_falls : (a b c : ℕ) → c ≡ b + 1 → b < a → a - c < a - b
measure_falls a b c e h = omega arith

-- the pivot of a step that does not fit
pub is_unfit : (first now : WholeTableau) (past pivots number variable c r : ℕ) (unfit : Unfit) → IsUnderWay first now past pivots number → IsEntering now.rated (tableau now) c → IsLexicographicRow now.rated (variable_at now.starts) (tableau now) c r → variable ≡ (tableau now).nonbasic c → IsFirstUnfit (steps_of_pivot now r c) unfit → IsUnfitPivot first (record { number = number; entering = variable; unfit = unfit })
is_unfit first now past pivots number variable c r unfit u e l v f =
    record { count = u.count; before = now; path = u.path; column = c; row = r; enters = e; leaves = l; variable = v; is_number = u.is_number; first_unfit = f }
