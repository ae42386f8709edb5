-- The objective of the program is bounded.
use Rattle.std.proofs.Common.{ℕ, zero, suc, pos, ◌<◌, ◌≤◌, ◌≡◌, ◌+◌, sym, ap, ◌∙◌, subst, [], ◌∷◌, arith, inl, inr}
use Rattle.std.specs.Prelude.{◌==◌, if◌then◌else◌}
use Rattle.std.proofs.lemmas.Int.{ints}
use Rattle.std.proofs.lemmas.Bool.{cases_lt, cases_eq}
use Rattle.rational.specs.Rational.{ℚ, ◌*ℚ◌, ◌-ℚ◌, zero_ℚ, ◌≤ℚ◌}
use Rattle.rational.specs.Sum.{sum_to}
use Rattle.rational.proofs.Linear.{linear, at, lit, ◌⟨+⟩◌, ◌⟨-⟩◌, ◌⟨≤⟩◌, ◌⟨<⟩◌, ◌⟨=⟩◌}
use Rattle.rational.proofs.Field.{lt_irrefl, le_antisymm}
use Rattle.rational.proofs.SumLemmas.{sum_to-zeros, sum_to-nonneg, each_zero}
use Rattle.rational.proofs.Rules.{zero-*ℚ, times_zero}
use Rattle.game_theory.specs.Mixed.{sure}
use Rattle.game_theory.proofs.SureStrategyLemmas.{sure-other}
use Rattle.linear_systems.specs.Tableau.{left}
use Rattle.linear_systems.specs.RowEquivalence.{IsStart}
use Rattle.sequence_forms.specs.Sides.{Side, first, sequences, place, IsOrderedSide}
use Rattle.sequence_forms.specs.Matrices.{set_row, row_total, column_total, AreNotNegative}
use Rattle.sequence_forms.specs.Prices.{prices_after}
use Rattle.sequence_forms.proofs.MatrixLemmas.{row-whole, row-set, columns_net}
use Rattle.sequence_forms.proofs.PriceLemmas.{price_if}
use Rattle.sequence_forms.proofs.SideLemmas.{first_up, first_pos, place-empty, place-set, sequence_below}
use Rattle.sequence_forms.proofs.FlowLemmas.{ordered_flow}
use Rattle.zero_sum_lp.specs.Paths.{LinearProgram, IsFeasibleAndBounded, IsUnbounded}
use Rattle.zero_sum_lp.specs.Programs.{constraints, IsProgramOf}
use Rattle.zero_sum_lp.proofs.PlanWeightLemmas.{each_sequence}
use Rattle.zero_sum_lp.proofs.ProgramLemmas.{is_program, is_start, right_nonneg, program_one, program_two, program_goal}

-- ---- nothing but 0 solves E x <= 0, x >= 0: set by set
pub only_zero : (d : Side) (x : ℕ → ℚ) → IsOrderedSide d → AreNotNegative (sequences d) x → ((k : ℕ) → k < suc d.sets → row_total d x k ≤ℚ zero_ℚ) → (q : ℕ) → q < sequences d → x q ≡ zero_ℚ
only_zero d x o sign low =
    each_sequence d (λ q. x q ≡ zero_ℚ) o (le_antisymm (x 0) zero_ℚ (subst (λ u. u ≤ℚ zero_ℚ) (row-whole d x) (low 0 (omega arith))) (sign 0 (first_pos d.count d.sets))) next d.sets (omega arith)
  where
    next : (j : ℕ) → j < d.sets → x (d.before j) ≡ zero_ℚ → (a : ℕ) → a < d.count j → x (first d j + a) ≡ zero_ℚ
    next j h e =
        let last : first d j + d.count j ≤ sequences d = first_up d.count j d.sets h in
        let own : (a : ℕ) → a < d.count j → zero_ℚ ≤ℚ x (first d j + a) = λ a l. sign (first d j + a) (omega arith) in
        each_zero (d.count j) (λ a. x (first d j + a)) own (linear (sum_to (d.count j) (λ a. x (first d j + a)) ∷ x (d.before j) ∷ []) (((at 0 ⟨-⟩ at 1) ⟨≤⟩ lit (pos 0)) ∷ (at 1 ⟨=⟩ lit (pos 0)) ∷ (lit (pos 0) ⟨≤⟩ at 0) ∷ []) (at 0 ⟨=⟩ lit (pos 0)) (λ one z u v. omega (arith, ints)) (subst (λ u. u ≤ℚ zero_ℚ) (row-set d x j (ordered_flow d o).side h) (low (suc j) (omega arith)), (e, (sum_to-nonneg (d.count j) _ own, tt))))

-- ---- nothing but 0 solves F' q <= 0, q >= 0: from the last set to the first
-- prices after the first sequence of a set, or after the empty one, are those of later sets
later_zero : (d : Side) (p : ℕ → ℚ) (q n : ℕ) → ((j : ℕ) → j < d.sets → d.before j ≡ q → n < suc j) → ((j : ℕ) → n < j → j < suc d.sets → p j ≡ zero_ℚ) → prices_after d p q ≡ zero_ℚ
later_zero d p q n later zeros = sum_to-zeros d.sets _ term
  where
    term : (j : ℕ) → j < d.sets → (if q == d.before j then p (suc j) else zero_ℚ) ≡ zero_ℚ
    term j h =
        price_if (q == d.before j) (p (suc j))
        ∙ elim (cases_eq q (d.before j)) [
          | inl e ↦ times_zero (sure (d.before j) q) (p (suc j)) (zeros (suc j) (later j h (sym e)) (omega arith))
          | inr ne ↦ (ap (λ u. u *ℚ p (suc j)) (sure-other (d.before j) q ne) ∙ zero-*ℚ (p (suc j)))
        ]

-- a sequence whose net price is that of its place is at most 0
place_zero : (d : Side) (p : ℕ → ℚ) (q n : ℕ) → q < sequences d → place d q ≡ n → zero_ℚ ≤ℚ p n → column_total d p q ≤ℚ zero_ℚ → prices_after d p q ≡ zero_ℚ → p n ≡ zero_ℚ
place_zero d p q n hq e up low later =
    linear (p n ∷ prices_after d p q ∷ []) ((lit (pos 0) ⟨≤⟩ at 0) ∷ ((at 0 ⟨-⟩ at 1) ⟨≤⟩ lit (pos 0)) ∷ (at 1 ⟨=⟩ lit (pos 0)) ∷ []) (at 0 ⟨=⟩ lit (pos 0)) (λ one z u v. omega (arith, ints)) (up, (subst (λ u. u ≤ℚ zero_ℚ) (columns_net d p q hq ∙ ap (λ k. p k -ℚ prices_after d p q) e) low, (later, tt)))

one_zero : (d : Side) (p : ℕ → ℚ) → IsOrderedSide d → AreNotNegative (suc d.sets) p → ((q : ℕ) → q < sequences d → column_total d p q ≤ℚ zero_ℚ) → (n : ℕ) → n < suc d.sets → ((j : ℕ) → n < j → j < suc d.sets → p j ≡ zero_ℚ) → p n ≡ zero_ℚ
one_zero d p o sign low zero h zeros =
    let here : 0 < sequences d = first_pos d.count d.sets in
    place_zero d p 0 0 here (place-empty d.count d.sets) (sign 0 h) (low 0 here) (later_zero d p 0 0 (λ j l e. omega arith) zeros)
one_zero d p o sign low (suc j) h zeros =
    let k : j < d.sets = omega arith in
    let here : first d j + 0 < sequences d = sequence_below d j 0 k (o.some_action j k) in
    place_zero d p (first d j + 0) (suc j) here (place-set d.count d.sets j 0 k (o.some_action j k)) (sign (suc j) h) (low (first d j + 0) here) (later_zero d p (first d j + 0) (suc j) after zeros)
  where
    after : (i : ℕ) → i < d.sets → d.before i ≡ first d j + 0 → suc j < suc i
    after i l e =
        elim (cases_lt j i) [
          | inl m ↦ omega arith
          | inr m ↦ absurd (elim (cases_eq i j) [
            | inl q ↦ (let b : d.before i < first d i = o.follows i l in let f : first d i ≡ first d j = ap (first d) q in omega arith)
            | inr ne ↦ (let b : d.before i < first d i = o.follows i l in let u : first d i + d.count i ≤ first d j = first_up d.count i j (omega arith) in omega arith)
          ])
        ]

all_zero : (d : Side) (p : ℕ → ℚ) → IsOrderedSide d → AreNotNegative (suc d.sets) p → ((q : ℕ) → q < sequences d → column_total d p q ≤ℚ zero_ℚ) → (g n : ℕ) → n < suc d.sets → suc d.sets ≤ n + g → p n ≡ zero_ℚ
all_zero d p o sign low zero n h l = absurd (omega arith)
all_zero d p o sign low (suc g) n h l = one_zero d p o sign low n h (λ j nj hj. all_zero d p o sign low g j hj (omega arith))

-- ---- the objective
module _ (rows columns : Side) (gain : ℕ → ℕ → ℚ) (g : LinearProgram) (ro : IsOrderedSide rows) (co : IsOrderedSide columns) (p : IsProgramOf rows columns gain g) (ray : IsUnbounded (constraints rows columns) g.start) where
  column : (j : ℕ) → j < sequences rows + suc columns.sets → zero_ℚ ≤ℚ ray.along (g.start.nonbasic j)
  column j hj = ray.not_negative (g.start.nonbasic j) (λ i mi hi e. (is_start rows columns gain g p).proper.apart i j hi (subst (λ n. j < n) p.start.width hj) (sym e))

  slack : (i : ℕ) → i < constraints rows columns → zero_ℚ ≤ℚ ray.along (g.start.basic i)
  slack i hi = ray.not_negative (g.start.basic i) (λ l ml hl e. let w : suc (constraints rows columns) ≡ g.start.rows = p.start.rows in let same : i ≡ l = (is_start rows columns gain g p).proper.basic_once i l (omega arith) hl e in absurd (omega arith))

  solves : (i : ℕ) → i < suc (constraints rows columns) → left g.start ray.along i ≡ zero_ℚ
  solves i hi = ray.holds i (subst (λ n. i < n) p.start.rows hi)

  x_zero : (q : ℕ) → q < sequences rows → ray.along (g.start.nonbasic q) ≡ zero_ℚ
  x_zero =
      only_zero rows (λ j. ray.along (g.start.nonbasic j)) ro (λ j hj. column j (omega arith)) (λ i hi. linear (ray.along (g.start.basic i) ∷ row_total rows (λ j. ray.along (g.start.nonbasic j)) i ∷ []) ((lit (pos 0) ⟨≤⟩ at 0) ∷ ((at 0 ⟨+⟩ at 1) ⟨=⟩ lit (pos 0)) ∷ []) (at 1 ⟨≤⟩ lit (pos 0)) (λ one z u v. omega (arith, ints)) (slack i (omega arith), (sym (program_one (suc rows.sets) (sequences rows) (suc columns.sets) (sequences columns) (set_row rows) (set_row columns) gain g.start ray.along i (is_program rows columns gain g p) hi) ∙ solves i (omega arith), tt)))

  q_zero : (n : ℕ) → n < suc columns.sets → ray.along (g.start.nonbasic (sequences rows + n)) ≡ zero_ℚ
  q_zero n hn =
      all_zero columns (λ j. ray.along (g.start.nonbasic (sequences rows + j))) co (λ j hj. column (sequences rows + j) (omega arith)) (λ i hi. linear (ray.along (g.start.basic (suc rows.sets + i)) ∷ column_total columns (λ j. ray.along (g.start.nonbasic (sequences rows + j))) i ∷ sum_to (sequences rows) (λ j. gain j i *ℚ ray.along (g.start.nonbasic j)) ∷ []) ((lit (pos 0) ⟨≤⟩ at 0) ∷ ((at 0 ⟨+⟩ (at 1 ⟨-⟩ at 2)) ⟨=⟩ lit (pos 0)) ∷ (at 2 ⟨=⟩ lit (pos 0)) ∷ []) (at 1 ⟨≤⟩ lit (pos 0)) (λ one z u v. omega (arith, ints)) (slack (suc rows.sets + i) (omega arith), (sym (program_two (suc rows.sets) (sequences rows) (suc columns.sets) (sequences columns) (set_row rows) (set_row columns) gain g.start ray.along i (is_program rows columns gain g p) hi) ∙ solves (suc rows.sets + i) (omega arith), (sum_to-zeros (sequences rows) _ (λ j hj. times_zero (gain j i) _ (x_zero j hj)), tt)))) (suc columns.sets) n hn (omega arith)

  not_unbounded : ⊥
  not_unbounded =
      lt_irrefl zero_ℚ (linear (ray.along (g.start.basic (constraints rows columns)) ∷ ray.along (g.start.nonbasic (sequences rows + 0)) ∷ []) ((lit (pos 0) ⟨<⟩ at 0) ∷ ((at 0 ⟨-⟩ at 1) ⟨=⟩ lit (pos 0)) ∷ (at 1 ⟨=⟩ lit (pos 0)) ∷ []) (lit (pos 0) ⟨<⟩ lit (pos 0)) (λ one z u v. omega (arith, ints)) (ray.up, (sym (program_goal (suc rows.sets) (sequences rows) (suc columns.sets) (sequences columns) (set_row rows) (set_row columns) gain g.start ray.along (is_program rows columns gain g p) (omega arith)) ∙ solves (constraints rows columns) (omega arith), (q_zero 0 (omega arith), tt))))

-- the program is feasible and bounded
pub programs_feasible_and_bounded : (rows columns : Side) (gain : ℕ → ℕ → ℚ) (g : LinearProgram) → IsOrderedSide rows → IsOrderedSide columns → IsProgramOf rows columns gain g → IsFeasibleAndBounded g
programs_feasible_and_bounded rows columns gain g ro co p =
    let w : suc (constraints rows columns) ≡ g.start.rows = p.start.rows in
    let m : g.rated ≡ constraints rows columns = p.rated in
    record {
      begins = subst (λ r. IsStart g.bound r g.start) (sym m) (is_start rows columns gain g p);
      objective = omega arith;
      feasible = λ i h. right_nonneg rows columns gain g p i (omega arith);
      bounded = λ ray. not_unbounded rows columns gain g ro co p (subst (λ r. IsUnbounded r g.start) m ray);
    }
