-- The system of a form's problem has the form's costs.
use Rattle.std.proofs.Common.{ℕ, ◌<◌, ◌≡◌, ◌+◌, ◌*◌, ◌-◌, inl, inr, Bool, true, false, cond, eqb, List, [], ◌∷◌, All, Result, map, get_or, refl, sym, ap, ◌∙◌, subst, subst₂, arith, tests}
use Rattle.std.specs.Prelude.{◌==◌, ◌&&◌, if◌then◌else◌, IfOk}
use Rattle.std.proofs.lemmas.Bool.{cases_lt}
use Rattle.lists.proofs.OptionLemmas.{if_ok-then}
use Rattle.rational.specs.Rational.{ℚ, ◌+ℚ◌, ◌-ℚ◌, ◌*ℚ◌, neg_ℚ, one_ℚ, zero_ℚ}
use Rattle.rational.proofs.Field.{nonneg-add}
use Rattle.rational.proofs.RationalRing.{rational_ring}
use Rattle.rational.proofs.Ring.{ring, num, ◌:+◌, ◌:-◌, ◌:*◌, A, B, C, D, E}
use Rattle.linear_systems.specs.Rows.{Alike}
use Rattle.linear_systems.proofs.AgreementLemmas.{alike_trans}
use Rattle.sequence_forms.specs.Lists.{listed_at}
use Rattle.sequence_forms.specs.Prices.{costs, cost_at}
use Rattle.sequence_forms.specs.Sides.{Side, sequences}
use Rattle.lemke_pivot.specs.Problems.{Costs, costs_of, matrix, right_sides, rows_x, rows_y, size}
use Rattle.lex_tableau.specs.Starts.{LinearSystem, system_of}
use Rattle.sequence_data.specs.declared.types.Cell.{Cell}
use Rattle.sequence_data.specs.Data.{FormData, IsFormData, LeafFits, SideData, form, side_of}
use Rattle.sequence_data.proofs.GainLemmas.{costs_positive_one, costs_positive_two}
use Rattle.sequence_data.specs.Matrices.{IsInside, placed, HoldsNumbers, number_at}
use Rattle.lemke_pivot.specs.FormProblems.{IsSystemOf, cost_one, cost_two}
use Rattle.lemke_pivot.specs.Parts.{start_tableau}
use Rattle.lemke_pivot.specs.ProblemLaws.{CostSumsAreNotNegative}
use Rattle.lemke_pivot.specs.Systems.{IsSystemFor}

-- ---- costs of cells
cost_head : (b : Bool) (most weight payoff x y : ℚ) → (if b then cost_at most weight payoff else zero_ℚ) +ℚ ((most *ℚ y) -ℚ x) ≡ (most *ℚ ((if b then weight else zero_ℚ) +ℚ y)) -ℚ ((if b then payoff else zero_ℚ) +ℚ x)
cost_head true most weight payoff x y = ring rational_ring (most ∷ weight ∷ payoff ∷ x ∷ y ∷ []) ((A :* B :- C) :+ (A :* E :- D)) (A :* (B :+ E) :- (C :+ D)) refl
cost_head false most weight payoff x y = ring rational_ring (most ∷ x ∷ y ∷ []) (num 0 :+ (A :* C :- B)) (A :* (num 0 :+ C) :- (num 0 :+ B)) refl

placed_costs : (payoff : Cell → ℚ) (most : ℚ) (cells : List Cell) (r q : ℕ) → listed_at (placed cells (map (λ c. cost_at most c.weight (payoff c)) cells)) r q ≡ (most *ℚ listed_at (map (λ c. (c.row, c.column, c.weight)) cells) r q) -ℚ listed_at (map (λ c. (c.row, c.column, payoff c)) cells) r q
placed_costs payoff most [] r q = ring rational_ring (most ∷ []) (num 0) (A :* num 0 :- num 0) refl
placed_costs payoff most (c ∷ cells) r q =
    ap (λ x. (if r == c.row && q == c.column then cost_at most c.weight (payoff c) else zero_ℚ) +ℚ x) (placed_costs payoff most cells r q) ∙ cost_head (r == c.row && q == c.column) most c.weight (payoff c) _ _

-- ---- the same costs make the same start
module _ (rows columns : Side) (one two other_one other_two : ℕ → ℕ → ℚ) (same_one : (r q : ℕ) → r < sequences rows → q < sequences columns → one r q ≡ other_one r q) (same_two : (r q : ℕ) → r < sequences rows → q < sequences columns → two r q ≡ other_two r q) where
  abbrev s : Costs
  s = costs_of rows columns one two

  abbrev u : Costs
  u = costs_of rows columns other_one other_two

  row_x_same : (i j : ℕ) → i < sequences rows → rows_x s i j ≡ rows_x u i j
  row_x_same i j h = elim (cases_lt j (sequences rows)) [
    | inl l ↦ grind (arith, tests)
    | inr l ↦ elim (cases_lt (j - sequences rows) (sequences columns)) [
      | inl k ↦ (let e = same_one i (j - sequences rows) h k in grind (arith, tests, e))
      | inr k ↦ grind (arith, tests)
    ]
  ]

  row_y_same : (i j : ℕ) → i < sequences columns → rows_y s i j ≡ rows_y u i j
  row_y_same i j h = elim (cases_lt j (sequences rows)) [
    | inl l ↦ (let e = same_two j i l h in grind (arith, tests, e))
    | inr l ↦ grind (arith, tests)
  ]

  matrix_same : (i j : ℕ) → matrix s i j ≡ matrix u i j
  unfolding matrix
  matrix_same i j = elim (cases_lt i (sequences rows)) [
    | inl l ↦ (let e = row_x_same i j l in grind (arith, tests, e))
    | inr l ↦ elim (cases_lt (i - sequences rows) (sequences columns)) [
      | inl k ↦ (let e = row_y_same (i - sequences rows) j k in grind (arith, tests, e))
      | inr k ↦ grind (arith, tests)
    ]
  ]

  right_same : (i : ℕ) → right_sides s i ≡ right_sides u i
  unfolding right_sides
  right_same i = refl

  pub starts_same : Alike (start_tableau rows columns one two) (start_tableau rows columns other_one other_two)
  starts_same =
      record {
        rows = refl;
        width = refl;
        basic = λ i h. refl;
        nonbasic = λ j h. refl;
        cell = λ i j h l. ap (λ m. cond (eqb j (size s)) (neg_ℚ one_ℚ) (neg_ℚ m)) (matrix_same i j);
        right = λ i h. right_same i;
      }

-- ---- a form's system
module _ (f : FormData) (valid : IsFormData f) where
  first_count : f.first.sequences ≡ sequences (side_of f.first)
  first_count = valid.first_is.sequences_are

  second_count : f.second.sequences ≡ sequences (side_of f.second)
  second_count = valid.second_is.sequences_are

  costs_are : (payoff : Cell → ℚ) (most : ℚ) (numbers held : List ℚ) → numbers ≡ map (λ c. cost_at most c.weight (payoff c)) f.cells → HoldsNumbers f.first.sequences f.second.sequences (placed f.cells numbers) held → (r q : ℕ) → r < sequences (side_of f.first) → q < sequences (side_of f.second) → number_at held (sequences (side_of f.second)) r q ≡ (most *ℚ listed_at (map (λ c. (c.row, c.column, c.weight)) f.cells) r q) -ℚ listed_at (map (λ c. (c.row, c.column, payoff c)) f.cells) r q
  costs_are payoff most numbers held e holds r q hr hq =
      ap (λ n. get_or held (r * n + q) zero_ℚ) (sym second_count) ∙ holds r q (subst (λ n. r < n) (sym first_count) hr) (subst (λ n. q < n) (sym second_count) hq) ∙ ap (λ xs. listed_at (placed f.cells xs) r q) e ∙ placed_costs payoff most f.cells r q

  system_has_costs : (one two held_one held_two : List ℚ) (s : LinearSystem) → one ≡ map (cost_one f.greatest_one) f.cells → two ≡ map (cost_two f.greatest_two) f.cells → HoldsNumbers f.first.sequences f.second.sequences (placed f.cells one) held_one → HoldsNumbers f.first.sequences f.second.sequences (placed f.cells two) held_two → IsSystemFor f.first f.second (number_at held_one (sequences (side_of f.second))) (number_at held_two (sequences (side_of f.second))) s → IsSystemOf f s
  system_has_costs one two held_one held_two s e g holds_one holds_two w =
      record {
        valid = w.valid;
        rated = w.rated;
        begins = alike_trans (start_tableau (side_of f.first) (side_of f.second) (costs (form f) 0 f.greatest_one) (costs (form f) 1 f.greatest_two)) (start_tableau (side_of f.first) (side_of f.second) (number_at held_one (sequences (side_of f.second))) (number_at held_two (sequences (side_of f.second)))) (system_of s)
            (starts_same (side_of f.first) (side_of f.second) (costs (form f) 0 f.greatest_one) (costs (form f) 1 f.greatest_two) (number_at held_one (sequences (side_of f.second))) (number_at held_two (sequences (side_of f.second)))
            (λ r q hr hq. sym (costs_are (λ c. c.one) f.greatest_one one held_one e holds_one r q hr hq)) (λ r q hr hq. sym (costs_are (λ c. c.two) f.greatest_two two held_two g holds_two r q hr hq))) w.begins;
      }

  cells_within : All (IsInside f.first.sequences f.second.sequences) f.cells
  cells_within k d l =
      let w = valid.of_leaves.cells_are.of_leaves k d l in
      let fits = subst (LeafFits f.first.sequences f.second.sequences) w.3 (valid.leaves_fit w.0 w.1 w.2) in
      (subst (λ n. n < f.first.sequences) w.4.0 fits.row_within, subst (λ n. n < f.second.sequences) w.4.1 fits.column_within)

-- ---- as it was read
module _ (f : FormData) (valid : IsFormData f) (cells : List Cell) (x y : ℕ) (ec : cells ≡ f.cells) (ex : x ≡ f.first.sequences) (ey : y ≡ f.second.sequences) where
  pub cells_read : All (IsInside x y) cells
  cells_read = subst (λ xs. All (IsInside x y) xs) (sym ec) (subst₂ (λ a b. All (IsInside a b) f.cells) (sym ex) (sym ey) (cells_within f valid))

  held : (numbers found : List ℚ) → HoldsNumbers x y (placed cells numbers) found → HoldsNumbers f.first.sequences f.second.sequences (placed f.cells numbers) found
  held numbers found h = subst₂ (λ a b. HoldsNumbers a b (placed f.cells numbers) found) ex ey (subst (λ xs. HoldsNumbers x y (placed xs numbers) found) ec h)

  module _ (one two held_one held_two seen_one seen_two : List ℚ) (one_is : one ≡ map (cost_one f.greatest_one) f.cells) (two_is : two ≡ map (cost_two f.greatest_two) f.cells) (holds_one : HoldsNumbers x y (placed cells one) held_one) (holds_two : HoldsNumbers x y (placed cells two) held_two) (seen_one_is : seen_one ≡ held_one) (seen_two_is : seen_two ≡ held_two) where
    pub system_read : {R : Type 0} (r : Result LinearSystem R) (first second : SideData) → first ≡ f.first → second ≡ f.second → IfOk r (IsSystemFor first second (number_at seen_one (sequences (side_of second))) (number_at seen_two (sequences (side_of second)))) → IfOk r (IsSystemOf f)
    system_read r first second e g w =
        let found : IfOk r (IsSystemFor f.first f.second (number_at held_one (sequences (side_of f.second))) (number_at held_two (sequences (side_of f.second)))) =
        subst₂ (λ a b. IfOk r (IsSystemFor a b (number_at held_one (sequences (side_of b))) (number_at held_two (sequences (side_of b))))) e g
        (subst₂ (λ a b. IfOk r (IsSystemFor first second (number_at a (sequences (side_of second))) (number_at b (sequences (side_of second))))) seen_one_is seen_two_is w) in
        if_ok-then r _ (IsSystemOf f) found (λ s k. system_has_costs f valid one two held_one held_two s one_is two_is (held one held_one holds_one) (held two held_two holds_two) k)

-- the system of a form is that of a problem
pub for_sides : (f : FormData) (s : LinearSystem) (first second : SideData) → IsFormData f → first ≡ f.first → second ≡ f.second → IsSystemOf f s → (one two : ℕ → ℕ → ℚ) × CostSumsAreNotNegative (costs_of (side_of first) (side_of second) one two) × IsSystemFor first second one two s
for_sides f s first second valid e g h =
    let one = costs (form f) 0 f.greatest_one in
    let two = costs (form f) 1 f.greatest_two in
    subst₂ (λ (a b : SideData). (one two : ℕ → ℕ → ℚ) × CostSumsAreNotNegative (costs_of (side_of a) (side_of b) one two) × IsSystemFor a b one two s) (sym e) (sym g)
    (one, two, (λ i j hi hj. nonneg-add _ _ (costs_positive_one f i j valid) (costs_positive_two f i j valid)), h)
