-- The system of a form's program has the form's gains.
use Rattle.std.proofs.Common.{ℕ, suc, ◌<◌, ◌≤◌, ◌≡◌, ◌+◌, ◌*◌, ◌-◌, ◌^◌, inl, inr, Bool, true, false, List, [], ◌∷◌, All, Result, length, map, get_or, refl, sym, ap, ◌∙◌, subst, subst₂, arith, tests}
use Rattle.std.specs.Prelude.{◌==◌, ◌&&◌, if◌then◌else◌, IfOk}
use Rattle.std.proofs.Math.Nat.{mul-le-mul_right}
use Rattle.std.proofs.lemmas.Bool.{cases_lt}
use Rattle.rational.specs.Rational.{ℚ, ◌+ℚ◌, ◌-ℚ◌, ◌*ℚ◌, zero_ℚ}
use Rattle.rational.proofs.RationalRing.{rational_ring}
use Rattle.rational.proofs.Ring.{ring, num, ◌:+◌, ◌:-◌, ◌:*◌, A, B, C, D, E}
use Rattle.linear_systems.specs.Rows.{Alike}
use Rattle.zero_sum_lp.specs.Programs.{constraints, program_of, reply_cell}
use Rattle.linear_systems.proofs.AgreementLemmas.{alike_trans}
use Rattle.lex_tableau.specs.Starts.{LinearSystem, system_of}
use Rattle.game_core.specs.Limits.{most_rows}
use Rattle.sequence_forms.specs.Lists.{listed_at}
use Rattle.sequence_forms.specs.Prices.{gains}
use Rattle.sequence_forms.specs.Sides.{Side, sequences}
use Rattle.sequence_data.specs.declared.types.Cell.{Cell}
use Rattle.sequence_data.specs.Data.{FormData, IsFormData, LeafFits, SideData, form, side_of}
use Rattle.sequence_data.specs.Matrices.{IsInside, placed, HoldsNumbers, number_at}
use Rattle.sequence_data.specs.Sizes.{form_sizes, program_size}
use Rattle.zero_sum_lp.specs.FormPrograms.{IsSystemOf, cell_gain}
use Rattle.zero_sum_lp.specs.Systems.{IsSystemFor}
use Rattle.zero_sum_lp.proofs.OptimumLemmas.{sets_are}
use Rattle.lists.proofs.OptionLemmas.{if_ok-then}

-- ---- gains of cells
gain_head : (b : Bool) (least one weight x y : ℚ) → (if b then one -ℚ (least *ℚ weight) else zero_ℚ) +ℚ (x -ℚ (least *ℚ y)) ≡ ((if b then one else zero_ℚ) +ℚ x) -ℚ (least *ℚ ((if b then weight else zero_ℚ) +ℚ y))
gain_head true least one weight x y = ring rational_ring (least ∷ one ∷ weight ∷ x ∷ y ∷ []) ((B :- A :* C) :+ (D :- A :* E)) ((B :+ D) :- A :* (C :+ E)) refl
gain_head false least one weight x y = ring rational_ring (least ∷ x ∷ y ∷ []) (num 0 :+ (B :- A :* C)) ((num 0 :+ B) :- A :* (num 0 :+ C)) refl

placed_gains : (least : ℚ) (cells : List Cell) (r q : ℕ) → listed_at (placed cells (map (cell_gain least) cells)) r q ≡ listed_at (map (λ c. (c.row, c.column, c.one)) cells) r q -ℚ (least *ℚ listed_at (map (λ c. (c.row, c.column, c.weight)) cells) r q)
placed_gains least [] r q = ring rational_ring (least ∷ []) (num 0) (num 0 :- A :* num 0) refl
placed_gains least (c ∷ cells) r q =
    ap (λ x. (if r == c.row && q == c.column then cell_gain least c else zero_ℚ) +ℚ x) (placed_gains least cells r q) ∙ gain_head (r == c.row && q == c.column) least c.one c.weight _ _

-- ---- the same gains make the same program
module _ (rows columns : Side) (gain other : ℕ → ℕ → ℚ) (same : (r q : ℕ) → r < sequences rows → q < sequences columns → gain r q ≡ other r q) where
  reply_same : (q j : ℕ) → q < sequences columns → reply_cell rows columns gain q j ≡ reply_cell rows columns other q j
  reply_same q j h = elim (cases_lt j (sequences rows)) [
    | inl l ↦ (let e = same j q l h in grind (arith, tests, e))
    | inr l ↦ grind (arith, tests)
  ]

  cell_same : (i j : ℕ) → (program_of rows columns gain).cell i j ≡ (program_of rows columns other).cell i j
  cell_same i j = elim (cases_lt i (suc rows.sets)) [
    | inl l ↦ grind (arith, tests)
    | inr l ↦ elim (cases_lt i (constraints rows columns)) [
      | inl k ↦ (let e = reply_same (i - suc rows.sets) j (omega (arith, l, k)) in grind (arith, tests, e))
      | inr k ↦ grind (arith, tests)
    ]
  ]

  pub programs_same : Alike (program_of rows columns gain) (program_of rows columns other)
  programs_same = record { rows = refl; width = refl; basic = λ i h. refl; nonbasic = λ j h. refl; cell = λ i j h l. cell_same i j; right = λ i h. refl }

-- ---- a form's system
module _ (f : FormData) (valid : IsFormData f) where
  first_count : f.first.sequences ≡ sequences (side_of f.first)
  first_count = valid.first_is.sequences_are

  second_count : f.second.sequences ≡ sequences (side_of f.second)
  second_count = valid.second_is.sequences_are

  pub small : program_size (form_sizes f) ≤ most_rows → f.first.sequences * f.second.sequences < 2 ^ 32
  small few =
      let x : f.first.sequences ≤ 512 = omega (arith, few, first_count) in
      let y : f.second.sequences ≤ 512 = omega (arith, few, second_count) in
      let a : f.first.sequences * f.second.sequences ≤ 512 * f.second.sequences = mul-le-mul_right f.second.sequences x in
      omega (arith, a, y)

  pub cells_inside : All (IsInside f.first.sequences f.second.sequences) f.cells
  cells_inside k d l =
      let w = valid.of_leaves.cells_are.of_leaves k d l in
      let fits = subst (LeafFits f.first.sequences f.second.sequences) w.3 (valid.leaves_fit w.0 w.1 w.2) in
      (subst (λ n. n < f.first.sequences) w.4.0 fits.row_within, subst (λ n. n < f.second.sequences) w.4.1 fits.column_within)

  pub gains_are : (numbers matrix : List ℚ) → numbers ≡ map (cell_gain f.least_one) f.cells → HoldsNumbers f.first.sequences f.second.sequences (placed f.cells numbers) matrix → (r q : ℕ) → r < sequences (side_of f.first) → q < sequences (side_of f.second) → number_at matrix (sequences (side_of f.second)) r q ≡ gains (form f) f.least_one r q
  gains_are numbers matrix e holds r q hr hq =
      ap (λ n. get_or matrix (r * n + q) zero_ℚ) (sym second_count) ∙ holds r q (subst (λ n. r < n) (sym first_count) hr) (subst (λ n. q < n) (sym second_count) hq) ∙ ap (λ xs. listed_at (placed f.cells xs) r q) e ∙ placed_gains f.least_one f.cells r q

  pub system_has_gains : (numbers matrix : List ℚ) (s : LinearSystem) → numbers ≡ map (cell_gain f.least_one) f.cells → HoldsNumbers f.first.sequences f.second.sequences (placed f.cells numbers) matrix → IsSystemFor f.first f.second (number_at matrix (sequences (side_of f.second))) s → IsSystemOf f s
  system_has_gains numbers matrix s e holds w =
      record {
        valid = w.valid;
        rated = w.rated;
        program = alike_trans (program_of (side_of f.first) (side_of f.second) (gains (form f) f.least_one)) (program_of (side_of f.first) (side_of f.second) (number_at matrix (sequences (side_of f.second)))) (system_of s)
            (programs_same (side_of f.first) (side_of f.second) (gains (form f) f.least_one) (number_at matrix (sequences (side_of f.second))) (λ r q hr hq. sym (gains_are numbers matrix e holds r q hr hq))) w.program;
      }

  -- a form's size as the code counts it
  pub size_is : (a b x y : ℕ) → a ≡ length f.first.sets → b ≡ length f.second.sets → x ≡ f.first.sequences → y ≡ f.second.sequences → a + b + x + y + 2 ≡ program_size (form_sizes f)
  size_is a b x y ea eb ex ey =
      let s = sets_are f.first in let t = sets_are f.second in omega (arith, ea, eb, ex, ey, s, t, first_count, second_count)

-- ---- as it was read
module _ (f : FormData) (valid : IsFormData f) (cells : List Cell) (x y : ℕ) (ec : cells ≡ f.cells) (ex : x ≡ f.first.sequences) (ey : y ≡ f.second.sequences) where
  pub inside_read : All (IsInside x y) cells
  inside_read = subst (λ xs. All (IsInside x y) xs) (sym ec) (subst₂ (λ a b. All (IsInside a b) f.cells) (sym ex) (sym ey) (cells_inside f valid))

  pub system_read : {R : Type 0} (r : Result LinearSystem R) (first second : SideData) (numbers matrix seen : List ℚ) → first ≡ f.first → second ≡ f.second → seen ≡ matrix → numbers ≡ map (cell_gain f.least_one) f.cells → HoldsNumbers x y (placed cells numbers) matrix
      → IfOk r (IsSystemFor first second (number_at seen (sequences (side_of second)))) → IfOk r (IsSystemOf f)
  system_read r first second numbers matrix seen e g h n holds w =
      let held : HoldsNumbers f.first.sequences f.second.sequences (placed f.cells numbers) matrix = subst₂ (λ a b. HoldsNumbers a b (placed f.cells numbers) matrix) ex ey (subst (λ xs. HoldsNumbers x y (placed xs numbers) matrix) ec holds) in
      let found : IfOk r (IsSystemFor f.first f.second (number_at matrix (sequences (side_of f.second)))) = subst₂ (λ a b. IfOk r (IsSystemFor a b (number_at matrix (sequences (side_of b))))) e g (subst (λ xs. IfOk r (IsSystemFor first second (number_at xs (sequences (side_of second))))) h w) in
      if_ok-then r _ (IsSystemOf f) found (λ s k. system_has_gains f valid numbers matrix s n held k)

-- the system of a form for sides that are its own
pub for_sides : (f : FormData) (s : LinearSystem) (first second : SideData) → first ≡ f.first → second ≡ f.second → IsSystemOf f s → (gain : ℕ → ℕ → ℚ) × IsSystemFor first second gain s
for_sides f s first second e g h =
    (gains (form f) f.least_one, subst₂ (λ a b. IsSystemFor a b (gains (form f) f.least_one) s) (sym e) (sym g) h)
