-- the entries of a side's rows
use Rattle.std.proofs.Common.{ℕ, suc, ◌<◌, ◌≤◌, ◌≡◌, ◌≢◌, ◌+◌, ◌-◌, ◌==◌, if◌then◌else◌, true, List, [], length, get_or, refl, sym, ap, ap₂, ◌∙◌, subst, arith, tests}
use Rattle.rational.specs.Rational.{◌-ℚ◌, neg_ℚ, zero_ℚ, one_ℚ}
use Rattle.rational.proofs.RationalRing.{rational_ring}
use Rattle.rational.proofs.Ring.{ring, num, ◌:-◌, :neg}
use Rattle.sequence_forms.specs.Sides.{Side, sequences, first, place}
use Rattle.sequence_forms.specs.Matrices.{set_row}
use Rattle.sequence_forms.proofs.PlaceLemmas.{places}
use Rattle.std.proofs.lemmas.List.{get_or-map, length-map}
use Rattle.std.proofs.lemmas.List.FromFn.{get_or-map-range_with_len}
use Rattle.sequence_data.specs.declared.types.SetRow.{SetRow}
use Rattle.sequence_data.specs.Data.{SideData, side_of, IsSideData}
use Rattle.lists.proofs.NumberLemmas.{unequal}

test_yes : (a b : ℕ) → a ≡ b → (a == b) ≡ true
test_yes a b e = grind (arith, tests)

-- the row of the whole game
pub whole_at_empty : (d : Side) (q : ℕ) → q ≡ 0 → set_row d 0 q ≡ one_ℚ
whole_at_empty d q e = ap (λ b. (if b then one_ℚ else zero_ℚ) -ℚ zero_ℚ) (test_yes 0 (place d q) (sym (ap (place d) e ∙ (places d).empty))) ∙ ring rational_ring [] (num 1 :- num 0) (num 1) refl

pub whole_elsewhere : (d : Side) (q : ℕ) → q < sequences d → q ≢ 0 → set_row d 0 q ≡ zero_ℚ
whole_elsewhere d q h ne = ap (λ b. (if b then one_ℚ else zero_ℚ) -ℚ zero_ℚ) (unequal 0 (place d q) (λ e. ne ((places d).whole_game q h (sym e)))) ∙ ring rational_ring [] (num 0 :- num 0) (num 0) refl

-- the row of set j
module _ (d : Side) (j q : ℕ) (hj : j < d.sets) (follows : d.before j < first d j) where
  pub set_at_action : first d j ≤ q → q < first d j + d.count j → set_row d (suc j) q ≡ one_ℚ
  set_at_action h l =
      ap₂ (λ a b. (if a then one_ℚ else zero_ℚ) -ℚ (if b then one_ℚ else zero_ℚ)) (test_yes (suc j) (place d q) (sym (ap (place d) at ∙ (places d).of_set j (q - first d j) hj (omega (arith, h, l))))) (unequal q (d.before j) (λ e. absurd (omega (arith, e, h, follows)))) ∙ ring rational_ring [] (num 1 :- num 0) (num 1) refl
    where
      at : q ≡ first d j + (q - first d j)
      at = omega (arith, h)

  pub set_at_before : q ≡ d.before j → set_row d (suc j) q ≡ neg_ℚ one_ℚ
  set_at_before e =
      ap₂ (λ a b. (if a then one_ℚ else zero_ℚ) -ℚ (if b then one_ℚ else zero_ℚ)) (unequal (suc j) (place d q) (λ f. let l = (places d).earlier q j hj (omega (arith, e, follows)) in absurd (omega (arith, f, l)))) (test_yes q (d.before j) e) ∙ ring rational_ring [] (num 0 :- num 1) (:neg (num 1)) refl

  pub set_elsewhere : q < sequences d → ((first d j ≤ q) → q < first d j + d.count j → ⊥) → q ≢ d.before j → set_row d (suc j) q ≡ zero_ℚ
  set_elsewhere h out ne =
      ap₂ (λ a b. (if a then one_ℚ else zero_ℚ) -ℚ (if b then one_ℚ else zero_ℚ)) (unequal (suc j) (place d q) (λ f. let w = (places d).action q j h (sym f) in let e = w.2 in let l = w.1 in out (omega (arith, e)) (omega (arith, e, l)))) (unequal q (d.before j) ne) ∙ ring rational_ring [] (num 0 :- num 0) (num 0) refl

-- ---- sets as they are read
-- the first sequence of a set
pub first_read : (s : SideData) (j : ℕ) (d : SetRow) → IsSideData s → j < length s.sets → (get_or s.sets j d).first ≡ first (side_of s) j
first_read s j d valid l =
    sym (get_or-map (λ r. r.first) s.sets j d d.first l) ∙ ap (λ (xs : List ℕ). get_or xs j d.first) valid.firsts_are ∙ get_or-map-range_with_len (first (side_of s)) 0 (length s.sets) j j d.first l (omega arith)

module _ (s : SideData) (valid : IsSideData s) (row q : ℕ) (set : SetRow) (h : row - 1 < length s.sets) (some : row ≢ 0) (before_is : set.before ≡ (side_of s).before (row - 1)) (first_is : set.first ≡ first (side_of s) (row - 1)) (count_is : set.count ≡ (side_of s).count (row - 1)) where
  inside : row - 1 < (side_of s).sets
  inside = subst (λ n. row - 1 < n) (sym (length-map s.sets (λ r. r.before))) h

  follows : (side_of s).before (row - 1) < first (side_of s) (row - 1)
  follows = valid.ordered.follows (row - 1) inside

  at_row : suc (row - 1) ≡ row
  at_row = omega (arith, some)

  pub entry_at_action : set.first ≤ q → q < set.first + set.count → one_ℚ ≡ set_row (side_of s) row q
  entry_at_action a b = sym (ap (λ k. set_row (side_of s) k q) (sym at_row) ∙ set_at_action (side_of s) (row - 1) q inside follows (omega (arith, a, first_is)) (omega (arith, b, first_is, count_is)))

  pub entry_past : q < sequences (side_of s) → set.first ≤ q → (q < set.first + set.count → ⊥) → zero_ℚ ≡ set_row (side_of s) row q
  entry_past l a b = let g = follows in sym (ap (λ k. set_row (side_of s) k q) (sym at_row) ∙ set_elsewhere (side_of s) (row - 1) q inside follows l (λ x y. b (omega (arith, y, first_is, count_is))) (λ p. absurd (omega (arith, p, g, a, first_is))))

  pub entry_at_before : q ≡ set.before → neg_ℚ one_ℚ ≡ set_row (side_of s) row q
  entry_at_before a = sym (ap (λ k. set_row (side_of s) k q) (sym at_row) ∙ set_at_before (side_of s) (row - 1) q inside follows (a ∙ before_is))

  pub entry_elsewhere : q < sequences (side_of s) → (set.first ≤ q → ⊥) → q ≢ set.before → zero_ℚ ≡ set_row (side_of s) row q
  entry_elsewhere l a b = sym (ap (λ k. set_row (side_of s) k q) (sym at_row) ∙ set_elsewhere (side_of s) (row - 1) q inside follows l (λ x y. a (omega (arith, x, first_is))) (λ p. b (p ∙ sym before_is)))
