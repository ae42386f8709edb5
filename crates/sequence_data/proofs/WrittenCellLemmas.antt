-- Numbers written at their cells.
use Rattle.std.proofs.Common.{ℕ, zero, suc, ◌<◌, ◌≡◌, ◌≢◌, ◌+◌, ◌*◌, ◌⊎◌, inl, inr, ◌==◌, ◌&&◌, if◌then◌else◌, List, [], ◌∷◌, All, length, get_or, slice_set, refl, sym, ap₂, ◌∙◌, subst, arith, tests}
use Rattle.std.proofs.lemmas.Option.{slice_get-get_or}
use Rattle.std.proofs.lemmas.Bool.{cases_eq, cases_lt}
use Rattle.std.proofs.lemmas.List.{get_or-set_other, get_or_default, length-set}
use Rattle.std.proofs.lemmas.Grind.{get_or-set_at}
use Rattle.lists.proofs.NumberLemmas.{place-inside, place-tells}
use Rattle.rational.specs.Rational.{ℚ, ◌+ℚ◌, zero_ℚ}
use Rattle.rational.proofs.RationalRing.{rational_ring}
use Rattle.rational.proofs.Ring.{ring, num, ◌:+◌, A}
use Rattle.sequence_forms.specs.Lists.{listed_at}
use Rattle.sequence_data.specs.declared.types.Cell.{Cell}
use Rattle.sequence_data.specs.Cells.{AreCellsInOrder}
use Rattle.sequence_data.specs.Matrices.{IsInside, placed, HoldsNumbers}

abbrev pub nowhere : Cell
nowhere = record { row = 0; column = 0; weight = zero_ℚ; one = zero_ℚ; two = zero_ℚ }

-- cell k of a list
abbrev pub cell_of : List Cell → ℕ → Cell
cell_of cells k = get_or cells k nowhere

-- it stands at row r and column q
abbrev pub Stands : List Cell → ℕ → ℕ → ℕ → Type 0
Stands cells r q k = ((cell_of cells k).row ≡ r) × ((cell_of cells k).column ≡ q)

-- ---- the sum of what stands at a place
head_elsewhere : (c : Cell) (v : ℚ) (r q : ℕ) → (c.row ≢ r) ⊎ (c.column ≢ q) → (if r == c.row && q == c.column then v else zero_ℚ) ≡ zero_ℚ
head_elsewhere c v r q (inl h) = grind (arith, tests)
head_elsewhere c v r q (inr h) = grind (arith, tests)

head_there : (c : Cell) (v : ℚ) (r q : ℕ) → c.row ≡ r → c.column ≡ q → (if r == c.row && q == c.column then v else zero_ℚ) ≡ v
head_there c v r q e f = grind (arith, tests)

apart_from : (c : Cell) (r q : ℕ) → ((c.row ≡ r) × (c.column ≡ q) → ⊥) → (c.row ≢ r) ⊎ (c.column ≢ q)
apart_from c r q h = elim (cases_eq c.row r) [ inl e ↦ inr (λ f. h (e, f)) | inr n ↦ inl n ]

listed_none : (cells : List Cell) (numbers : List ℚ) (r q : ℕ) → ((j : ℕ) → j < length cells → Stands cells r q j → ⊥) → listed_at (placed cells numbers) r q ≡ zero_ℚ
listed_none [] numbers r q h = refl
listed_none (c ∷ cells) [] r q h = refl
listed_none (c ∷ cells) (v ∷ numbers) r q h =
    ap₂ (λ a b. a +ℚ b) (head_elsewhere c v r q (apart_from c r q (h 0 (omega arith)))) (listed_none cells numbers r q (λ j l. h (suc j) (omega arith))) ∙ ring rational_ring [] (num 0 :+ num 0) (num 0) refl

listed_one : (cells : List Cell) (numbers : List ℚ) (r q k : ℕ) → length numbers ≡ length cells → k < length cells → Stands cells r q k → ((j : ℕ) → j < length cells → j ≢ k → Stands cells r q j → ⊥) → listed_at (placed cells numbers) r q ≡ get_or numbers k zero_ℚ
listed_one [] numbers r q k same l s other = absurd (omega arith)
listed_one (c ∷ cells) [] r q k same l s other = absurd (omega (arith, same))
listed_one (c ∷ cells) (v ∷ numbers) r q zero same l s other =
    ap₂ (λ a b. a +ℚ b) (head_there c v r q s.0 s.1) (listed_none cells numbers r q (λ j m. other (suc j) (omega arith) (omega arith))) ∙ ring rational_ring (v ∷ []) (A :+ num 0) A refl
listed_one (c ∷ cells) (v ∷ numbers) r q (suc k) same l s other =
    ap₂ (λ a b. a +ℚ b) (head_elsewhere c v r q (apart_from c r q (other 0 (omega arith) (omega arith)))) (listed_one cells numbers r q k (omega (arith, same)) (omega arith) s (λ j m n. other (suc j) (omega arith) (λ e. n (omega (arith, e)))))
    ∙ ring rational_ring (get_or numbers k zero_ℚ ∷ []) (num 0 :+ A) A refl

-- ---- cells in order
module _ (cells : List Cell) (ordered : AreCellsInOrder cells) where
  apart_below : (r q i j : ℕ) → i < j → j < length cells → Stands cells r q i → Stands cells r q j → ⊥
  apart_below r q i j h l s t =
      elim (ordered i j (cell_of cells i) (cell_of cells j) h (slice_get-get_or cells i nowhere (omega arith)) (slice_get-get_or cells j nowhere l)) [
        | inl b ↦ (let e = s.0 in let f = t.0 in omega (arith, b, e, f))
        | inr b ↦ (let e = s.1 in let f = t.1 in let g = b.1 in omega (arith, g, e, f))
      ]

  pub only_one : (r q i j : ℕ) → i < length cells → j < length cells → i ≢ j → Stands cells r q i → Stands cells r q j → ⊥
  only_one r q i j hi hj n s t = elim (cases_lt i j) [
    | inl l ↦ apart_below r q i j l hj s t
    | inr l ↦ apart_below r q j i (omega (arith, l, n)) hi t s
  ]

-- a cell among the first n that stands at a place, or none
find_cell : (cells : List Cell) (r q n : ℕ) → ((j : ℕ) × ((j < n) × Stands cells r q j)) ⊎ ((j : ℕ) → j < n → Stands cells r q j → ⊥)
find_cell cells r q zero = inr (λ j l. absurd (omega arith))
find_cell cells r q (suc n) = elim (find_cell cells r q n) [
  | inl w ↦ inl (w.0, (let l = w.1.0 in omega arith, w.1.1))
  | inr f ↦ elim (stands_or_not n) [
    | inl s ↦ inl (n, (omega arith, s))
    | inr not ↦ inr (λ j l s. elim (cases_eq j n) [ inl e ↦ not (subst (Stands cells r q) e s) | inr ne ↦ f j (omega (arith, l, ne)) s ])
  ]
]
  where
    stands_or_not : (k : ℕ) → Stands cells r q k ⊎ (Stands cells r q k → ⊥)
    stands_or_not k = elim (cases_eq (cell_of cells k).row r) [
      | inl e ↦ elim (cases_eq (cell_of cells k).column q) [ inl f ↦ inl (e, f) | inr g ↦ inr (λ s. g s.1) ]
      | inr g ↦ inr (λ s. g s.0)
    ]

-- ---- after the first k cells were written
pub record IsWritten (rows columns : ℕ) (cells : List Cell) (numbers : List ℚ) (k : ℕ) (matrix : List ℚ) : Type 0 where
  pub shape : length matrix ≡ rows * columns
  pub there : (j : ℕ) → j < k → get_or matrix ((cell_of cells j).row * columns + (cell_of cells j).column) zero_ℚ ≡ get_or numbers j zero_ℚ
  pub elsewhere : (r q : ℕ) → r < rows → q < columns → ((j : ℕ) → j < k → Stands cells r q j → ⊥) → get_or matrix (r * columns + q) zero_ℚ ≡ zero_ℚ

module _ (rows columns : ℕ) (cells : List Cell) (numbers : List ℚ) (inside : All (IsInside rows columns) cells) (ordered : AreCellsInOrder cells) where
  pub inside_at : (k : ℕ) → k < length cells → ((cell_of cells k).row < rows) × ((cell_of cells k).column < columns)
  inside_at k l = inside k nowhere l

  pub written_next : (k : ℕ) (matrix : List ℚ) (c : Cell) (v : ℚ) → k < length cells → cell_of cells k ≡ c → v ≡ get_or numbers k zero_ℚ → IsWritten rows columns cells numbers k matrix → IsWritten rows columns cells numbers (k + 1) (slice_set matrix (c.row * columns + c.column) v)
  written_next k matrix c v l is value w =
      subst (λ (d : Cell). IsWritten rows columns cells numbers (k + 1) (slice_set matrix (d.row * columns + d.column) v)) is (record {
        shape = length-set matrix (c₀.row * columns + c₀.column) v ∙ w.shape;
        there = λ j h. elim (cases_eq j k) [
          | inl e ↦ subst (λ i. get_or (slice_set matrix (c₀.row * columns + c₀.column) v) ((cell_of cells i).row * columns + (cell_of cells i).column) zero_ℚ ≡ get_or numbers i zero_ℚ) (sym e) (get_or-set_at matrix (c₀.row * columns + c₀.column) (c₀.row * columns + c₀.column) v zero_ℚ refl small ∙ value)
          | inr ne ↦ (other (cell_of cells j).row (cell_of cells j).column (inside_at j (omega (arith, h, l))).1 (λ s. only_one cells ordered _ _ j k (omega (arith, h, l)) l ne (refl, refl) (sym s.0, sym s.1)) ∙ w.there j (omega (arith, h, ne)))
        ];
        elsewhere = λ r q hr hq none. other r q hq (λ s. none k (omega arith) (sym s.0, sym s.1)) ∙ w.elsewhere r q hr hq (λ j m. none j (omega arith));
      })
    where
      c₀ : Cell
      c₀ = cell_of cells k

      small : c₀.row * columns + c₀.column < length matrix
      small = subst (λ n. c₀.row * columns + c₀.column < n) (sym w.shape) (place-inside rows columns c₀.row c₀.column (inside_at k l).0 (inside_at k l).1)

      other : (r q : ℕ) → q < columns → ((r ≡ c₀.row) × (q ≡ c₀.column) → ⊥) → get_or (slice_set matrix (c₀.row * columns + c₀.column) v) (r * columns + q) zero_ℚ ≡ get_or matrix (r * columns + q) zero_ℚ
      other r q hq not = get_or-set_other matrix (c₀.row * columns + c₀.column) (r * columns + q) v zero_ℚ (λ e. not (place-tells columns r q c₀.row c₀.column hq (inside_at k l).1 e))

  pub written_all : (matrix : List ℚ) → length numbers ≡ length cells → IsWritten rows columns cells numbers (length cells) matrix → HoldsNumbers rows columns (placed cells numbers) matrix
  written_all matrix same w r q hr hq = elim (find_cell cells r q (length cells)) [
    | inl s ↦ (ap₂ (λ a b. get_or matrix (a * columns + b) zero_ℚ) (sym s.1.1.0) (sym s.1.1.1) ∙ w.there s.0 s.1.0 ∙ sym (listed_one cells numbers r q s.0 same s.1.0 s.1.1 (λ j l ne t. only_one cells ordered r q j s.0 l s.1.0 ne t s.1.1)))
    | inr none ↦ (w.elsewhere r q hr hq none ∙ sym (listed_none cells numbers r q none))
  ]

-- what was read of a list
pub cell_is : (cells : List Cell) (k : ℕ) (c : Cell) → k < length cells → c ≡ get_or cells k c → cell_of cells k ≡ c
cell_is cells k c h e = get_or_default cells k nowhere c h ∙ sym e

pub number_is : (numbers : List ℚ) (k : ℕ) (v : ℚ) → k < length numbers → v ≡ get_or numbers k v → v ≡ get_or numbers k zero_ℚ
number_is numbers k v h e = e ∙ sym (get_or_default numbers k zero_ℚ v h)
