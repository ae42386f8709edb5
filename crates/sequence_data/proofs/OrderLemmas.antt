-- Leaves have at most one list of cells; the extremes of leaves, one leaf at a time.
use Rattle.std.proofs.Common.{ℕ, zero, suc, ◌+◌, ◌<◌, ◌≡◌, inl, inr, Some, List, [], ◌∷◌, length, map, take, get_or, slice_get, All, refl, sym, ap, ap₂, ◌∙◌, subst, arith}
use Rattle.std.specs.Prelude.{Any}
use Rattle.std.proofs.Math.Seq.{take-length}
use Rattle.std.proofs.lemmas.List.{length-map, get_or-map}
use Rattle.std.proofs.lemmas.List.Elements.{All-nil, All-get_or, All-more, All-weaker, All-map}
use Rattle.std.proofs.lemmas.Option.{none-some, same_Some, slice_get_within, slice_get-get_or, get_or_from_slice_get}
use Rattle.rational.specs.Rational.{ℚ, ◌≤ℚ◌}
use Rattle.rational.proofs.Field.{le_trans}
use Rattle.sequence_data.specs.declared.types.Leaf.{Leaf}
use Rattle.sequence_data.specs.declared.types.Cell.{Cell}
use Rattle.sequence_data.specs.Cells.{cell_at, IsBefore, AreCellsInOrder, IsAt, AreCells}
use Rattle.rational.specs.Extremes.{IsGreatest, IsLeast, IsGreater, IsLesser}
use Rattle.sequence_data.proofs.PlaceLemmas.{any_at}

-- ---- cells
-- of two cells only one comes before the other
before-once : (c d : Cell) → IsBefore c d → IsBefore d c → ⊥
before-once c d (inl a) (inl b) = omega arith
before-once c d (inl a) (inr b) = omega (arith, a, b.0)
before-once c d (inr a) (inl b) = omega (arith, a.0, b)
before-once c d (inr a) (inr b) = omega (arith, a.1, b.1)

-- each of these cells is one of those
abbrev AreAmong : List Cell → List Cell → Type 0
AreAmong xs ys = (i : ℕ) (c : Cell) → slice_get xs i ≡ Some c → (j : ℕ) × (slice_get ys j ≡ Some c)

-- the cells after the first are in order
pub order-tail : (x : Cell) (xs : List Cell) → AreCellsInOrder (x ∷ xs) → AreCellsInOrder xs
order-tail x xs h i j c d l at_i at_j = h (suc i) (suc j) c d (omega arith) at_i at_j

-- in lists with the same cells the first is the same
same_first : (x y : Cell) (xs ys : List Cell) → AreCellsInOrder (x ∷ xs) → AreCellsInOrder (y ∷ ys) → AreAmong (x ∷ xs) (y ∷ ys) → AreAmong (y ∷ ys) (x ∷ xs) → x ≡ y
same_first x y xs ys p q h g = go (h 0 x refl) (g 0 y refl)
  where
    go : (j : ℕ) × (slice_get (y ∷ ys) j ≡ Some x) → (i : ℕ) × (slice_get (x ∷ xs) i ≡ Some y) → x ≡ y
    go (zero, a) b = sym (same_Some y x a)
    go (suc j, a) (zero, b) = same_Some x y b
    go (suc j, a) (suc i, b) = absurd (before-once x y (p 0 (suc i) x y (omega arith) refl b) (q 0 (suc j) y x (omega arith) refl a))

-- the cells after the first are among the others after the first
among-tail : (x y : Cell) (xs ys : List Cell) → x ≡ y → AreCellsInOrder (x ∷ xs) → AreAmong (x ∷ xs) (y ∷ ys) → AreAmong xs ys
among-tail x y xs ys e p h i c at = go (h (suc i) c at)
  where
    go : (j : ℕ) × (slice_get (y ∷ ys) j ≡ Some c) → (j : ℕ) × (slice_get ys j ≡ Some c)
    go (zero, a) = (let same : c ≡ x = sym (same_Some y c a) ∙ sym e in let b = p 0 (suc i) x c (omega arith) refl at in absurd (before-once x x (subst (IsBefore x) same b) (subst (IsBefore x) same b)))
    go (suc j, a) = (j, a)

-- lists in order with the same cells are the same
same_list : (xs ys : List Cell) → AreCellsInOrder xs → AreCellsInOrder ys → AreAmong xs ys → AreAmong ys xs → xs ≡ ys
same_list [] [] p q h g = refl
same_list [] (y ∷ ys) p q h g = let found = g 0 y refl in absurd (none-some y found.1)
same_list (x ∷ xs) [] p q h g = let found = h 0 x refl in absurd (none-some x found.1)
same_list (x ∷ xs) (y ∷ ys) p q h g =
    let first = same_first x y xs ys p q h g in
    ap₂ (λ a b. a ∷ b) first (same_list xs ys (order-tail x xs p) (order-tail y ys q) (among-tail x y xs ys first p h) (among-tail y x ys xs (sym first) q g))

-- a cell of leaves is among all their cells
cells-among : (leaves : List Leaf) (xs ys : List Cell) → AreCells leaves xs → AreCells leaves ys → AreAmong xs ys
cells-among leaves xs ys h g i c at =
    let inside = slice_get_within xs i c at in
    let here = get_or_from_slice_get xs i c c at in
    let leaf = subst (λ d. Any (IsAt d) leaves) here (All-get_or (λ d. Any (IsAt d) leaves) xs i c inside h.of_leaves) in
    let found = subst (λ l. Any (λ d. IsAt d l) ys) leaf.3 (All-get_or (λ l. Any (λ d. IsAt d l) ys) leaves leaf.0 leaf.1 leaf.2 g.of_each) in
    let sum_c = subst (λ d. d ≡ cell_at leaves d.row d.column) here (All-get_or (λ d. d ≡ cell_at leaves d.row d.column) xs i c inside h.are_sums) in
    let sum_d = subst (λ d. d ≡ cell_at leaves d.row d.column) found.3 (All-get_or (λ d. d ≡ cell_at leaves d.row d.column) ys found.0 found.1 found.2 g.are_sums) in
    let same : found.1 ≡ c = sum_d ∙ ap₂ (cell_at leaves) (sym found.4.0 ∙ leaf.4.0) (sym found.4.1 ∙ leaf.4.1) ∙ sym sum_c in
    (found.0, slice_get-get_or ys found.0 found.1 found.2 ∙ ap Some (found.3 ∙ same))

pub cells-one : (leaves : List Leaf) (xs ys : List Cell) → AreCells leaves xs → AreCells leaves ys → xs ≡ ys
cells-one leaves xs ys h g = same_list xs ys h.in_order g.in_order (cells-among leaves xs ys h g) (cells-among leaves ys xs g h)

-- ---- extremes
-- v is one of the leaves' numbers, and the greatest of the first n, or the least
pub record IsGreatestOf (f : Leaf → ℚ) (leaves : List Leaf) (n : ℕ) (v : ℚ) : Type 0 where
  pub is_one : Any (λ x. x ≡ v) (map f leaves)
  pub greatest : All (λ l. f l ≤ℚ v) (take n leaves)

pub record IsLeastOf (f : Leaf → ℚ) (leaves : List Leaf) (n : ℕ) (v : ℚ) : Type 0 where
  pub is_one : Any (λ x. x ≡ v) (map f leaves)
  pub least : All (λ l. v ≤ℚ f l) (take n leaves)

module _ (f : Leaf → ℚ) (leaves : List Leaf) where
  -- a leaf's number is one of them
  one_of : (n : ℕ) (x : Leaf) → n < length leaves → x ≡ get_or leaves n x → Any (λ y. y ≡ f x) (map f leaves)
  one_of n x l is = any_at (λ y. y ≡ f x) (map f leaves) n (f x) (omega (arith, length-map leaves f, l)) (get_or-map f leaves n x (f x) l ∙ ap f (sym is))

  pub greatest-none : (x : Leaf) → 0 < length leaves → x ≡ get_or leaves 0 x → IsGreatestOf f leaves 0 (f x)
  greatest-none x l is = record { is_one = one_of 0 x l is; greatest = All-nil (λ l. f l ≤ℚ f x) }

  pub least-none : (x : Leaf) → 0 < length leaves → x ≡ get_or leaves 0 x → IsLeastOf f leaves 0 (f x)
  least-none x l is = record { is_one = one_of 0 x l is; least = All-nil (λ l. f x ≤ℚ f l) }

  pub greatest-more : (n : ℕ) (x : Leaf) (v w : ℚ) → n < length leaves → x ≡ get_or leaves n x → IsGreatestOf f leaves n v → IsGreater v (f x) w → IsGreatestOf f leaves (n + 1) w
  greatest-more n x v w l is h g = record {
    is_one = elim g.is_one [ inl e ↦ subst (λ u. Any (λ y. y ≡ u) (map f leaves)) (sym e) h.is_one | inr e ↦ subst (λ u. Any (λ y. y ≡ u) (map f leaves)) (sym e) (one_of n x l is) ];
    greatest = All-more (λ y. f y ≤ℚ w) leaves n x l (All-weaker (λ y. f y ≤ℚ v) (λ y. f y ≤ℚ w) (λ y p. le_trans (f y) v w p g.left) (take n leaves) h.greatest) (subst (λ y. f y ≤ℚ w) is g.right);
  }

  pub least-more : (n : ℕ) (x : Leaf) (v w : ℚ) → n < length leaves → x ≡ get_or leaves n x → IsLeastOf f leaves n v → IsLesser v (f x) w → IsLeastOf f leaves (n + 1) w
  least-more n x v w l is h g = record {
    is_one = elim g.is_one [ inl e ↦ subst (λ u. Any (λ y. y ≡ u) (map f leaves)) (sym e) h.is_one | inr e ↦ subst (λ u. Any (λ y. y ≡ u) (map f leaves)) (sym e) (one_of n x l is) ];
    least = All-more (λ y. w ≤ℚ f y) leaves n x l (All-weaker (λ y. v ≤ℚ f y) (λ y. w ≤ℚ f y) (λ y p. le_trans w v (f y) g.left p) (take n leaves) h.least) (subst (λ y. w ≤ℚ f y) is g.right);
  }

  pub greatest-all : (n : ℕ) (v : ℚ) → n ≡ length leaves → IsGreatestOf f leaves n v → IsGreatest (map f leaves) v
  greatest-all n v is h = record { is_one = h.is_one; greatest = All-map (λ y. y ≤ℚ v) f leaves (subst (All (λ l. f l ≤ℚ v)) (ap (λ k. take k leaves) is ∙ take-length leaves) h.greatest) }

  pub least-all : (n : ℕ) (v : ℚ) → n ≡ length leaves → IsLeastOf f leaves n v → IsLeast (map f leaves) v
  least-all n v is h = record { is_one = h.is_one; least = All-map (λ y. v ≤ℚ y) f leaves (subst (All (λ l. v ≤ℚ f l)) (ap (λ k. take k leaves) is ∙ take-length leaves) h.least) }
