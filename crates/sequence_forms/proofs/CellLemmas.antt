-- Sums by rows and columns.
use Rattle.std.proofs.Common.{ℕ, ◌<◌, ◌≡◌, Bool, true, false, cond, Option, Some, None, [], ◌∷◌, refl, ap, ◌∙◌}
use Rattle.std.specs.Prelude.{◌==◌, ◌&&◌, if◌then◌else◌}
use Rattle.rational.specs.Rational.{ℚ, ◌*ℚ◌, zero_ℚ, one_ℚ}
use Rattle.rational.specs.Sum.{sum_to}
use Rattle.rational.proofs.RationalRing.{rational_ring}
use Rattle.rational.proofs.SumLemmas.{sum_to-same}
use Rattle.rational.proofs.Ring.{ring, num, ◌:*◌, A, B, C}
use Rattle.game_theory.specs.Mixed.{sure}
use Rattle.game_theory.specs.Trees.{Tree, IsTree}
use Rattle.sequence_forms.specs.Sides.{sequences}
use Rattle.sequence_forms.specs.Sequences.{side_of}
use Rattle.sequence_forms.specs.Forms.{cell_sum, at_leaf, over_leaves, row, column, leaves_at, form_of}
use Rattle.sequence_forms.proofs.GatheredSumLemmas.{gather}
use Rattle.sequence_forms.proofs.SequenceLemmas.{last-below}

-- the same with rows and columns
gather_both : (m n s : ℕ) (down across : ℕ → ℕ) (x y v : ℕ → ℚ) → ((k : ℕ) → k < s → down k < m) → ((k : ℕ) → k < s → across k < n)
    → sum_to m (λ r. x r *ℚ sum_to n (λ q. y q *ℚ sum_to s (λ k. sure (across k) q *ℚ (sure (down k) r *ℚ v k)))) ≡ sum_to s (λ k. x (down k) *ℚ (y (across k) *ℚ v k))
gather_both m n s down across x y v h g =
    sum_to-same m _ _ (λ r l. ap (λ z. x r *ℚ z) (gather n s across y (λ k. sure (down k) r *ℚ v k) g ∙ sum_to-same s _ (λ k. sure (down k) r *ℚ (y (across k) *ℚ v k)) (λ k p. ring rational_ring (y (across k) ∷ sure (down k) r ∷ v k ∷ []) (A :* (B :* C)) (B :* (A :* C)) refl)))
    ∙ gather m s down x (λ k. y (across k) *ℚ v k) h

-- one leaf in its cell
leaf_in_cell : (o : Option ℕ) (b c : Bool) (v : ℚ) → at_leaf o (if b && c then v else zero_ℚ) ≡ cond c one_ℚ zero_ℚ *ℚ (cond b one_ℚ zero_ℚ *ℚ at_leaf o v)
leaf_in_cell None true true v = ring rational_ring (v ∷ []) A (num 1 :* (num 1 :* A)) refl
leaf_in_cell None true false v = ring rational_ring (v ∷ []) (num 0) (num 0 :* (num 1 :* A)) refl
leaf_in_cell None false true v = ring rational_ring (v ∷ []) (num 0) (num 1 :* (num 0 :* A)) refl
leaf_in_cell None false false v = ring rational_ring (v ∷ []) (num 0) (num 0 :* (num 0 :* A)) refl
leaf_in_cell (Some s) b c v = ring rational_ring (cond c one_ℚ zero_ℚ ∷ cond b one_ℚ zero_ℚ ∷ []) (num 0) (A :* (B :* num 0)) refl

-- the leaves at a row and column
leaves_at-is : (t : Tree) (f : ℕ → ℚ) (r q : ℕ) → leaves_at t f r q ≡ sum_to t.size (λ k. sure (column t k) q *ℚ (sure (row t k) r *ℚ at_leaf (t.set k) (f k)))
leaves_at-is t f r q = sum_to-same t.size _ _ (λ k l. leaf_in_cell (t.set k) (r == row t k) (q == column t k) (f k))

-- a leaf's number, weighted by both players
weighted_leaf : (o : Option ℕ) (x y v : ℚ) → x *ℚ (y *ℚ at_leaf o v) ≡ at_leaf o ((x *ℚ y) *ℚ v)
weighted_leaf None x y v = ring rational_ring (x ∷ y ∷ v ∷ []) (A :* (B :* C)) (A :* B :* C) refl
weighted_leaf (Some s) x y v = ring rational_ring (x ∷ y ∷ []) (A :* (B :* num 0)) (num 0) refl

-- the weighted cells are the weighted leaves
pub cells_of_leaves : (t : Tree) (f : ℕ → ℚ) (x y : ℕ → ℚ) → IsTree t → cell_sum (form_of t) (leaves_at t f) x y ≡ over_leaves t (λ k. (x (row t k) *ℚ y (column t k)) *ℚ f k)
cells_of_leaves t f x y w =
    let m : ℕ = sequences (side_of t 0) in
    let n : ℕ = sequences (side_of t 1) in
    sum_to-same m _ _ (λ r l. ap (λ z. x r *ℚ z) (sum_to-same n _ _ (λ q p. ap (λ z. y q *ℚ z) (leaves_at-is t f r q))))
    ∙ gather_both m n t.size (row t) (column t) x y (λ k. at_leaf (t.set k) (f k)) (last-below t 0 w) (last-below t 1 w)
    ∙ sum_to-same t.size _ _ (λ k l. weighted_leaf (t.set k) (x (row t k)) (y (column t k)) (f k))
