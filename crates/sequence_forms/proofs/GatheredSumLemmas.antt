-- Sums of weights times sums over what lies at a place, and sums of cells.
use Rattle.std.proofs.Common.{ℕ, ◌<◌, ◌≡◌, [], ◌∷◌, refl, sym, ap, ap₂, ◌∙◌}
use Rattle.rational.specs.Rational.{ℚ, ◌+ℚ◌, ◌*ℚ◌}
use Rattle.rational.specs.Sum.{sum_to}
use Rattle.rational.proofs.RationalRing.{rational_ring}
use Rattle.rational.proofs.SumLemmas.{sum_to-same, sum_to-add, sum_to-scale, sum_to-exchange, sum_to-single}
use Rattle.rational.proofs.Ring.{ring, ◌:+◌, ◌:*◌, A, B, C, D, E}
use Rattle.game_theory.specs.Mixed.{sure}
use Rattle.sequence_forms.specs.Sides.{sequences}
use Rattle.sequence_forms.specs.Forms.{SequenceForm, row_sum, column_sum, cell_sum}

-- a sum over places of weights times what lies there is a sum over what lies
pub gather : (m n : ℕ) (place : ℕ → ℕ) (x v : ℕ → ℚ) → ((k : ℕ) → k < n → place k < m) → sum_to m (λ r. x r *ℚ sum_to n (λ k. sure (place k) r *ℚ v k)) ≡ sum_to n (λ k. x (place k) *ℚ v k)
gather m n place x v h =
    sum_to-same m _ _ (λ r l. sym (sum_to-scale n (x r) (λ k. sure (place k) r *ℚ v k)))
    ∙ sum_to-exchange m n (λ r k. x r *ℚ (sure (place k) r *ℚ v k))
    ∙ sum_to-same n _ _ (λ k l. sum_to-same m _ (λ r. sure (place k) r *ℚ (x r *ℚ v k)) (λ r p. ring rational_ring (x r ∷ sure (place k) r ∷ v k ∷ []) (A :* (B :* C)) (B :* (A :* C)) refl) ∙ sum_to-single m (place k) (λ r. x r *ℚ v k) (h k l))

-- equal cells have equal sums
pub row_sum-same : (f : SequenceForm) (u v : ℕ → ℕ → ℚ) (y : ℕ → ℚ) (r : ℕ) → ((q : ℕ) → q < sequences f.columns → u r q ≡ v r q) → row_sum f u y r ≡ row_sum f v y r
row_sum-same f u v y r h = sum_to-same (sequences f.columns) _ _ (λ q p. ap (λ z. y q *ℚ z) (h q p))

pub cell_sum-same : (f : SequenceForm) (u v : ℕ → ℕ → ℚ) (x y : ℕ → ℚ) → ((r q : ℕ) → r < sequences f.rows → q < sequences f.columns → u r q ≡ v r q) → cell_sum f u x y ≡ cell_sum f v x y
cell_sum-same f u v x y h = sum_to-same (sequences f.rows) _ _ (λ r l. ap (λ z. x r *ℚ z) (row_sum-same f u v y r (λ q p. h r q l p)))

-- multiples and sums of terms
mix : (n : ℕ) (a b : ℚ) (y u v : ℕ → ℚ) → sum_to n (λ q. y q *ℚ ((a *ℚ u q) +ℚ (b *ℚ v q))) ≡ (a *ℚ sum_to n (λ q. y q *ℚ u q)) +ℚ (b *ℚ sum_to n (λ q. y q *ℚ v q))
mix n a b y u v =
    sum_to-same n _ (λ q. (a *ℚ (y q *ℚ u q)) +ℚ (b *ℚ (y q *ℚ v q))) (λ q l. ring rational_ring (a ∷ b ∷ y q ∷ u q ∷ v q ∷ []) (C :* (A :* D :+ B :* E)) (A :* (C :* D) :+ B :* (C :* E)) refl)
    ∙ sum_to-add n (λ q. a *ℚ (y q *ℚ u q)) (λ q. b *ℚ (y q *ℚ v q)) ∙ ap₂ (λ c d. c +ℚ d) (sum_to-scale n a (λ q. y q *ℚ u q)) (sum_to-scale n b (λ q. y q *ℚ v q))

-- multiples and sums of cells
pub cell_sum-mix : (f : SequenceForm) (a b : ℚ) (u v : ℕ → ℕ → ℚ) (x y : ℕ → ℚ) → cell_sum f (λ r q. (a *ℚ u r q) +ℚ (b *ℚ v r q)) x y ≡ (a *ℚ cell_sum f u x y) +ℚ (b *ℚ cell_sum f v x y)
cell_sum-mix f a b u v x y =
    sum_to-same (sequences f.rows) _ _ (λ r l. ap (λ z. x r *ℚ z) (mix (sequences f.columns) a b y (u r) (v r)))
    ∙ mix (sequences f.rows) a b x (row_sum f u y) (row_sum f v y)

-- the cells by columns
pub cell_sum-columns : (f : SequenceForm) (u : ℕ → ℕ → ℚ) (x y : ℕ → ℚ) → cell_sum f u x y ≡ sum_to (sequences f.columns) (λ q. y q *ℚ column_sum f u x q)
cell_sum-columns f u x y =
    sum_to-same (sequences f.rows) _ _ (λ r l. sym (sum_to-scale (sequences f.columns) (x r) (λ q. y q *ℚ u r q)))
    ∙ sum_to-exchange (sequences f.rows) (sequences f.columns) (λ r q. x r *ℚ (y q *ℚ u r q))
    ∙ sum_to-same (sequences f.columns) _ _ (λ q p. sum_to-same (sequences f.rows) _ (λ r. y q *ℚ (x r *ℚ u r q)) (λ r l. ring rational_ring (x r ∷ y q ∷ u r q ∷ []) (A :* (B :* C)) (B :* (A :* C)) refl) ∙ sum_to-scale (sequences f.rows) (y q) (λ r. x r *ℚ u r q))
