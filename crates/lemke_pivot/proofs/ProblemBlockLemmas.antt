-- the rows of the complementary problem, block by block
use Rattle.std.proofs.Common.{ℕ, ◌<◌, ◌≡◌, ◌+◌, ◌-◌, ltb, cond, true, false, [], ◌∷◌, refl, ap, ◌∙◌}
use Rattle.rational.specs.Rational.{ℚ, ◌+ℚ◌, ◌-ℚ◌, neg_ℚ}
use Rattle.rational.specs.Sum.{sum_to}
use Rattle.rational.proofs.RationalRing.{rational_ring}
use Rattle.rational.proofs.Ring.{combine, ◌times◌is◌, num, ◌:+◌, ◌:-◌, :neg, A, B, C, D, E, F, G}
use Rattle.rational.proofs.SumLemmas.{sum_to-append}
use Rattle.rational.proofs.Rules.{neg_ℚ-zero}
use Rattle.lemke_pivot.specs.Vectors.{dot, image, zeros, joined}
use Rattle.lemke_pivot.specs.Problems.{Costs, size, in_blocks, at_y, at_p, at_p', at_q, at_q', rows_x, rows_y, rows_p, rows_p', rows_q, rows_q', matrix}
use Rattle.lemke_pivot.proofs.VectorLemmas.{transpose, joined_low, joined_high, dot_joined, dot-zeros, dot-neg}

pub six-dot : (s : Costs) (x y p p' q q' z : ℕ → ℚ) → dot (size s) (in_blocks s x y p p' q q') z ≡ dot s.X x z +ℚ (dot s.Y y (at_y s z) +ℚ (dot s.h p (at_p s z) +ℚ (dot s.h p' (at_p' s z) +ℚ (dot s.k q (at_q s z) +ℚ dot s.k q' (at_q' s z)))))
six-dot s x y p p' q q' z =
    dot_joined s.X (s.Y + (s.h + (s.h + (s.k + s.k)))) x _ z ∙ ap (λ v. dot s.X x z +ℚ v) (dot_joined s.Y (s.h + (s.h + (s.k + s.k))) y _ (at_y s z) ∙ ap (λ v. dot s.Y y (at_y s z) +ℚ v) (dot_joined s.h (s.h + (s.k + s.k)) p _ (at_p s z) ∙ ap (λ v. dot s.h p (at_p s z) +ℚ v) (dot_joined s.h (s.k + s.k) p' _ (at_p' s z) ∙ ap (λ v. dot s.h p' (at_p' s z) +ℚ v) (dot_joined s.k s.k q q' (at_q s z)))))

pub sum-six : (s : Costs) (g : ℕ → ℚ) → sum_to (size s) g ≡ sum_to s.X g +ℚ (sum_to s.Y (at_y s g) +ℚ (sum_to s.h (at_p s g) +ℚ (sum_to s.h (at_p' s g) +ℚ (sum_to s.k (at_q s g) +ℚ sum_to s.k (at_q' s g)))))
sum-six s g =
    sum_to-append s.X (s.Y + (s.h + (s.h + (s.k + s.k)))) g ∙ ap (λ v. sum_to s.X g +ℚ v) (sum_to-append s.Y (s.h + (s.h + (s.k + s.k))) (at_y s g) ∙ ap (λ v. sum_to s.Y (at_y s g) +ℚ v) (sum_to-append s.h (s.h + (s.k + s.k)) (at_p s g) ∙ ap (λ v. sum_to s.h (at_p s g) +ℚ v) (sum_to-append s.h (s.k + s.k) (at_p' s g) ∙ ap (λ v. sum_to s.h (at_p' s g) +ℚ v) (sum_to-append s.k s.k (at_q s g)))))

-- an entry of in_blocks blocks, in each block
module _ {A : Type 0} (s : Costs) (x y p p' q q' : ℕ → A) where
  abbrev from_q : ℕ → A
  from_q = joined s.k q q'

  abbrev from_p' : ℕ → A
  from_p' = joined s.h p' from_q

  abbrev from_p : ℕ → A
  from_p = joined s.h p from_p'

  abbrev from_y : ℕ → A
  from_y = joined s.Y y from_p

  pub six_x : (i : ℕ) → i < s.X → in_blocks s x y p p' q q' i ≡ x i
  six_x i h = joined_low s.X x from_y i h

  pub six_y : (i : ℕ) → i < s.Y → in_blocks s x y p p' q q' (s.X + i) ≡ y i
  six_y i h = joined_high s.X x from_y i ∙ joined_low s.Y y from_p i h

  pub six_p : (i : ℕ) → i < s.h → in_blocks s x y p p' q q' (s.X + (s.Y + i)) ≡ p i
  six_p i h = joined_high s.X x from_y (s.Y + i) ∙ joined_high s.Y y from_p i ∙ joined_low s.h p from_p' i h

  pub six_p' : (i : ℕ) → i < s.h → in_blocks s x y p p' q q' (s.X + (s.Y + (s.h + i))) ≡ p' i
  six_p' i h = joined_high s.X x from_y (s.Y + (s.h + i)) ∙ joined_high s.Y y from_p (s.h + i) ∙ joined_high s.h p from_p' i ∙ joined_low s.h p' from_q i h

  pub six_q : (i : ℕ) → i < s.k → in_blocks s x y p p' q q' (s.X + (s.Y + (s.h + (s.h + i)))) ≡ q i
  six_q i h = joined_high s.X x from_y (s.Y + (s.h + (s.h + i))) ∙ joined_high s.Y y from_p (s.h + (s.h + i)) ∙ joined_high s.h p from_p' (s.h + i) ∙ joined_high s.h p' from_q i ∙ joined_low s.k q q' i h

  pub six_q' : (i : ℕ) → i < s.k → in_blocks s x y p p' q q' (s.X + (s.Y + (s.h + (s.h + (s.k + i))))) ≡ q' i
  six_q' i h = joined_high s.X x from_y (s.Y + (s.h + (s.h + (s.k + i)))) ∙ joined_high s.Y y from_p (s.h + (s.h + (s.k + i))) ∙ joined_high s.h p from_p' (s.h + (s.k + i)) ∙ joined_high s.h p' from_q (s.k + i) ∙ joined_high s.k q q' i

-- ---- rows with the other sign
neg-joined : (a : ℕ) (f f' g g' : ℕ → ℚ) (i : ℕ) → neg_ℚ (f i) ≡ f' i → neg_ℚ (g (i - a)) ≡ g' (i - a) → neg_ℚ (joined a f g i) ≡ joined a f' g' i
neg-joined a f f' g g' i h k = elim (ltb i a) as (λ b. neg_ℚ (cond b (f i) (g (i - a))) ≡ cond b (f' i) (g' (i - a))) [ true ↦ h | false ↦ k ]

module _ (s : Costs) (r j : ℕ) where
  abbrev none_of_q : ℕ → ℚ
  none_of_q = joined s.k zeros zeros

  abbrev none_of_p' : ℕ → ℚ
  none_of_p' = joined s.h zeros none_of_q

  abbrev none_of_p : ℕ → ℚ
  none_of_p = joined s.h zeros none_of_p'

  abbrev none_of_y : ℕ → ℚ
  none_of_y = joined s.Y zeros none_of_p

  neg-prices : (i : ℕ) → neg_ℚ (none_of_p i) ≡ none_of_p i
  neg-prices i = neg-joined s.h zeros zeros none_of_p' none_of_p' i neg_ℚ-zero (neg-joined s.h zeros zeros none_of_q none_of_q (i - s.h) neg_ℚ-zero (neg-joined s.k zeros zeros zeros zeros (i - s.h - s.h) neg_ℚ-zero neg_ℚ-zero))

  pub neg-rows_p : neg_ℚ (rows_p s r j) ≡ rows_p' s r j
  neg-rows_p = neg-joined s.X (s.E r) (λ i. neg_ℚ (s.E r i)) none_of_y none_of_y j refl (neg-joined s.Y zeros zeros none_of_p none_of_p (j - s.X) neg_ℚ-zero (neg-prices (j - s.X - s.Y)))

  pub neg-rows_q : neg_ℚ (rows_q s r j) ≡ rows_q' s r j
  neg-rows_q =
      neg-joined s.X zeros zeros (joined s.Y (s.F r) none_of_p) (joined s.Y (λ i. neg_ℚ (s.F r i)) none_of_p) j neg_ℚ-zero (neg-joined s.Y (s.F r) (λ i. neg_ℚ (s.F r i)) none_of_p none_of_p (j - s.X) refl (neg-prices (j - s.X - s.Y)))

-- ---- M z
pub row-x : (s : Costs) (z : ℕ → ℚ) (i : ℕ) → i < s.X → image (size s) (matrix s) z i ≡ (image s.Y s.one (at_y s z) i -ℚ image s.h (transpose s.E) (at_p s z) i) +ℚ image s.h (transpose s.E) (at_p' s z) i
unfolding matrix
row-x s z i h =
    ap (λ f. dot (size s) f z) (six_x s (rows_x s) (rows_y s) (rows_p s) (rows_p' s) (rows_q s) (rows_q' s) i h) ∙ six-dot s zeros (s.one i) (λ r. neg_ℚ (s.E r i)) (λ r. s.E r i) zeros zeros z
    ∙ combine rational_ring (dot s.X zeros z ∷ dot s.Y (s.one i) (at_y s z) ∷ dot s.h (λ r. neg_ℚ (s.E r i)) (at_p s z) ∷ dot s.h (λ r. s.E r i) (at_p' s z) ∷ dot s.k zeros (at_q s z) ∷ dot s.k zeros (at_q' s z) ∷ dot s.h (λ r. s.E r i) (at_p s z) ∷ []) ((num 1 times A is num 0) ∷ (num 1 times C is :neg G) ∷ (num 1 times E is num 0) ∷ (num 1 times F is num 0) ∷ []) (A :+ (B :+ (C :+ (D :+ (E :+ F))))) (B :- G :+ D) refl (dot-zeros s.X z, (dot-neg s.h (λ r. s.E r i) (at_p s z), (dot-zeros s.k (at_q s z), (dot-zeros s.k (at_q' s z), tt))))

pub row-y : (s : Costs) (z : ℕ → ℚ) (i : ℕ) → i < s.Y → image (size s) (matrix s) z (s.X + i) ≡ (image s.X (transpose s.two) z i -ℚ image s.k (transpose s.F) (at_q s z) i) +ℚ image s.k (transpose s.F) (at_q' s z) i
unfolding matrix
row-y s z i h =
    ap (λ f. dot (size s) f z) (six_y s (rows_x s) (rows_y s) (rows_p s) (rows_p' s) (rows_q s) (rows_q' s) i h) ∙ six-dot s (λ j. s.two j i) zeros zeros zeros (λ r. neg_ℚ (s.F r i)) (λ r. s.F r i) z
    ∙ combine rational_ring (dot s.X (λ j. s.two j i) z ∷ dot s.Y zeros (at_y s z) ∷ dot s.h zeros (at_p s z) ∷ dot s.h zeros (at_p' s z) ∷ dot s.k (λ r. neg_ℚ (s.F r i)) (at_q s z) ∷ dot s.k (λ r. s.F r i) (at_q' s z) ∷ dot s.k (λ r. s.F r i) (at_q s z) ∷ []) ((num 1 times B is num 0) ∷ (num 1 times C is num 0) ∷ (num 1 times D is num 0) ∷ (num 1 times E is :neg G) ∷ []) (A :+ (B :+ (C :+ (D :+ (E :+ F))))) (A :- G :+ F) refl (dot-zeros s.Y (at_y s z), (dot-zeros s.h (at_p s z), (dot-zeros s.h (at_p' s z), (dot-neg s.k (λ r. s.F r i) (at_q s z), tt))))

pub row-p : (s : Costs) (z : ℕ → ℚ) (i : ℕ) → i < s.h → image (size s) (matrix s) z (s.X + (s.Y + i)) ≡ image s.X s.E z i
unfolding matrix
row-p s z i h =
    ap (λ f. dot (size s) f z) (six_p s (rows_x s) (rows_y s) (rows_p s) (rows_p' s) (rows_q s) (rows_q' s) i h) ∙ six-dot s (s.E i) zeros zeros zeros zeros zeros z
    ∙ combine rational_ring (dot s.X (s.E i) z ∷ dot s.Y zeros (at_y s z) ∷ dot s.h zeros (at_p s z) ∷ dot s.h zeros (at_p' s z) ∷ dot s.k zeros (at_q s z) ∷ dot s.k zeros (at_q' s z) ∷ []) ((num 1 times B is num 0) ∷ (num 1 times C is num 0) ∷ (num 1 times D is num 0) ∷ (num 1 times E is num 0) ∷ (num 1 times F is num 0) ∷ []) (A :+ (B :+ (C :+ (D :+ (E :+ F))))) A refl (dot-zeros s.Y (at_y s z), (dot-zeros s.h (at_p s z), (dot-zeros s.h (at_p' s z), (dot-zeros s.k (at_q s z), (dot-zeros s.k (at_q' s z), tt)))))

pub row-p' : (s : Costs) (z : ℕ → ℚ) (i : ℕ) → i < s.h → image (size s) (matrix s) z (s.X + (s.Y + (s.h + i))) ≡ neg_ℚ (image s.X s.E z i)
unfolding matrix
row-p' s z i h =
    ap (λ f. dot (size s) f z) (six_p' s (rows_x s) (rows_y s) (rows_p s) (rows_p' s) (rows_q s) (rows_q' s) i h) ∙ six-dot s (λ j. neg_ℚ (s.E i j)) zeros zeros zeros zeros zeros z
    ∙ combine rational_ring (dot s.X (λ j. neg_ℚ (s.E i j)) z ∷ dot s.Y zeros (at_y s z) ∷ dot s.h zeros (at_p s z) ∷ dot s.h zeros (at_p' s z) ∷ dot s.k zeros (at_q s z) ∷ dot s.k zeros (at_q' s z) ∷ dot s.X (s.E i) z ∷ []) ((num 1 times A is :neg G) ∷ (num 1 times B is num 0) ∷ (num 1 times C is num 0) ∷ (num 1 times D is num 0) ∷ (num 1 times E is num 0) ∷ (num 1 times F is num 0) ∷ []) (A :+ (B :+ (C :+ (D :+ (E :+ F))))) (:neg G) refl (dot-neg s.X (s.E i) z, (dot-zeros s.Y (at_y s z), (dot-zeros s.h (at_p s z), (dot-zeros s.h (at_p' s z), (dot-zeros s.k (at_q s z), (dot-zeros s.k (at_q' s z), tt))))))

pub row-q : (s : Costs) (z : ℕ → ℚ) (i : ℕ) → i < s.k → image (size s) (matrix s) z (s.X + (s.Y + (s.h + (s.h + i)))) ≡ image s.Y s.F (at_y s z) i
unfolding matrix
row-q s z i h =
    ap (λ f. dot (size s) f z) (six_q s (rows_x s) (rows_y s) (rows_p s) (rows_p' s) (rows_q s) (rows_q' s) i h) ∙ six-dot s zeros (s.F i) zeros zeros zeros zeros z
    ∙ combine rational_ring (dot s.X zeros z ∷ dot s.Y (s.F i) (at_y s z) ∷ dot s.h zeros (at_p s z) ∷ dot s.h zeros (at_p' s z) ∷ dot s.k zeros (at_q s z) ∷ dot s.k zeros (at_q' s z) ∷ []) ((num 1 times A is num 0) ∷ (num 1 times C is num 0) ∷ (num 1 times D is num 0) ∷ (num 1 times E is num 0) ∷ (num 1 times F is num 0) ∷ []) (A :+ (B :+ (C :+ (D :+ (E :+ F))))) B refl (dot-zeros s.X z, (dot-zeros s.h (at_p s z), (dot-zeros s.h (at_p' s z), (dot-zeros s.k (at_q s z), (dot-zeros s.k (at_q' s z), tt)))))

pub row-q' : (s : Costs) (z : ℕ → ℚ) (i : ℕ) → i < s.k → image (size s) (matrix s) z (s.X + (s.Y + (s.h + (s.h + (s.k + i))))) ≡ neg_ℚ (image s.Y s.F (at_y s z) i)
unfolding matrix
row-q' s z i h =
    ap (λ f. dot (size s) f z) (six_q' s (rows_x s) (rows_y s) (rows_p s) (rows_p' s) (rows_q s) (rows_q' s) i h) ∙ six-dot s zeros (λ j. neg_ℚ (s.F i j)) zeros zeros zeros zeros z
    ∙ combine rational_ring (dot s.X zeros z ∷ dot s.Y (λ j. neg_ℚ (s.F i j)) (at_y s z) ∷ dot s.h zeros (at_p s z) ∷ dot s.h zeros (at_p' s z) ∷ dot s.k zeros (at_q s z) ∷ dot s.k zeros (at_q' s z) ∷ dot s.Y (s.F i) (at_y s z) ∷ []) ((num 1 times A is num 0) ∷ (num 1 times B is :neg G) ∷ (num 1 times C is num 0) ∷ (num 1 times D is num 0) ∷ (num 1 times E is num 0) ∷ (num 1 times F is num 0) ∷ []) (A :+ (B :+ (C :+ (D :+ (E :+ F))))) (:neg G) refl (dot-zeros s.X z, (dot-neg s.Y (s.F i) (at_y s z), (dot-zeros s.h (at_p s z), (dot-zeros s.h (at_p' s z), (dot-zeros s.k (at_q s z), (dot-zeros s.k (at_q' s z), tt))))))
