-- laws of products of vectors and matrices
use Rattle.std.proofs.Common.{ℕ, ◌<◌, ◌≡◌, ◌+◌, ◌-◌, ltb, false, cond, [], ◌∷◌, refl, sym, ap, ap₂, ◌∙◌, arith, tests}
use Rattle.rational.specs.Rational.{ℚ, ◌+ℚ◌, ◌*ℚ◌, ◌-ℚ◌, neg_ℚ, zero_ℚ, ◌≤ℚ◌}
use Rattle.rational.specs.Sum.{sum_to}
use Rattle.rational.proofs.RationalRing.{rational_ring}
use Rattle.rational.proofs.Ring.{ring, num, ◌:+◌, ◌:*◌, ◌:-◌, :neg, A, B, C, D}
use Rattle.rational.proofs.Field.{nonneg-mul}
use Rattle.rational.proofs.SumLemmas.{sum_to-same, sum_to-add, sum_to-scale, sum_to-exchange, sum_to-append, sum_to-neg, sum_to-zeros, sum_to-nonneg}
use Rattle.sequence_forms.specs.Matrices.{AreNotNegative}
use Rattle.lemke_pivot.specs.Vectors.{dot, bilinear, zeros, joined}

-- the columns as rows
abbrev pub transpose : (ℕ → ℕ → ℚ) → ℕ → ℕ → ℚ
transpose A j i = A i j

pub dot-nonneg : (n : ℕ) (u v : ℕ → ℚ) → AreNotNegative n u → AreNotNegative n v → zero_ℚ ≤ℚ dot n u v
dot-nonneg n u v h g = sum_to-nonneg n (λ i. u i *ℚ v i) (λ i k. nonneg-mul (u i) (v i) (h i k) (g i k))

pub dot-zeros : (n : ℕ) (v : ℕ → ℚ) → dot n zeros v ≡ zero_ℚ
dot-zeros n v = sum_to-zeros n (λ i. zero_ℚ *ℚ v i) (λ i k. ring rational_ring (v i ∷ []) (num 0 :* A) (num 0) refl)

pub dot-neg : (n : ℕ) (f v : ℕ → ℚ) → dot n (λ i. neg_ℚ (f i)) v ≡ neg_ℚ (dot n f v)
dot-neg n f v = sum_to-same n _ (λ i. neg_ℚ (f i *ℚ v i)) (λ i k. ring rational_ring (f i ∷ v i ∷ []) (:neg A :* B) (:neg (A :* B)) refl) ∙ sum_to-neg n (λ i. f i *ℚ v i)

pub dot_comm : (n : ℕ) (u v : ℕ → ℚ) → dot n u v ≡ dot n v u
dot_comm n u v = sum_to-same n _ _ (λ i k. ring rational_ring (u i ∷ v i ∷ []) (A :* B) (B :* A) refl)

-- the other factor may change where the two agree
pub dot_right : (n : ℕ) (u v v' : ℕ → ℚ) → ((i : ℕ) → i < n → v i ≡ v' i) → dot n u v ≡ dot n u v'
dot_right n u v v' h = sum_to-same n _ _ (λ i k. ap (λ x. u i *ℚ x) (h i k))

pub dot_none : (n : ℕ) (u v : ℕ → ℚ) → ((i : ℕ) → i < n → u i ≡ zero_ℚ) → dot n u v ≡ zero_ℚ
dot_none n u v h = sum_to-zeros n _ (λ i k. ap (λ x. x *ℚ v i) (h i k) ∙ ring rational_ring (v i ∷ []) (num 0 :* A) (num 0) refl)

pub bilinear_swap : (n m : ℕ) (M : ℕ → ℕ → ℚ) (u v : ℕ → ℚ) → bilinear n m M u v ≡ bilinear m n (transpose M) v u
bilinear_swap n m M u v =
    sum_to-same n _ _ (λ i k. sym (sum_to-scale m (u i) (λ j. M i j *ℚ v j))) ∙ sum_to-exchange n m (λ i j. u i *ℚ (M i j *ℚ v j)) ∙ sum_to-same m _ _ (λ j k. sum_to-same n _ (λ i. v j *ℚ (M i j *ℚ u i)) (λ i l. ring rational_ring (u i ∷ M i j ∷ v j ∷ []) (A :* (B :* C)) (C :* (B :* A)) refl) ∙ sum_to-scale n (v j) (λ i. M i j *ℚ u i))

-- t (a - b + c)
pub dot-three : (n : ℕ) (t a b c : ℕ → ℚ) → dot n t (λ i. (a i -ℚ b i) +ℚ c i) ≡ (dot n t a -ℚ dot n t b) +ℚ dot n t c
dot-three n t a b c =
    sum_to-same n _ (λ i. ((t i *ℚ a i) +ℚ neg_ℚ (t i *ℚ b i)) +ℚ (t i *ℚ c i)) (λ i k. ring rational_ring (t i ∷ a i ∷ b i ∷ c i ∷ []) (A :* (B :- C :+ D)) (A :* B :+ :neg (A :* C) :+ A :* D) refl)
    ∙ sum_to-add n (λ i. (t i *ℚ a i) +ℚ neg_ℚ (t i *ℚ b i)) (λ i. t i *ℚ c i)
    ∙ ap (λ x. x +ℚ dot n t c) (sum_to-add n (λ i. t i *ℚ a i) (λ i. neg_ℚ (t i *ℚ b i)) ∙ ap (λ x. dot n t a +ℚ x) (sum_to-neg n (λ i. t i *ℚ b i)))

-- t (a + b)
pub dot-two : (n : ℕ) (t a b : ℕ → ℚ) → dot n t (λ i. a i +ℚ b i) ≡ dot n t a +ℚ dot n t b
dot-two n t a b =
    sum_to-same n _ (λ i. (t i *ℚ a i) +ℚ (t i *ℚ b i)) (λ i k. ring rational_ring (t i ∷ a i ∷ b i ∷ []) (A :* (B :+ C)) (A :* B :+ A :* C) refl) ∙ sum_to-add n (λ i. t i *ℚ a i) (λ i. t i *ℚ b i)

pub dot-constant : (n : ℕ) (t : ℕ → ℚ) (c : ℚ) → dot n t (λ i. c) ≡ c *ℚ sum_to n t
dot-constant n t c = sum_to-same n _ (λ i. c *ℚ t i) (λ i k. ring rational_ring (t i ∷ c ∷ []) (A :* B) (B :* A) refl) ∙ sum_to-scale n c t

-- ---- pieces
pub joined_low : {A : Type 0} (a : ℕ) (f g : ℕ → A) (i : ℕ) → i < a → joined a f g i ≡ f i
joined_low a f g i h = grind (arith, tests)

pub joined_high : {A : Type 0} (a : ℕ) (f g : ℕ → A) (i : ℕ) → joined a f g (a + i) ≡ g i
joined_high a f g i = let e : (a + i) - a ≡ i = omega arith in let t : ltb (a + i) a ≡ false = grind (arith, tests) in ap₂ (λ b j. cond b (f (a + i)) (g j)) t e

pub dot_joined : (a b : ℕ) (f g z : ℕ → ℚ) → dot (a + b) (joined a f g) z ≡ dot a f z +ℚ dot b g (λ i. z (a + i))
dot_joined a b f g z =
    sum_to-append a b (λ i. joined a f g i *ℚ z i) ∙ ap₂ (λ x y. x +ℚ y) (sum_to-same a _ _ (λ i k. ap (λ x. x *ℚ z i) (joined_low a f g i k))) (sum_to-same b _ _ (λ i k. ap (λ x. x *ℚ z (a + i)) (joined_high a f g i)))

pub dot-neg_right : (n : ℕ) (u v : ℕ → ℚ) → dot n u (λ i. neg_ℚ (v i)) ≡ neg_ℚ (dot n u v)
dot-neg_right n u v = dot_comm n u (λ i. neg_ℚ (v i)) ∙ dot-neg n v u ∙ ap neg_ℚ (dot_comm n v u)
