-- Laws of sums.
use Rattle.std.proofs.Common.{ℕ, pos, suc, add-one, zero, ◌<◌, ◌≡◌, ◌+◌, ◌*◌, mul-zero, eqb, cond, refl, sym, ap, ap₂, ◌∙◌, subst, [], ◌∷◌, arith, inl, inr, tests, eq-or-lt_of_le, le_of_suc-le-suc, ◌≢◌, Bool, true, false, Decides}
use Rattle.std.proofs.lemmas.Int.{ints}
use Rattle.std.proofs.lemmas.Bool.Decides.{Decides-eqb}
use Rattle.rational.specs.Rational.{ℚ, ◌+ℚ◌, ◌*ℚ◌, ◌-ℚ◌, neg_ℚ, zero_ℚ, one_ℚ, whole, ◌≤ℚ◌, ◌<ℚ◌}
use Rattle.rational.specs.Sum.{sum_to, change}
use Rattle.rational.proofs.RationalRing.{rational_ring, *ℚ_comm}
use Rattle.rational.proofs.Rules.{zero-*ℚ, one-*ℚ}
use Rattle.rational.proofs.PartLemmas.{whole-add}
use Rattle.rational.proofs.Ring.{ring, combine, ◌times◌is◌, num, ◌:+◌, ◌:*◌, :neg, A, B, C, D}
use Rattle.rational.proofs.Linear.{linear, at, lit, ◌⟨+⟩◌, ◌⟨-⟩◌, ◌⟨≤⟩◌, ◌⟨<⟩◌, ◌⟨=⟩◌}
use Rattle.rational.proofs.Field.{le_refl, le_antisymm, lt_of_lt_of_le, le-sub}
use native.Mathlib.Nat as N

-- equal terms have equal sums
pub sum_to-same : (n : ℕ) (f g : ℕ → ℚ) → ((i : ℕ) → i < n → f i ≡ g i) → sum_to n f ≡ sum_to n g
sum_to-same zero f g h = refl
sum_to-same (suc n) f g h = ap₂ (λ x y. x +ℚ y) (sum_to-same n f g (λ i p. h i (omega arith))) (h n (omega arith))

-- a sum of sums
pub sum_to-add : (n : ℕ) (f g : ℕ → ℚ) → sum_to n (λ i. f i +ℚ g i) ≡ sum_to n f +ℚ sum_to n g
sum_to-add zero f g = ring rational_ring [] (num 0) (num 0 :+ num 0) refl
sum_to-add (suc n) f g =
    ap (λ x. x +ℚ (f n +ℚ g n)) (sum_to-add n f g) ∙ ring rational_ring (sum_to n f ∷ sum_to n g ∷ f n ∷ g n ∷ []) (A :+ B :+ (C :+ D)) (A :+ C :+ (B :+ D)) refl

-- the first term of a sum
pub sum_to-first : (n : ℕ) (f : ℕ → ℚ) → sum_to (suc n) f ≡ f 0 +ℚ sum_to n (λ j. f (suc j))
sum_to-first zero f = ring rational_ring (f 0 ∷ []) (num 0 :+ A) (A :+ num 0) refl
sum_to-first (suc n) f =
    ap (λ x. x +ℚ f (suc n)) (sum_to-first n f) ∙ ring rational_ring (f 0 ∷ sum_to n (λ j. f (suc j)) ∷ f (suc n) ∷ []) (A :+ B :+ C) (A :+ (B :+ C)) refl

-- a factor comes out of a sum
pub sum_to-scale : (n : ℕ) (c : ℚ) (f : ℕ → ℚ) → sum_to n (λ i. c *ℚ f i) ≡ c *ℚ sum_to n f
sum_to-scale zero c f = ring rational_ring (c ∷ []) (num 0) (A :* num 0) refl
sum_to-scale (suc n) c f = ap (λ x. x +ℚ (c *ℚ f n)) (sum_to-scale n c f) ∙ ring rational_ring (c ∷ sum_to n f ∷ f n ∷ []) (A :* B :+ A :* C) (A :* (B :+ C)) refl

-- a sum of zeros
pub sum_to-zero : (n : ℕ) → sum_to n (λ i. zero_ℚ) ≡ zero_ℚ
sum_to-zero zero = refl
sum_to-zero (suc n) = ap (λ x. x +ℚ zero_ℚ) (sum_to-zero n) ∙ ring rational_ring [] (num 0 :+ num 0) (num 0) refl

-- the order of two sums does not matter
pub sum_to-exchange : (n m : ℕ) (f : ℕ → ℕ → ℚ) → sum_to n (λ i. sum_to m (λ j. f i j)) ≡ sum_to m (λ j. sum_to n (λ i. f i j))
sum_to-exchange zero m f = sym (sum_to-zero m)
sum_to-exchange (suc n) m f =
    ap (λ x. x +ℚ sum_to m (f n)) (sum_to-exchange n m f) ∙ sym (sum_to-add m (λ j. sum_to n (λ i. f i j)) (f n))

-- terms that are at most others have a sum that is at most theirs
pub sum_to-le : (n : ℕ) (f g : ℕ → ℚ) → ((i : ℕ) → i < n → f i ≤ℚ g i) → sum_to n f ≤ℚ sum_to n g
sum_to-le zero f g h = le_refl zero_ℚ
sum_to-le (suc n) f g h =
    linear (sum_to n f ∷ sum_to n g ∷ f n ∷ g n ∷ []) ((at 0 ⟨≤⟩ at 1) ∷ (at 2 ⟨≤⟩ at 3) ∷ []) ((at 0 ⟨+⟩ at 2) ⟨≤⟩ (at 1 ⟨+⟩ at 3)) (λ one z p h. omega (arith, ints)) (sum_to-le n f g (λ i p. h i (omega arith)), (h n (omega arith), tt))

cond_other : (f : ℕ → ℚ) (v : ℚ) (i c : ℕ) → i < c → change f c v i ≡ f i
cond_other f v i c h = grind (arith, tests)

cond_past : (f : ℕ → ℚ) (v : ℚ) (i c : ℕ) → c < i → change f c v i ≡ f i
cond_past f v i c h = grind (arith, tests)

cond_same : (f : ℕ → ℚ) (v : ℚ) (c : ℕ) → change f c v c ≡ v
cond_same f v c = grind (arith, tests)

sum_to-change_last : (n : ℕ) (f g : ℕ → ℚ) (v w : ℚ) → (sum_to n (λ j. change f n v j *ℚ change g n w j) +ℚ (change f n v n *ℚ change g n w n)) +ℚ (f n *ℚ g n) ≡ (sum_to n (λ j. f j *ℚ g j) +ℚ (f n *ℚ g n)) +ℚ (v *ℚ w)
sum_to-change_last n f g v w =
    ap₂ (λ x y. (x +ℚ y) +ℚ (f n *ℚ g n)) (sum_to-same n (λ j. change f n v j *ℚ change g n w j) (λ j. f j *ℚ g j) (λ i p. ap₂ (λ x y. x *ℚ y) (cond_other f v i n p) (cond_other g w i n p))) (ap₂ (λ x y. x *ℚ y) (cond_same f v n) (cond_same g w n))
    ∙ ring rational_ring (sum_to n (λ j. f j *ℚ g j) ∷ (v *ℚ w) ∷ (f n *ℚ g n) ∷ []) (A :+ B :+ C) (A :+ C :+ B) refl

-- another factor at c, in both rows of a product
pub sum_to-change : (n c : ℕ) (f g : ℕ → ℚ) (v w : ℚ) → c < n → sum_to n (λ j. change f c v j *ℚ change g c w j) +ℚ (f c *ℚ g c) ≡ sum_to n (λ j. f j *ℚ g j) +ℚ (v *ℚ w)
sum_to-change zero c f g v w h = absurd (omega arith)
sum_to-change (suc n) c f g v w h = elim (eq-or-lt_of_le (le_of_suc-le-suc h)) [ inl e ↦ last e | inr p ↦ before p (sum_to-change n c f g v w p) ]
  where
    last : c ≡ n → (sum_to n (λ j. change f c v j *ℚ change g c w j) +ℚ (change f c v n *ℚ change g c w n)) +ℚ (f c *ℚ g c) ≡ (sum_to n (λ j. f j *ℚ g j) +ℚ (f n *ℚ g n)) +ℚ (v *ℚ w)
    last e = rw e (sum_to-change_last n f g v w)

    before : c < n → sum_to n (λ j. change f c v j *ℚ change g c w j) +ℚ (f c *ℚ g c) ≡ sum_to n (λ j. f j *ℚ g j) +ℚ (v *ℚ w) → (sum_to n (λ j. change f c v j *ℚ change g c w j) +ℚ (change f c v n *ℚ change g c w n)) +ℚ (f c *ℚ g c) ≡ (sum_to n (λ j. f j *ℚ g j) +ℚ (f n *ℚ g n)) +ℚ (v *ℚ w)
    before p ih =
        ap (λ x. (sum_to n (λ j. change f c v j *ℚ change g c w j) +ℚ x) +ℚ (f c *ℚ g c)) (ap₂ (λ x y. x *ℚ y) (cond_past f v n c p) (cond_past g w n c p))
        ∙ ring rational_ring (sum_to n (λ j. change f c v j *ℚ change g c w j) ∷ (f n *ℚ g n) ∷ (f c *ℚ g c) ∷ []) (A :+ B :+ C) (A :+ C :+ B) refl ∙ ap (λ x. x +ℚ (f n *ℚ g n)) ih
        ∙ ring rational_ring (sum_to n (λ j. f j *ℚ g j) ∷ (v *ℚ w) ∷ (f n *ℚ g n) ∷ []) (A :+ B :+ C) (A :+ C :+ B) refl

-- a sum over m + n numbers
pub sum_to-append : (m n : ℕ) (f : ℕ → ℚ) → sum_to (m + n) f ≡ sum_to m f +ℚ sum_to n (λ i. f (m + i))
sum_to-append m zero f = ap (λ k. sum_to k f) (N.add-zero m) ∙ ring rational_ring (sum_to m f ∷ []) A (A :+ num 0) refl
sum_to-append m (suc n) f =
    ap (λ k. sum_to k f) (N.add-suc m n) ∙ ap (λ x. x +ℚ f (m + n)) (sum_to-append m n f) ∙ ring rational_ring (sum_to m f ∷ sum_to n (λ i. f (m + i)) ∷ f (m + n) ∷ []) (A :+ B :+ C) (A :+ (B :+ C)) refl

-- a sum over m blocks of n numbers
pub sum_to-blocks : (n m : ℕ) (f : ℕ → ℚ) → sum_to (n * m) f ≡ sum_to m (λ j. sum_to n (λ i. f (n * j + i)))
sum_to-blocks n zero f = ap (λ k. sum_to k f) (mul-zero n)
sum_to-blocks n (suc m) f =
    ap (λ k. sum_to k f) (N.mul-suc n m) ∙ sum_to-append (n * m) n f ∙ ap (λ x. x +ℚ sum_to n (λ i. f (n * m + i))) (sum_to-blocks n m f)

change_same : (f : ℕ → ℚ) (c j : ℕ) → change f c (f c) j ≡ f j
change_same f c j = grind (arith, tests)

-- a sum in which only the term at c counts
pub sum_to-single : (n c : ℕ) (f : ℕ → ℚ) → c < n → sum_to n (λ i. cond (eqb i c) one_ℚ zero_ℚ *ℚ f i) ≡ f c
sum_to-single n c f h =
    let g : ℕ → ℚ = λ i. zero_ℚ in
    combine rational_ring (sum_to n (λ j. change g c one_ℚ j *ℚ f j) ∷ f c ∷ sum_to n (λ j. zero_ℚ *ℚ f j) ∷ []) ((num 1 times A :+ num 0 :* B is C :+ num 1 :* B) ∷ (num 1 times C is num 0) ∷ []) A B refl
    (ap (λ x. x +ℚ (zero_ℚ *ℚ f c)) (sum_to-same n _ _ (λ j p. ap (λ x. change g c one_ℚ j *ℚ x) (sym (change_same f c j)))) ∙ sum_to-change n c g f one_ℚ (f c) h, (sum_to-same n (λ j. zero_ℚ *ℚ f j) (λ j. zero_ℚ) (λ j p. ring rational_ring (f j ∷ []) (num 0 :* A) (num 0) refl) ∙ sum_to-zero n, tt))

-- a sum in which only one term counts
pub sum_to-only : (n c : ℕ) (f : ℕ → ℚ) → c < n → ((j : ℕ) → j < n → j ≢ c → f j ≡ zero_ℚ) → sum_to n f ≡ f c
sum_to-only n c f h others = sum_to-same n f _ (λ j l. term j l (eqb j c) (Decides-eqb j c)) ∙ sum_to-single n c f h
  where
    term : (j : ℕ) → j < n → (b : Bool) → Decides b (j ≡ c) → f j ≡ cond b one_ℚ zero_ℚ *ℚ f j
    term j l true d = sym (one-*ℚ (f j))
    term j l false d = others j l (λ e. let q : false ≡ true = d.1 e in cc) ∙ sym (zero-*ℚ (f j))

-- n equal terms
pub sum_to-constant : (n : ℕ) (c : ℚ) → sum_to n (λ i. c) ≡ whole (pos n) *ℚ c
sum_to-constant zero c = sym (zero-*ℚ c)
sum_to-constant (suc n) c =
    ap (λ x. x +ℚ c) (sum_to-constant n c) ∙ ring rational_ring (whole (pos n) ∷ c ∷ []) (A :* B :+ B) ((A :+ num 1) :* B) refl ∙ ap (λ x. x *ℚ c) (sym (whole-add (pos n) (pos 1))) ∙ ap (λ k. whole (pos k) *ℚ c) (add-one n)

-- ---- negation and differences
-- a sum of negated terms
pub sum_to-neg : (n : ℕ) (f : ℕ → ℚ) → sum_to n (λ i. neg_ℚ (f i)) ≡ neg_ℚ (sum_to n f)
sum_to-neg zero f = ring rational_ring [] (num 0) (:neg (num 0)) refl
sum_to-neg (suc n) f =
    ap (λ x. x +ℚ neg_ℚ (f n)) (sum_to-neg n f) ∙ ring rational_ring (sum_to n f ∷ f n ∷ []) (:neg A :+ :neg B) (:neg (A :+ B)) refl

-- a sum of differences
pub sum_to-sub : (n : ℕ) (f g : ℕ → ℚ) → sum_to n (λ i. f i -ℚ g i) ≡ sum_to n f -ℚ sum_to n g
sum_to-sub n f g = sum_to-add n f (λ i. neg_ℚ (g i)) ∙ ap (λ x. sum_to n f +ℚ x) (sum_to-neg n g)

-- a factor on the right comes out of a sum
pub sum_to-scale_right : (n : ℕ) (c : ℚ) (f : ℕ → ℚ) → sum_to n (λ i. f i *ℚ c) ≡ sum_to n f *ℚ c
sum_to-scale_right n c f =
    sum_to-same n (λ i. f i *ℚ c) (λ i. c *ℚ f i) (λ i h. *ℚ_comm (f i) c) ∙ sum_to-scale n c f ∙ *ℚ_comm c (sum_to n f)

-- terms that are all 0 sum to 0
pub sum_to-zeros : (n : ℕ) (f : ℕ → ℚ) → ((i : ℕ) → i < n → f i ≡ zero_ℚ) → sum_to n f ≡ zero_ℚ
sum_to-zeros n f h = sum_to-same n f (λ i. zero_ℚ) h ∙ sum_to-zero n

-- ---- order
-- terms that are not negative have a sum that is not negative
pub sum_to-nonneg : (n : ℕ) (f : ℕ → ℚ) → ((i : ℕ) → i < n → zero_ℚ ≤ℚ f i) → zero_ℚ ≤ℚ sum_to n f
sum_to-nonneg n f h = subst (λ x. x ≤ℚ sum_to n f) (sum_to-zero n) (sum_to-le n (λ i. zero_ℚ) f h)

-- no term of a sum of terms that are not negative is greater than the sum
pub term_le_sum : (n c : ℕ) (f : ℕ → ℚ) → ((i : ℕ) → i < n → zero_ℚ ≤ℚ f i) → c < n → f c ≤ℚ sum_to n f
term_le_sum zero c f h k = absurd (omega arith)
term_le_sum (suc n) c f h k = elim (eq-or-lt_of_le (le_of_suc-le-suc k)) [ inl e ↦ subst (λ i. f i ≤ℚ (sum_to n f +ℚ f n)) (sym e) last | inr l ↦ before l (term_le_sum n c f (λ i p. h i (omega arith)) l) ]
  where
    last : f n ≤ℚ (sum_to n f +ℚ f n)
    last =
        linear (sum_to n f ∷ f n ∷ []) ((lit (pos 0) ⟨≤⟩ at 0) ∷ []) (at 1 ⟨≤⟩ (at 0 ⟨+⟩ at 1)) (λ one z p h. omega (arith, ints)) (sum_to-nonneg n f (λ i p. h i (omega arith)), tt)

    before : c < n → f c ≤ℚ sum_to n f → f c ≤ℚ (sum_to n f +ℚ f n)
    before l ih =
        linear (f c ∷ sum_to n f ∷ f n ∷ []) ((at 0 ⟨≤⟩ at 1) ∷ (lit (pos 0) ⟨≤⟩ at 2) ∷ []) (at 0 ⟨≤⟩ (at 1 ⟨+⟩ at 2)) (λ one z p h. omega (arith, ints)) (ih, (h n (omega arith), tt))

-- terms that are not negative and sum to 0 are 0
pub each_zero : (n : ℕ) (f : ℕ → ℚ) → ((i : ℕ) → i < n → zero_ℚ ≤ℚ f i) → sum_to n f ≡ zero_ℚ → (i : ℕ) → i < n → f i ≡ zero_ℚ
each_zero n f h e i k = le_antisymm (f i) zero_ℚ (subst (λ x. f i ≤ℚ x) e (term_le_sum n i f h k)) (h i k)

-- a sum is less than another where no term is greater and one is less
pub sum_to-lt : (n c : ℕ) (f g : ℕ → ℚ) → ((i : ℕ) → i < n → f i ≤ℚ g i) → c < n → f c <ℚ g c → sum_to n f <ℚ sum_to n g
sum_to-lt n c f g h k l =
    linear (sum_to n f ∷ sum_to n g ∷ f c ∷ g c ∷ sum_to n (λ i. g i -ℚ f i) ∷ []) ((at 2 ⟨<⟩ at 3) ∷ ((at 3 ⟨-⟩ at 2) ⟨≤⟩ at 4) ∷ (at 4 ⟨=⟩ (at 1 ⟨-⟩ at 0)) ∷ []) (at 0 ⟨<⟩ at 1) (λ one z p h. omega (arith, ints))
    (l, (term_le_sum n c (λ i. g i -ℚ f i) (λ i p. (le-sub (f i) (g i)).0 (h i p)) k, (sum_to-sub n g f, tt)))

-- terms that are not negative, one of them positive, have a positive sum
pub sum_to-pos : (n c : ℕ) (f : ℕ → ℚ) → ((i : ℕ) → i < n → zero_ℚ ≤ℚ f i) → c < n → zero_ℚ <ℚ f c → zero_ℚ <ℚ sum_to n f
sum_to-pos n c f h k l = lt_of_lt_of_le zero_ℚ (f c) (sum_to n f) l (term_le_sum n c f h k)
