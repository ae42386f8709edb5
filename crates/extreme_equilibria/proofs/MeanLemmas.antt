-- Proper means of two points. A point that is no midpoint of a convex set is no proper mean either.
use Rattle.std.proofs.Common.{ℕ, ◌<◌, ◌≡◌, [], ◌∷◌, refl, sym, ap₂, ◌∙◌, arith}
use Rattle.std.proofs.lemmas.Int.{ints}
use Rattle.rational.specs.Rational.{ℚ, ◌+ℚ◌, ◌*ℚ◌, inv_ℚ, zero_ℚ, one_ℚ, ◌≤ℚ◌, ◌<ℚ◌}
use Rattle.rational.specs.Sum.{sum_to}
use Rattle.rational.proofs.RationalRing.{rational_ring}
use Rattle.rational.proofs.Ring.{ring, combine, ◌times◌is◌, num, ◌:+◌, ◌:*◌, :neg, A, B, C, D, E, F}
use Rattle.rational.proofs.Linear.{linear, at, ◌⟨+⟩◌, ◌⟨≤⟩◌, ◌⟨=⟩◌}
use Rattle.rational.proofs.Field.{pos-mul, le-mul_left, *ℚ-inv}
use Rattle.rational.proofs.Rules.{add-*ℚ}
use Rattle.rational.proofs.SumLemmas.{sum_to-same, sum_to-add, sum_to-scale}
use Rattle.extreme_equilibria.specs.ExtremeEquilibria.{AreSame, IsMidpoint, IsNoMidpoint}
use Rattle.extreme_equilibria.specs.Bimatrix.{gain, mean_gain, IsBimatrixEquilibrium}
use Rattle.extreme_equilibria.specs.Polytopes.{IsInPolytope}
use Rattle.rational.proofs.Field.{le_of_lt, le_of_mul_left}
use Rattle.rational.proofs.InverseLemmas.{ne_zero_of_pos, *ℚ_cancel, inv_pos}
use Rattle.extreme_equilibria.proofs.PositiveNumberLemmas.{add-pos}

-- z is the mean of p and q with the weights α and β
abbrev pub IsMean : ℕ → ℚ → ℚ → (ℕ → ℚ) → (ℕ → ℚ) → (ℕ → ℚ) → Type 0
IsMean n α β p q z = (i : ℕ) → i < n → (α +ℚ β) *ℚ z i ≡ (α *ℚ p i) +ℚ (β *ℚ q i)

-- S has each proper mean of two of its points
abbrev pub IsConvex : ℕ → ((ℕ → ℚ) → Type 0) → Type 0
IsConvex n S = (α β : ℚ) (p q z : ℕ → ℚ) → zero_ℚ <ℚ α → zero_ℚ <ℚ β → IsMean n α β p q z → S p → S q → S z

-- ---- sums of means
pub sum-mean : (n : ℕ) (α β : ℚ) (p q z : ℕ → ℚ) → IsMean n α β p q z → (α +ℚ β) *ℚ sum_to n z ≡ (α *ℚ sum_to n p) +ℚ (β *ℚ sum_to n q)
sum-mean n α β p q z e =
    sym (sum_to-scale n (α +ℚ β) z) ∙ sum_to-same n _ (λ i. (α *ℚ p i) +ℚ (β *ℚ q i)) e ∙ sum_to-add n (λ i. α *ℚ p i) (λ i. β *ℚ q i) ∙ ap₂ (λ a b. a +ℚ b) (sum_to-scale n α p) (sum_to-scale n β q)

pub dot-mean : (n : ℕ) (w : ℕ → ℚ) (α β : ℚ) (p q z : ℕ → ℚ) → IsMean n α β p q z → (α +ℚ β) *ℚ sum_to n (λ i. w i *ℚ z i) ≡ (α *ℚ sum_to n (λ i. w i *ℚ p i)) +ℚ (β *ℚ sum_to n (λ i. w i *ℚ q i))
dot-mean n w α β p q z e =
    sum-mean n α β (λ i. w i *ℚ p i) (λ i. w i *ℚ q i) (λ i. w i *ℚ z i) (λ i h. combine rational_ring (α ∷ β ∷ p i ∷ q i ∷ z i ∷ w i ∷ []) ((F times (A :+ B) :* E is A :* C :+ B :* D) ∷ []) ((A :+ B) :* (F :* E)) (A :* (F :* C) :+ B :* (F :* D)) refl (e i h, tt))

pub mean-dot : (n : ℕ) (w : ℕ → ℚ) (α β : ℚ) (p q z : ℕ → ℚ) → IsMean n α β p q z → (α +ℚ β) *ℚ sum_to n (λ i. z i *ℚ w i) ≡ (α *ℚ sum_to n (λ i. p i *ℚ w i)) +ℚ (β *ℚ sum_to n (λ i. q i *ℚ w i))
mean-dot n w α β p q z e =
    sum-mean n α β (λ i. p i *ℚ w i) (λ i. q i *ℚ w i) (λ i. z i *ℚ w i) (λ i h. combine rational_ring (α ∷ β ∷ p i ∷ q i ∷ z i ∷ w i ∷ []) ((F times (A :+ B) :* E is A :* C :+ B :* D) ∷ []) ((A :+ B) :* (E :* F)) (A :* (C :* F) :+ B :* (D :* F)) refl (e i h, tt))

pub sum-midpoint : (n : ℕ) (p q z : ℕ → ℚ) → IsMidpoint n p q z → sum_to n p +ℚ sum_to n q ≡ sum_to n z +ℚ sum_to n z
sum-midpoint n p q z e = sym (sum_to-add n p q) ∙ sum_to-same n _ (λ i. z i +ℚ z i) e ∙ sum_to-add n z z

pub dot-midpoint : (n : ℕ) (w p q z : ℕ → ℚ) → IsMidpoint n p q z → sum_to n (λ i. w i *ℚ p i) +ℚ sum_to n (λ i. w i *ℚ q i) ≡ sum_to n (λ i. w i *ℚ z i) +ℚ sum_to n (λ i. w i *ℚ z i)
dot-midpoint n w p q z e =
    sum-midpoint n (λ i. w i *ℚ p i) (λ i. w i *ℚ q i) (λ i. w i *ℚ z i) (λ i h. combine rational_ring (p i ∷ q i ∷ z i ∷ w i ∷ []) ((D times A :+ B is C :+ C) ∷ []) (D :* A :+ D :* B) (D :* C :+ D :* C) refl (e i h, tt))

-- ---- means of numbers
-- means with the same weights keep the order
pub mean-≤ : (α β p q z p' q' z' : ℚ) → zero_ℚ <ℚ α → zero_ℚ <ℚ β → (α +ℚ β) *ℚ z ≡ (α *ℚ p) +ℚ (β *ℚ q) → (α +ℚ β) *ℚ z' ≡ (α *ℚ p') +ℚ (β *ℚ q') → p ≤ℚ p' → q ≤ℚ q' → z ≤ℚ z'
mean-≤ α β p q z p' q' z' h g e e' k l =
    le_of_mul_left (α +ℚ β) z z' (add-pos α β h g) (linear (((α +ℚ β) *ℚ z) ∷ ((α +ℚ β) *ℚ z') ∷ (α *ℚ p) ∷ (β *ℚ q) ∷ (α *ℚ p') ∷ (β *ℚ q') ∷ []) ((at 0 ⟨=⟩ (at 2 ⟨+⟩ at 3)) ∷ (at 1 ⟨=⟩ (at 4 ⟨+⟩ at 5)) ∷ (at 2 ⟨≤⟩ at 4) ∷ (at 3 ⟨≤⟩ at 5) ∷ []) (at 0 ⟨≤⟩ at 1) (λ one z u v. omega (arith, ints)) (e, (e', (le-mul_left α p p' (le_of_lt zero_ℚ α h) k, (le-mul_left β q q' (le_of_lt zero_ℚ β g) l, tt)))))

-- ---- the two convex sets
pub polytope_convex : (k r : ℕ) (c : ℕ → ℕ → ℚ) → IsConvex k (IsInPolytope k r c)
polytope_convex k r c α β p q z h g e s t =
    record {
      not_negative = λ i b. mean-≤ α β zero_ℚ zero_ℚ zero_ℚ (p i) (q i) (z i) h g (add-*ℚ α β zero_ℚ) (e i b) (s.not_negative i b) (t.not_negative i b);
      rows = λ j b. mean-≤ α β (gain k c p j) (gain k c q j) (gain k c z j) one_ℚ one_ℚ one_ℚ h g (dot-mean k (c j) α β p q z e) (add-*ℚ α β one_ℚ) (s.rows j b) (t.rows j b);
    }

-- the first parts that make an equilibrium with y
pub equilibria_convex : (m n : ℕ) (a c : ℕ → ℕ → ℚ) (y : ℕ → ℚ) → IsConvex m (λ x. IsBimatrixEquilibrium m n a c x y)
equilibria_convex m n a c y α β p q z h g e s t =
    record {
      first_mixed = record {
        not_negative = λ i b. mean-≤ α β zero_ℚ zero_ℚ zero_ℚ (p i) (q i) (z i) h g (add-*ℚ α β zero_ℚ) (e i b) (s.first_mixed.not_negative i b) (t.first_mixed.not_negative i b);
        sum_is_one = *ℚ_cancel (α +ℚ β) (sum_to m z) one_ℚ (ne_zero_of_pos (α +ℚ β) (add-pos α β h g)) (sum-mean m α β p q z e ∙ ap₂ (λ a b. (α *ℚ a) +ℚ (β *ℚ b)) s.first_mixed.sum_is_one t.first_mixed.sum_is_one ∙ sym (add-*ℚ α β one_ℚ));
      };
      second_mixed = s.second_mixed;
      first_best = λ i b. mean-≤ α β (gain n a y i) (gain n a y i) (gain n a y i) (mean_gain m n a p y) (mean_gain m n a q y) (mean_gain m n a z y) h g (add-*ℚ α β (gain n a y i)) (mean-dot m (gain n a y) α β p q z e) (s.first_best i b) (t.first_best i b);
      second_best = λ j b. mean-≤ α β (gain m c p j) (gain m c q j) (gain m c z j) (mean_gain n m c y p) (mean_gain n m c y q) (mean_gain n m c y z) h g (dot-mean m (c j) α β p q z e) (dot-mean n y α β (gain m c p) (gain m c q) (gain m c z) (λ j b. dot-mean m (c j) α β p q z e)) (s.second_best j b) (t.second_best j b);
    }

-- ---- stretching
-- weights a and b, where t is 1 over their sum
abbrev pub blend : ℚ → ℚ → ℚ → (ℕ → ℚ) → (ℕ → ℚ) → ℕ → ℚ
blend t a b p q i = t *ℚ ((a *ℚ p i) +ℚ (b *ℚ q i))

blend_mean : (n : ℕ) (t a b : ℚ) (p q : ℕ → ℚ) → (a +ℚ b) *ℚ t ≡ one_ℚ → IsMean n a b p q (blend t a b p q)
blend_mean n t a b p q e i h =
    combine rational_ring (t ∷ a ∷ b ∷ p i ∷ q i ∷ []) ((B :* D :+ C :* E times (B :+ C) :* A is num 1) ∷ []) ((B :+ C) :* (A :* (B :* D :+ C :* E))) (B :* D :+ C :* E) refl (e, tt)

-- the two points that the mean is stretched to have it as their midpoint
stretched_middle : (α β t p q z : ℚ) → ((α +ℚ β) *ℚ (α +ℚ β)) *ℚ t ≡ one_ℚ → (α +ℚ β) *ℚ z ≡ (α *ℚ p) +ℚ (β *ℚ q) → (t *ℚ ((((α *ℚ α) +ℚ ((α *ℚ β) +ℚ (α *ℚ β))) *ℚ p) +ℚ ((β *ℚ β) *ℚ q))) +ℚ (t *ℚ (((α *ℚ α) *ℚ p) +ℚ (((β *ℚ β) +ℚ ((α *ℚ β) +ℚ (α *ℚ β))) *ℚ q))) ≡ z +ℚ z
stretched_middle α β t p q z one e =
    combine rational_ring (α ∷ β ∷ t ∷ p ∷ q ∷ z ∷ []) ((:neg (num 2 :* (C :* (A :+ B))) times (A :+ B) :* F is A :* D :+ B :* E) ∷ (num 2 :* F times (A :+ B) :* (A :+ B) :* C is num 1) ∷ []) (C :* ((A :* A :+ (A :* B :+ A :* B)) :* D :+ B :* B :* E) :+ C :* (A :* A :* D :+ (B :* B :+ (A :* B :+ A :* B)) :* E)) (F :+ F) refl (e, (one, tt))

-- they differ where p and q do
stretched_apart : (α β t p q : ℚ) → zero_ℚ <ℚ α → zero_ℚ <ℚ β → zero_ℚ <ℚ t → t *ℚ ((((α *ℚ α) +ℚ ((α *ℚ β) +ℚ (α *ℚ β))) *ℚ p) +ℚ ((β *ℚ β) *ℚ q)) ≡ t *ℚ (((α *ℚ α) *ℚ p) +ℚ (((β *ℚ β) +ℚ ((α *ℚ β) +ℚ (α *ℚ β))) *ℚ q)) → p ≡ q
stretched_apart α β t p q h g k e =
    *ℚ_cancel (t *ℚ ((α *ℚ β) +ℚ (α *ℚ β))) p q (ne_zero_of_pos _ (pos-mul t _ k (add-pos _ _ (pos-mul α β h g) (pos-mul α β h g)))) (combine rational_ring (α ∷ β ∷ t ∷ p ∷ q ∷ []) ((num 1 times C :* ((A :* A :+ (A :* B :+ A :* B)) :* D :+ B :* B :* E) is C :* (A :* A :* D :+ (B :* B :+ (A :* B :+ A :* B)) :* E)) ∷ []) (C :* (A :* B :+ A :* B) :* D) (C :* (A :* B :+ A :* B) :* E) refl (e, tt))

pub alone_mean : (n : ℕ) (S : (ℕ → ℚ) → Type 0) (z : ℕ → ℚ) → IsConvex n S → IsNoMidpoint n S z → (α β : ℚ) (p q : ℕ → ℚ) → zero_ℚ <ℚ α → zero_ℚ <ℚ β → IsMean n α β p q z → S p → S q → AreSame n p q
alone_mean n S z convex alone α β p q h g e sp sq i b =
    let two : ℚ = (α *ℚ β) +ℚ (α *ℚ β) in
    let t : ℚ = inv_ℚ ((α +ℚ β) *ℚ (α +ℚ β)) in
    let sum : zero_ℚ <ℚ (α +ℚ β) = add-pos α β h g in
    let square : zero_ℚ <ℚ ((α +ℚ β) *ℚ (α +ℚ β)) = pos-mul (α +ℚ β) (α +ℚ β) sum sum in
    let one : ((α +ℚ β) *ℚ (α +ℚ β)) *ℚ t ≡ one_ℚ = *ℚ-inv _ (ne_zero_of_pos _ square) in
    let twice : zero_ℚ <ℚ two = add-pos _ _ (pos-mul α β h g) (pos-mul α β h g) in
    let left : S (blend t ((α *ℚ α) +ℚ two) (β *ℚ β) p q) = convex ((α *ℚ α) +ℚ two) (β *ℚ β) p q _ (add-pos _ _ (pos-mul α α h h) twice) (pos-mul β β g g) (blend_mean n t _ _ p q (ring rational_ring (α ∷ β ∷ t ∷ []) ((A :* A :+ (A :* B :+ A :* B) :+ B :* B) :* C) ((A :+ B) :* (A :+ B) :* C) refl ∙ one)) sp sq in
    let right : S (blend t (α *ℚ α) ((β *ℚ β) +ℚ two) p q) = convex (α *ℚ α) ((β *ℚ β) +ℚ two) p q _ (pos-mul α α h h) (add-pos _ _ (pos-mul β β g g) twice) (blend_mean n t _ _ p q (ring rational_ring (α ∷ β ∷ t ∷ []) ((A :* A :+ (B :* B :+ (A :* B :+ A :* B))) :* C) ((A :+ B) :* (A :+ B) :* C) refl ∙ one)) sp sq in
    stretched_apart α β t (p i) (q i) h g (inv_pos _ square) (alone (blend t ((α *ℚ α) +ℚ two) (β *ℚ β) p q) (blend t (α *ℚ α) ((β *ℚ β) +ℚ two) p q) left right (λ i b. stretched_middle α β t (p i) (q i) (z i) one (e i b)) i b)
