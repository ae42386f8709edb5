-- The rationals are an ordered field.
use Rattle.std.proofs.Common.{ℕ, suc, zero, ◌*◌, ◌≡◌, ◌≢◌, ◌⊎◌, ◌↔◌, inl, inr, ℤ, pos, negsuc, neg_ℤ, ◌*ℤ◌, ◌≤ℤ◌, ◌<ℤ◌, refl, sym, ap, ◌∙◌, [], ◌∷◌, lit<, arith, mul-pos, subst, subst₂, zero-lt-suc}
use Rattle.std.proofs.lemmas.Int.{ints, by_lt_z}
use Rattle.rational.specs.Gcd.{gcd}
use Rattle.rational.specs.Rational.{ℚ, is_lowest, frac, ◌+ℚ◌, ◌*ℚ◌, ◌-ℚ◌, inv_ℚ, zero_ℚ, one_ℚ, ◌≤ℚ◌, ◌<ℚ◌}
use Rattle.rational.proofs.DenominatorLemmas.{den_pos}
pub use Rattle.rational.specs.Midpoint.{half}
use Rattle.rational.proofs.IntegerRing.{integer_ring}
use Rattle.rational.proofs.RationalRing.{rational_ring, *ℚ_comm}
use Rattle.rational.proofs.FractionLemmas.{StandsFor, equal_by, StandsFor-self, StandsFor-frac, StandsFor-mul}
use Rattle.rational.proofs.OrderLemmas.{le_by, lt_by}
use Rattle.rational.proofs.Ring.{ring, num, ◌:+◌, ◌:*◌, ◌:-◌, :neg, A, B, C}
use Rattle.rational.proofs.PartLemmas.{nonneg-num, pos-num}
use Rattle.rational.proofs.Linear.{linear, at, lit, ◌⟨+⟩◌, ◌⟨-⟩◌, ◌⟨≤⟩◌, ◌⟨<⟩◌, ◌⟨=⟩◌, zero-over}

-- ---- order
-- a is at most b, or b is below a
pub le_or_lt : (a b : ℚ) → (a ≤ℚ b) ⊎ (b <ℚ a)
le_or_lt a b =
    by_lt_z (b.num *ℤ pos a.den) (a.num *ℤ pos b.den) (λ h. inr (record { cross = h })) (λ h. inl (record { cross = h }))

-- at most is reflexive
pub le_refl : (a : ℚ) → a ≤ℚ a
le_refl a = linear (a ∷ []) [] (at 0 ⟨≤⟩ at 0) (λ one z p h. omega (arith, ints)) tt

-- at most is transitive
pub le_trans : (a b c : ℚ) → a ≤ℚ b → b ≤ℚ c → a ≤ℚ c
le_trans a b c h g =
    linear (a ∷ b ∷ c ∷ []) ((at 0 ⟨≤⟩ at 1) ∷ (at 1 ⟨≤⟩ at 2) ∷ []) (at 0 ⟨≤⟩ at 2) (λ one z p h. omega (arith, ints)) (h, (g, tt))

-- numbers that are at most one another are equal
pub le_antisymm : (a b : ℚ) → a ≤ℚ b → b ≤ℚ a → a ≡ b
le_antisymm a b h g =
    linear (a ∷ b ∷ []) ((at 0 ⟨≤⟩ at 1) ∷ (at 1 ⟨≤⟩ at 0) ∷ []) (at 0 ⟨=⟩ at 1) (λ one z p h. omega (arith, ints)) (h, (g, tt))

-- no number is below itself
pub lt_irrefl : (a : ℚ) → a <ℚ a → ⊥
lt_irrefl a h = omega (arith, ints, h.cross)

-- below is transitive
pub lt_trans : (a b c : ℚ) → a <ℚ b → b <ℚ c → a <ℚ c
lt_trans a b c h g =
    linear (a ∷ b ∷ c ∷ []) ((at 0 ⟨<⟩ at 1) ∷ (at 1 ⟨<⟩ at 2) ∷ []) (at 0 ⟨<⟩ at 2) (λ one z p h. omega (arith, ints)) (h, (g, tt))

-- at most, then below
pub lt_of_le_of_lt : (a b c : ℚ) → a ≤ℚ b → b <ℚ c → a <ℚ c
lt_of_le_of_lt a b c h g =
    linear (a ∷ b ∷ c ∷ []) ((at 0 ⟨≤⟩ at 1) ∷ (at 1 ⟨<⟩ at 2) ∷ []) (at 0 ⟨<⟩ at 2) (λ one z p h. omega (arith, ints)) (h, (g, tt))

-- below, then at most
pub lt_of_lt_of_le : (a b c : ℚ) → a <ℚ b → b ≤ℚ c → a <ℚ c
lt_of_lt_of_le a b c h g =
    linear (a ∷ b ∷ c ∷ []) ((at 0 ⟨<⟩ at 1) ∷ (at 1 ⟨≤⟩ at 2) ∷ []) (at 0 ⟨<⟩ at 2) (λ one z p h. omega (arith, ints)) (h, (g, tt))

-- what is below b is at most b
pub le_of_lt : (a b : ℚ) → a <ℚ b → a ≤ℚ b
le_of_lt a b h = linear (a ∷ b ∷ []) ((at 0 ⟨<⟩ at 1) ∷ []) (at 0 ⟨≤⟩ at 1) (λ one z p h. omega (arith, ints)) (h, tt)

-- equal numbers are at most one another
pub le_of_eq : (a b : ℚ) → a ≡ b → a ≤ℚ b
le_of_eq a b e = subst (λ x. a ≤ℚ x) e (le_refl a)

-- what is below b is not b
pub ne_of_lt : (a b : ℚ) → a <ℚ b → a ≢ b
ne_of_lt a b h e = lt_irrefl b (subst (λ x. x <ℚ b) e h)

-- what is at most b has not b below it
pub not_lt_of_le : (a b : ℚ) → a ≤ℚ b → b <ℚ a → ⊥
not_lt_of_le a b h g = lt_irrefl a (lt_of_le_of_lt a b a h g)

-- what is below b has not b at most it
pub not_le_of_lt : (a b : ℚ) → a <ℚ b → b ≤ℚ a → ⊥
not_le_of_lt a b h g = lt_irrefl a (lt_of_lt_of_le a b a h g)

-- a is at most b where b is not below a
pub le_of_not_lt : (a b : ℚ) → (b <ℚ a → ⊥) → a ≤ℚ b
le_of_not_lt a b h = elim (le_or_lt a b) [ inl l ↦ l | inr g ↦ absurd (h g) ]

-- a is below b where b is not at most a
pub lt_of_not_le : (a b : ℚ) → (b ≤ℚ a → ⊥) → a <ℚ b
lt_of_not_le a b h = elim (le_or_lt b a) [ inl l ↦ absurd (h l) | inr g ↦ g ]

-- a is at most b or b is at most a
pub le_total : (a b : ℚ) → (a ≤ℚ b) ⊎ (b ≤ℚ a)
le_total a b = elim (le_or_lt a b) [ inl l ↦ inl l | inr g ↦ inr (le_of_lt b a g) ]

-- what is at most b is b or below it
pub eq_or_lt_of_le : (a b : ℚ) → a ≤ℚ b → (a ≡ b) ⊎ (a <ℚ b)
eq_or_lt_of_le a b h = elim (le_or_lt b a) [ inl l ↦ inl (le_antisymm a b h l) | inr g ↦ inr g ]

-- one of three
pub trichotomy : (a b : ℚ) → (a <ℚ b) ⊎ ((a ≡ b) ⊎ (b <ℚ a))
trichotomy a b = elim (le_or_lt a b) [
  | inl l ↦ elim (eq_or_lt_of_le a b l) [ inl e ↦ inr (inl e) | inr g ↦ inl g ]
  | inr g ↦ inr (inr g)
]

-- below is at most and not equal
pub lt-le : (a b : ℚ) → (a <ℚ b) ↔ ((a ≤ℚ b) × (a ≢ b))
lt-le a b = (
  λ h. (le_of_lt a b h, ne_of_lt a b h),
  λ h. elim (eq_or_lt_of_le a b h.0) [ inl e ↦ absurd (h.1 e) | inr l ↦ l ],
)

-- ---- sums, negation and differences keep or turn the order
-- the greater of both summands
pub le-add : (a b c d : ℚ) → a ≤ℚ b → c ≤ℚ d → (a +ℚ c) ≤ℚ (b +ℚ d)
le-add a b c d h g =
    linear (a ∷ b ∷ c ∷ d ∷ []) ((at 0 ⟨≤⟩ at 1) ∷ (at 2 ⟨≤⟩ at 3) ∷ []) ((at 0 ⟨+⟩ at 2) ⟨≤⟩ (at 1 ⟨+⟩ at 3)) (λ one z p h. omega (arith, ints)) (h, (g, tt))

-- a summand on the left keeps the order
pub le-add_left : (c a b : ℚ) → a ≤ℚ b → (c +ℚ a) ≤ℚ (c +ℚ b)
le-add_left c a b h = le-add c c a b (le_refl c) h

-- the greater of both summands, one of them truly so
pub lt-add : (a b c d : ℚ) → a <ℚ b → c ≤ℚ d → (a +ℚ c) <ℚ (b +ℚ d)
lt-add a b c d h g =
    linear (a ∷ b ∷ c ∷ d ∷ []) ((at 0 ⟨<⟩ at 1) ∷ (at 2 ⟨≤⟩ at 3) ∷ []) ((at 0 ⟨+⟩ at 2) ⟨<⟩ (at 1 ⟨+⟩ at 3)) (λ one z p h. omega (arith, ints)) (h, (g, tt))

-- numbers that are not negative have a sum that is not negative
pub nonneg-add : (a b : ℚ) → zero_ℚ ≤ℚ a → zero_ℚ ≤ℚ b → zero_ℚ ≤ℚ (a +ℚ b)
nonneg-add a b h g =
    linear (a ∷ b ∷ []) ((lit (pos 0) ⟨≤⟩ at 0) ∷ (lit (pos 0) ⟨≤⟩ at 1) ∷ []) (lit (pos 0) ⟨≤⟩ (at 0 ⟨+⟩ at 1)) (λ one z p h. omega (arith, ints)) (h, (g, tt))

-- a is at most b exactly where b - a is not negative
pub le-sub : (a b : ℚ) → (a ≤ℚ b) ↔ (zero_ℚ ≤ℚ (b -ℚ a))
le-sub a b = (
  λ h. linear (a ∷ b ∷ []) ((at 0 ⟨≤⟩ at 1) ∷ []) (lit (pos 0) ⟨≤⟩ (at 1 ⟨-⟩ at 0)) (λ one z p h. omega (arith, ints)) (h, tt),
  λ h. linear (a ∷ b ∷ []) ((lit (pos 0) ⟨≤⟩ (at 1 ⟨-⟩ at 0)) ∷ []) (at 0 ⟨≤⟩ at 1) (λ one z p h. omega (arith, ints)) (h, tt),
)

-- a is below b exactly where b - a is positive
pub lt-sub : (a b : ℚ) → (a <ℚ b) ↔ (zero_ℚ <ℚ (b -ℚ a))
lt-sub a b = (
  λ h. linear (a ∷ b ∷ []) ((at 0 ⟨<⟩ at 1) ∷ []) (lit (pos 0) ⟨<⟩ (at 1 ⟨-⟩ at 0)) (λ one z p h. omega (arith, ints)) (h, tt),
  λ h. linear (a ∷ b ∷ []) ((lit (pos 0) ⟨<⟩ (at 1 ⟨-⟩ at 0)) ∷ []) (at 0 ⟨<⟩ at 1) (λ one z p h. omega (arith, ints)) (h, tt),
)

-- a is b exactly where a - b is 0
pub eq-sub : (a b : ℚ) → (a ≡ b) ↔ (a -ℚ b ≡ zero_ℚ)
eq-sub a b = (
  λ h. linear (a ∷ b ∷ []) ((at 0 ⟨=⟩ at 1) ∷ []) ((at 0 ⟨-⟩ at 1) ⟨=⟩ lit (pos 0)) (λ one z p h. omega (arith, ints)) (h, tt),
  λ h. linear (a ∷ b ∷ []) (((at 0 ⟨-⟩ at 1) ⟨=⟩ lit (pos 0)) ∷ []) (at 0 ⟨=⟩ at 1) (λ one z p h. omega (arith, ints)) (h, tt),
)

-- ---- signs of products
nonneg-*ℤ : (m n : ℤ) → pos 0 ≤ℤ m → pos 0 ≤ℤ n → pos 0 ≤ℤ (m *ℤ n)
nonneg-*ℤ (pos m) (pos n) h g = omega (arith, ints)
nonneg-*ℤ (pos m) (negsuc n) h g = absurd (omega (arith, ints))
nonneg-*ℤ (negsuc m) n h g = absurd (omega (arith, ints))

pub pos-*ℤ : (m n : ℤ) → pos 0 <ℤ m → pos 0 <ℤ n → pos 0 <ℤ (m *ℤ n)
pos-*ℤ (pos zero) n h g = absurd (omega (arith, ints))
pos-*ℤ (pos (suc m)) (pos zero) h g = absurd (omega (arith, ints))
pos-*ℤ (pos (suc m)) (pos (suc n)) h g = omega (arith, ints)
pos-*ℤ (pos (suc m)) (negsuc n) h g = absurd (omega (arith, ints))
pos-*ℤ (negsuc m) n h g = absurd (omega (arith, ints))

-- factors that are not negative have a product that is not negative
pub nonneg-mul : (a b : ℚ) → zero_ℚ ≤ℚ a → zero_ℚ ≤ℚ b → zero_ℚ ≤ℚ (a *ℚ b)
nonneg-mul a b h g =
    le_by zero_ℚ (a *ℚ b) (pos 0) (a.num *ℤ b.num) (a.den * b.den) (zero-over (a.den * b.den) (mul-pos (den_pos a) (den_pos b))) (StandsFor-mul a b _ _ _ _ (StandsFor-self a) (StandsFor-self b)) (nonneg-*ℤ a.num b.num ((nonneg-num a).0 h) ((nonneg-num b).0 g))

-- positive factors have a positive product
pub pos-mul : (a b : ℚ) → zero_ℚ <ℚ a → zero_ℚ <ℚ b → zero_ℚ <ℚ (a *ℚ b)
pos-mul a b h g =
    lt_by zero_ℚ (a *ℚ b) (pos 0) (a.num *ℤ b.num) (a.den * b.den) (zero-over (a.den * b.den) (mul-pos (den_pos a) (den_pos b))) (StandsFor-mul a b _ _ _ _ (StandsFor-self a) (StandsFor-self b)) (pos-*ℤ a.num b.num ((pos-num a).0 h) ((pos-num b).0 g))

-- a factor that is not negative keeps the order
pub le-mul_left : (c a b : ℚ) → zero_ℚ ≤ℚ c → a ≤ℚ b → (c *ℚ a) ≤ℚ (c *ℚ b)
le-mul_left c a b h g =
    (le-sub (c *ℚ a) (c *ℚ b)).1 (subst (λ x. zero_ℚ ≤ℚ x) (ring rational_ring (a ∷ b ∷ c ∷ []) (C :* (B :- A)) (C :* B :- C :* A) refl) (nonneg-mul c (b -ℚ a) h ((le-sub a b).0 g)))

-- a factor on the right that is not negative keeps the order
pub le-mul_right : (c a b : ℚ) → zero_ℚ ≤ℚ c → a ≤ℚ b → (a *ℚ c) ≤ℚ (b *ℚ c)
le-mul_right c a b h g = subst₂ (λ x y. x ≤ℚ y) (*ℚ_comm c a) (*ℚ_comm c b) (le-mul_left c a b h g)

-- a positive factor keeps the strict order
pub lt-mul_left : (c a b : ℚ) → zero_ℚ <ℚ c → a <ℚ b → (c *ℚ a) <ℚ (c *ℚ b)
lt-mul_left c a b h g =
    (lt-sub (c *ℚ a) (c *ℚ b)).1 (subst (λ x. zero_ℚ <ℚ x) (ring rational_ring (a ∷ b ∷ c ∷ []) (C :* (B :- A)) (C :* B :- C :* A) refl) (pos-mul c (b -ℚ a) h ((lt-sub a b).0 g)))

-- a positive factor can be taken away from an inequality
pub le_of_mul_left : (c a b : ℚ) → zero_ℚ <ℚ c → (c *ℚ a) ≤ℚ (c *ℚ b) → a ≤ℚ b
le_of_mul_left c a b h g = le_of_not_lt a b (λ k. not_le_of_lt (c *ℚ b) (c *ℚ a) (lt-mul_left c b a h k) g)

-- ---- the inverse
inv_is_pos : (a : ℚ) (n : ℕ) → a.num ≡ pos (suc n) → StandsFor (inv_ℚ a) (pos a.den) (suc n)
unfolding inv_ℚ
inv_is_pos a n e = subst (λ x. StandsFor (elim x [ pos n ↦ frac (pos a.den) n | negsuc n ↦ frac (neg_ℤ (pos a.den)) (suc n) ]) (pos a.den) (suc n)) (sym e) (StandsFor-frac (pos a.den) (suc n) (zero-lt-suc n))

inv_is_neg : (a : ℚ) (n : ℕ) → a.num ≡ negsuc n → StandsFor (inv_ℚ a) (neg_ℤ (pos a.den)) (suc n)
unfolding inv_ℚ
inv_is_neg a n e = subst (λ x. StandsFor (elim x [ pos n ↦ frac (pos a.den) n | negsuc n ↦ frac (neg_ℤ (pos a.den)) (suc n) ]) (neg_ℤ (pos a.den)) (suc n)) (sym e) (StandsFor-frac (neg_ℤ (pos a.den)) (suc n) (zero-lt-suc n))

-- a number that is not 0 makes 1 with its inverse
pub *ℚ-inv : (a : ℚ) → a ≢ zero_ℚ → a *ℚ inv_ℚ a ≡ one_ℚ
*ℚ-inv a h = go a.num refl
  where
    by : (n : ℤ) (m : ℤ) (k : ℕ) → a.num ≡ n → StandsFor (inv_ℚ a) m (suc k) → (n *ℤ m) ≡ pos (a.den * suc k) → a *ℚ inv_ℚ a ≡ one_ℚ
    by n m k e p c =
        equal_by (a *ℚ inv_ℚ a) one_ℚ (a.num *ℤ m) (pos 1) (a.den * suc k) 1 (StandsFor-mul a (inv_ℚ a) a.num m a.den (suc k) (StandsFor-self a) p) (StandsFor-frac (pos 1) 1 (lit< tt))
        (ap (λ x. (x *ℤ m) *ℤ pos 1) e ∙ ap (λ x. x *ℤ pos 1) c ∙ ring integer_ring (pos (a.den * suc k) ∷ []) (A :* num 1) (num 1 :* A) refl)

    go : (n : ℤ) → a.num ≡ n → a *ℚ inv_ℚ a ≡ one_ℚ
    go (pos zero) e = absurd (h (equal_by a zero_ℚ a.num (pos 0) a.den 1 (StandsFor-self a) (StandsFor-frac (pos 0) 1 (lit< tt)) (ap (λ x. x *ℤ pos 1) e ∙ ring integer_ring (pos a.den ∷ []) (num 0 :* num 1) (num 0 :* A) refl)))
    go (pos (suc n)) e = by (pos (suc n)) (pos a.den) n e (inv_is_pos a n e) (ring integer_ring (pos (suc n) ∷ pos a.den ∷ []) (A :* B) (B :* A) refl)
    go (negsuc n) e = by (negsuc n) (neg_ℤ (pos a.den)) n e (inv_is_neg a n e) (ring integer_ring (pos (suc n) ∷ pos a.den ∷ []) (:neg A :* :neg B) (B :* A) refl)

-- ---- halves
-- one half and one half
pub two_halves : half +ℚ half ≡ one_ℚ
unfolding frac ◌+ℚ◌ gcd is_lowest
two_halves = refl

-- two halves of a number make the number
pub half_twice : (a : ℚ) → (half *ℚ a) +ℚ (half *ℚ a) ≡ a
half_twice a =
    ring rational_ring (half ∷ a ∷ []) (A :* B :+ A :* B) ((A :+ A) :* B) refl ∙ ap (λ x. x *ℚ a) two_halves ∙ ring rational_ring (a ∷ []) (num 1 :* A) A refl
