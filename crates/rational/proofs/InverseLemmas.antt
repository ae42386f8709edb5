-- Inverses, and products that are 0.
use Rattle.std.proofs.Common.{ℕ, ◌<◌, ◌*◌, ◌*ℤ◌, neg_ℤ, lit<, mul-pos, ◌≡◌, ◌≢◌, ◌⊎◌, inl, inr, pos, [], ◌∷◌, refl, sym, ◌∙◌, subst, arith}
use Rattle.std.proofs.lemmas.Int.{ints}
use Rattle.rational.specs.Gcd.{gcd}
use Rattle.rational.specs.Rational.{ℚ, frac, is_lowest, ◌*ℚ◌, inv_ℚ, zero_ℚ, one_ℚ, ◌≤ℚ◌, ◌<ℚ◌}
use Rattle.rational.proofs.RationalRing.{rational_ring}
use Rattle.rational.proofs.IntegerRing.{integer_ring}
use Rattle.rational.proofs.PartLemmas.{frac-eq, frac-mul}
use Rattle.rational.proofs.Rules.{*ℚ-zero}
use Rattle.rational.proofs.Ring.{ring, combine, ◌times◌is◌, num, ◌:*◌, ◌:-◌, :neg, A, B, C, D}
use Rattle.rational.proofs.Linear.{linear, lit, ◌⟨<⟩◌, ◌⟨≤⟩◌}
use Rattle.rational.proofs.Field.{*ℚ-inv, ne_of_lt, lt_of_not_le, le_of_lt, le-mul_left, not_lt_of_le}
use Rattle.rational.proofs.Decide.{is_zero}

-- 0 is at most 1
pub zero_le_one : zero_ℚ ≤ℚ one_ℚ
zero_le_one = linear [] [] (lit (pos 0) ⟨≤⟩ lit (pos 1)) (λ one z p h. omega (arith, ints)) tt

-- 0 is less than 1
pub zero_lt_one : zero_ℚ <ℚ one_ℚ
zero_lt_one = linear [] [] (lit (pos 0) ⟨<⟩ lit (pos 1)) (λ one z p h. omega (arith, ints)) tt

-- a positive number is not 0
pub ne_zero_of_pos : (a : ℚ) → zero_ℚ <ℚ a → a ≢ zero_ℚ
ne_zero_of_pos a h e = ne_of_lt zero_ℚ a h (sym e)

-- the inverse of 0 is 0
pub inv_ℚ-zero : inv_ℚ zero_ℚ ≡ zero_ℚ
unfolding inv_ℚ frac gcd is_lowest
inv_ℚ-zero = refl

-- the inverse of a positive number is positive
pub inv_pos : (a : ℚ) → zero_ℚ <ℚ a → zero_ℚ <ℚ inv_ℚ a
inv_pos a h = lt_of_not_le zero_ℚ (inv_ℚ a) (λ k. not_lt_of_le one_ℚ zero_ℚ (subst (λ x. x ≤ℚ zero_ℚ) (*ℚ-inv a (ne_zero_of_pos a h)) (subst (λ x. (a *ℚ inv_ℚ a) ≤ℚ x) (*ℚ-zero a) (le-mul_left a (inv_ℚ a) zero_ℚ (le_of_lt zero_ℚ a h) k))) zero_lt_one)

-- what makes 1 with a is its inverse
pub inv_unique : (a b : ℚ) → a *ℚ b ≡ one_ℚ → b ≡ inv_ℚ a
inv_unique a b e = elim (is_zero a) [
  | inl z ↦ absurd (ne_of_lt zero_ℚ one_ℚ zero_lt_one (combine rational_ring (a ∷ b ∷ []) ((num 1 times A :* B is num 1) ∷ (:neg B times A is num 0) ∷ []) (num 0) (num 1) refl (e, (z, tt))))
  | inr n ↦ combine rational_ring (a ∷ b ∷ inv_ℚ a ∷ []) ((C times A :* B is num 1) ∷ (:neg B times A :* C is num 1) ∷ []) B C refl (e, (*ℚ-inv a n, tt))
]

-- a number that is not 0 has an inverse that is not 0
pub inv_ne_zero : (a : ℚ) → a ≢ zero_ℚ → inv_ℚ a ≢ zero_ℚ
inv_ne_zero a n e =
    ne_of_lt zero_ℚ one_ℚ zero_lt_one (combine rational_ring (a ∷ inv_ℚ a ∷ []) ((num 1 times A :* B is num 1) ∷ (:neg A times B is num 0) ∷ []) (num 0) (num 1) refl (*ℚ-inv a n, (e, tt)))

-- the inverse of the inverse
pub inv_ℚ-inv : (a : ℚ) → a ≢ zero_ℚ → inv_ℚ (inv_ℚ a) ≡ a
inv_ℚ-inv a n = sym (inv_unique (inv_ℚ a) a (combine rational_ring (a ∷ inv_ℚ a ∷ []) ((num 1 times A :* B is num 1) ∷ []) (B :* A) (num 1) refl (*ℚ-inv a n, tt)))

-- the inverse of a product
pub inv_ℚ-mul : (a b : ℚ) → a ≢ zero_ℚ → b ≢ zero_ℚ → inv_ℚ (a *ℚ b) ≡ inv_ℚ a *ℚ inv_ℚ b
inv_ℚ-mul a b n m = sym (inv_unique (a *ℚ b) (inv_ℚ a *ℚ inv_ℚ b) (combine rational_ring (a ∷ b ∷ inv_ℚ a ∷ inv_ℚ b ∷ []) ((B :* D times A :* C is num 1) ∷ (num 1 times B :* D is num 1) ∷ []) (A :* B :* (C :* D)) (num 1) refl (*ℚ-inv a n, (*ℚ-inv b m, tt))))

-- a factor that is not 0 can be taken away
pub *ℚ_cancel : (c a b : ℚ) → c ≢ zero_ℚ → c *ℚ a ≡ c *ℚ b → a ≡ b
*ℚ_cancel c a b n e =
    combine rational_ring (a ∷ b ∷ c ∷ inv_ℚ c ∷ []) ((D times C :* A is C :* B) ∷ (B :- A times C :* D is num 1) ∷ []) A B refl (e, (*ℚ-inv c n, tt))

-- a product is 0 only where a factor is
pub no_divisors : (a b : ℚ) → a *ℚ b ≡ zero_ℚ → (a ≡ zero_ℚ) ⊎ (b ≡ zero_ℚ)
no_divisors a b e = elim (is_zero a) [
  | inl z ↦ inl z
  | inr n ↦ inr (*ℚ_cancel a b zero_ℚ n (e ∙ sym (*ℚ-zero a)))
]

-- ---- inverses of fractions
-- the inverse of a positive fraction
pub frac-inv : (n d : ℕ) → 0 < n → 0 < d → inv_ℚ (frac (pos n) d) ≡ frac (pos d) n
frac-inv n d p q =
    sym (inv_unique (frac (pos n) d) (frac (pos d) n) (frac-mul (pos n) (pos d) d n q p ∙ (frac-eq (pos n *ℤ pos d) (pos 1) (d * n) 1 (mul-pos q p) (lit< tt)).1 (ring integer_ring (pos n ∷ pos d ∷ []) (A :* B :* num 1) (num 1 :* (B :* A)) refl)))

-- the inverse of a negative fraction
pub frac-inv_neg : (n d : ℕ) → 0 < n → 0 < d → inv_ℚ (frac (neg_ℤ (pos n)) d) ≡ frac (neg_ℤ (pos d)) n
frac-inv_neg n d p q =
    sym (inv_unique (frac (neg_ℤ (pos n)) d) (frac (neg_ℤ (pos d)) n) (frac-mul (neg_ℤ (pos n)) (neg_ℤ (pos d)) d n q p ∙ (frac-eq (neg_ℤ (pos n) *ℤ neg_ℤ (pos d)) (pos 1) (d * n) 1 (mul-pos q p) (lit< tt)).1 (ring integer_ring (pos n ∷ pos d ∷ []) (:neg A :* :neg B :* num 1) (num 1 :* (B :* A)) refl)))
