-- The laws of the rational numbers, as statements. Those of a commutative ring and of an ordered
-- field are the usual axioms; each is proved by a function of src/lib.rt.
use Rattle.std.specs.Prelude.{ℕ, suc, ◌+◌, ◌*◌, ◌<◌, ◌≡◌, ◌≢◌, ◌⊎◌, ◌↔◌, IsTrue, ℤ, pos, negsuc, neg_ℤ, ◌+ℤ◌, ◌*ℤ◌, ◌≤ℤ◌, ◌<ℤ◌, nat_abs, List}
use Rattle.std.specs.Int.{◌∣◌}
use Rattle.std.specs.declared.cmp.Ordering.TheVariants.{Less, Equal, Greater}
use Rattle.rational.specs.Gcd.{gcd}
use Rattle.rational.specs.Rational.{ℚ, frac, ◌+ℚ◌, ◌*ℚ◌, neg_ℚ, inv_ℚ, zero_ℚ, one_ℚ, ◌≤ℚ◌, ◌<ℚ◌}
use Rattle.rational.specs.Extremes.{IsGreatest, IsLeast}
use Rattle.rational.specs.Midpoint.{midpoint}
use Rattle.rational.specs.Sum.{sum_to, IsDistribution}
use Rattle.rational.specs.Tests.{le_test, lt_test, cmp_ℚ, eq_ℚ, sign_of}

-- What `gcd` gives divides both numbers, and each common divisor divides it.
pub record GcdIsGreatest : Type 0 where
  pub divides_first : (a b : ℕ) → gcd a b ∣ a
  pub divides_second : (a b : ℕ) → gcd a b ∣ b
  pub greatest : (a b d : ℕ) → d ∣ a → d ∣ b → d ∣ gcd a b

-- Fractions with positive denominators stand for the rationals: each rational is one in lowest
-- terms, and fractions are compared, added, multiplied, negated and turned over as in school.
pub record FractionsStandForNumbers : Type 0 where
  pub own_parts : (a : ℚ) → frac a.num a.den ≡ a
  pub lowest : (a : ℚ) → (0 < a.den) × (gcd (nat_abs a.num) a.den ≡ 1)
  pub equal : (m n : ℤ) (d e : ℕ) → 0 < d → 0 < e
      → (frac m d ≡ frac n e) ↔ (m *ℤ pos e ≡ n *ℤ pos d)
  pub at_most : (m n : ℤ) (d e : ℕ) → 0 < d → 0 < e
      → (frac m d ≤ℚ frac n e) ↔ ((m *ℤ pos e) ≤ℤ (n *ℤ pos d))
  pub below : (m n : ℤ) (d e : ℕ) → 0 < d → 0 < e
      → (frac m d <ℚ frac n e) ↔ ((m *ℤ pos e) <ℤ (n *ℤ pos d))
  pub sum : (m n : ℤ) (d e : ℕ) → 0 < d → 0 < e
      → frac m d +ℚ frac n e ≡ frac ((m *ℤ pos e) +ℤ (n *ℤ pos d)) (d * e)
  pub product : (m n : ℤ) (d e : ℕ) → 0 < d → 0 < e → frac m d *ℚ frac n e ≡ frac (m *ℤ n) (d * e)
  pub negation : (n : ℤ) (d : ℕ) → 0 < d → neg_ℚ (frac n d) ≡ frac (neg_ℤ n) d
  pub inverse : (n d : ℕ) → 0 < n → 0 < d → inv_ℚ (frac (pos n) d) ≡ frac (pos d) n
  pub inverse_of_negative : (n d : ℕ) → 0 < n → 0 < d
      → inv_ℚ (frac (neg_ℤ (pos n)) d) ≡ frac (neg_ℤ (pos d)) n

-- The eight laws of a commutative ring.
pub record IsCommutativeRing : Type 0 where
  pub add_assoc : (a b c : ℚ) → (a +ℚ b) +ℚ c ≡ a +ℚ (b +ℚ c)
  pub add_comm : (a b : ℚ) → a +ℚ b ≡ b +ℚ a
  pub add-zero : (a : ℚ) → a +ℚ zero_ℚ ≡ a
  pub add-neg : (a : ℚ) → a +ℚ neg_ℚ a ≡ zero_ℚ
  pub mul_assoc : (a b c : ℚ) → (a *ℚ b) *ℚ c ≡ a *ℚ (b *ℚ c)
  pub mul_comm : (a b : ℚ) → a *ℚ b ≡ b *ℚ a
  pub mul-one : (a : ℚ) → a *ℚ one_ℚ ≡ a
  pub mul-add : (a b c : ℚ) → a *ℚ (b +ℚ c) ≡ (a *ℚ b) +ℚ (a *ℚ c)

-- The laws that make the ring a field, and its order one that sums and products keep. The inverse
-- of 0 is 0.
pub record IsOrderedField : Type 0 where
  pub zero_below_one : zero_ℚ <ℚ one_ℚ
  pub mul-inv : (a : ℚ) → a ≢ zero_ℚ → a *ℚ inv_ℚ a ≡ one_ℚ
  pub inv-zero : inv_ℚ zero_ℚ ≡ zero_ℚ
  pub le_trans : (a b c : ℚ) → a ≤ℚ b → b ≤ℚ c → a ≤ℚ c
  pub le_antisymm : (a b : ℚ) → a ≤ℚ b → b ≤ℚ a → a ≡ b
  pub le_total : (a b : ℚ) → (a ≤ℚ b) ⊎ (b ≤ℚ a)
  pub lt-le : (a b : ℚ) → (a <ℚ b) ↔ ((a ≤ℚ b) × (a ≢ b))
  pub le-add_left : (c a b : ℚ) → a ≤ℚ b → (c +ℚ a) ≤ℚ (c +ℚ b)
  pub nonneg-mul : (a b : ℚ) → zero_ℚ ≤ℚ a → zero_ℚ ≤ℚ b → zero_ℚ ≤ℚ (a *ℚ b)

-- Order and equality are decidable, and the tests that compute decide them; what code answers of
-- order and sign is so.
pub record OrderIsDecidable : Type 0 where
  pub at_most : (a b : ℚ) → (a ≤ℚ b) ⊎ (b <ℚ a)
  pub never_both : (a b : ℚ) → a ≤ℚ b → ¬ (b <ℚ a)
  pub equal : (a b : ℚ) → (a ≡ b) ⊎ (a ≢ b)
  pub at_most_test : (a b : ℚ) → IsTrue (le_test a b) ↔ (a ≤ℚ b)
  pub below_test : (a b : ℚ) → IsTrue (lt_test a b) ↔ (a <ℚ b)
  pub equal_test : (a b : ℚ) → IsTrue (eq_ℚ a b) ↔ (a ≡ b)
  pub compares_less : (a b : ℚ) → (cmp_ℚ a b ≡ Less) ↔ (a <ℚ b)
  pub compares_equal : (a b : ℚ) → (cmp_ℚ a b ≡ Equal) ↔ (a ≡ b)
  pub compares_greater : (a b : ℚ) → (cmp_ℚ a b ≡ Greater) ↔ (b <ℚ a)
  pub positive_sign : (a : ℚ) → (sign_of a ≡ pos 1) ↔ (zero_ℚ <ℚ a)
  pub zero_sign : (a : ℚ) → (sign_of a ≡ pos 0) ↔ (a ≡ zero_ℚ)
  pub negative_sign : (a : ℚ) → (sign_of a ≡ negsuc 0) ↔ (a <ℚ zero_ℚ)

-- Between two numbers lies their midpoint, as far from the one as from the other.
pub record MidpointsLieBetween : Type 0 where
  pub above : (a b : ℚ) → a <ℚ b → a <ℚ midpoint a b
  pub below : (a b : ℚ) → a <ℚ b → midpoint a b <ℚ b
  pub halfway : (a b m : ℚ) → (m ≡ midpoint a b) ↔ (m +ℚ m ≡ a +ℚ b)

-- Numbers have at most one greatest and at most one least.
pub record ExtremesAreSingle : Type 0 where
  pub greatest : (numbers : List ℚ) (v w : ℚ) → IsGreatest numbers v → IsGreatest numbers w → v ≡ w
  pub least : (numbers : List ℚ) (v w : ℚ) → IsLeast numbers v → IsLeast numbers w → v ≡ w

-- The laws of sums over the numbers below a bound.
pub record SumsAddUp : Type 0 where
  pub empty : (f : ℕ → ℚ) → sum_to 0 f ≡ zero_ℚ
  pub next : (n : ℕ) (f : ℕ → ℚ) → sum_to (suc n) f ≡ sum_to n f +ℚ f n
  pub sum : (n : ℕ) (f g : ℕ → ℚ) → sum_to n (λ i. f i +ℚ g i) ≡ sum_to n f +ℚ sum_to n g
  pub multiple : (n : ℕ) (c : ℚ) (f : ℕ → ℚ) → sum_to n (λ i. c *ℚ f i) ≡ c *ℚ sum_to n f
  pub exchange : (n m : ℕ) (f : ℕ → ℕ → ℚ)
      → sum_to n (λ i. sum_to m (λ j. f i j)) ≡ sum_to m (λ j. sum_to n (λ i. f i j))
  pub append : (m n : ℕ) (f : ℕ → ℚ) → sum_to (m + n) f ≡ sum_to m f +ℚ sum_to n (λ i. f (m + i))
  pub at_most : (n : ℕ) (f g : ℕ → ℚ) → ((i : ℕ) → i < n → f i ≤ℚ g i) → sum_to n f ≤ℚ sum_to n g
  pub each_zero : (n : ℕ) (f : ℕ → ℚ) → ((i : ℕ) → i < n → zero_ℚ ≤ℚ f i) → sum_to n f ≡ zero_ℚ
      → (i : ℕ) → i < n → f i ≡ zero_ℚ

-- A mean of values is at most the greatest, and reaches it exactly where it weighs greatest values
-- alone.
pub record MeansAreAtMost : Type 0 where
  pub at_most : (n : ℕ) (x v : ℕ → ℚ) (m : ℚ) → IsDistribution n x → ((i : ℕ) → i < n → v i ≤ℚ m)
      → sum_to n (λ i. x i *ℚ v i) ≤ℚ m
  pub reaches : (n : ℕ) (x v : ℕ → ℚ) (m : ℚ) → IsDistribution n x → ((i : ℕ) → i < n → v i ≤ℚ m)
      → (sum_to n (λ i. x i *ℚ v i) ≡ m) ↔ ((i : ℕ) → i < n → (x i ≡ zero_ℚ) ⊎ (v i ≡ m))
