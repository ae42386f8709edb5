-- The order of the rationals, by any pairs over one denominator.
use Rattle.std.proofs.Common.{ℕ, ◌*◌, ◌+◌, ◌<◌, ◌≡◌, ℤ, pos, ◌*ℤ◌, ◌≤ℤ◌, ◌<ℤ◌, refl, sym, ap, ◌∙◌, [], ◌∷◌, arith, mul-le-mul_right, le_of_mul-le-mul_right, lt_of_mul-lt-mul_right, mul-lt-mul_of_pos_right, subst₂, mul-pos}
use borrow.Author.Differences.{up, down, at_most_in, below_in, le_out, lt_out}
use Rattle.rational.specs.Rational.{ℚ, ◌≤ℚ◌, ◌<ℚ◌}
use Rattle.rational.proofs.DenominatorLemmas.{den_pos}
use Rattle.rational.proofs.IntegerRing.{integer_ring, up-mul, down-mul}
use Rattle.rational.proofs.FractionLemmas.{cancel_pos, StandsFor, equal_by}
use Rattle.rational.proofs.Ring.{ring, ◌:*◌, A, B, C}

-- x times k, by the parts of x
up_times : (x : ℤ) (k : ℕ) → up (x *ℤ pos k) ≡ up x * k
up_times x k = omega (arith, up-mul x (pos k))

down_times : (x : ℤ) (k : ℕ) → down (x *ℤ pos k) ≡ down x * k
down_times x k = omega (arith, down-mul x (pos k))

-- a factor keeps the order of integers
pub le-times : (x y : ℤ) (k : ℕ) → x ≤ℤ y → (x *ℤ pos k) ≤ℤ (y *ℤ pos k)
le-times x y k h =
    at_most_in (x *ℤ pos k) (y *ℤ pos k) (simp (up_times, down_times) (omega (arith, mul-le-mul_right k (le_out x y h))))

-- a positive factor can be taken away
pub le_of_times : (x y : ℤ) (k : ℕ) → 0 < k → (x *ℤ pos k) ≤ℤ (y *ℤ pos k) → x ≤ℤ y
le_of_times x y k p h =
    at_most_in x y (le_of_mul-le-mul_right {k = k} (let e = simp (up_times, down_times) at (le_out (x *ℤ pos k) (y *ℤ pos k) h) in omega arith) p)

-- a positive factor keeps the strict order of integers
pub lt-times : (x y : ℤ) (k : ℕ) → 0 < k → x <ℤ y → (x *ℤ pos k) <ℤ (y *ℤ pos k)
lt-times x y k p h =
    below_in (x *ℤ pos k) (y *ℤ pos k) (simp (up_times, down_times) (omega (arith, mul-lt-mul_of_pos_right (lt_out x y h) p)))

-- a factor can be taken away from a strict inequality
pub lt_of_times : (x y : ℤ) (k : ℕ) → (x *ℤ pos k) <ℤ (y *ℤ pos k) → x <ℤ y
lt_of_times x y k h =
    below_in x y (lt_of_mul-lt-mul_right k {m = up x + down y} {n = up y + down x} (let e = simp (up_times, down_times) at (lt_out (x *ℤ pos k) (y *ℤ pos k) h) in omega arith))

-- a cross product of a and b, over d
across : (a b : ℚ) (n : ℤ) (d : ℕ) → StandsFor a n d → (a.num *ℤ pos b.den) *ℤ pos d ≡ n *ℤ pos (a.den * b.den)
across a b n d p =
    ring integer_ring (a.num ∷ pos b.den ∷ pos d ∷ []) (A :* B :* C) (A :* C :* B) refl ∙ ap (λ x. x *ℤ pos b.den) p.cross ∙ ring integer_ring (n ∷ pos a.den ∷ pos b.den ∷ []) (A :* B :* C) (A :* (B :* C)) refl

across_back : (a b : ℚ) (n : ℤ) (d : ℕ) → StandsFor a n d → (a.num *ℤ pos b.den) *ℤ pos d ≡ n *ℤ pos (b.den * a.den)
across_back a b n d p = across a b n d p ∙ ring integer_ring (n ∷ pos a.den ∷ pos b.den ∷ []) (A :* (B :* C)) (A :* (C :* B)) refl

-- over one denominator the numerators tell
pub le_by : (a b : ℚ) (n m : ℤ) (d : ℕ) → StandsFor a n d → StandsFor b m d → n ≤ℤ m → a ≤ℚ b
le_by a b n m d p q h =
    record { cross = le_of_times (a.num *ℤ pos b.den) (b.num *ℤ pos a.den) d p.over (subst₂ (λ x y. x ≤ℤ y) (sym (across a b n d p)) (sym (across_back b a m d q)) (le-times n m (a.den * b.den) h)) }

-- a is at most b, so the numerators are in that order
pub by_le : (a b : ℚ) (n m : ℤ) (d : ℕ) → StandsFor a n d → StandsFor b m d → a ≤ℚ b → n ≤ℤ m
by_le a b n m d p q h =
    le_of_times n m (a.den * b.den) (mul-pos (den_pos a) (den_pos b)) (subst₂ (λ x y. x ≤ℤ y) (across a b n d p) (across_back b a m d q) (le-times (a.num *ℤ pos b.den) (b.num *ℤ pos a.den) d h.cross))

-- a is below b where the numerators are in that order
pub lt_by : (a b : ℚ) (n m : ℤ) (d : ℕ) → StandsFor a n d → StandsFor b m d → n <ℤ m → a <ℚ b
lt_by a b n m d p q h =
    record { cross = lt_of_times (a.num *ℤ pos b.den) (b.num *ℤ pos a.den) d (subst₂ (λ x y. x <ℤ y) (sym (across a b n d p)) (sym (across_back b a m d q)) (lt-times n m (a.den * b.den) (mul-pos (den_pos a) (den_pos b)) h)) }

-- a is below b, so the numerators are in that order
pub by_lt : (a b : ℚ) (n m : ℤ) (d : ℕ) → StandsFor a n d → StandsFor b m d → a <ℚ b → n <ℤ m
by_lt a b n m d p q h =
    lt_of_times n m (a.den * b.den) (subst₂ (λ x y. x <ℤ y) (across a b n d p) (across_back b a m d q) (lt-times (a.num *ℤ pos b.den) (b.num *ℤ pos a.den) d p.over h.cross))

-- a is b where the numerators are equal
pub eq_by : (a b : ℚ) (n m : ℤ) (d : ℕ) → StandsFor a n d → StandsFor b m d → n ≡ m → a ≡ b
eq_by a b n m d p q h = equal_by a b n m d d p q (ap (λ x. x *ℤ pos d) h)

-- a is b, so the numerators are equal
pub by_eq : (a b : ℚ) (n m : ℤ) (d : ℕ) → StandsFor a n d → StandsFor b m d → a ≡ b → n ≡ m
by_eq a b n m d p q h =
    cancel_pos n m a.den (den_pos a) (sym p.cross ∙ ap (λ (x : ℚ). x.num *ℤ pos d) h ∙ q.cross ∙ ap (λ (x : ℚ). m *ℤ pos x.den) (sym h))
