-- steps of Euclid's algorithm
use Rattle.std.proofs.Common.{subst, subst₂, ℕ, ◌≡◌, ◌+◌, ◌*◌, ◌%◌, ◌/◌, ◌<◌, ◌≤◌, arith, refl, sym, ap, ap₂, ◌∙◌, mul-le-mul_right, mul-lt-mul_of_pos_right, div-add-mod', mod-lt, zero-mul, mul_comm, mul-pos, pos_of_ne-zero, ◌⊎◌, inl, inr}
use Rattle.std.proofs.Common.{Ordering, Less, Equal, Greater}
use Rattle.std.specs.Ordering.{nat_cmp}
use Rattle.std.proofs.lemmas.Nat.Gcd.{IsGcd-from_mod, same_from_IsGcd, IsGcd-from_zero}
use native.Mathlib.Nat.{eq-one_of_dvd-one, dvd_antisymm, dvd_refl}
use Rattle.std.specs.Int.{◌∣◌}
use Rattle.lists.proofs.NumberLemmas.{nat_cmp-less, nat_cmp-more}
use Rattle.rational.specs.Gcd.{gcd}
use Rattle.rational.specs.GcdLaws.{gcd-is}

-- a step of Euclid's algorithm
pub gcd-step : (a b : ℕ) → gcd a b ≡ gcd b (a % b)
gcd-step a b = same_from_IsGcd a b (gcd a b) (gcd b (a % b)) (gcd-is a b) (IsGcd-from_mod a b (gcd b (a % b)) (gcd-is b (a % b)))

-- the end of Euclid's algorithm
pub gcd-zero : (a : ℕ) → gcd a 0 ≡ a
gcd-zero a = same_from_IsGcd a 0 (gcd a 0) a (gcd-is a 0) (IsGcd-from_zero a 0 refl)

-- a number shares all of itself
pub gcd_same : (a : ℕ) → gcd a a ≡ a
gcd_same a = dvd_antisymm (gcd-is a a).0 ((gcd-is a a).2 a (dvd_refl a) (dvd_refl a))

-- a number shares only 1 with 1
pub one_shared : (a b : ℕ) → (a ≡ 1) ⊎ (b ≡ 1) → 1 ≡ gcd a b
one_shared a b (inl e) = sym (eq-one_of_dvd-one (subst (λ x. gcd a b ∣ x) e (gcd-is a b).0))
one_shared a b (inr e) = sym (eq-one_of_dvd-one (subst (λ x. gcd a b ∣ x) e (gcd-is a b).1))

-- the same number added on both sides changes no order
cmp_shift : (k m n : ℕ) → nat_cmp (k + m) (k + n) ≡ nat_cmp m n
cmp_shift k m n = grind arith

-- with a less whole part the quotient is less
pub below_by_whole : (a b c d : ℕ) → 0 < b → 0 < d → a / b < c / d → a * d < c * b
below_by_whole a b c d p q h =
    let ea : (a / b * b + a % b) * d ≡ a * d = ap (λ x. x * d) (div-add-mod' a b) in
    let ec : (c / d * d + c % d) * b ≡ c * b = ap (λ x. x * b) (div-add-mod' c d) in
    let k = mul-lt-mul_of_pos_right (mod-lt a p) q in
    let g = mul-le-mul_right (b * d) h in
    omega (arith, ea, ec, k, g)

-- with one whole part the rests decide
pub cmp_rests : (a b c d : ℕ) → a / b ≡ c / d → nat_cmp (a * d) (c * b) ≡ nat_cmp (a % b * d) (c % d * b)
cmp_rests a b c d e =
    let ea : (a / b * b + a % b) * d ≡ a * d = ap (λ x. x * d) (div-add-mod' a b) in
    let ec : (c / d * d + c % d) * b ≡ c * b = ap (λ x. x * b) (div-add-mod' c d) in
    let f : a / b * (b * d) ≡ c / d * (b * d) = ap (λ x. x * (b * d)) e in
    let left : a * d ≡ a / b * (b * d) + a % b * d = omega (arith, ea) in
    let right : c * b ≡ a / b * (b * d) + c % d * b = omega (arith, ec, f) in
    rw (left, right) (cmp_shift (a / b * (b * d)) (a % b * d) (c % d * b))

-- numbers of which none is greater are equal
same_whole : (m n : ℕ) → n ≤ m → m ≤ n → m ≡ n
same_whole m n h g = omega arith

-- the whole parts and the rests of a / b and c / d
pub record Parted (a b c d q r x y : ℕ) : Type 0 where
  pub left_whole : q ≡ a / b
  pub right_whole : r ≡ c / d
  pub left_rest : x ≡ a % b
  pub right_rest : y ≡ c % d

-- the answer by a less whole part
pub less_by_whole : (a b c d q r : ℕ) → 0 < b → 0 < d → q ≡ a / b → r ≡ c / d → q < r → Less ≡ nat_cmp (a * d) (c * b)
less_by_whole a b c d q r p s e f h =
    sym (nat_cmp-less (a * d) (c * b) (below_by_whole a b c d p s (subst₂ (λ m n. m < n) e f h)))

-- the answer by a greater whole part
pub more_by_whole : (a b c d q r : ℕ) → 0 < b → 0 < d → q ≡ a / b → r ≡ c / d → r < q → Greater ≡ nat_cmp (a * d) (c * b)
more_by_whole a b c d q r p s e f h =
    sym (nat_cmp-more (a * d) (c * b) (below_by_whole c d a b s p (subst₂ (λ m n. m < n) f e h)))

-- two rests zero
zero_zero : (x y b d : ℕ) → x ≡ 0 → y ≡ 0 → Equal ≡ nat_cmp (x * d) (y * b)
zero_zero x y b d p q = rw (p, q, zero-mul, zero-mul) refl

-- the first rest zero alone
zero_some : (x y b d : ℕ) → 0 < b → x ≡ 0 → ¬ (y ≡ 0) → Less ≡ nat_cmp (x * d) (y * b)
zero_some x y b d h p q = sym (nat_cmp-less (x * d) (y * b) (rw (p, zero-mul) (mul-pos (pos_of_ne-zero q) h)))

-- the second rest zero alone
some_zero : (x y b d : ℕ) → 0 < d → ¬ (x ≡ 0) → y ≡ 0 → Greater ≡ nat_cmp (x * d) (y * b)
some_zero x y b d h p q = sym (nat_cmp-more (x * d) (y * b) (rw (q, zero-mul) (mul-pos (pos_of_ne-zero p) h)))

-- with one whole part the order is that of the rests
by_parted : (a b c d q r x y : ℕ) → Parted a b c d q r x y → r ≤ q → q ≤ r → nat_cmp (x * d) (y * b) ≡ nat_cmp (a * d) (c * b)
by_parted a b c d q r x y k h g =
    ap₂ (λ m n. nat_cmp (m * d) (n * b)) k.left_rest k.right_rest ∙ sym (cmp_rests a b c d (sym k.left_whole ∙ same_whole q r h g ∙ k.right_whole))

-- the answer where both rests are zero
pub equal_rests : (a b c d q r x y : ℕ) → Parted a b c d q r x y → r ≤ q → q ≤ r → x ≡ 0 → y ≡ 0 → Equal ≡ nat_cmp (a * d) (c * b)
equal_rests a b c d q r x y k h g e f = zero_zero x y b d e f ∙ by_parted a b c d q r x y k h g

-- the answer where the first rest is zero alone
pub less_rests : (a b c d q r x y : ℕ) → 0 < b → Parted a b c d q r x y → r ≤ q → q ≤ r → x ≡ 0 → ¬ (y ≡ 0) → Less ≡ nat_cmp (a * d) (c * b)
less_rests a b c d q r x y p k h g e f = zero_some x y b d p e f ∙ by_parted a b c d q r x y k h g

-- the answer where the second rest is zero alone
pub more_rests : (a b c d q r x y : ℕ) → 0 < d → Parted a b c d q r x y → r ≤ q → q ≤ r → ¬ (x ≡ 0) → y ≡ 0 → Greater ≡ nat_cmp (a * d) (c * b)
more_rests a b c d q r x y p k h g e f = some_zero x y b d p e f ∙ by_parted a b c d q r x y k h g

-- the answer by the quotients of the rests, upside down
pub by_rests : (a b c d q r x y : ℕ) (o : Ordering) → Parted a b c d q r x y → r ≤ q → q ≤ r → o ≡ nat_cmp (d * x) (b * y) → o ≡ nat_cmp (a * d) (c * b)
by_rests a b c d q r x y o k h g e =
    e ∙ ap₂ nat_cmp (mul_comm d x) (mul_comm b y) ∙ by_parted a b c d q r x y k h g
