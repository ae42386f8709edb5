-- numbers that share no divisor
use Rattle.std.proofs.Common.{ℕ, suc, ◌≡◌, ◌*◌, ◌-◌, ◌/◌, ◌<◌, ℤ, pos, negsuc, ◌+ℤ◌, ◌*ℤ◌, nat_abs, arith, refl, sym, ap, ◌∙◌, subst, one-mul, ◌≤◌, Bool, true, false, cond, ltb, tests, ◌⊎◌, inl, inr, ◌+◌}
use native.Mathlib.Nat.{dvd_trans, dvd-mul_right, dvd-mul_left, dvd-mul_right_of_dvd, dvd-mul_left_of_dvd, eq-one_of_dvd-one, div-mul_cancel, dvd-add, dvd-sub, dvd_antisymm}
use lib.IntN.{sub_ℕ}
use Rattle.std.proofs.lemmas.Int.{unsigned_abs-mul}
use Rattle.std.specs.Int.{◌∣◌}
use Rattle.rational.specs.Gcd.{gcd}
use Rattle.rational.specs.GcdLaws.{gcd-is}
use Rattle.rational.proofs.GcdLemmas.{gcd-multiple, gauss}

-- the product of two numbers that share nothing with a third
pub coprime-mul : (a b c : ℕ) → gcd a c ≡ 1 → gcd b c ≡ 1 → gcd (a * b) c ≡ 1
coprime-mul a b c e f =
    let g = gcd (a * b) c in
    let p : g ∣ b = subst (λ x. g ∣ x) (ap (λ x. x * b) e ∙ one-mul b) (gcd-multiple a c b g (gcd-is (a * b) c).0 (dvd-mul_right_of_dvd g (gcd-is (a * b) c).1 b)) in
    eq-one_of_dvd-one (subst (λ x. g ∣ x) f ((gcd-is b c).2 g p (gcd-is (a * b) c).1))

-- to share nothing goes both ways
pub coprime-swap : (a b : ℕ) → gcd a b ≡ 1 → gcd b a ≡ 1
coprime-swap a b e =
    let g = gcd b a in
    eq-one_of_dvd-one (subst (λ x. g ∣ x) e ((gcd-is a b).2 g (gcd-is b a).1 (gcd-is b a).0))

-- divisors of numbers that share nothing share nothing
pub coprime-parts : (a b x y : ℕ) → x ∣ a → y ∣ b → gcd a b ≡ 1 → gcd x y ≡ 1
coprime-parts a b x y p q e =
    let g = gcd x y in
    eq-one_of_dvd-one (subst (λ z. g ∣ z) e ((gcd-is a b).2 g (dvd_trans g (gcd-is x y).0 p) (dvd_trans g (gcd-is x y).1 q)))

-- a quotient by a divisor divides
pub quotient-divides : (a g : ℕ) → g ∣ a → a / g ∣ a
quotient-divides a g p = subst (λ x. a / g ∣ x) (div-mul_cancel g p) (dvd-mul_right (a / g) g)

-- a factor of a positive number is positive
pos_of_factor : (x g n : ℕ) → x * g ≡ n → 0 < n → 0 < x
pos_of_factor x g n e h = grind arith

-- a quotient by a divisor is positive
pub quotient_pos : (d g : ℕ) → g ∣ d → 0 < d → 0 < d / g
quotient_pos d g p h = pos_of_factor (d / g) g d (div-mul_cancel g p) h

-- the size of a difference of naturals
sub_sizes : (a b : ℕ) → (nat_abs (sub_ℕ a b) + b ≡ a) ⊎ (nat_abs (sub_ℕ a b) + a ≡ b)
sub_sizes a b = go (ltb a b) refl
  where
    go : (t : Bool) → ltb a b ≡ t → (nat_abs (cond t (negsuc (b - suc a)) (pos (a - b))) + b ≡ a) ⊎ (nat_abs (cond t (negsuc (b - suc a)) (pos (a - b))) + a ≡ b)
    go true e = let below : a < b = grind (arith, tests) in inr (omega arith)
    go false e = let above : b ≤ a = grind (arith, tests) in inl (omega arith)

-- of the sizes of two numbers and of their sum, one is the sum of the two others
sum_sizes : (x y : ℤ) → (nat_abs (x +ℤ y) ≡ nat_abs x + nat_abs y) ⊎ ((nat_abs (x +ℤ y) + nat_abs y ≡ nat_abs x) ⊎ (nat_abs (x +ℤ y) + nat_abs x ≡ nat_abs y))
sum_sizes (pos a) (pos b) = inl refl
sum_sizes (pos a) (negsuc b) = inr (sub_sizes a (suc b))
sum_sizes (negsuc a) (pos b) = inr (elim (sub_sizes b (suc a)) [ inl e ↦ inr e | inr e ↦ inl e ])
sum_sizes (negsuc a) (negsuc b) = inl (omega arith)

-- what divides a sum and one of its terms divides the other
divides_term : (k : ℕ) (x y : ℤ) → k ∣ nat_abs (x +ℤ y) → k ∣ nat_abs y → k ∣ nat_abs x
divides_term k x y p q =
    elim (sum_sizes x y) [ inl e ↦ subst (λ n. k ∣ n) (omega (arith, e)) (dvd-sub k p q) | inr r ↦ elim r [ inl e ↦ subst (λ n. k ∣ n) e (dvd-add k p q) | inr e ↦ subst (λ n. k ∣ n) (omega (arith, e)) (dvd-sub k q p) ] ]

-- n * f + m * e shares nothing with e, where n and f share nothing with it
pub sum_apart : (n m : ℤ) (d e f : ℕ) → gcd (nat_abs n) d ≡ 1 → e ∣ d → gcd e f ≡ 1 → gcd (nat_abs ((n *ℤ pos f) +ℤ (m *ℤ pos e))) e ≡ 1
sum_apart n m d e f lowest p apart =
    let k = gcd (nat_abs ((n *ℤ pos f) +ℤ (m *ℤ pos e))) e in
    let k-e : k ∣ e = (gcd-is (nat_abs ((n *ℤ pos f) +ℤ (m *ℤ pos e))) e).1 in
    let k-right : k ∣ nat_abs (m *ℤ pos e) = subst (λ x. k ∣ x) (sym (unsigned_abs-mul m (pos e))) (dvd-mul_left_of_dvd k k-e (nat_abs m)) in
    let k-left : k ∣ nat_abs n * f = subst (λ x. k ∣ x) (unsigned_abs-mul n (pos f)) (divides_term k (n *ℤ pos f) (m *ℤ pos e) (gcd-is (nat_abs ((n *ℤ pos f) +ℤ (m *ℤ pos e))) e).0 k-right) in
    let k-n : gcd (nat_abs n) k ≡ 1 = coprime-parts (nat_abs n) d (nat_abs n) k (subst (λ x. nat_abs n ∣ x) (one-mul (nat_abs n)) (dvd-mul_left (nat_abs n) 1)) (dvd_trans k k-e p) lowest in
    eq-one_of_dvd-one (subst (λ x. k ∣ x) apart ((gcd-is e f).2 k k-e (gauss (nat_abs n) k f k-n k-left)))

-- the order of the two numbers does not matter
pub gcd_comm : (a b : ℕ) → gcd a b ≡ gcd b a
gcd_comm a b =
    dvd_antisymm ((gcd-is b a).2 (gcd a b) (gcd-is a b).1 (gcd-is a b).0) ((gcd-is a b).2 (gcd b a) (gcd-is b a).1 (gcd-is b a).0)
