-- A rational is known by any pair that it stands for.
use Rattle.std.proofs.Common.{ℕ, zero, suc, ◌/◌, ◌*◌, ◌<◌, ◌≡◌, ℤ, pos, neg_ℤ, nat_abs, ◌*ℤ◌, ◌+ℤ◌, arith, refl, sym, ap, ap₂, ◌∙◌, [], ◌∷◌, mul-pos, le_of_mul-le-mul_right}
use Rattle.std.proofs.lemmas.Int.{unsigned_abs-mul}
use borrow.Author.Differences.{up, down, same_in}
use native.Mathlib.Nat.{div-mul_cancel}
use native.Mathlib.Nat as N
use lib.Dec.{T, T_prop}
use mathlib.Core.HLevel.{is_prop→PathP}
use Rattle.std.specs.Int.{◌∣◌}
use Rattle.rational.specs.Gcd.{gcd, div_ℤ}
use Rattle.rational.specs.GcdLaws.{gcd-is}
use Rattle.rational.proofs.GcdLemmas.{lowest_unique}
use Rattle.rational.proofs.GcdLemmas.{div_ℤ-mul}
use Rattle.rational.specs.Rational.{ℚ, is_lowest, frac, ◌+ℚ◌, ◌*ℚ◌, neg_ℚ}
use Rattle.rational.proofs.DenominatorLemmas.{lowest-in, den_pos, lowest}
use Rattle.rational.proofs.IntegerRing.{integer_ring, up-mul, down-mul}
use Rattle.rational.proofs.Ring.{ring, ◌:+◌, ◌:*◌, :neg, A, B, C, D, E, F}

-- rationals with equal numerators and denominators are equal
pub equal_by_parts : (a b : ℚ) → a.num ≡ b.num → a.den ≡ b.den → a ≡ b
equal_by_parts a b p q =
    λ i. record {
      num = p i;
      den = q i;
      ok = is_prop→PathP (λ i. T (is_lowest (p i) (q i))) (λ i. T_prop (is_lowest (p i) (q i))) a.ok b.ok i;
    }

cancel_ℕ : (x y d : ℕ) → 0 < d → x * d ≡ y * d → x ≡ y
cancel_ℕ x y d h e = N.le_antisymm (le_of_mul-le-mul_right (N.le_of_eq e) h) (le_of_mul-le-mul_right (N.le_of_eq (sym e)) h)

-- a positive factor can be taken away
pub cancel_pos : (x y : ℤ) (d : ℕ) → 0 < d → x *ℤ pos d ≡ y *ℤ pos d → x ≡ y
cancel_pos x y d h e =
    same_in x y (omega (arith, cancel_ℕ (up x) (up y) d h (omega (arith, up-mul x (pos d), up-mul y (pos d), ap up e)), cancel_ℕ (down x) (down y) d h (omega (arith, down-mul x (pos d), down-mul y (pos d), ap down e))))

-- two rationals with equal cross products are equal
pub equal_by_cross : (a b : ℚ) → a.num *ℤ pos b.den ≡ b.num *ℤ pos a.den → a ≡ b
equal_by_cross a b e = equal_by_parts a b (cancel_pos a.num b.num b.den (den_pos b) (e ∙ ap (λ x. b.num *ℤ pos x) dens)) dens
  where
    dens : a.den ≡ b.den
    dens = lowest_unique (nat_abs a.num) a.den (nat_abs b.num) b.den (lowest a) (lowest b) (sym (unsigned_abs-mul a.num (pos b.den)) ∙ ap nat_abs e ∙ unsigned_abs-mul b.num (pos a.den))

-- a stands for n over d
pub record StandsFor (a : ℚ) (n : ℤ) (d : ℕ) : Type 0 where
  pub cross : a.num *ℤ pos d ≡ n *ℤ pos a.den
  pub over : 0 < d

-- n over d stands for n over d
pub StandsFor-frac : (n : ℤ) (d : ℕ) → 0 < d → StandsFor (frac n d) n d
unfolding frac
StandsFor-frac n zero h = absurd (N.not-suc-le-zero h)
StandsFor-frac n (suc d) h = record { over = h; cross = go (gcd (nat_abs n) (suc d)) (gcd-is (nat_abs n) (suc d)).0 (gcd-is (nat_abs n) (suc d)).1 }
  where
    go : (g : ℕ) → g ∣ nat_abs n → g ∣ suc d → div_ℤ n g *ℤ pos (suc d) ≡ n *ℤ pos (suc d / g)
    go g p q =
        ap (λ x. div_ℤ n g *ℤ pos x) (sym (div-mul_cancel g q)) ∙ ring integer_ring (div_ℤ n g ∷ pos (suc d / g) ∷ pos g ∷ []) (A :* (B :* C)) (A :* C :* B) refl ∙ ap (λ x. x *ℤ pos (suc d / g)) (div_ℤ-mul n g p)

-- a rational stands for its own parts
pub StandsFor-self : (a : ℚ) → StandsFor a a.num a.den
StandsFor-self a = record { cross = refl; over = (den_pos a) }

swap_last : (x y z : ℤ) → (x *ℤ y) *ℤ z ≡ (x *ℤ z) *ℤ y
swap_last x y z = ring integer_ring (x ∷ y ∷ z ∷ []) (A :* B :* C) (A :* C :* B) refl

-- a rational stands for each pair with the same cross product
pub StandsFor-also : (a : ℚ) (n m : ℤ) (d e : ℕ) → StandsFor a n d → 0 < e → n *ℤ pos e ≡ m *ℤ pos d → StandsFor a m e
StandsFor-also a n m d e p h c =
    record {
      over = h;
      cross = cancel_pos (a.num *ℤ pos e) (m *ℤ pos a.den) d p.over (swap_last a.num (pos e) (pos d) ∙ ap (λ x. x *ℤ pos e) p.cross ∙ swap_last n (pos a.den) (pos e) ∙ ap (λ x. x *ℤ pos a.den) c ∙ swap_last m (pos d) (pos a.den));
    }

-- what two rationals stand for tells whether they are equal
pub equal_by : (a b : ℚ) (n m : ℤ) (d e : ℕ) → StandsFor a n d → StandsFor b m e → n *ℤ pos e ≡ m *ℤ pos d → a ≡ b
equal_by a b n m d e p q h =
    equal_by_cross a b (StandsFor-also a m b.num e b.den (StandsFor-also a n m d e p q.over h) (den_pos b) (sym q.cross)).cross

-- a sum stands for the sum of the fractions
pub StandsFor-add : (a b : ℚ) (n m : ℤ) (d e : ℕ) → StandsFor a n d → StandsFor b m e → StandsFor (a +ℚ b) ((n *ℤ pos e) +ℤ (m *ℤ pos d)) (d * e)
unfolding ◌+ℚ◌
StandsFor-add a b n m d e p q =
    StandsFor-also (frac ((a.num *ℤ pos b.den) +ℤ (b.num *ℤ pos a.den)) (a.den * b.den)) ((a.num *ℤ pos b.den) +ℤ (b.num *ℤ pos a.den)) ((n *ℤ pos e) +ℤ (m *ℤ pos d)) (a.den * b.den) (d * e) (StandsFor-frac _ _ (mul-pos (den_pos a) (den_pos b))) (mul-pos p.over q.over)
    (ring integer_ring (a.num ∷ pos a.den ∷ b.num ∷ pos b.den ∷ pos d ∷ pos e ∷ []) ((A :* D :+ C :* B) :* (E :* F)) ((A :* E) :* (D :* F) :+ (C :* F) :* (B :* E)) refl
    ∙ ap₂ (λ x y. (x *ℤ (pos b.den *ℤ pos e)) +ℤ (y *ℤ (pos a.den *ℤ pos d))) p.cross q.cross
    ∙ ring integer_ring (n ∷ pos a.den ∷ m ∷ pos b.den ∷ pos d ∷ pos e ∷ []) ((A :* B) :* (D :* F) :+ (C :* D) :* (B :* E)) ((A :* F :+ C :* E) :* (B :* D)) refl)

-- a product stands for the product of the fractions
pub StandsFor-mul : (a b : ℚ) (n m : ℤ) (d e : ℕ) → StandsFor a n d → StandsFor b m e → StandsFor (a *ℚ b) (n *ℤ m) (d * e)
unfolding ◌*ℚ◌
StandsFor-mul a b n m d e p q =
    StandsFor-also (frac (a.num *ℤ b.num) (a.den * b.den)) (a.num *ℤ b.num) (n *ℤ m) (a.den * b.den) (d * e) (StandsFor-frac _ _ (mul-pos (den_pos a) (den_pos b))) (mul-pos p.over q.over)
    (ring integer_ring (a.num ∷ b.num ∷ pos d ∷ pos e ∷ []) (A :* B :* (C :* D)) ((A :* C) :* (B :* D)) refl
    ∙ ap₂ (λ x y. x *ℤ y) p.cross q.cross
    ∙ ring integer_ring (n ∷ pos a.den ∷ m ∷ pos b.den ∷ []) ((A :* B) :* (C :* D)) ((A :* C) :* (B :* D)) refl)

-- a negated number stands for the negated fraction
pub StandsFor-neg : (a : ℚ) (n : ℤ) (d : ℕ) → StandsFor a n d → StandsFor (neg_ℚ a) (neg_ℤ n) d
unfolding neg_ℚ
StandsFor-neg a n d p =
    StandsFor-also (frac (neg_ℤ a.num) a.den) (neg_ℤ a.num) (neg_ℤ n) a.den d (StandsFor-frac _ _ (den_pos a)) p.over
    (ring integer_ring (a.num ∷ pos d ∷ []) (:neg A :* B) (:neg (A :* B)) refl ∙ ap neg_ℤ p.cross ∙ ring integer_ring (n ∷ pos a.den ∷ []) (:neg (A :* B)) (:neg A :* B) refl)

-- a rational is the fraction of its parts
pub frac_self : (q : ℚ) → frac q.num q.den ≡ q
frac_self q = equal_by (frac q.num q.den) q q.num q.num q.den q.den (StandsFor-frac q.num q.den (den_pos q)) (StandsFor-self q) refl

-- a pair in lowest terms gives its own parts
pub frac-lowest : (n : ℤ) (d : ℕ) → 0 < d → gcd (nat_abs n) d ≡ 1 → ((frac n d).num ≡ n) × ((frac n d).den ≡ d)
frac-lowest n d h e =
    let q : ℚ = record { num = n; den = d; ok = lowest-in n d h e } in
    let p : frac n d ≡ q = equal_by (frac n d) q n n d d (StandsFor-frac n d h) (StandsFor-self q) refl in
    (ap (λ (x : ℚ). x.num) p, ap (λ (x : ℚ). x.den) p)
