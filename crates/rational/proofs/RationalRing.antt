-- The rationals are a commutative ring.
use Rattle.std.proofs.Common.{ℕ, ◌*◌, ◌≡◌, ℤ, pos, neg_ℤ, ◌*ℤ◌, ◌+ℤ◌, refl, List, [], ◌∷◌, lit<}
use Rattle.rational.specs.Rational.{ℚ, ◌+ℚ◌, ◌*ℚ◌, neg_ℚ, zero_ℚ, one_ℚ}
use Rattle.rational.proofs.CommutativeRing.{CommutativeRing}
use Rattle.rational.proofs.IntegerRing.{integer_ring}
use Rattle.rational.proofs.FractionLemmas.{StandsFor, equal_by, StandsFor-self, StandsFor-frac, StandsFor-add, StandsFor-mul, StandsFor-neg}
use Rattle.rational.proofs.Ring.{num, ring, ◌:+◌, ◌:*◌, :neg, A, B, C, D, E, F}

zero-is : StandsFor zero_ℚ (pos 0) 1
zero-is = StandsFor-frac (pos 0) 1 (lit< tt)

one-is : StandsFor one_ℚ (pos 1) 1
one-is = StandsFor-frac (pos 1) 1 (lit< tt)

plus : {a b : ℚ} {n m : ℤ} {d e : ℕ} → StandsFor a n d → StandsFor b m e → StandsFor (a +ℚ b) ((n *ℤ pos e) +ℤ (m *ℤ pos d)) (d * e)
plus {a} {b} {n} {m} {d} {e} p q = StandsFor-add a b n m d e p q

times : {a b : ℚ} {n m : ℤ} {d e : ℕ} → StandsFor a n d → StandsFor b m e → StandsFor (a *ℚ b) (n *ℤ m) (d * e)
times {a} {b} {n} {m} {d} {e} p q = StandsFor-mul a b n m d e p q

minus : {a : ℚ} {n : ℤ} {d : ℕ} → StandsFor a n d → StandsFor (neg_ℚ a) (neg_ℤ n) d
minus {a} {n} {d} p = StandsFor-neg a n d p

same : {a b : ℚ} {n m : ℤ} {d e : ℕ} → StandsFor a n d → StandsFor b m e → n *ℤ pos e ≡ m *ℤ pos d → a ≡ b
same {a} {b} {n} {m} {d} {e} p q h = equal_by a b n m d e p q h

-- the numerator and the denominator of three numbers, as the prover's variables
parts : ℚ → ℚ → ℚ → List ℤ
parts a b c = a.num ∷ pos a.den ∷ b.num ∷ pos b.den ∷ c.num ∷ pos c.den ∷ []

-- sums may be bracketed anyhow
pub +ℚ_assoc : (a b c : ℚ) → (a +ℚ b) +ℚ c ≡ a +ℚ (b +ℚ c)
unfolding parts
+ℚ_assoc a b c =
    same (plus (plus (StandsFor-self a) (StandsFor-self b)) (StandsFor-self c)) (plus (StandsFor-self a) (plus (StandsFor-self b) (StandsFor-self c)))
    (ring integer_ring (parts a b c) (((A :* D :+ C :* B) :* F :+ E :* (B :* D)) :* (B :* (D :* F))) ((A :* (D :* F) :+ (C :* F :+ E :* D) :* B) :* (B :* D :* F)) refl)

-- summands change places
pub +ℚ_comm : (a b : ℚ) → a +ℚ b ≡ b +ℚ a
unfolding parts
+ℚ_comm a b =
    same (plus (StandsFor-self a) (StandsFor-self b)) (plus (StandsFor-self b) (StandsFor-self a)) (ring integer_ring (parts a b a) ((A :* D :+ C :* B) :* (D :* B)) ((C :* B :+ A :* D) :* (B :* D)) refl)

-- a summand and 0
pub +ℚ-zero : (a : ℚ) → a +ℚ zero_ℚ ≡ a
+ℚ-zero a =
    same (plus (StandsFor-self a) zero-is) (StandsFor-self a) (ring integer_ring (a.num ∷ pos a.den ∷ []) ((A :* num 1 :+ num 0 :* B) :* B) (A :* (B :* num 1)) refl)

-- a number and its negation make 0
pub +ℚ-neg : (a : ℚ) → a +ℚ neg_ℚ a ≡ zero_ℚ
+ℚ-neg a =
    same (plus (StandsFor-self a) (minus (StandsFor-self a))) zero-is (ring integer_ring (a.num ∷ pos a.den ∷ []) ((A :* B :+ :neg A :* B) :* num 1) (num 0 :* (B :* B)) refl)

-- products may be bracketed anyhow
pub *ℚ_assoc : (a b c : ℚ) → (a *ℚ b) *ℚ c ≡ a *ℚ (b *ℚ c)
unfolding parts
*ℚ_assoc a b c =
    same (times (times (StandsFor-self a) (StandsFor-self b)) (StandsFor-self c)) (times (StandsFor-self a) (times (StandsFor-self b) (StandsFor-self c))) (ring integer_ring (parts a b c) (A :* C :* E :* (B :* (D :* F))) (A :* (C :* E) :* (B :* D :* F)) refl)

-- factors change places
pub *ℚ_comm : (a b : ℚ) → a *ℚ b ≡ b *ℚ a
unfolding parts
*ℚ_comm a b =
    same (times (StandsFor-self a) (StandsFor-self b)) (times (StandsFor-self b) (StandsFor-self a)) (ring integer_ring (parts a b a) (A :* C :* (D :* B)) (C :* A :* (B :* D)) refl)

-- a factor times 1
pub *ℚ-one : (a : ℚ) → a *ℚ one_ℚ ≡ a
*ℚ-one a =
    same (times (StandsFor-self a) one-is) (StandsFor-self a) (ring integer_ring (a.num ∷ pos a.den ∷ []) (A :* num 1 :* B) (A :* (B :* num 1)) refl)

-- a factor times a sum
pub *ℚ-add : (a b c : ℚ) → a *ℚ (b +ℚ c) ≡ (a *ℚ b) +ℚ (a *ℚ c)
unfolding parts
*ℚ-add a b c =
    same (times (StandsFor-self a) (plus (StandsFor-self b) (StandsFor-self c))) (plus (times (StandsFor-self a) (StandsFor-self b)) (times (StandsFor-self a) (StandsFor-self c)))
    (ring integer_ring (parts a b c) (A :* (C :* F :+ E :* D) :* (B :* D :* (B :* F))) ((A :* C :* (B :* F) :+ A :* E :* (B :* D)) :* (B :* (D :* F))) refl)

-- the ring of rationals, for `ring` and `combine`
abbrev pub rational_ring : CommutativeRing
rational_ring = record {
  carrier = ℚ;
  ◌⊕◌ = ◌+ℚ◌;
  ◌⊗◌ = ◌*ℚ◌;
  neg = neg_ℚ;
  𝟘 = zero_ℚ;
  𝟙 = one_ℚ;
  add_assoc = +ℚ_assoc;
  add_comm = +ℚ_comm;
  add-zero = +ℚ-zero;
  add-neg = +ℚ-neg;
  mul_assoc = *ℚ_assoc;
  mul_comm = *ℚ_comm;
  mul-one = *ℚ-one;
  mul-add = *ℚ-add;
}
