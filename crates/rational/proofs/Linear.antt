-- Linear arithmetic over the rationals. The numbers in play are put over one denominator, and what is left is a statement about whole numbers, which `omega (arith, ints)` proves.
use Rattle.std.proofs.Common.{ℕ, suc, zero, ◌*◌, ◌<◌, ◌≡◌, ℤ, pos, neg_ℤ, ◌*ℤ◌, ◌+ℤ◌, ◌≤ℤ◌, ◌<ℤ◌, refl, List, [], ◌∷◌, lit<, arith, mul-pos}
use borrow.Author.Differences.{below_in}
use Rattle.rational.specs.Rational.{ℚ, whole, ◌+ℚ◌, ◌*ℚ◌, neg_ℚ, zero_ℚ, ◌≤ℚ◌, ◌<ℚ◌}
use Rattle.rational.proofs.DenominatorLemmas.{den_pos}
use Rattle.rational.proofs.IntegerRing.{integer_ring}
use Rattle.rational.proofs.FractionLemmas.{StandsFor, StandsFor-self, StandsFor-also, StandsFor-frac, StandsFor-add, StandsFor-mul, StandsFor-neg}
use Rattle.rational.proofs.OrderLemmas.{le_by, by_le, lt_by, by_lt, eq_by, by_eq}
use Rattle.rational.proofs.Ring.{ring, num, ◌:+◌, ◌:*◌, A, B, C}

infixl 60 ◌⟨+⟩◌ ◌⟨-⟩◌
infixl 70 ◌⟨*⟩◌
infix 50 ◌⟨≤⟩◌ ◌⟨<⟩◌ ◌⟨=⟩◌
-- a sum of numbers with whole multiples
pub data Lin : Type 0 where
  at : ℕ → Lin
  lit : ℤ → Lin
  ◌⟨+⟩◌ : Lin → Lin → Lin
  ◌⟨-⟩◌ : Lin → Lin → Lin
  minus : Lin → Lin
  ◌⟨*⟩◌ : ℤ → Lin → Lin

-- at most, below, or equal
pub data Claim : Type 0 where
  ◌⟨≤⟩◌ : Lin → Lin → Claim
  ◌⟨<⟩◌ : Lin → Lin → Claim
  ◌⟨=⟩◌ : Lin → Lin → Claim

-- the number at an index, and 0 past the end
abbrev pub pick : List ℚ → ℕ → ℚ
pick [] i = zero_ℚ
pick (x ∷ xs) zero = x
pick (x ∷ xs) (suc i) = pick xs i

-- over the rationals
abbrev pub val : List ℚ → Lin → ℚ
val ρ (at i) = pick ρ i
val ρ (lit k) = whole k
val ρ (a ⟨+⟩ b) = val ρ a +ℚ val ρ b
val ρ (a ⟨-⟩ b) = val ρ a +ℚ neg_ℚ (val ρ b)
val ρ (minus a) = neg_ℚ (val ρ a)
val ρ (k ⟨*⟩ a) = whole k *ℚ val ρ a

-- what a claim says of rationals
abbrev pub holds : List ℚ → Claim → Type 0
holds ρ (a ⟨≤⟩ b) = val ρ a ≤ℚ val ρ b
holds ρ (a ⟨<⟩ b) = val ρ a <ℚ val ρ b
holds ρ (a ⟨=⟩ b) = val ρ a ≡ val ρ b

-- over the whole numbers, where 1 is `one`
abbrev pub val_ℤ : ℤ → (ℕ → ℤ) → Lin → ℤ
val_ℤ one z (at i) = z i
val_ℤ one z (lit k) = k *ℤ one
val_ℤ one z (a ⟨+⟩ b) = val_ℤ one z a +ℤ val_ℤ one z b
val_ℤ one z (a ⟨-⟩ b) = val_ℤ one z a +ℤ neg_ℤ (val_ℤ one z b)
val_ℤ one z (minus a) = neg_ℤ (val_ℤ one z a)
val_ℤ one z (k ⟨*⟩ a) = k *ℤ val_ℤ one z a

-- what a claim says of whole numbers
abbrev pub holds_ℤ : ℤ → (ℕ → ℤ) → Claim → Type 0
holds_ℤ one z (a ⟨≤⟩ b) = val_ℤ one z a ≤ℤ val_ℤ one z b
holds_ℤ one z (a ⟨<⟩ b) = val_ℤ one z a <ℤ val_ℤ one z b
holds_ℤ one z (a ⟨=⟩ b) = val_ℤ one z a ≡ val_ℤ one z b

-- each claim holds of the rationals
abbrev pub all_hold : List ℚ → List Claim → Type 0
all_hold ρ [] = Unit {0}
all_hold ρ (c ∷ cs) = holds ρ c × all_hold ρ cs

-- each claim holds of the whole numbers
abbrev pub all_hold_ℤ : ℤ → (ℕ → ℤ) → List Claim → Type 0
all_hold_ℤ one z [] = Unit {0}
all_hold_ℤ one z (c ∷ cs) = holds_ℤ one z c × all_hold_ℤ one z cs

-- ---- one denominator
product : List ℚ → ℕ
product [] = 1
product (q ∷ qs) = q.den * product qs

product-pos : (qs : List ℚ) → 0 < product qs
unfolding product
product-pos [] = lit< tt
product-pos (q ∷ qs) = mul-pos (den_pos q) (product-pos qs)

scaled : List ℚ → ℕ → ℤ
scaled [] i = pos 0
scaled (q ∷ qs) zero = q.num *ℤ pos (product qs)
scaled (q ∷ qs) (suc i) = scaled qs i *ℤ pos q.den

-- 0 stands for 0 over any denominator
pub zero-over : (d : ℕ) → 0 < d → StandsFor zero_ℚ (pos 0) d
zero-over d h = StandsFor-also zero_ℚ (pos 0) (pos 0) 1 d (StandsFor-frac (pos 0) 1 (lit< tt)) h (ring integer_ring (pos d ∷ []) (num 0 :* A) (num 0 :* num 1) refl)

scaled-is : (qs : List ℚ) (i : ℕ) → StandsFor (pick qs i) (scaled qs i) (product qs)
unfolding scaled product
scaled-is [] i = zero-over 1 (lit< tt)
scaled-is (q ∷ qs) zero =
    StandsFor-also q q.num (q.num *ℤ pos (product qs)) q.den (q.den * product qs) (StandsFor-self q) (mul-pos (den_pos q) (product-pos qs)) (ring integer_ring (q.num ∷ pos q.den ∷ pos (product qs) ∷ []) (A :* (B :* C)) (A :* C :* B) refl)
scaled-is (q ∷ qs) (suc i) =
    StandsFor-also (pick qs i) (scaled qs i) (scaled qs i *ℤ pos q.den) (product qs) (q.den * product qs) (scaled-is qs i) (mul-pos (den_pos q) (product-pos qs)) (ring integer_ring (scaled qs i ∷ pos q.den ∷ pos (product qs) ∷ []) (A :* (B :* C)) (A :* B :* C) refl)

-- a whole number stands for itself over 1
pub StandsFor-whole : (k : ℤ) → StandsFor (whole k) k 1
StandsFor-whole k = StandsFor-frac k 1 (lit< tt)

add-same : (a b : ℚ) (n m : ℤ) (d : ℕ) → StandsFor a n d → StandsFor b m d → StandsFor (a +ℚ b) (n +ℤ m) d
add-same a b n m d p q =
    StandsFor-also (a +ℚ b) ((n *ℤ pos d) +ℤ (m *ℤ pos d)) (n +ℤ m) (d * d) d (StandsFor-add a b n m d d p q) p.over (ring integer_ring (n ∷ m ∷ pos d ∷ []) ((A :* C :+ B :* C) :* C) ((A :+ B) :* (C :* C)) refl)

val-is : (qs : List ℚ) (e : Lin) → StandsFor (val qs e) (val_ℤ (pos (product qs)) (scaled qs) e) (product qs)
val-is qs (at i) = scaled-is qs i
val-is qs (lit k) =
    StandsFor-also (whole k) k (k *ℤ pos (product qs)) 1 (product qs) (StandsFor-whole k) (product-pos qs) (ring integer_ring (k ∷ pos (product qs) ∷ []) (A :* B) (A :* B :* num 1) refl)
val-is qs (a ⟨+⟩ b) = add-same _ _ _ _ _ (val-is qs a) (val-is qs b)
val-is qs (a ⟨-⟩ b) = add-same _ _ _ _ _ (val-is qs a) (StandsFor-neg _ _ _ (val-is qs b))
val-is qs (minus a) = StandsFor-neg _ _ _ (val-is qs a)
val-is qs (k ⟨*⟩ a) =
    let v = val_ℤ (pos (product qs)) (scaled qs) a in
    StandsFor-also (whole k *ℚ val qs a) (k *ℤ v) (k *ℤ v) (1 * product qs) (product qs) (StandsFor-mul (whole k) (val qs a) k v 1 (product qs) (StandsFor-whole k) (val-is qs a)) (product-pos qs)
    (ring integer_ring (k ∷ v ∷ pos (product qs) ∷ []) (A :* B :* C) (A :* B :* (num 1 :* C)) refl)

down_claim : (qs : List ℚ) (c : Claim) → holds qs c → holds_ℤ (pos (product qs)) (scaled qs) c
down_claim qs (a ⟨≤⟩ b) h = by_le _ _ _ _ _ (val-is qs a) (val-is qs b) h
down_claim qs (a ⟨<⟩ b) h = by_lt _ _ _ _ _ (val-is qs a) (val-is qs b) h
down_claim qs (a ⟨=⟩ b) h = by_eq _ _ _ _ _ (val-is qs a) (val-is qs b) h

up_claim : (qs : List ℚ) (c : Claim) → holds_ℤ (pos (product qs)) (scaled qs) c → holds qs c
up_claim qs (a ⟨≤⟩ b) h = le_by _ _ _ _ _ (val-is qs a) (val-is qs b) h
up_claim qs (a ⟨<⟩ b) h = lt_by _ _ _ _ _ (val-is qs a) (val-is qs b) h
up_claim qs (a ⟨=⟩ b) h = eq_by _ _ _ _ _ (val-is qs a) (val-is qs b) h

down_claims : (qs : List ℚ) (cs : List Claim) → all_hold qs cs → all_hold_ℤ (pos (product qs)) (scaled qs) cs
down_claims qs [] h = tt
down_claims qs (c ∷ cs) h = (down_claim qs c h.0, down_claims qs cs h.1)

-- a claim follows from others where it does so over the whole numbers
pub linear : (qs : List ℚ) (cs : List Claim) (c : Claim) → ((one : ℤ) (z : ℕ → ℤ) → pos 0 <ℤ one → all_hold_ℤ one z cs → holds_ℤ one z c) → all_hold qs cs → holds qs c
linear qs cs c f h = up_claim qs c (f (pos (product qs)) (scaled qs) (below_in (pos 0) (pos (product qs)) (omega (arith, product-pos qs))) (down_claims qs cs h))

-- claims that contradict each other over the whole numbers do not hold together
pub linear_contradiction : (qs : List ℚ) (cs : List Claim) → ((one : ℤ) (z : ℕ → ℤ) → pos 0 <ℤ one → all_hold_ℤ one z cs → ⊥) → all_hold qs cs → ⊥
linear_contradiction qs cs f h = f (pos (product qs)) (scaled qs) (below_in (pos 0) (pos (product qs)) (omega (arith, product-pos qs))) (down_claims qs cs h)
