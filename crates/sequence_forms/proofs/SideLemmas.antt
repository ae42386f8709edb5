-- The numbers of sequences.
use Rattle.std.proofs.Common.{ℕ, zero, suc, ◌+◌, ◌<◌, ◌≤◌, ◌≡◌, inl, inr, Bool, true, false, Decides, refl, sym, ap, ◌∙◌, subst, arith}
use Rattle.std.specs.Prelude.{nat_lt, if◌then◌else◌}
use Rattle.std.proofs.lemmas.Bool.{cases_lt}
use Rattle.std.proofs.lemmas.Bool.Decides.{Decides-ltb}
use Rattle.rational.specs.Rational.{ℚ, ◌+ℚ◌, zero_ℚ}
use Rattle.rational.specs.Sum.{sum_to}
use Rattle.rational.proofs.RationalRing.{+ℚ_assoc, +ℚ_comm}
use Rattle.rational.proofs.SumLemmas.{sum_to-append}
use Rattle.sequence_forms.specs.Sides.{Side, first_after, first, sequences, place_to}

-- the sequences of a set come before those of the sets after it
pub first_up : (count : ℕ → ℕ) (j n : ℕ) → j < n → first_after count j + count j ≤ first_after count n
first_up count j zero h = absurd (omega arith)
first_up count j (suc n) h = elim (cases_lt j n) [
  | inl l ↦ let up = first_up count j n l in omega arith
  | inr l ↦ let e : j ≡ n = omega arith in subst (λ m. first_after count j + count j ≤ first_after count m + count m) e (omega arith)
]

-- there is always the empty sequence
pub first_pos : (count : ℕ → ℕ) (n : ℕ) → 0 < first_after count n
first_pos count zero = omega arith
first_pos count (suc n) = let up = first_pos count n in omega arith

-- a set's sequence is one of the side's
pub sequence_below : (d : Side) (j a : ℕ) → j < d.sets → a < d.count j → first d j + a < sequences d
sequence_below d j a h l = let up = first_up d.count j d.sets h in omega arith

-- ---- places
-- a test that holds, and one that does not
if_true : (b : Bool) (x y : ℕ) → b ≡ true → (if b then x else y) ≡ x
if_true true x y e = refl
if_true false x y e = cc

if_false : (b : Bool) (x y : ℕ) → b ≡ false → (if b then x else y) ≡ y
if_false true x y e = cc
if_false false x y e = refl

-- the empty sequence belongs to the whole game
pub place-empty : (count : ℕ → ℕ) (n : ℕ) → place_to count n 0 ≡ 0
place-empty count zero = refl
place-empty count (suc n) = if_true (nat_lt 0 (first_after count n)) (place_to count n 0) (suc n) ((Decides-ltb 0 (first_after count n)).1 (first_pos count n)) ∙ place-empty count n

-- the sequences of set j belong to it
pub place-set : (count : ℕ → ℕ) (n j a : ℕ) → j < n → a < count j → place_to count n (first_after count j + a) ≡ suc j
place-set count zero j a h l = absurd (omega arith)
place-set count (suc n) j a h l = elim (cases_lt j n) [
  | inl m ↦ let up = first_up count j n m in if_true (nat_lt (first_after count j + a) (first_after count n)) _ (suc n) ((Decides-ltb (first_after count j + a) (first_after count n)).1 (omega arith)) ∙ place-set count n j a m l
  | inr m ↦ (let e : n ≡ j = omega arith in subst (λ x. place_to count (suc x) (first_after count j + a) ≡ suc j) (sym e) last)
]
  where
    last : place_to count (suc j) (first_after count j + a) ≡ suc j
    last = if_false (nat_lt (first_after count j + a) (first_after count j)) _ (suc j) (not_lt (first_after count j + a) (first_after count j) (omega arith))
      where
        not_lt : (x y : ℕ) → y ≤ x → nat_lt x y ≡ false
        not_lt x y h = go (nat_lt x y) (Decides-ltb x y)
          where
            go : (b : Bool) → Decides b (x < y) → b ≡ false
            go true d = absurd (omega (arith, d.0 refl))
            go false d = refl

-- ---- sums
-- a sum over the sequences: the empty one, and those of each set
pub sum_to-sets : (count : ℕ → ℕ) (n : ℕ) (f : ℕ → ℚ) → sum_to (first_after count n) f ≡ f 0 +ℚ sum_to n (λ j. sum_to (count j) (λ a. f (first_after count j + a)))
sum_to-sets count zero f = +ℚ_comm zero_ℚ (f 0)
sum_to-sets count (suc n) f =
    sum_to-append (first_after count n) (count n) f ∙ ap (λ x. x +ℚ sum_to (count n) (λ a. f (first_after count n + a))) (sum_to-sets count n f)
    ∙ +ℚ_assoc (f 0) (sum_to n (λ j. sum_to (count j) (λ a. f (first_after count j + a)))) (sum_to (count n) (λ a. f (first_after count n + a)))
