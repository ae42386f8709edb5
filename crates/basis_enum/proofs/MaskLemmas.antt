-- Masks of basic solutions, row by row, and their two words
use Rattle.std.proofs.Common.{ℕ, suc, ◌<◌, ◌≤◌, ◌≡◌, ◌≢◌, ◌+◌, ◌*◌, ◌-◌, ◌/◌, ◌%◌, ◌^◌, min, refl, sym, ap, ap₂, ◌∙◌, subst, arith, add-one, lit<, bit_and, [], ◌∷◌, ◌⊎◌, inl, inr}
use Rattle.std.specs.Int.{bit_at, bit_not, w128}
use Rattle.std.proofs.Math.Nat.{pow-le-pow_right}
use Rattle.std.proofs.lemmas.Nat.{and_le_l, pow_pos, pow-add}
use Rattle.std.proofs.lemmas.Nat.Bits.{bit_at_ones, bit_at_clear_same, bit_at_clear_other, bit_at_cat_low, bit_at_cat_high}
use Rattle.std.proofs.lemmas.Bool.{cases_eq, cases_lt}
use Rattle.rational.specs.Rational.{ℚ, ◌+ℚ◌, ◌*ℚ◌, zero_ℚ}
use Rattle.rational.specs.Sum.{sum_to}
use Rattle.rational.proofs.RationalRing.{rational_ring}
use Rattle.rational.proofs.SumLemmas.{sum_to-zeros}
use Rattle.rational.proofs.Ring.{ring, num, ◌:+◌, ◌:*◌, A, B}
use Rattle.rational.proofs.Rules.{times_zero}
use Rattle.linear_systems.specs.Tableau.{Tableau}
use Rattle.linear_systems.specs.Rows.{unit_at, HasDistinctVariables}
use Rattle.linear_systems.proofs.RowLemmas.{unit_self, unit_other}
use Rattle.linear_systems.specs.Vertices.{IsZeroWord}

-- the basic solution by the first rows alone
abbrev pub solution_to : Tableau → ℕ → ℕ → ℚ
solution_to t n v = sum_to n (λ i. t.right i *ℚ unit_at v (t.basic i))

pub zeros_of_none : (t : Tableau) (n : ℕ)
    → IsZeroWord n (λ l. solution_to t 0 (suc l)) (2 ^ n - 1)
zeros_of_none t n =
    record {
      below = let p : 0 < 2 ^ n = pow_pos n in omega arith;
      zeros = λ l h. (λ e. refl, λ e. bit_at_ones n l h);
    }

-- ---- one row more
row_of_zero : (t : Tableau) (i v : ℕ) → t.right i ≡ zero_ℚ
    → solution_to t (suc i) v ≡ solution_to t i v
row_of_zero t i v z =
    ap (λ a. solution_to t i v +ℚ (a *ℚ unit_at v (t.basic i))) z
    ∙ ring rational_ring (solution_to t i v ∷ unit_at v (t.basic i) ∷ []) (A :+ num 0 :* B) A refl

row_elsewhere : (t : Tableau) (i v : ℕ) → t.basic i ≢ v
    → solution_to t (suc i) v ≡ solution_to t i v
row_elsewhere t i v ne =
    ap (λ a. solution_to t i v +ℚ a) (times_zero (t.right i) _ (unit_other v (t.basic i) ne))
    ∙ ring rational_ring (solution_to t i v ∷ []) (A :+ num 0) A refl

row_here : (t : Tableau) (i : ℕ) → HasDistinctVariables t → i < t.rows
    → solution_to t (suc i) (t.basic i) ≡ t.right i
row_here t i d h =
    ap₂ (λ a b. a +ℚ (t.right i *ℚ b))
    (sum_to-zeros i _ (λ k l. times_zero (t.right k) _ (unit_other (t.basic i) (t.basic k)
    (λ e. (let same : k ≡ i = d.basic_once k i (omega arith) h e in omega arith)))))
    (unit_self (t.basic i))
    ∙ ring rational_ring (t.right i ∷ []) (num 0 :+ A :* num 1) A refl

-- a row whose right side is 0
pub zeros_kept : (t : Tableau) (n i word : ℕ) → t.right i ≡ zero_ℚ
    → IsZeroWord n (λ l. solution_to t i (suc l)) word
    → IsZeroWord n (λ l. solution_to t (i + 1) (suc l)) word
zeros_kept t n i word z h =
    subst (λ k. IsZeroWord n (λ l. solution_to t k (suc l)) word) (sym (add-one i))
    (record {
      below = h.below;
      zeros = λ l w. (
        λ e. row_of_zero t i (suc l) z ∙ (h.zeros l w).0 e,
        λ e. (h.zeros l w).1 (sym (row_of_zero t i (suc l) z) ∙ e),
      );
    })

-- a row whose right side is not 0
pub zeros_cleared : (t : Tableau) (n i word : ℕ) → HasDistinctVariables t → i < t.rows → n ≤ 128
    → 0 < t.basic i → t.basic i ≤ n → t.right i ≢ zero_ℚ
    → IsZeroWord n (λ l. solution_to t i (suc l)) word
    → IsZeroWord n (λ l. solution_to t (i + 1) (suc l))
    (bit_and word (bit_not w128 (1 * 2 ^ (t.basic i - 1) % 2 ^ 128)))
zeros_cleared t n i word d w few above most ne h =
    subst (λ k. IsZeroWord n (λ l. solution_to t k (suc l)) cleared) (sym (add-one i))
    (record {
      below = let b : word < 2 ^ n = h.below in let c : cleared ≤ word = and_le_l word _ in omega arith;
      zeros = λ l k. at l k (cases_eq l (t.basic i - 1));
    })
  where
    cleared : ℕ
    cleared = bit_and word (bit_not w128 (1 * 2 ^ (t.basic i - 1) % 2 ^ 128))

    at : (l : ℕ) → l < n → (l ≡ t.basic i - 1) ⊎ (l ≢ t.basic i - 1)
        → (bit_at cleared l ≡ 1 → solution_to t (suc i) (suc l) ≡ zero_ℚ)
        × (solution_to t (suc i) (suc l) ≡ zero_ℚ → bit_at cleared l ≡ 1)
    at l k (inl e) =
        let bit : bit_at cleared (t.basic i - 1) ≡ 0 = bit_at_clear_same w128 word (t.basic i - 1) (omega arith) in
        let here : t.basic i ≡ suc l = omega arith in (
          λ q. absurd (let z : bit_at cleared l ≡ 0 = ap (bit_at cleared) e ∙ bit in omega arith),
          λ q. absurd (ne (sym (row_here t i d w) ∙ ap (solution_to t (suc i)) here ∙ q)),
        )
    at l k (inr f) =
        let bit : bit_at cleared l ≡ bit_at word l = bit_at_clear_other w128 word (t.basic i - 1) (omega arith) l (omega arith) f in
        let same : solution_to t (suc i) (suc l) ≡ solution_to t i (suc l) = row_elsewhere t i (suc l) (λ q. f (omega arith)) in
        (λ q. same ∙ (h.zeros l k).0 (sym bit ∙ q), λ q. bit ∙ (h.zeros l k).1 (sym same ∙ q))

-- ---- the words of a mask
parts : (word : ℕ) → word ≡ (word / 2 ^ 64) * 2 ^ 64 + word % 2 ^ 64
parts word = omega arith

pub low_word : (n : ℕ) (x : ℕ → ℚ) (word : ℕ) → IsZeroWord n x word
    → IsZeroWord (min n 64) x (word % 2 ^ 64)
low_word n x word h =
    record {
      below = below (cases_lt n 64);
      zeros = λ l k. (
        λ e. (h.zeros l (omega arith)).0 (bit l (omega arith) ∙ e),
        λ e. sym (bit l (omega arith)) ∙ (h.zeros l (omega arith)).1 e,
      );
    }
  where
    bit : (l : ℕ) → l < 64 → bit_at word l ≡ bit_at (word % 2 ^ 64) l
    bit l k =
        ap (λ w. bit_at w l) (parts word) ∙ bit_at_cat_low (word / 2 ^ 64) 64 (word % 2 ^ 64) l k

    below : (n < 64) ⊎ (64 ≤ n) → word % 2 ^ 64 < 2 ^ min n 64
    below (inl k) =
        let m : min n 64 ≡ n = omega arith in
        subst (λ a. word % 2 ^ 64 < 2 ^ a) (sym m) (let b : word < 2 ^ n = h.below in omega arith)
    below (inr k) =
        let m : min n 64 ≡ 64 = omega arith in
        subst (λ a. word % 2 ^ 64 < 2 ^ a) (sym m) (omega arith)

pub high_word : (n : ℕ) (x : ℕ → ℚ) (word : ℕ) → IsZeroWord n x word
    → IsZeroWord (n - 64) (λ l. x (64 + l)) (word / 2 ^ 64)
high_word n x word h =
    record {
      below = below (cases_lt n 64);
      zeros = λ l k. (
        λ e. (h.zeros (64 + l) (omega arith)).0 (bit l ∙ e),
        λ e. sym (bit l) ∙ (h.zeros (64 + l) (omega arith)).1 e,
      );
    }
  where
    bit : (l : ℕ) → bit_at word (64 + l) ≡ bit_at (word / 2 ^ 64) l
    bit l =
        let back : 64 + l - 64 ≡ l = omega arith in
        ap (λ w. bit_at w (64 + l)) (parts word)
        ∙ bit_at_cat_high (word / 2 ^ 64) 64 (word % 2 ^ 64) (64 + l) (omega arith) (omega arith)
        ∙ ap (bit_at (word / 2 ^ 64)) back

    below : (n < 64) ⊎ (64 ≤ n) → word / 2 ^ 64 < 2 ^ (n - 64)
    below (inl k) =
        let m : n - 64 ≡ 0 = omega arith in
        let b : word < 2 ^ n = h.below in
        let p : 2 ^ n ≤ 2 ^ 64 = pow-le-pow_right (lit< tt) {i = n} {j = 64} (omega arith) in
        subst (λ a. word / 2 ^ 64 < 2 ^ a) (sym m) (omega arith)
    below (inr k) =
        let b : word < 2 ^ n = h.below in
        let p : 2 ^ n ≡ 2 ^ (n - 64) * 2 ^ 64 = ap (λ a. 2 ^ a) (let s : n ≡ n - 64 + 64 = omega arith in s) ∙ pow-add 2 (n - 64) 64 in
        omega arith

-- the two words of so many ones
pub ones_words : (n : ℕ) → ((2 ^ n - 1) % 2 ^ 64 ≡ 2 ^ min n 64 - 1) × ((2 ^ n - 1) / 2 ^ 64 ≡ 2 ^ (n - 64) - 1)
ones_words n = elim (cases_lt n 64) [
  | inl l ↦
      let low : min n 64 ≡ n = omega (arith, l) in
      let high : n - 64 ≡ 0 = omega (arith, l) in
      let some : 0 < 2 ^ n = pow_pos n in
      let few : 2 ^ n ≤ 2 ^ 64 = pow-le-pow_right (lit< tt) {i = n} {j = 64} (omega (arith, l)) in
      let all : (2 ^ n - 1) % 2 ^ 64 ≡ 2 ^ n - 1 = omega (arith, some, few) in
      let none : (2 ^ n - 1) / 2 ^ 64 ≡ 2 ^ 0 - 1 = omega (arith, some, few) in
      (all ∙ ap (λ k. 2 ^ k - 1) (sym low), none ∙ ap (λ k. 2 ^ k - 1) (sym high))
  | inr h ↦
      let low : min n 64 ≡ 64 = omega (arith, h) in
      let some : 0 < 2 ^ (n - 64) = pow_pos (n - 64) in
      let split : 2 ^ n ≡ 2 ^ (n - 64) * 2 ^ 64 = ap (λ k. 2 ^ k) (let s : n ≡ n - 64 + 64 = omega (arith, h) in s) ∙ pow-add 2 (n - 64) 64 in
      let all : (2 ^ n - 1) % 2 ^ 64 ≡ 2 ^ 64 - 1 = omega (arith, some, split) in
      let rest : (2 ^ n - 1) / 2 ^ 64 ≡ 2 ^ (n - 64) - 1 = omega (arith, some, split) in
      (all ∙ ap (λ k. 2 ^ k - 1) (sym low), rest)
]
