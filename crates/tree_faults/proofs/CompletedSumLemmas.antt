-- A sum of probabilities that is at most 1 can go on to 1.
use Rattle.std.proofs.Common.{◌≡◌, ℕ, ◌+◌, ◌-◌, ◌*◌, ◌/◌, ◌≤◌, ◌<◌, ◌^◌, ℤ, pos, negsuc, nat_abs, ◌+ℤ◌, ◌*ℤ◌, ◌≤ℤ◌, lit<, refl, sym, ap, ap₂, ◌∙◌, subst, arith, mul-pos}
use Rattle.std.specs.Int.{IsGcd}
use Rattle.std.proofs.lemmas.Int.{ints}
use Rattle.std.proofs.lemmas.Nat.Gcd.{IsGcd-swap, IsGcd-from_sub, same_from_IsGcd}
use native.Mathlib.Nat.{div_self}
use Rattle.rational.specs.Gcd.{gcd}
use Rattle.rational.specs.GcdLaws.{gcd-is}
use Rattle.rational.specs.Rational.{ℚ, frac, zero_ℚ, one_ℚ, ◌+ℚ◌, ◌≤ℚ◌}
use Rattle.rational.proofs.DenominatorLemmas.{den_pos, lowest}
use Rattle.rational.proofs.FractionLemmas.{frac_self, frac-lowest}
use Rattle.rational.proofs.PartLemmas.{frac-add, frac-eq, frac-le, nonneg-num}
use Rattle.frac128.specs.Fraction.{PartFits}
use Rattle.frac128.specs.Steps.{AddFits, num_beside}
use Rattle.frac128.proofs.QuotientLemmas.{gcd_same}

-- what is left of a denominator shares no divisor with it either
gcd_rest : (n d : ℕ) → n ≤ d → IsGcd n d 1 → IsGcd (d - n) d 1
gcd_rest n d le h =
    let k = gcd-is (d - n) n in
    let one : gcd (d - n) n ≡ 1 = same_from_IsGcd d n (gcd (d - n) n) 1 (IsGcd-from_sub d n (gcd (d - n) n) le k) (IsGcd-swap n d 1 h) in
    let e : d - (d - n) ≡ n = omega arith in
    let all : IsGcd (d - (d - n)) (d - n) 1 = subst (λ m. IsGcd m (d - n) 1) (sym e) (IsGcd-swap (d - n) n 1 (subst (IsGcd (d - n) n) one k)) in
    IsGcd-swap d (d - n) 1 (IsGcd-from_sub d (d - n) 1 (omega arith) all)

-- what is left to 1
pub record Rest (s : ℚ) : Type 0 where
  pub rest : ℚ
  pub not_negative : zero_ℚ ≤ℚ rest
  pub fits : AddFits s rest
  pub is_one : s +ℚ rest ≡ one_ℚ

-- a numerator beside one over the same denominator
beside_like : (a b : ℚ) (n : ℕ) → a.num ≡ pos n → a.den ≡ b.den → num_beside a b ≡ pos n
beside_like a b n e d =
    let one : b.den / gcd a.den b.den ≡ 1 = ap (λ m. b.den / gcd m b.den) d ∙ ap (λ g. b.den / g) (gcd_same b.den) ∙ div_self (den_pos b) in
    let same : n * 1 ≡ n = omega arith in
    ap (λ m. a.num *ℤ pos m) one ∙ ap (λ (x : ℤ). x *ℤ pos 1) e ∙ ap pos same

-- the sum over one denominator
sums_to_one : (n k d : ℕ) → 0 < d → n + k ≡ d → frac (pos n) d +ℚ frac (pos k) d ≡ one_ℚ
sums_to_one n k d p e =
    let product : (n + k) * d ≡ d * d = ap (λ m. m * d) e in
    let cross : ((n * d) + (k * d)) * 1 ≡ 1 * (d * d) = omega arith in
    let some : 0 < d * d = mul-pos p p in
    frac-add (pos n) (pos k) d d p p ∙ (frac-eq ((pos n *ℤ pos d) +ℤ (pos k *ℤ pos d)) (pos 1) (d * d) 1 some (omega arith)).1 (ap pos cross)

-- with its numerator
goes_so : (s : ℚ) (n : ℕ) → s.num ≡ pos n → n ≤ s.den → s.den < 2 ^ 127 → Rest s
goes_so s n e le f =
    let d : ℕ = s.den in
    let k : ℕ = s.den - n in
    let sum : n + (s.den - n) ≡ s.den = omega arith in
    let low : gcd n s.den ≡ 1 = ap (λ (x : ℤ). gcd (nat_abs x) s.den) (sym e) ∙ lowest s in
    let rest_low : gcd (s.den - n) s.den ≡ 1 = same_from_IsGcd (s.den - n) s.den (gcd (s.den - n) s.den) 1 (gcd-is (s.den - n) s.den) (gcd_rest n s.den le (subst (IsGcd n s.den) low (gcd-is n s.den))) in
    let q : ℚ = frac (pos (s.den - n)) s.den in
    let parts = frac-lowest (pos (s.den - n)) s.den (den_pos s) rest_low in
    let self : s ≡ frac (pos n) s.den = sym (frac_self s) ∙ ap (λ (x : ℤ). frac x s.den) e in
    let one : s +ℚ q ≡ one_ℚ = ap (λ (x : ℚ). x +ℚ q) self ∙ sums_to_one n (s.den - n) s.den (den_pos s) sum in
    let left : num_beside s q ≡ pos n = beside_like s q n e (sym parts.1) in
    let right : num_beside q s ≡ pos (s.den - n) = beside_like q s (s.den - n) parts.0 parts.1 in
    let unit : one_ℚ.den ≡ 1 = (frac-lowest (pos 1) 1 (omega arith) (gcd_same 1)).1 in
    record {
      rest = q;
      not_negative = (nonneg-num q).1 (rw parts.0 (omega (arith, ints)));
      fits = record {
        left = subst PartFits (sym left) (omega arith);
        right = subst PartFits (sym right) (omega arith);
        top = subst PartFits (sym (ap₂ ◌+ℤ◌ left right)) (omega arith);
        den = subst (λ m. m < 2 ^ 127) (sym (ap (λ (x : ℚ). x.den) one ∙ unit)) (lit< tt);
      };
      is_one = one;
    }

-- the numerator of a number from 0 to 1
numerator : (m : ℤ) (d : ℕ) → pos 0 ≤ℤ m → (m *ℤ pos 1) ≤ℤ (pos 1 *ℤ pos d) → (n : ℕ) × (m ≡ pos n) × (n ≤ d)
numerator (pos n) d p l = (n, refl, omega (arith, ints))
numerator (negsuc n) d p l = absurd (omega (arith, ints))

-- a sum from 0 to 1 can go on to 1
pub goes_to_one : (s : ℚ) → zero_ℚ ≤ℚ s → s ≤ℚ one_ℚ → s.den < 2 ^ 127 → Rest s
goes_to_one s p l f =
    let cross = (frac-le s.num (pos 1) s.den 1 (den_pos s) (omega arith)).0 (subst (λ (x : ℚ). x ≤ℚ one_ℚ) (sym (frac_self s)) l) in
    let n = numerator s.num s.den ((nonneg-num s).0 p) cross in
    goes_so s n.0 n.1 n.2 f
