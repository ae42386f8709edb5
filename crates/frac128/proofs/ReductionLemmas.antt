-- the quotient of two sizes, with a sign
use Rattle.std.proofs.Common.{◌*◌, ℕ, zero, suc, ◌≡◌, ◌/◌, ◌<◌, ◌≤◌, ◌^◌, ℤ, pos, nat_abs, Bool, true, false, arith, refl, sym, ap, ap₂, ◌∙◌, subst, ltb, ◌⊎◌, ⊎_elim, not-le_of_lt, SFits, to_z, of_z, Option, None, MatchOption, zero-mul, mul-zero, lit<}
use mir.Syntax.{w128}
use native.Mathlib.Nat.{zero-div, not-suc-le-zero}
use Rattle.std.proofs.Math.Nat.{div-le_self}
use Rattle.std.proofs.lemmas.Int.{to_z-of_z}
use Rattle.rational.specs.Gcd.{gcd, div_ℤ}
use Rattle.rational.specs.GcdLaws.{gcd_pos, gcd-parts}
use Rattle.rational.specs.Rational.{ℚ, zero_ℚ, frac}
use Rattle.rational.proofs.DenominatorLemmas.{den_pos}
use Rattle.rational.proofs.FractionLemmas.{equal_by_parts, frac-lowest, StandsFor, StandsFor-frac, equal_by}
use Rattle.rational.proofs.Linear.{zero-over}
use Rattle.frac128.proofs.PartLemmas.{zero-num, zero-den}
use Rattle.frac128.specs.Fraction.{Fits, PartFits, with_sign}

-- the size of a size with a sign
pub nat_abs-with_sign : (b : Bool) (n : ℕ) → nat_abs (with_sign b n) ≡ n
nat_abs-with_sign true zero = refl
nat_abs-with_sign true (suc n) = refl
nat_abs-with_sign false n = refl

-- the parts of a quotient of sizes that share no divisor
pub frac_sizes : (s : Bool) (t b : ℕ) → 0 < b → gcd t b ≡ 1 → ((frac (with_sign s t) b).num ≡ with_sign s t) × ((frac (with_sign s t) b).den ≡ b)
frac_sizes s t b h e =
    frac-lowest (with_sign s t) b h (ap (λ n. gcd n b) (nat_abs-with_sign s t) ∙ e)

-- a sign changes no common divisor
pub signed_lowest : (s : Bool) (t b : ℕ) (n : ℤ) → gcd t b ≡ 1 → SFits w128 n → n ≡ with_sign s t → gcd (nat_abs (to_z w128 (of_z w128 n))) b ≡ 1
signed_lowest s t b n e f is =
    ap (λ x. gcd (nat_abs x) b) (to_z-of_z w128 n f ∙ is) ∙ ap (λ x. gcd x b) (nat_abs-with_sign s t) ∙ e

-- a size that does not fit
pub sizes_wide : (s : Bool) (t b : ℕ) → 0 < b → gcd t b ≡ 1 → (2 ^ 127 ≤ t) ⊎ (2 ^ 127 ≤ b) → ¬ (Fits (frac (with_sign s t) b))
sizes_wide s t b h e w f =
    let p = frac_sizes s t b h e in
    ⊎_elim (not-le_of_lt (subst (λ n. n < 2 ^ 127) (ap nat_abs p.0 ∙ nat_abs-with_sign s t) f.num)) (not-le_of_lt (subst (λ n. n < 2 ^ 127) p.1 f.den)) w

-- the fraction that is made of two sizes has their value
pub sizes_value : (s : Bool) (t b : ℕ) (n : ℤ) (q : ℚ) → 0 < b → gcd t b ≡ 1 → t < 2 ^ 127 → b < 2 ^ 127 → SFits w128 n → n ≡ with_sign s t → q.num ≡ to_z w128 (of_z w128 n) → q.den ≡ b → (q ≡ frac (with_sign s t) b) × Fits q
sizes_value s t b n q h e k l f is num den =
    let p = frac_sizes s t b h e in
    let top : q.num ≡ with_sign s t = num ∙ to_z-of_z w128 n f ∙ is in
    (equal_by_parts q (frac (with_sign s t) b) (top ∙ sym p.0) (den ∙ sym p.1), record { num = subst (λ x. x < 2 ^ 127) (sym (ap nat_abs top ∙ nat_abs-with_sign s t)) k; den = subst (λ x. x < 2 ^ 127) (sym den) l })

-- a sign goes out of a division
div_ℤ-with_sign : (b : Bool) (n g : ℕ) → 0 < g → div_ℤ (with_sign b n) g ≡ with_sign b (n / g)
div_ℤ-with_sign true zero g h = rw zero-div
div_ℤ-with_sign true (suc n) g h = refl
div_ℤ-with_sign false n g h = refl

-- the parts of a quotient of sizes
pub frac_parts : (b : Bool) (n d : ℕ) → 0 < d → ((frac (with_sign b n) d).num ≡ with_sign b (n / gcd n d)) × ((frac (with_sign b n) d).den ≡ d / gcd n d)
unfolding frac
frac_parts b n zero h = absurd (not-suc-le-zero h)
frac_parts b n (suc d) h =
    (ap (λ x. div_ℤ (with_sign b n) (gcd x (suc d))) (nat_abs-with_sign b n) ∙ div_ℤ-with_sign b n (gcd n (suc d)) (gcd_pos n (suc d) h), ap (λ x. suc d / gcd x (suc d)) (nat_abs-with_sign b n))

-- sizes that fit still do in lowest terms
pub sizes_fit : (s : Bool) (t b : ℕ) → 0 < b → t < 2 ^ 127 → b < 2 ^ 127 → Fits (frac (with_sign s t) b)
sizes_fit s t b h k l =
    let p = frac_parts s t b h in
    record { num = subst (λ x. x < 2 ^ 127) (sym (ap nat_abs p.0 ∙ nat_abs-with_sign s (t / gcd t b))) (less t k); den = subst (λ x. x < 2 ^ 127) (sym p.1) (less b l) }
  where
    less : (n : ℕ) → n < 2 ^ 127 → n / gcd t b < 2 ^ 127
    less n f = let q : n / gcd t b ≤ n = div-le_self n (gcd t b) in omega (arith, f)

-- the sizes of a quotient with their common divisors divided out
pub record Lowered (n d g t b : ℕ) : Type 0 where
  pub positive : 0 < d
  pub common : g ≡ gcd n d
  pub top : t ≡ n / g
  pub bottom : b ≡ d / g

-- the lowest denominator is positive
pub lowered_pos : (n d g t b : ℕ) → Lowered n d g t b → 0 < b
lowered_pos n d g t b k =
    subst (λ x. 0 < x) ((frac_parts false n d k.positive).1 ∙ ap (λ x. d / x) (sym k.common) ∙ sym k.bottom) (den_pos (frac (pos n) d))

-- the lowest parts share nothing
pub lowered_lowest : (n d g t b : ℕ) → Lowered n d g t b → gcd t b ≡ 1
lowered_lowest n d g t b k =
    ap₂ gcd (k.top ∙ ap (λ x. n / x) k.common) (k.bottom ∙ ap (λ x. d / x) k.common) ∙ gcd-parts n d k.positive

-- the value stays
pub lowered_value : (s : Bool) (n d g t b : ℕ) → Lowered n d g t b → frac (with_sign s t) b ≡ frac (with_sign s n) d
lowered_value s n d g t b k =
    let p = frac_sizes s t b (lowered_pos n d g t b k) (lowered_lowest n d g t b k) in
    let q = frac_parts s n d k.positive in
    equal_by_parts (frac (with_sign s t) b) (frac (with_sign s n) d) (p.0 ∙ ap (with_sign s) (k.top ∙ ap (λ x. n / x) k.common) ∙ sym q.0) (p.1 ∙ k.bottom ∙ ap (λ x. d / x) k.common ∙ sym q.1)

-- an answer at one rational is one at an equal rational
pub answer_at : (o : Option ℚ) (q r : ℚ) → q ≡ r → MatchOption o (¬ (Fits q)) (λ f. (f ≡ q) × Fits f) → MatchOption o (¬ (Fits r)) (λ f. (f ≡ r) × Fits f)
answer_at o q r e h = subst (λ (x : ℚ). MatchOption o (¬ (Fits x)) (λ f. (f ≡ x) × Fits f)) e h

-- no answer, where the rational does not fit
pub none_at : (o : Option ℚ) (q : ℚ) → o ≡ None → ¬ (Fits q) → MatchOption o (¬ (Fits q)) (λ f. (f ≡ q) × Fits f)
none_at o q e h = subst (λ x. MatchOption x (¬ (Fits q)) (λ f. (f ≡ q) × Fits f)) (sym e) h

-- no natural is below zero
pub ltb-zero : (n : ℕ) → ltb n 0 ≡ false
ltb-zero n = grind arith

-- the greatest common divisor is positive
pub common_pos : (n d g : ℕ) → 0 < d → g ≡ gcd n d → 0 < g
common_pos n d g h e = rw e (gcd_pos n d h)

-- zero has no sign
zero_with_sign : (s : Bool) → with_sign s 0 ≡ pos 0
zero_with_sign true = refl
zero_with_sign false = refl

-- a product with a factor zero
pub zero_product : (s : Bool) (a c d : ℕ) (z : ℚ) → 0 < d → (a ≡ 0) ⊎ (c ≡ 0) → z ≡ zero_ℚ → (z ≡ frac (with_sign s (a * c)) d) × Fits z
zero_product s a c d z h e is =
    let top : a * c ≡ 0 = ⊎_elim (λ p. ap (λ x. x * c) p ∙ zero-mul c) (λ p. ap (λ x. a * x) p ∙ mul-zero a) e in
    let value : frac (with_sign s (a * c)) d ≡ zero_ℚ = equal_by (frac (with_sign s (a * c)) d) zero_ℚ (pos 0) (pos 0) d d (subst (λ x. StandsFor (frac x d) (pos 0) d) (sym (ap (with_sign s) top ∙ zero_with_sign s)) (StandsFor-frac (pos 0) d h)) (zero-over d h) refl in
    (is ∙ sym value, subst Fits (sym is) (record { num = subst PartFits (sym zero-num) (lit< tt); den = subst (λ x. x < 2 ^ 127) (sym zero-den) (lit< tt) }))
