-- Numbers of 64 bits: their steps fit, and what is made of them.
use Rattle.std.proofs.Common.{ℕ, ℤ, zero, suc, ◌≡◌, ◌≢◌, ◌<◌, ◌≤◌, ◌^◌, ◌*ℤ◌, ◌-ℤ◌, neg_ℤ, ◌*◌, nat_abs, sym, ap, ap₂, ◌∙◌, subst, arith, Option, Some, None, IfSome, to_z, of_z, All}
use Rattle.std.specs.Int.{w64}
use Rattle.std.proofs.lemmas.Int.{ints, unsigned_abs-mul, to_z-of_z, fits_signed_from_abs}
use Rattle.std.proofs.Math.Nat.{mul-le-mul_right}
use Rattle.std.proofs.lemmas.List.Elements.{All-nil, All-append}
use Rattle.frac128.proofs.DifferenceLemmas.{neg_fits}
use Rattle.frac128.specs.Fraction.{PartFits}
use Rattle.frac128.specs.Steps.{StepFits}
use Rattle.frac128.proofs.StepRunLemmas.{one-fits}
use Rattle.whole_rows.specs.Steps.{product_step}
use Rattle.whole_rows.specs.Pivots.{place_steps, place_number, steps_to}
use Rattle.whole_rows.specs.Shorts.{IsShort, FitsShort}
use Rattle.whole_rows.proofs.FittingStepLemmas.{times_fits, all_fit}
use Rattle.whole_rows.proofs.RowWriteLemmas.{steps_to-next}
use Rattle.whole_rows.proofs.PlaceStepLemmas.{steps_lead, number_lead, steps_column, number_column, steps_other, number_other}

size_bound : (x y : ℕ) → x ≤ 2 ^ 63 → y < 2 ^ 63 → x * y < 2 ^ 126
size_bound x y h g =
    let k : x * y ≤ 2 ^ 63 * y = mul-le-mul_right y h in
    omega arith

short_product : (a u : ℤ) → nat_abs a ≤ 2 ^ 63 → IsShort u → nat_abs (a *ℤ u) < 2 ^ 126
short_product a u h g = subst (λ n. n < 2 ^ 126) (sym (unsigned_abs-mul a u)) (size_bound (nat_abs a) (nat_abs u) h g)

pub product_fits : (n : ℤ) → nat_abs n < 2 ^ 126 → PartFits n
product_fits n h = omega arith

short_fits : (a u : ℤ) → nat_abs a ≤ 2 ^ 63 → IsShort u → PartFits (a *ℤ u)
short_fits a u h g = product_fits (a *ℤ u) (short_product a u h g)

difference_fits : (p q : ℤ) → nat_abs p < 2 ^ 126 → nat_abs q < 2 ^ 126 → PartFits (p -ℤ q)
difference_fits p q h g = omega (arith, ints)

module _ (row b : ℕ → ℤ) (c p : ℕ) where
  abbrev pub ShortAt : (u v x : ℤ) → Type 0
  ShortAt u v x = (x ≡ place_number row b c u v p) × PartFits x × FitsShort row b c p

  pub short_lead : (u v x : ℤ) → p ≡ 0 → (x ≡ row 0 *ℤ u) × (nat_abs x < 2 ^ 126) × (nat_abs (row 0) ≤ 2 ^ 63) → ShortAt u v x
  short_lead u v x e h =
      (h.0 ∙ sym (number_lead row b c u v p e), product_fits x h.1, λ r s f g. subst (All StepFits) (sym (steps_lead row b c r s p e)) (one-fits (product_step (row 0) r) ((times_fits (row 0) r).0 (short_fits (row 0) r h.2 f))))

  pub short_leads : (u v : ℤ) (o : Option ℤ) → p ≡ 0 → IfSome o (λ x. (x ≡ row 0 *ℤ u) × (nat_abs x < 2 ^ 126) × (nat_abs (row 0) ≤ 2 ^ 63)) → IfSome o (ShortAt u v)
  short_leads u v None e h = h
  short_leads u v (Some x) e h = short_lead u v x e h

  pub short_column : (u v x y : ℤ) → p ≢ 0 → p ≡ c → (x ≡ b 0 *ℤ v) × (nat_abs x < 2 ^ 126) × (nat_abs (b 0) ≤ 2 ^ 63) → y ≡ neg_ℤ x → ShortAt u v y
  short_column u v x y n e h is =
      (is ∙ ap neg_ℤ h.0 ∙ sym (number_column row b c u v p n e), subst PartFits (sym is) (neg_fits x (product_fits x h.1)), λ r s f g. subst (All StepFits) (sym (steps_column row b c r s p n e)) (one-fits (product_step (b 0) s) ((times_fits (b 0) s).0 (short_fits (b 0) s h.2 g))))

  pub short_other : (u v x y d : ℤ) → p ≢ 0 → p ≢ c → (x ≡ row p *ℤ u) × (nat_abs x < 2 ^ 126) × (nat_abs (row p) ≤ 2 ^ 63) → (y ≡ b p *ℤ v) × (nat_abs y < 2 ^ 126) × (nat_abs (b p) ≤ 2 ^ 63) → d ≡ x -ℤ y → PartFits d → ShortAt u v d
  short_other u v x y d n m h k is fd =
      (is ∙ ap₂ (λ x y. x -ℤ y) h.0 k.0 ∙ sym (number_other row b c u v p n m), fd, λ r s f g. subst (All StepFits) (sym (steps_other row b c r s p n m)) (all_fit (row p) r (b p) s (short_fits (row p) r h.2 f) (short_fits (b p) s k.2 g) (difference_fits (row p *ℤ r) (b p *ℤ s) (short_product (row p) r h.2 f) (short_product (b p) s k.2 g))))

-- the steps of a row fit where those of its places do
pub short_steps : (row b : ℕ → ℤ) (c : ℕ) (u v : ℤ) (size : ℕ) → IsShort u → IsShort v → ((p : ℕ) → p < size → FitsShort row b c p) → All StepFits (steps_to row b c u v size)
short_steps row b c u v zero hu hv h = All-nil StepFits
short_steps row b c u v (suc size) hu hv h = subst (All StepFits) (sym (steps_to-next row b c u v size)) (All-append StepFits (steps_to row b c u v size) (place_steps row b c u v size) (short_steps row b c u v size hu hv (λ p l. h p (omega arith))) (h size (omega arith) u v hu hv))

-- a factor of 64 bits is read as it was stored
pub short_back : (n : ℤ) → IsShort n → to_z w64 (of_z w64 n) ≡ n
short_back n h = to_z-of_z w64 n (fits_signed_from_abs w64 n h)
