-- The fractions of a row before and after a pivot.
use Rattle.std.proofs.Common.{ℕ, ℤ, pos, negsuc, zero, suc, ◌≡◌, ◌≢◌, ◌<◌, ◌≤◌, ◌^◌, ◌*ℤ◌, ◌-ℤ◌, ◌*◌, ◌/◌, ◌<ℤ◌, neg_ℤ, nat_abs, refl, sym, ap, ap₂, ◌∙◌, subst, subst₂, to_z, of_z, [], ◌∷◌, arith, inl, inr}
use Rattle.std.specs.Int.{◌∣◌, w128}
use Rattle.std.proofs.lemmas.Int.{ints, unsigned_abs-mul}
use Rattle.std.proofs.lemmas.Bool.{cases_eq}
use native.Mathlib.Nat.{eq-one_of_dvd-one, one-mul, pos_of_dvd_of_pos, le_of_dvd, dvd-mul_left, dvd_of_mul-dvd-mul_right, mul-dvd-mul_right}
use Rattle.rational.specs.Gcd.{gcd, div_ℤ}
use Rattle.rational.specs.GcdLaws.{gcd-is}
use Rattle.rational.specs.LowestTerms.{nat_abs-div_ℤ}
use Rattle.rational.proofs.GcdLemmas.{div_ℤ-mul}
use Rattle.std.proofs.Math.Nat.{div-le_self}
use Rattle.rational.specs.Rational.{ℚ, frac, whole, zero_ℚ, neg_ℚ, inv_ℚ, ◌*ℚ◌, ◌-ℚ◌}
use Rattle.rational.proofs.RationalRing.{rational_ring}
use Rattle.rational.proofs.Field.{*ℚ-inv, pos-*ℤ}
use Rattle.rational.proofs.InverseLemmas.{frac-inv, inv_ℚ-mul, inv_ℚ-inv, inv_ne_zero}
use Rattle.rational.proofs.PartLemmas.{whole-mul, whole-neg, whole-eq, frac-mul, frac-scale, abs-neg, pos_abs}
use Rattle.rational.proofs.FractionLemmas.{cancel_pos}
use Rattle.rational.proofs.OrderLemmas.{lt_of_times}
use Rattle.rational.proofs.IntegerRing.{integer_ring}
use Rattle.rational.proofs.Ring.{◌times◌is◌, combine, ring, num, var, ◌:*◌, ◌:-◌, :neg}
use Rattle.rational.proofs.Ring as R
use Rattle.linear_systems.proofs.PivotLemmas.{eqb_same, eqb_apart}
use Rattle.frac128.specs.Fraction.{PartFits}
use Rattle.whole_rows.specs.Rows.{fraction, IsRow, IsGreatestDivisor}
use Rattle.whole_rows.specs.Pivots.{signed_by, own_factor, other_factor, place_number, turned, exchanged, steps_to, row_steps}
use Rattle.whole_rows.specs.Shorts.{IsShort}
use Rattle.whole_rows.specs.PivotedRows.{IsPivotedRow, IsPivotRow, IsPrimitivePart}
use Rattle.whole_rows.proofs.FittingStepLemmas.{whole-sub, read_back}

-- a fraction as a product
pub frac_over : (n : ℤ) (d : ℕ) → 0 < d → frac n d ≡ whole n *ℚ inv_ℚ (whole (pos d))
frac_over n d h =
    sym (ap (λ q. whole n *ℚ q) (frac-inv d 1 h (omega arith)) ∙ frac-mul n (pos 1) 1 d (omega arith) h ∙ ap₂ frac (ring integer_ring (n ∷ []) (R.A :* num 1) R.A refl) (one-mul d))

pub fraction_over : (row : ℕ → ℤ) (p : ℕ) → pos 0 <ℤ row 0 → fraction row p ≡ whole (row p) *ℚ inv_ℚ (whole (row 0))
fraction_over row p h = go (row 0) h
  where
    go : (d : ℤ) → pos 0 <ℤ d → frac (row p) (nat_abs d) ≡ whole (row p) *ℚ inv_ℚ (whole d)
    go (pos d) h = frac_over (row p) d (omega (arith, ints))
    go (negsuc d) h = absurd (omega (arith, ints))

pub whole_ne : (n : ℤ) → n ≢ pos 0 → whole n ≢ zero_ℚ
whole_ne n h e = h ((whole-eq n (pos 0)).0 e)

pub pos_ne : (n : ℤ) → pos 0 <ℤ n → n ≢ pos 0
pos_ne n h e = omega (arith, ints)

pub over_entry : (P B0 : ℚ) → P ≢ zero_ℚ → B0 ≢ zero_ℚ → inv_ℚ (P *ℚ inv_ℚ B0) ≡ inv_ℚ P *ℚ B0
over_entry P B0 p0 b0 = inv_ℚ-mul P (inv_ℚ B0) p0 (inv_ne_zero B0 b0) ∙ ap (λ q. inv_ℚ P *ℚ q) (inv_ℚ-inv B0 b0)

-- ---- the two values that a row which is not the pivot's gets
module _ (A B A0 B0 K P U V : ℚ) (a0 : A0 ≢ zero_ℚ) (b0 : B0 ≢ zero_ℚ) (p0 : P ≢ zero_ℚ) (u0 : U ≢ zero_ℚ) (e : V *ℚ P ≡ K *ℚ U) where
  pub value_elsewhere : ((A *ℚ U) -ℚ (B *ℚ V)) *ℚ inv_ℚ (A0 *ℚ U) ≡ (A *ℚ inv_ℚ A0) -ℚ ((K *ℚ inv_ℚ A0) *ℚ ((B *ℚ inv_ℚ B0) *ℚ inv_ℚ (P *ℚ inv_ℚ B0)))
  value_elsewhere =
      rw (inv_ℚ-mul A0 U a0 u0, over_entry P B0 p0 b0)
      (combine rational_ring (A ∷ B ∷ inv_ℚ A0 ∷ B0 ∷ inv_ℚ B0 ∷ K ∷ P ∷ inv_ℚ P ∷ U ∷ inv_ℚ U ∷ V ∷ [])
      ((var 0 :* var 2 :- var 1 :* var 2 :* var 5 :* var 7 times var 8 :* var 9 is num 1)
      ∷ (:neg (var 1 :* var 2 :* var 7 :* var 9) times var 10 :* var 6 is (var 5 :* var 8))
      ∷ (var 1 :* var 2 :* var 10 :* var 9 times var 6 :* var 7 is num 1)
      ∷ (var 1 :* var 2 :* var 5 :* var 7 times var 3 :* var 4 is num 1) ∷ [])
      ((var 0 :* var 8 :- var 1 :* var 10) :* (var 2 :* var 9))
      (var 0 :* var 2 :- (var 5 :* var 2) :* ((var 1 :* var 4) :* (var 7 :* var 3)))
      refl (*ℚ-inv U u0, (e, (*ℚ-inv P p0, (*ℚ-inv B0 b0, tt)))))

  pub value_at_column : neg_ℚ (B0 *ℚ V) *ℚ inv_ℚ (A0 *ℚ U) ≡ neg_ℚ ((K *ℚ inv_ℚ A0) *ℚ inv_ℚ (P *ℚ inv_ℚ B0))
  value_at_column =
      rw (inv_ℚ-mul A0 U a0 u0, over_entry P B0 p0 b0)
      (combine rational_ring (A ∷ B ∷ inv_ℚ A0 ∷ B0 ∷ inv_ℚ B0 ∷ K ∷ P ∷ inv_ℚ P ∷ U ∷ inv_ℚ U ∷ V ∷ [])
      ((:neg (var 3 :* var 2 :* var 7 :* var 9) times var 10 :* var 6 is (var 5 :* var 8))
      ∷ (:neg (var 3 :* var 2 :* var 5 :* var 7) times var 8 :* var 9 is num 1)
      ∷ (var 3 :* var 2 :* var 10 :* var 9 times var 6 :* var 7 is num 1) ∷ [])
      (:neg (var 3 :* var 10) :* (var 2 :* var 9))
      (:neg ((var 5 :* var 2) :* (var 7 :* var 3)))
      refl (e, (*ℚ-inv U u0, (*ℚ-inv P p0, tt))))

-- ---- signs
abbrev sign_of : ℤ → ℤ
sign_of (pos p) = pos 1
sign_of (negsuc p) = neg_ℤ (pos 1)

signed_is : (p n : ℤ) → signed_by p n ≡ sign_of p *ℤ n
signed_is (pos p) n = ring integer_ring (n ∷ []) R.A (num 1 :* R.A) refl
signed_is (negsuc p) n = ring integer_ring (n ∷ []) (:neg R.A) (:neg (num 1) :* R.A) refl

sign_ne : (p : ℤ) → sign_of p ≢ pos 0
sign_ne (pos p) e = let h : pos 1 ≡ pos 0 = e in omega (arith, ints)
sign_ne (negsuc p) e = let h : negsuc 0 ≡ pos 0 = e in omega (arith, ints)

pub nat_abs-signed : (p n : ℤ) → nat_abs (signed_by p n) ≡ nat_abs n
nat_abs-signed (pos p) n = refl
nat_abs-signed (negsuc p) n = abs-neg n

pub own_sign : (p : ℤ) → p ≢ pos 0 → pos 0 <ℤ signed_by p p
own_sign (pos p) h = go p h
  where
    go : (p : ℕ) → pos p ≢ pos 0 → pos 0 <ℤ pos p
    go zero h = absurd (h refl)
    go (suc p) h = omega (arith, ints)
own_sign (negsuc p) h = omega (arith, ints)

-- a quotient is no larger
quotient_short : (n : ℤ) (d : ℕ) → IsShort n → IsShort (div_ℤ n d)
quotient_short n d h = let q : nat_abs n / d ≤ nat_abs n = div-le_self (nat_abs n) d in subst (λ k. k < 2 ^ 63) (sym (nat_abs-div_ℤ n d)) (omega arith)

-- ---- the two factors
nonzero_size : (p : ℤ) → p ≢ pos 0 → 0 < nat_abs p
nonzero_size (pos zero) h = absurd (h refl)
nonzero_size (pos (suc p)) h = omega arith
nonzero_size (negsuc p) h = omega arith

module _ (p k : ℤ) (h : p ≢ pos 0) where
  pub common_pos : 0 < gcd (nat_abs p) (nat_abs k)
  common_pos = pos_of_dvd_of_pos (gcd-is (nat_abs p) (nat_abs k)).0 (nonzero_size p h)

  own_times : own_factor p k *ℤ pos (gcd (nat_abs p) (nat_abs k)) ≡ signed_by p p
  own_times = div_ℤ-mul (signed_by p p) (gcd (nat_abs p) (nat_abs k)) (subst (λ n. gcd (nat_abs p) (nat_abs k) ∣ n) (sym (nat_abs-signed p p)) (gcd-is (nat_abs p) (nat_abs k)).0)

  other_times : other_factor p k *ℤ pos (gcd (nat_abs p) (nat_abs k)) ≡ signed_by p k
  other_times = div_ℤ-mul (signed_by p k) (gcd (nat_abs p) (nat_abs k)) (subst (λ n. gcd (nat_abs p) (nat_abs k) ∣ n) (sym (nat_abs-signed p k)) (gcd-is (nat_abs p) (nat_abs k)).1)

  pub factors_cross : other_factor p k *ℤ p ≡ k *ℤ own_factor p k
  factors_cross =
      cancel_pos (other_factor p k *ℤ p) (k *ℤ own_factor p k) (gcd (nat_abs p) (nat_abs k)) common_pos
      (combine integer_ring (other_factor p k ∷ p ∷ k ∷ own_factor p k ∷ pos (gcd (nat_abs p) (nat_abs k)) ∷ sign_of p ∷ [])
      ((var 1 times var 0 :* var 4 is (var 5 :* var 2)) ∷ (:neg (var 2) times var 3 :* var 4 is (var 5 :* var 1)) ∷ [])
      (var 0 :* var 1 :* var 4) (var 2 :* var 3 :* var 4) refl (other_times ∙ signed_is p k, (own_times ∙ signed_is p p, tt)))

  pub own_factor_pos : pos 0 <ℤ own_factor p k
  own_factor_pos = lt_of_times (pos 0) (own_factor p k) (gcd (nat_abs p) (nat_abs k)) (subst₂ (λ x y. x <ℤ y) (ring integer_ring (pos (gcd (nat_abs p) (nat_abs k)) ∷ []) (num 0) (num 0 :* R.A) refl) (sym own_times) (own_sign p h))

-- ---- a row divided by its greatest common divisor
pub reduced : (size : ℕ) (row new : ℕ → ℤ) (g : ℤ) → 0 < size → pos 0 <ℤ g → pos 0 <ℤ row 0 → IsGreatestDivisor row size (nat_abs g) → ((p : ℕ) → p < size → new p *ℤ g ≡ row p) → ((p : ℕ) → p < size → PartFits (new p)) → IsPrimitivePart size row new
reduced size row new (negsuc g) h gp rp d e f = absurd (omega (arith, ints))
reduced size row new (pos g) h gp rp d e f =
    record {
      is_row = record { positive = lead; fits = f; lowest = λ k q. eq-one_of_dvd-one (dvd_of_mul-dvd-mul_right {k = g} k d.positive (subst (λ x. k * g ∣ x) (sym (one-mul g)) (d.greatest (k * g) (λ p hp. subst (λ x. k * g ∣ x) (sym (unsigned_abs-mul (new p) (pos g)) ∙ ap nat_abs (e p hp)) (mul-dvd-mul_right _ (q p hp) g))))) };
      same = λ p hp. sym (ap₂ (λ x y. frac x (nat_abs y)) (sym (e p hp)) (sym (e 0 h)) ∙ ap (frac (new p *ℤ pos g)) (unsigned_abs-mul (new 0) (pos g)) ∙ frac-scale (new p) (nat_abs (new 0)) g (pos_abs (new 0) lead) d.positive);
    }
  where
    lead : pos 0 <ℤ new 0
    lead = lt_of_times (pos 0) (new 0) g (subst₂ (λ x y. x <ℤ y) (ring integer_ring (pos g ∷ []) (num 0) (num 0 :* R.A) refl) (sym (e 0 h)) rp)

pub reduced_already : (size : ℕ) (row : ℕ → ℤ) (g : ℤ) → pos 0 <ℤ row 0 → ((p : ℕ) → p < size → PartFits (row p)) → IsGreatestDivisor row size (nat_abs g) → g ≡ pos 1 → IsPrimitivePart size row row
reduced_already size row g rp f d e = record { is_row = record { positive = rp; fits = f; lowest = λ k q. eq-one_of_dvd-one (subst (λ x. k ∣ nat_abs x) e (d.greatest k q)) }; same = λ p hp. refl }

divided_lead : (z : ℕ → ℤ) (g : ℕ) (n : ℤ) → z 0 *ℤ pos g ≡ n → pos 0 <ℤ n → pos 0 <ℤ z 0
divided_lead z g n e h = lt_of_times (pos 0) (z 0) g (subst₂ (λ x y. x <ℤ y) (ring integer_ring (pos g ∷ []) (num 0) (num 0 :* R.A) refl) (sym e) h)

-- an undivided row
pub by_one : (z n : ℤ) → z ≡ n → z *ℤ pos 1 ≡ n
by_one z n e = ring integer_ring (z ∷ []) (R.A :* num 1) R.A refl ∙ e

-- the entry and the row's number, with the sign of the entry, take the column away too
pub signs_cross : (p k : ℤ) → signed_by p k *ℤ p ≡ k *ℤ signed_by p p
signs_cross p k = ap (λ x. x *ℤ p) (signed_is p k) ∙ ring integer_ring (sign_of p ∷ k ∷ p ∷ []) ((var 0 :* var 1) :* var 2) (var 1 :* (var 0 :* var 2)) refl ∙ ap (λ x. k *ℤ x) (sym (signed_is p p))

-- each of the two factors of the steps is no larger
pub own_short : (p k : ℤ) → IsShort (signed_by p p) → IsShort (own_factor p k)
own_short p k h = quotient_short (signed_by p p) (gcd (nat_abs p) (nat_abs k)) h

pub other_short : (p k : ℤ) → IsShort (signed_by p k) → IsShort (other_factor p k)
other_short p k h = quotient_short (signed_by p k) (gcd (nat_abs p) (nat_abs k)) h

-- ---- the rows after a pivot
-- u and v are any two factors that take the column away, as the two of the steps and these times their common divisor
module _ (row b : ℕ → ℤ) (c : ℕ) (a0 : pos 0 <ℤ row 0) (b0 : pos 0 <ℤ b 0) (h : b c ≢ pos 0) (hc : 0 < c) (u v : ℤ) (u_pos : pos 0 <ℤ u) (takes : v *ℤ b c ≡ row c *ℤ u) where
  abbrev pub combined : ℕ → ℤ
  combined = place_number row b c u v

  cross : whole v *ℚ whole (b c) ≡ whole (row c) *ℚ whole u
  cross = sym (whole-mul v (b c)) ∙ ap whole takes ∙ whole-mul (row c) u

  pub combined_lead : pos 0 <ℤ combined 0
  combined_lead = pos-*ℤ (row 0) u a0 u_pos

  at_place : (p : ℕ) → 0 < p → p ≢ c → combined p ≡ (row p *ℤ u) -ℤ (b p *ℤ v)
  at_place p hp n = rw (eqb_apart p 0 (λ e. omega (arith, e, hp)), eqb_apart p c n) refl

  at_the_column : combined c ≡ neg_ℤ (b 0 *ℤ v)
  at_the_column = rw (eqb_apart c 0 (λ e. omega (arith, e, hc)), eqb_same c) refl

  pub combined_elsewhere : (p : ℕ) → 0 < p → p ≢ c → fraction combined p ≡ fraction row p -ℚ (fraction row c *ℚ (fraction b p *ℚ inv_ℚ (fraction b c)))
  combined_elsewhere p hp n =
      fraction_over combined p combined_lead
      ∙ ap₂ (λ x y. x *ℚ inv_ℚ y) (ap whole (at_place p hp n) ∙ sym (whole-sub (row p *ℤ u) (b p *ℤ v)) ∙ ap₂ (λ x y. x -ℚ y) (whole-mul (row p) u) (whole-mul (b p) v)) (whole-mul (row 0) u)
      ∙ value_elsewhere (whole (row p)) (whole (b p)) (whole (row 0)) (whole (b 0)) (whole (row c)) (whole (b c)) (whole u) (whole v) (whole_ne (row 0) (pos_ne (row 0) a0)) (whole_ne (b 0) (pos_ne (b 0) b0)) (whole_ne (b c) h) (whole_ne u (pos_ne u u_pos)) cross
      ∙ ap₂ (λ x y. x -ℚ y) (sym (fraction_over row p a0)) (ap₂ (λ x y. x *ℚ y) (sym (fraction_over row c a0)) (ap₂ (λ x y. x *ℚ inv_ℚ y) (sym (fraction_over b p b0)) (sym (fraction_over b c b0))))

  pub combined_at_column : fraction combined c ≡ neg_ℚ (fraction row c *ℚ inv_ℚ (fraction b c))
  combined_at_column =
      fraction_over combined c combined_lead
      ∙ ap₂ (λ x y. x *ℚ inv_ℚ y) (ap whole at_the_column ∙ whole-neg (b 0 *ℤ v) ∙ ap neg_ℚ (whole-mul (b 0) v)) (whole-mul (row 0) u)
      ∙ value_at_column (whole (row 0)) (whole (row 0)) (whole (row 0)) (whole (b 0)) (whole (row c)) (whole (b c)) (whole u) (whole v) (whole_ne (row 0) (pos_ne (row 0) a0)) (whole_ne (b 0) (pos_ne (b 0) b0)) (whole_ne (b c) h) (whole_ne u (pos_ne u u_pos)) cross
      ∙ ap neg_ℚ (ap₂ (λ x y. x *ℚ inv_ℚ y) (sym (fraction_over row c a0)) (sym (fraction_over b c b0)))

  -- what was written, divided by a common divisor of it, and then reduced
  pub pivoted_row : (size g : ℕ) (z x : ℕ → ℤ) → c < size → 0 < g → ((p : ℕ) → p < size → z p *ℤ pos g ≡ combined p) → IsPrimitivePart size z x → IsPivotedRow size row b c x
  pivoted_row size g z x hs hg e r =
      record {
        is_row = r.is_row;
        at_column = r.same c hs ∙ same c hs ∙ combined_at_column;
        elsewhere = λ p hp ps n. r.same p ps ∙ same p ps ∙ combined_elsewhere p hp n;
      }
    where
      lead : pos 0 <ℤ z 0
      lead = divided_lead z g (combined 0) (e 0 (omega arith)) combined_lead

      same : (p : ℕ) → p < size → fraction z p ≡ fraction combined p
      same p ps = sym (ap₂ (λ x y. frac x (nat_abs y)) (sym (e p ps)) (sym (e 0 (omega arith))) ∙ ap (frac (z p *ℤ pos g)) (unsigned_abs-mul (z 0) (pos g)) ∙ frac-scale (z p) (nat_abs (z 0)) g (pos_abs (z 0) lead) hg)

  pub lead_is : (size g : ℕ) (z : ℕ → ℤ) → c < size → ((p : ℕ) → p < size → z p *ℤ pos g ≡ combined p) → pos 0 <ℤ z 0
  lead_is size g z hs e = divided_lead z g (combined 0) (e 0 (omega arith)) combined_lead

-- a row whose number in the column is 0
module _ (row b : ℕ → ℤ) (c : ℕ) (a0 : pos 0 <ℤ row 0) where
  pub kept_row : (size : ℕ) (x : ℕ → ℤ) → c < size → row c ≡ pos 0 → IsRow size row → ((p : ℕ) → p < size → x p ≡ row p) → IsPivotedRow size row b c x
  kept_row size x hs z r e =
      record {
        is_row = record { positive = subst (λ n. pos 0 <ℤ n) (sym (e 0 (omega arith))) r.positive; fits = λ p hp. subst PartFits (sym (e p hp)) (r.fits p hp); lowest = λ d q. r.lowest d (λ p hp. subst (λ n. d ∣ nat_abs n) (e p hp) (q p hp)) };
        at_column = same c hs ∙ none ∙ ring rational_ring (inv_ℚ (fraction b c) ∷ []) (num 0) (:neg (num 0 :* R.A)) refl ∙ ap (λ q. neg_ℚ (q *ℚ inv_ℚ (fraction b c))) (sym none);
        elsewhere = λ p hp ps n. same p ps ∙ ring rational_ring (fraction row p ∷ (fraction b p *ℚ inv_ℚ (fraction b c)) ∷ []) R.A (R.A :- num 0 :* R.B) refl ∙ ap (λ q. fraction row p -ℚ (q *ℚ (fraction b p *ℚ inv_ℚ (fraction b c)))) (sym none);
      }
    where
      same : (p : ℕ) → p < size → fraction x p ≡ fraction row p
      same p ps = ap₂ (λ x y. frac x (nat_abs y)) (e p ps) (e 0 (omega arith))

      none : fraction row c ≡ zero_ℚ
      none = fraction_over row c a0 ∙ ap (λ n. whole n *ℚ inv_ℚ (whole (row 0))) z ∙ ring rational_ring (inv_ℚ (whole (row 0)) ∷ []) (num 0 :* R.A) (num 0) refl

-- ---- the pivot's row
module _ (b : ℕ → ℤ) (c : ℕ) (b0 : pos 0 <ℤ b 0) (h : b c ≢ pos 0) (hc : 0 < c) where
  signed_value : (n : ℤ) → whole (signed_by (b c) n) ≡ whole (sign_of (b c)) *ℚ whole n
  signed_value n = ap whole (signed_is (b c) n) ∙ whole-mul (sign_of (b c)) n

  turned_lead : pos 0 <ℤ turned b c 0
  turned_lead = own_sign (b c) h

  turned_value : (p : ℕ) → fraction (turned b c) p ≡ whole (b (exchanged c p)) *ℚ inv_ℚ (whole (b c))
  turned_value p =
      fraction_over (turned b c) p turned_lead
      ∙ ap₂ (λ x y. x *ℚ inv_ℚ y) (signed_value (b (exchanged c p))) (signed_value (b c))
      ∙ ap (λ q. (whole (sign_of (b c)) *ℚ whole (b (exchanged c p))) *ℚ q) (inv_ℚ-mul (whole (sign_of (b c))) (whole (b c)) (whole_ne (sign_of (b c)) (sign_ne (b c))) (whole_ne (b c) h))
      ∙ combine rational_ring (whole (sign_of (b c)) ∷ inv_ℚ (whole (sign_of (b c))) ∷ whole (b (exchanged c p)) ∷ inv_ℚ (whole (b c)) ∷ []) ((var 2 :* var 3 times var 0 :* var 1 is num 1) ∷ []) ((var 0 :* var 2) :* (var 1 :* var 3)) (var 2 :* var 3) refl (*ℚ-inv (whole (sign_of (b c))) (whole_ne (sign_of (b c)) (sign_ne (b c))), tt)

  entry_inverse : inv_ℚ (fraction b c) ≡ inv_ℚ (whole (b c)) *ℚ whole (b 0)
  entry_inverse = ap inv_ℚ (fraction_over b c b0) ∙ over_entry (whole (b c)) (whole (b 0)) (whole_ne (b c) h) (whole_ne (b 0) (pos_ne (b 0) b0))

  exchanged_column : exchanged c c ≡ 0
  exchanged_column = rw (eqb_apart c 0 (λ e. omega (arith, e, hc)), eqb_same c) refl

  exchanged_other : (p : ℕ) → p ≢ 0 → p ≢ c → exchanged c p ≡ p
  exchanged_other p n m = rw (eqb_apart p 0 n, eqb_apart p c m) refl

  -- what is at a place comes from a place of the row
  comes : (P : ℕ → Type 0) (size p : ℕ) → c < size → p < size → ((q : ℕ) → q < size → P (exchanged c q)) → P p
  comes P size p hs hp f = elim (cases_eq p 0) [
    | inl e ↦ subst P (sym e) (subst P exchanged_column (f c hs))
    | inr n ↦ elim (cases_eq p c) [
      | inl e ↦ subst P (sym e) (f 0 (omega arith))
      | inr m ↦ subst P (exchanged_other p n m) (f p hp)
    ]
  ]

  within : (size p : ℕ) → c < size → p < size → exchanged c p < size
  within size p hs hp = elim (cases_eq p 0) [
    | inl e ↦ subst (λ q. exchanged c q < size) (sym e) hs
    | inr n ↦ elim (cases_eq p c) [
      | inl e ↦ subst (λ q. exchanged c q < size) (sym e) (subst (λ q. q < size) (sym exchanged_column) (omega arith))
      | inr m ↦ subst (λ q. q < size) (sym (exchanged_other p n m)) hp
    ]
  ]

  pub turned_row : (size : ℕ) (x : ℕ → ℤ) → c < size → IsRow size b → ((p : ℕ) → p < size → x p ≡ turned b c p) → IsPivotRow size b c x
  turned_row size x hs r e =
      record {
        is_row = record {
          positive = subst (λ n. pos 0 <ℤ n) (sym (e 0 (omega arith))) turned_lead;
          fits = λ p hp. subst (λ n. n < 2 ^ 127) (sym (ap nat_abs (e p hp) ∙ nat_abs-signed (b c) (b (exchanged c p)))) (r.fits (exchanged c p) (within size p hs hp));
          lowest = λ d q. r.lowest d (λ p hp. comes (λ p. d ∣ nat_abs (b p)) size p hs hp (λ p ps. subst (λ n. d ∣ n) (ap nat_abs (e p ps) ∙ nat_abs-signed (b c) (b (exchanged c p))) (q p ps)));
        };
        at_column = same c hs ∙ turned_value c ∙ ap (λ n. whole (b n) *ℚ inv_ℚ (whole (b c))) exchanged_column ∙ ring rational_ring (whole (b 0) ∷ inv_ℚ (whole (b c)) ∷ []) (R.A :* R.B) (R.B :* R.A) refl ∙ sym entry_inverse;
        elsewhere = λ p hp ps n. same p ps ∙ turned_value p ∙ ap (λ n. whole (b n) *ℚ inv_ℚ (whole (b c))) (exchanged_other p (λ z. omega (arith, z, hp)) n) ∙ times_own p ∙ ap₂ (λ x y. x *ℚ y) (sym (fraction_over b p b0)) (sym entry_inverse);
      }
    where
      same : (p : ℕ) → p < size → fraction x p ≡ fraction (turned b c) p
      same p ps = ap₂ (λ x y. frac x (nat_abs y)) (e p ps) (e 0 (omega arith))

      times_own : (p : ℕ) → whole (b p) *ℚ inv_ℚ (whole (b c)) ≡ (whole (b p) *ℚ inv_ℚ (whole (b 0))) *ℚ (inv_ℚ (whole (b c)) *ℚ whole (b 0))
      times_own p =
          sym (combine rational_ring (whole (b p) ∷ inv_ℚ (whole (b 0)) ∷ whole (b 0) ∷ inv_ℚ (whole (b c)) ∷ []) ((var 0 :* var 3 times var 2 :* var 1 is num 1) ∷ []) ((var 0 :* var 1) :* (var 3 :* var 2)) (var 0 :* var 3) refl (*ℚ-inv (whole (b 0)) (whole_ne (b 0) (pos_ne (b 0) b0)), tt))

-- ---- what the code reads
pub stored : (n : ℕ) → n < 2 ^ 127 → to_z w128 n ≡ pos n
stored n h = read_back (pos n) h

pub is_zero : (n : ℤ) → PartFits n → of_z w128 n ≡ 0 → n ≡ pos 0
is_zero n h e = sym (read_back n h) ∙ ap (to_z w128) e

pub is_one : (n : ℤ) → PartFits n → of_z w128 n ≡ 1 → n ≡ pos 1
is_one n h e = sym (read_back n h) ∙ ap (to_z w128) e

pub not_zero : (n : ℤ) → (of_z w128 n ≡ 0 → ⊥) → n ≢ pos 0
not_zero n h e = h (ap (of_z w128) e)

pub divisor_small : (d n : ℕ) → 0 < n → d ∣ n → n < 2 ^ 127 → d < 2 ^ 127
divisor_small d n h q l = let k : d ≤ n = le_of_dvd h q in omega arith

pub common_small : (p k : ℤ) → p ≢ pos 0 → PartFits p → gcd (nat_abs p) (nat_abs k) < 2 ^ 127
common_small p k h f = divisor_small (gcd (nat_abs p) (nat_abs k)) (nat_abs p) (nonzero_size p h) (gcd-is (nat_abs p) (nat_abs k)).0 f

pub stored_pos : (n : ℕ) → 0 < n → n < 2 ^ 127 → pos 0 <ℤ to_z w128 n
stored_pos n h l = subst (λ z. pos 0 <ℤ z) (sym (stored n l)) (positive_pos n h)
  where
    positive_pos : (n : ℕ) → 0 < n → pos 0 <ℤ pos n
    positive_pos n h = omega (arith, ints)

pub row_size : (row : ℕ → ℤ) → pos 0 <ℤ row 0 → 0 < nat_abs (row 0)
row_size row h = pos_abs (row 0) h

-- the steps of a row with a number in the column
pub steps_are : (size : ℕ) (row b : ℕ → ℤ) (c : ℕ) → row c ≢ pos 0 → row_steps size row b c ≡ steps_to row b c (own_factor (b c) (row c)) (other_factor (b c) (row c)) size
steps_are size row b c h = rw (eqb_apart (nat_abs (row c)) 0 (λ e. size_ne (row c) h e)) refl
  where
    size_ne : (n : ℤ) → n ≢ pos 0 → nat_abs n ≡ 0 → ⊥
    size_ne n h e = let k : 0 < nat_abs n = nonzero_size n h in omega arith

-- an exact quotient is the rounded one
pub quotient_unique : (q n d : ℤ) → pos 0 <ℤ d → q *ℤ d ≡ n → q ≡ div_ℤ n (nat_abs d)
quotient_unique q n (negsuc d) h e = absurd (omega (arith, ints))
quotient_unique q n (pos d) h e = cancel_pos q (div_ℤ n d) d (omega (arith, ints)) (e ∙ sym (div_ℤ-mul n d (subst (λ z. d ∣ nat_abs z) e (subst (λ k. d ∣ k) (sym (unsigned_abs-mul q (pos d))) (dvd-mul_left d (nat_abs q))))))
