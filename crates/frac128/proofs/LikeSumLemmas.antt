-- sums with zero, and sums over one denominator
use Rattle.std.proofs.Common.{ℕ, ◌≡◌, ◌*◌, ◌/◌, ◌<◌, ◌^◌, ℤ, pos, nat_abs, ◌+ℤ◌, ◌*ℤ◌, int_lt, arith, refl, sym, ap, ap₂, ◌∙◌, subst, lit<, [], ◌∷◌}
use Rattle.std.proofs.Math.IntN.{zero-*ℤ}
use lib.IntN.{+ℤ_comm}
use native.Mathlib.Nat.{div_self}
use Rattle.rational.specs.Gcd.{gcd}
use Rattle.rational.specs.Rational.{ℚ, ◌+ℚ◌, zero_ℚ, frac}
use Rattle.rational.proofs.DenominatorLemmas.{den_pos}
use Rattle.rational.proofs.IntegerRing.{integer_ring, *ℤ_one}
use Rattle.rational.proofs.RationalRing.{+ℚ_comm, +ℚ-zero}
use Rattle.rational.proofs.Ring.{ring, ◌:+◌, num, A}
use Rattle.rational.proofs.PartLemmas.{gcd-one}
use Rattle.rational.proofs.Rules.{zero-+ℚ}
use Rattle.frac128.specs.Fraction.{Fits, PartFits, with_sign}
use Rattle.frac128.specs.Steps.{AddFits, num_beside}
use Rattle.frac128.proofs.PartLemmas.{kept, kept-part, zero-num, zero-den}
use Rattle.frac128.proofs.QuotientLemmas.{gcd_same}
use Rattle.frac128.proofs.SumSizeLemmas.{Summands, Tops, signed_size}

-- zero plus a number
zero-plus : (n : ℤ) → pos 0 +ℤ n ≡ n
zero-plus n = ring integer_ring (n ∷ []) (num 0 :+ A) A refl

-- zero over a least common denominator
beside_zero : (b : ℚ) → num_beside zero_ℚ b ≡ pos 0
beside_zero b = ap (λ n. n *ℤ pos (b.den / gcd zero_ℚ.den b.den)) zero-num ∙ zero-*ℤ (pos (b.den / gcd zero_ℚ.den b.den))

-- a numerator beside zero stays as it is
zero_beside : (b : ℚ) → num_beside b zero_ℚ ≡ b.num
zero_beside b =
    ap (λ d. b.num *ℤ pos (d / gcd b.den d)) zero-den ∙ ap (λ g. b.num *ℤ pos (1 / g)) (gcd-one b.den) ∙ *ℤ_one b.num

-- a sum with zero fits
zero_sum_fits : (b : ℚ) → Fits b → AddFits zero_ℚ b
zero_sum_fits b f =
    record {
      left = subst PartFits (sym (beside_zero b)) (lit< tt);
      right = subst PartFits (sym (zero_beside b)) f.num;
      top = subst PartFits (sym (ap₂ ◌+ℤ◌ (beside_zero b) (zero_beside b) ∙ zero-plus b.num)) f.num;
      den = subst (λ (q : ℚ). q.den < 2 ^ 127) (sym (zero-+ℚ b)) f.den;
    }

-- a sum fits either way round
AddFits_comm : (a b : ℚ) → AddFits a b → AddFits b a
AddFits_comm a b k =
    record {
      left = k.right;
      right = k.left;
      top = subst PartFits (+ℤ_comm (num_beside a b) (num_beside b a)) k.top;
      den = subst (λ (q : ℚ). q.den < 2 ^ 127) (+ℚ_comm a b) k.den;
    }

-- the answer where the first number is zero
pub left_zero : (a b : ℚ) → a ≡ zero_ℚ → Fits b → (b ≡ a +ℚ b) × AddFits a b
left_zero a b e f =
    subst (λ x. (b ≡ x +ℚ b) × AddFits x b) (sym e) (sym (zero-+ℚ b), zero_sum_fits b f)

-- the answer where the second number is zero
pub right_zero : (a b : ℚ) → b ≡ zero_ℚ → Fits a → (a ≡ a +ℚ b) × AddFits a b
right_zero a b e f =
    subst (λ x. (a ≡ a +ℚ x) × AddFits a x) (sym e) (sym (+ℚ-zero a), AddFits_comm zero_ℚ a (zero_sum_fits a f))

-- numerators over one denominator are summed as they are
pub like_summands : (a b : ℚ) (d : ℕ) → d ≡ a.den → a.den ≡ b.den → Summands a b d d d 1 1
like_summands a b d e same =
    let one : 1 ≡ d / d = sym (div_self (subst (λ x. 0 < x) (sym e) (den_pos a))) in
    record { den_is = e; other_den_is = e ∙ same; common_is = sym (gcd_same d); own_is = one; others_is = one }

-- the sum of numerators over one denominator, as the code has it
pub like_tops : (a b : ℚ) (n m t : ℤ) → n ≡ a.num → Fits a → m ≡ b.num → Fits b → t ≡ kept n +ℤ kept m → PartFits t → Tops a b 1 1 n m n m t
like_tops a b n m t en fa em fb is fits =
    record {
      num_is = en;
      num_fits = fa;
      other_num_is = em;
      other_num_fits = fb;
      left_is = kept_as n a.num en fa.num;
      left_fits = subst PartFits (sym en) fa.num;
      right_is = kept_as m b.num em fb.num;
      right_fits = subst PartFits (sym em) fb.num;
      top_is = is;
      top_fits = fits;
    }
  where
    kept_as : (x y : ℤ) → x ≡ y → PartFits y → x ≡ kept x *ℤ pos 1
    kept_as x y e f = e ∙ sym (kept-part x y e f) ∙ sym (*ℤ_one (kept x))

-- a sum of numerators that does not fit refuses the step
pub like_refused : (a b : ℚ) (n m : ℤ) → a.den ≡ b.den → n ≡ a.num → Fits a → m ≡ b.num → Fits b → ¬ (PartFits (kept n +ℤ kept m)) → ¬ (AddFits a b)
like_refused a b n m same en fa em fb wide k =
    wide (subst PartFits (ap₂ ◌+ℤ◌ (beside b a (sym same) fa ∙ sym (kept-part n a.num en fa.num)) (beside a b same fb ∙ sym (kept-part m b.num em fb.num))) k.top)
  where
    beside : (x y : ℚ) → x.den ≡ y.den → Fits y → num_beside y x ≡ y.num
    beside x y e f =
        ap (λ d. y.num *ℤ pos (d / gcd y.den d)) e ∙ ap (λ g. y.num *ℤ pos (y.den / g)) (gcd_same y.den) ∙ ap (λ d. y.num *ℤ pos d) (div_self (den_pos y)) ∙ *ℤ_one y.num

-- the sum of numerators over their denominator, by its sign and its size
pub like_value : (t : ℤ) (size d : ℕ) → size ≡ nat_abs (kept t) → frac (with_sign (int_lt (kept t) (pos 0)) size) d ≡ frac (kept t) (1 * (1 * d))
like_value t size d is = ap₂ frac (ap (with_sign (int_lt (kept t) (pos 0))) is ∙ signed_size (kept t)) (omega arith)
