-- sums of multiples of rows
use Rattle.std.proofs.Common.{ℕ, suc, zero, ◌<◌, ◌≤◌, ◌≡◌, refl, sym, ap, ap₂, ◌∙◌, [], ◌∷◌, arith}
use Rattle.rational.specs.Rational.{ℚ, ◌+ℚ◌, ◌*ℚ◌, zero_ℚ}
use Rattle.rational.specs.Sum.{sum_to}
use Rattle.linear_systems.specs.Tableau.{Tableau}
use Rattle.rational.proofs.RationalRing.{rational_ring}
use Rattle.rational.proofs.Ring.{ring, num, ◌:+◌, ◌:*◌, A, B, C, D}
use Rattle.rational.proofs.SumLemmas.{sum_to-same, sum_to-add, sum_to-scale, sum_to-zeros, sum_to-only}
use Rattle.rational.proofs.Rules.{times_zero}
use Rattle.linear_systems.specs.Rows.{unit_at, row, HasDistinctVariables}
use Rattle.linear_systems.specs.RowEquivalence.{IsCombination}
use Rattle.linear_systems.proofs.RowLemmas.{unit_self, unit_other, coefficient_own, coefficient_basic, coefficient_row}

pub spanned_same : (n : ℕ) (t : Tableau) (f g : (ℕ → ℚ) → ℚ → ℚ) → ((x : ℕ → ℚ) (y : ℚ) → f x y ≡ g x y) → IsCombination n t f → IsCombination n t g
spanned_same n t f g e p = record { by = p.by; same = λ x y. sym (e x y) ∙ p.same x y }

pub spanned_none : (n : ℕ) (t : Tableau) → IsCombination n t (λ x y. zero_ℚ)
spanned_none n t =
    record { by = λ q. zero_ℚ; same = λ x y. sym (sum_to-zeros n _ (λ q h. ring rational_ring (row t x y q ∷ []) (num 0 :* A) (num 0) refl)) }

pub spanned_row : (n : ℕ) (t : Tableau) (k : ℕ) → k < n → IsCombination n t (λ x y. row t x y k)
spanned_row n t k h =
    record {
      by = unit_at k;
      same = λ x y. sym (sum_to-only n k (λ q. unit_at k q *ℚ row t x y q) h (λ q p ne. ap (λ u. u *ℚ row t x y q) (unit_other k q ne) ∙ ring rational_ring (row t x y q ∷ []) (num 0 :* A) (num 0) refl) ∙ ap (λ u. u *ℚ row t x y k) (unit_self k) ∙ ring rational_ring (row t x y k ∷ []) (num 1 :* A) A refl);
    }

-- f and a multiple of g
pub spanned_mix : (n : ℕ) (t : Tableau) (f g : (ℕ → ℚ) → ℚ → ℚ) (a : ℚ) → IsCombination n t f → IsCombination n t g → IsCombination n t (λ x y. f x y +ℚ (a *ℚ g x y))
spanned_mix n t f g a p q =
    record {
      by = λ i. p.by i +ℚ (a *ℚ q.by i);
      same = λ x y. ap₂ (λ u v. u +ℚ (a *ℚ v)) (p.same x y) (q.same x y) ∙ sym (sum_to-same n _ (λ i. (p.by i *ℚ row t x y i) +ℚ (a *ℚ (q.by i *ℚ row t x y i))) (λ i h. ring rational_ring (p.by i ∷ a ∷ q.by i ∷ row t x y i ∷ []) ((A :+ B :* C) :* D) (A :* D :+ B :* (C :* D)) refl) ∙ sum_to-add n (λ i. p.by i *ℚ row t x y i) (λ i. a *ℚ (q.by i *ℚ row t x y i)) ∙ ap (λ u. sum_to n (λ i. p.by i *ℚ row t x y i) +ℚ u) (sum_to-scale n a (λ i. q.by i *ℚ row t x y i)));
    }

pub spanned_scale : (n : ℕ) (t : Tableau) (g : (ℕ → ℚ) → ℚ → ℚ) (a : ℚ) → IsCombination n t g → IsCombination n t (λ x y. a *ℚ g x y)
spanned_scale n t g a q =
    spanned_same n t (λ x y. zero_ℚ +ℚ (a *ℚ g x y)) _ (λ x y. ring rational_ring (a ∷ g x y ∷ []) (num 0 :+ A :* B) (A :* B) refl) (spanned_mix n t _ g a (spanned_none n t) q)

spanned_sum : (n : ℕ) (s : Tableau) (k : ℕ) (e : ℕ → ℚ) (g : ℕ → (ℕ → ℚ) → ℚ → ℚ) → ((q : ℕ) → q < k → IsCombination n s (g q)) → IsCombination n s (λ x y. sum_to k (λ q. e q *ℚ g q x y))
spanned_sum n s zero e g h = spanned_none n s
spanned_sum n s (suc k) e g h = spanned_mix n s _ (g k) (e k) (spanned_sum n s k e g (λ q p. h q (omega arith))) (h k (omega arith))

-- what t's rows span, and s's rows span those
pub spanned_trans : (n : ℕ) (s t : Tableau) (f : (ℕ → ℚ) → ℚ → ℚ) → ((k : ℕ) → k < n → IsCombination n s (λ x y. row t x y k)) → IsCombination n t f → IsCombination n s f
spanned_trans n s t f h p = spanned_same n s _ f (λ x y. sym (p.same x y)) (spanned_sum n s n p.by (λ q x y. row t x y q) h)

-- the multipliers are the values at the rows' own basic variables
pub spanned_by : (n : ℕ) (t : Tableau) (f : (ℕ → ℚ) → ℚ → ℚ) → HasDistinctVariables t → n ≤ t.rows → (p : IsCombination n t f) → (q : ℕ) → q < n → p.by q ≡ f (unit_at (t.basic q)) zero_ℚ
spanned_by n t f pr hn p q h =
    sym (p.same (unit_at (t.basic q)) zero_ℚ ∙ sum_to-only n q _ h (λ i hi ne. times_zero (p.by i) _ (coefficient_row t i (t.basic q) ∙ coefficient_basic t i q pr (omega arith) (omega arith) ne)) ∙ ap (λ u. p.by q *ℚ u) (coefficient_row t q (t.basic q) ∙ coefficient_own t q pr (omega arith)) ∙ ring rational_ring (p.by q ∷ []) (A :* num 1) A refl)

pub spanned_is : (n : ℕ) (t : Tableau) (f : (ℕ → ℚ) → ℚ → ℚ) → HasDistinctVariables t → n ≤ t.rows → IsCombination n t f → (x : ℕ → ℚ) (y : ℚ) → f x y ≡ sum_to n (λ q. f (unit_at (t.basic q)) zero_ℚ *ℚ row t x y q)
spanned_is n t f pr hn p x y = p.same x y ∙ sum_to-same n _ _ (λ q h. ap (λ u. u *ℚ row t x y q) (spanned_by n t f pr hn p q h))
