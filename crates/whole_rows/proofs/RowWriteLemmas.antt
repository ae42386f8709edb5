-- Rows that are written place by place, their common divisor, and the steps of a row.
use Rattle.std.proofs.Common.{ℕ, ℤ, pos, negsuc, zero, suc, ◌≡◌, ◌<◌, ◌≤◌, ◌*ℤ◌, ◌+◌, ◌<ℤ◌, nat_abs, sym, ap, ◌∙◌, subst, List, ◌++◌, arith, ◌⊎◌, inl, inr, length, get_or, slice_set, SFits, to_z, of_z, subst₂, All}
use Rattle.std.specs.Int.{◌∣◌, w128}
use Rattle.std.proofs.lemmas.Int.{ints, to_z-of_z}
use Rattle.std.proofs.lemmas.Bool.{cases_eq}
use Rattle.std.proofs.lemmas.List.{get_or-set_same, get_or-set_other}
use Rattle.std.proofs.lemmas.List.Elements.{All-append}
use Rattle.std.proofs.lemmas.Nat.Gcd.{dvd_trans}
use native.Mathlib.Nat.{dvd_refl, one-dvd, pos_of_dvd_of_pos}
use Rattle.lists.proofs.ElementLemmas.{made-next}
use Rattle.rational.specs.Gcd.{gcd}
use Rattle.rational.specs.GcdLaws.{gcd-is}
use Rattle.frac128.specs.declared.steps.Unfit.{Unfit}
use Rattle.frac128.specs.Fraction.{PartFits}
use Rattle.whole_rows.proofs.FittingStepLemmas.{read_back}
use Rattle.whole_rows.specs.Rows.{from_place, IsGreatestDivisor}
use Rattle.frac128.specs.Steps.{StepFits, IsFirstUnfit}
use Rattle.frac128.proofs.StepRunLemmas.{first_unfit-more, first_unfit-following}
use Rattle.whole_rows.specs.Pivots.{steps_to, place_steps}

-- ---- a place more is written
pub kept_outside : (xs ys : List ℤ) (own place : ℕ) (x : ℤ) → ((k : ℕ) → (k < own) ⊎ (own + place ≤ k) → get_or xs k (pos 0) ≡ get_or ys k (pos 0)) → (k : ℕ) → (k < own) ⊎ (own + (place + 1) ≤ k) → get_or (slice_set xs (own + place) x) k (pos 0) ≡ get_or ys k (pos 0)
kept_outside xs ys own place x h k (inl l) = get_or-set_other xs (own + place) k x (pos 0) (omega arith) ∙ h k (inl l)
kept_outside xs ys own place x h k (inr l) = get_or-set_other xs (own + place) k x (pos 0) (omega arith) ∙ h k (inr (omega arith))

pub written_next : (P : ℕ → ℤ → Type 0) (xs : List ℤ) (own place : ℕ) (x : ℤ) → own + place < length xs → P place x → ((p : ℕ) → p < place → P p (from_place xs own p)) → (p : ℕ) → p < place + 1 → P p (from_place (slice_set xs (own + place) x) own p)
written_next P xs own place x l h rest p hp = elim (cases_eq p place) [
  | inl e ↦ subst (λ p. P p (from_place (slice_set xs (own + place) x) own p)) (sym e) (subst (P place) (sym (get_or-set_same xs (own + place) x (pos 0) l)) h)
  | inr n ↦ subst (P p) (sym (get_or-set_other xs (own + place) (own + p) x (pos 0) (omega arith))) (rest p (omega arith))
]

-- ---- the common divisor
pub common_first : (f : ℕ → ℤ) (g : ℕ) → pos 0 <ℤ f 0 → g ≡ nat_abs (f 0) → IsGreatestDivisor f 1 g
common_first f g h e =
    record {
      positive = subst (λ n. 0 < n) (sym e) (size (f 0) h);
      divides = λ p hp. subst (λ k. k ∣ nat_abs (f p)) (sym e) (subst (λ k. nat_abs (f 0) ∣ nat_abs (f k)) (none p hp) (dvd_refl _));
      greatest = λ d k. subst (λ n. d ∣ n) (sym e) (k 0 (omega arith));
    }
  where
    size : (n : ℤ) → pos 0 <ℤ n → 0 < nat_abs n
    size (pos n) h = omega (arith, ints)
    size (negsuc n) h = absurd (omega (arith, ints))

    none : (p : ℕ) → p < 1 → 0 ≡ p
    none p h = omega arith

pub common_next : (f : ℕ → ℤ) (place g h : ℕ) → IsGreatestDivisor f place g → h ≡ gcd g (nat_abs (f place)) → IsGreatestDivisor f (place + 1) h
common_next f place g h k e =
    record {
      positive = subst (λ n. 0 < n) (sym e) (pos_of_dvd g (gcd g (nat_abs (f place))) k.positive (gcd-is g (nat_abs (f place))).0);
      divides = λ p hp. subst (λ n. n ∣ nat_abs (f p)) (sym e) (elim (cases_eq p place) [ inl q ↦ subst (λ p. gcd g (nat_abs (f place)) ∣ nat_abs (f p)) (sym q) (gcd-is g (nat_abs (f place))).1 | inr n ↦ trans_dvd (gcd g (nat_abs (f place))) g (nat_abs (f p)) (gcd-is g (nat_abs (f place))).0 (k.divides p (omega arith)) ]);
      greatest = λ d q. subst (λ n. d ∣ n) (sym e) ((gcd-is g (nat_abs (f place))).2 d (k.greatest d (λ p hp. q p (omega arith))) (q place (omega arith)));
    }
  where
    trans_dvd : (a b c : ℕ) → a ∣ b → b ∣ c → a ∣ c
    trans_dvd a b c p q = dvd_trans a p q

    pos_of_dvd : (n d : ℕ) → 0 < n → d ∣ n → 0 < d
    pos_of_dvd n d h q = pos_of_dvd_of_pos q h

pub common_one : (f : ℕ → ℤ) (place size g : ℕ) → place ≤ size → IsGreatestDivisor f place g → g ≡ 1 → IsGreatestDivisor f size 1
common_one f place size g l k e = record { positive = omega arith; divides = λ p hp. one-dvd _; greatest = λ d q. subst (λ n. d ∣ n) e (k.greatest d (λ p hp. q p (omega arith))) }

-- ---- the steps of a row
pub steps_to-next : (row b : ℕ → ℤ) (c : ℕ) (u v : ℤ) (place : ℕ) → steps_to row b c u v (suc place) ≡ steps_to row b c u v place ++ place_steps row b c u v place
steps_to-next row b c u v place = made-next (place_steps row b c u v) place

-- the first unfit step at a place is that of all the places
pub unfit_in_row : (row b : ℕ → ℤ) (c : ℕ) (u v : ℤ) (place size : ℕ) (e : Unfit) → place < size → All StepFits (steps_to row b c u v place) → IsFirstUnfit (place_steps row b c u v place) e → IsFirstUnfit (steps_to row b c u v size) e
unfit_in_row row b c u v place zero e l f h = absurd (omega arith)
unfit_in_row row b c u v place (suc size) e l f h = subst (λ s. IsFirstUnfit s e) (sym (steps_to-next row b c u v size)) (elim (cases_eq place size) [
  | inl k ↦ subst (λ n. IsFirstUnfit (steps_to row b c u v n ++ place_steps row b c u v n) e) k (first_unfit-following (steps_to row b c u v place) (place_steps row b c u v place) e f h)
  | inr n ↦ first_unfit-more (steps_to row b c u v size) (place_steps row b c u v size) e (unfit_in_row row b c u v place size e (omega arith) f h)
])

-- ---- a place more is divided
pub still_divides : (by x y : ℤ) → SFits w128 by → x ≡ y → PartFits y → nat_abs by ∣ nat_abs y → nat_abs (to_z w128 (of_z w128 by)) ∣ nat_abs (to_z w128 (of_z w128 x))
still_divides by x y f e h d = subst₂ (λ a b. nat_abs a ∣ nat_abs b) (sym (to_z-of_z w128 by f)) (sym (ap (λ z. to_z w128 (of_z w128 z)) e ∙ read_back y h)) d

pub divided_there : (by q x y : ℤ) → PartFits q → x ≡ y → PartFits y → q *ℤ by ≡ to_z w128 (of_z w128 x) → (to_z w128 (of_z w128 q) *ℤ by ≡ y) × PartFits (to_z w128 (of_z w128 q))
divided_there by q x y f e h is = (ap (λ z. z *ℤ by) (read_back q f) ∙ is ∙ ap (λ z. to_z w128 (of_z w128 z)) e ∙ read_back y h, subst PartFits (sym (read_back q f)) f)

pub plus_one : (n : ℕ) → suc n ≡ n + 1
plus_one n = omega arith

-- a place more fits
pub steps_next : (row b : ℕ → ℤ) (c : ℕ) (u v : ℤ) (place : ℕ) → All StepFits (steps_to row b c u v place) → All StepFits (place_steps row b c u v place) → All StepFits (steps_to row b c u v (place + 1))
steps_next row b c u v place f g = subst (λ n. All StepFits (steps_to row b c u v n)) (plus_one place) (subst (All StepFits) (sym (steps_to-next row b c u v place)) (All-append StepFits (steps_to row b c u v place) (place_steps row b c u v place) f g))

pub written_there : (n x : ℤ) → n ≡ x → PartFits n → (to_z w128 (of_z w128 n) ≡ x) × PartFits (to_z w128 (of_z w128 n))
written_there n x e f = (read_back n f ∙ e, subst PartFits (sym (read_back n f)) f)
