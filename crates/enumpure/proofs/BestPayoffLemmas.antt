-- The best of numbers that stand a stride apart, and the best replies that are struck for it, one number more.
use Rattle.std.proofs.Common.{ℕ, suc, ◌+◌, ◌*◌, ◌<◌, ◌≤◌, ◌≡◌, ◌≢◌, ◌⊎◌, ◌↔◌, inl, inr, Bool, false, IsTrue, List, length, set, refl, sym, ap, ◌∙◌, subst, arith}
use Rattle.std.proofs.lemmas.Bool.{cases_eq}
use Rattle.std.proofs.lemmas.List.{get_or-set_same, get_or-set_other}
use Rattle.std.proofs.Math.Nat.{mul-le-mul_left}
use Rattle.rational.specs.Rational.{ℚ, ◌≤ℚ◌, ◌<ℚ◌}
use Rattle.rational.proofs.Field.{le_refl, le_trans, le_of_lt, le_of_not_lt, not_le_of_lt}
use Rattle.enumpure.specs.Replies.{plays_best, IsGreatestInLine, KeepsBestInLine}

-- what holds below n and at n holds below n + 1
below_next : (P : ℕ → Type 0) (n : ℕ) → ((s : ℕ) → s < n → P s) → P n → (s : ℕ) → s < n + 1 → P s
below_next P n h p s l = go (cases_eq s n)
  where
    go : (s ≡ n) ⊎ (s ≢ n) → P s
    go (inl e) = subst P (sym e) p
    go (inr e) = h s (omega arith)

-- the best of the first number alone
pub IsGreatestInLine-one : (p : ℕ → ℚ) (first stride : ℕ) → IsGreatestInLine p first stride 1 (p first)
IsGreatestInLine-one p first stride =
    let e : first + stride * 0 ≡ first = omega arith in
    record { upper = λ s l. at_zero s (omega arith) e; attained = (0, omega arith, ap p (sym e)) }
  where
    at_zero : (s : ℕ) → s ≡ 0 → first + stride * 0 ≡ first → p (first + stride * s) ≤ℚ p first
    at_zero s z e = subst (λ v. p v ≤ℚ p first) (sym (ap (λ x. first + stride * x) z ∙ e)) (le_refl (p first))

-- a greater number is the best of one number more
pub IsGreatestInLine-greater : (p : ℕ → ℚ) (first stride n : ℕ) (best other : ℚ) → IsGreatestInLine p first stride n best → other ≡ p (first + stride * n) → best <ℚ other → IsGreatestInLine p first stride (n + 1) other
IsGreatestInLine-greater p first stride n best other h e l =
    record {
      upper = below_next (λ s. p (first + stride * s) ≤ℚ other) n (λ s b. le_trans _ best other (h.upper s b) (le_of_lt best other l)) (subst (λ v. v ≤ℚ other) e (le_refl other));
      attained = (n, omega arith, e);
    }

-- without a greater number the best stays
pub IsGreatestInLine-same : (p : ℕ → ℚ) (first stride n : ℕ) (best other : ℚ) → IsGreatestInLine p first stride n best → other ≡ p (first + stride * n) → (best <ℚ other → ⊥) → IsGreatestInLine p first stride (n + 1) best
IsGreatestInLine-same p first stride n best other h e l =
    record {
      upper = below_next (λ s. p (first + stride * s) ≤ℚ best) n h.upper (subst (λ v. v ≤ℚ best) e (le_of_not_lt other best l));
      attained = (h.attained.0, omega (arith, h.attained.1), h.attained.2);
    }

-- places of different numbers differ
pub places_differ : (first stride s n : ℕ) → 0 < stride → s < n → first + stride * s ≢ first + stride * n
places_differ first stride s n h l e = let k : stride * suc s ≤ stride * n = mul-le-mul_left stride (omega arith) in omega (arith, k, e)

-- at first no entry is struck
pub KeepsBestInLine-none : (p : ℕ → ℚ) (first stride : ℕ) (best : ℚ) (best_replies : List Bool) → KeepsBestInLine p first stride 0 best best_replies best_replies
KeepsBestInLine-none p first stride best best_replies = record { in_line = λ s l. absurd (omega arith); others = λ k h. refl }

-- a place is none of the earlier ones
not_before : (first stride n k : ℕ) → 0 < stride → k ≡ first + stride * n → (s : ℕ) → s < n → k ≡ first + stride * s → ⊥
not_before first stride n k h e s l q = places_differ first stride s n h l (sym q ∙ e)

-- a entry whose number reaches the best stays
pub KeepsBestInLine-keep : (p : ℕ → ℚ) (first stride n : ℕ) (best : ℚ) (old new : List Bool) → 0 < stride → (p (first + stride * n) <ℚ best → ⊥) → KeepsBestInLine p first stride n best old new → KeepsBestInLine p first stride (n + 1) best old new
KeepsBestInLine-keep p first stride n best old new d ne h =
    record { in_line = below_next (λ s. IsTrue (plays_best new (first + stride * s)) ↔ (IsTrue (plays_best old (first + stride * s)) × (best ≤ℚ p (first + stride * s)))) n h.in_line last; others = λ k f. h.others k (λ s l. f s (omega arith)) }
  where
    same : plays_best new (first + stride * n) ≡ plays_best old (first + stride * n)
    same = h.others (first + stride * n) (not_before first stride n (first + stride * n) d refl)

    last : IsTrue (plays_best new (first + stride * n)) ↔ (IsTrue (plays_best old (first + stride * n)) × (best ≤ℚ p (first + stride * n)))
    last = (λ t. (subst IsTrue same t, le_of_not_lt best (p (first + stride * n)) ne), λ w. subst IsTrue (sym same) w.0)

-- a entry whose number is less than the best is struck
pub KeepsBestInLine-clear : (p : ℕ → ℚ) (first stride n : ℕ) (best : ℚ) (old new : List Bool) → 0 < stride → first + stride * n < length new → p (first + stride * n) <ℚ best → KeepsBestInLine p first stride n best old new → KeepsBestInLine p first stride (n + 1) best old (set new (first + stride * n) false)
KeepsBestInLine-clear p first stride n best old new d b l h =
    record { in_line = below_next (λ s. IsTrue (plays_best (set new place false) (first + stride * s)) ↔ (IsTrue (plays_best old (first + stride * s)) × (best ≤ℚ p (first + stride * s)))) n earlier last; others = λ k f. get_or-set_other new place k false false (f n (omega arith)) ∙ h.others k (λ s q. f s (omega arith)) }
  where
    place : ℕ
    place = first + stride * n

    earlier : (s : ℕ) → s < n → IsTrue (plays_best (set new place false) (first + stride * s)) ↔ (IsTrue (plays_best old (first + stride * s)) × (best ≤ℚ p (first + stride * s)))
    earlier s q =
        subst (λ v. IsTrue v ↔ (IsTrue (plays_best old (first + stride * s)) × (best ≤ℚ p (first + stride * s)))) (sym (get_or-set_other new place (first + stride * s) false false (places_differ first stride s n d q))) (h.in_line s q)

    last : IsTrue (plays_best (set new place false) place) ↔ (IsTrue (plays_best old place) × (best ≤ℚ p place))
    last = (λ t. cc (t, get_or-set_same new place false false b), λ w. absurd (not_le_of_lt (p place) best l w.1))
