-- Rounds of elimination: one that removes none is the last, and there is one.
use Rattle.std.proofs.Common.{ℕ, zero, suc, ◌+◌, ◌<◌, ◌≤◌, ◌≡◌, ◌⊎◌, inl, inr, get_or, sym, subst, arith}
use Rattle.std.proofs.lemmas.Bool.{cases_lt}
use Rattle.rational.specs.Rational.{◌<ℚ◌}
use Rattle.rational.proofs.Decide.{lt_or_not}
use Rattle.game_theory.specs.Profiles.{Game}
pub use Rattle.extreme_equilibria.proofs.TwoPlayerLemmas.{other-below}
use Rattle.extreme_equilibria.specs.TwoPlayers.{other, pays_against}
use Rattle.extreme_equilibria.specs.Elimination.{IsDominated, IsKeptAfter, IsKept}
use Rattle.extreme_equilibria.specs.KeptLaws.{RemovesNone, RoundThatRemovesNoneIsLast, RoundsEnd}

-- ---- earlier and later rounds
-- what is kept is one of the strategies
pub kept-within : (g : Game) (n i s : ℕ) → IsKeptAfter g n i s → s < get_or g.strategies i 0
kept-within g zero i s h = h
kept-within g (suc n) i s h = kept-within g n i s h.0

-- what is kept later is kept before
kept-earlier : (g : Game) (n m i s : ℕ) → m ≤ n → IsKeptAfter g n i s → IsKeptAfter g m i s
kept-earlier g zero m i s l h = let e : 0 ≡ m = omega arith in subst (λ x. IsKeptAfter g x i s) e h
kept-earlier g (suc n) m i s l h = elim (cases_lt n m) [
  | inl last ↦ let e : suc n ≡ m = omega arith in subst (λ x. IsKeptAfter g x i s) e h
  | inr before ↦ kept-earlier g n m i s before h.0
]

-- a dominated strategy is so too among more own strategies and fewer others
pub IsDominated-more : (g : Game) (i : ℕ) (own more others fewer : ℕ → Type 0) (s : ℕ) → ((r : ℕ) → own r → more r) → ((t : ℕ) → fewer t → others t) → IsDominated g i own others s → IsDominated g i more fewer s
IsDominated-more g i own more others fewer s up down d = record { by = d.by; is_own = up d.by d.is_own; pays_more = λ t h. d.pays_more t (down t h) }

-- after a round that removes none the next removes none
none-next : (g : Game) (n : ℕ) → RemovesNone g n → RemovesNone g (suc n)
none-next g n none i s l h =
    (h, λ d. h.1 (IsDominated-more g i (IsKeptAfter g (suc n) i) (IsKeptAfter g n i) (IsKeptAfter g (suc n) (other i)) (IsKeptAfter g n (other i)) s (λ r k. k.0) (λ t k. none (other i) t (other-below i) k) d))

-- and no later round does
none-later : (g : Game) (n : ℕ) → RemovesNone g n → (m : ℕ) → n ≤ m → RemovesNone g m
none-later g n none zero l = let e : n ≡ 0 = omega arith in subst (RemovesNone g) e none
none-later g n none (suc m) l = elim (cases_lt m n) [
  | inl last ↦ let e : n ≡ suc m = omega arith in subst (RemovesNone g) e none
  | inr before ↦ none-next g m (none-later g n none m before)
]

-- so what is kept then is kept for good
pub last_round : RoundThatRemovesNoneIsLast
last_round g n none i s l h zero = kept-earlier g n 0 i s (omega arith) h
last_round g n none i s l h (suc m) = elim (cases_lt m n) [
  | inl before ↦ kept-earlier g n (suc m) i s (omega arith) h
  | inr after ↦ none-later g n none m after i s l (last_round g n none i s l h m)
]

-- ---- tests
-- a number that passes among those below n, or none does
pub search_below : (P : ℕ → Type 0) → ((k : ℕ) → P k ⊎ (P k → ⊥)) → (n : ℕ) → ((k : ℕ) × (k < n) × P k) ⊎ ((k : ℕ) → k < n → P k → ⊥)
search_below P decide zero = inr (λ k l p. absurd (omega (arith, l)))
search_below P decide (suc n) = elim (search_below P decide n) [
  | inl found ↦ inl (found.0, omega (arith, found.1), found.2)
  | inr none ↦ elim (decide n) [
    | inl p ↦ inl (n, omega arith, p)
    | inr not ↦ inr (λ k l p. elim (cases_lt k n) [ inl before ↦ none k before p | inr last ↦ let same : k ≡ n = omega arith in not (subst P same p) ])
  ]
]

-- both of two that are decided
both : (P Q : Type 0) → P ⊎ (P → ⊥) → Q ⊎ (Q → ⊥) → (P × Q) ⊎ (P × Q → ⊥)
both P Q (inl p) (inl q) = inl (p, q)
both P Q (inl p) (inr n) = inr (λ h. n h.1)
both P Q (inr n) d = inr (λ h. n h.0)

-- not one that is decided
opposite : (P : Type 0) → P ⊎ (P → ⊥) → (P → ⊥) ⊎ ((P → ⊥) → ⊥)
opposite P (inl p) = inr (λ n. n p)
opposite P (inr n) = inl n

-- one of two holds, or neither does
yes_unless : (P : Type 0) → P ⊎ (P → ⊥) → ((P → ⊥) → ⊥) → P
yes_unless P (inl p) h = p
yes_unless P (inr n) h = absurd (h n)

module _ (g : Game) (i : ℕ) (own others : ℕ → Type 0) (decide_own : (s : ℕ) → own s ⊎ (own s → ⊥)) (decide_others : (s : ℕ) → others s ⊎ (others s → ⊥)) (own_within : (s : ℕ) → own s → s < get_or g.strategies i 0) (others_within : (s : ℕ) → others s → s < get_or g.strategies (other i) 0) where
  -- a strategy pays more than another against each of the others, or not
  beats_or_not : (s r : ℕ) → ((t : ℕ) → others t → pays_against g i s t <ℚ pays_against g i r t) ⊎ (((t : ℕ) → others t → pays_against g i s t <ℚ pays_against g i r t) → ⊥)
  beats_or_not s r = elim (search_below (λ t. others t × (pays_against g i s t <ℚ pays_against g i r t → ⊥)) (λ t. both _ _ (decide_others t) (opposite _ (lt_or_not (pays_against g i s t) (pays_against g i r t)))) (get_or g.strategies (other i) 0)) [
    | inl found ↦ inr (λ all. found.2.1 (all found.0 found.2.0))
    | inr none ↦ inl (λ t k. yes_unless _ (lt_or_not (pays_against g i s t) (pays_against g i r t)) (λ not. none t (others_within t k) (k, not)))
  ]

  -- a strategy is dominated or not
  dominated_or_not : (s : ℕ) → IsDominated g i own others s ⊎ (IsDominated g i own others s → ⊥)
  dominated_or_not s = elim (search_below (λ r. own r × ((t : ℕ) → others t → pays_against g i s t <ℚ pays_against g i r t)) (λ r. both _ _ (decide_own r) (beats_or_not s r)) (get_or g.strategies i 0)) [
    | inl found ↦ inl (record { by = found.0; is_own = found.2.0; pays_more = found.2.1 })
    | inr none ↦ inr (λ d. none d.by (own_within d.by d.is_own) (d.is_own, d.pays_more))
  ]

-- a strategy is kept after n rounds or not
pub kept_or_not : (g : Game) (n i s : ℕ) → IsKeptAfter g n i s ⊎ (IsKeptAfter g n i s → ⊥)
kept_or_not g zero i s = elim (cases_lt s (get_or g.strategies i 0)) [ inl l ↦ inl l | inr h ↦ inr (λ l. absurd (omega arith)) ]
kept_or_not g (suc n) i s =
    both _ _ (kept_or_not g n i s) (opposite _ (dominated_or_not g i (IsKeptAfter g n i) (IsKeptAfter g n (other i)) (λ r. kept_or_not g n i r) (λ t. kept_or_not g n (other i) t) (kept-within g n i) (kept-within g n (other i)) s))

-- ---- the rounds end
-- 1 where a decided statement holds, and 0 where it does not
one_if : {P : Type 0} → P ⊎ (P → ⊥) → ℕ
one_if (inl p) = 1
one_if (inr n) = 0

-- how many of the numbers below n pass
count : (P : ℕ → Type 0) → ((k : ℕ) → P k ⊎ (P k → ⊥)) → ℕ → ℕ
count P decide zero = 0
count P decide (suc n) = count P decide n + one_if (decide n)

-- a statement that follows from another
one_if-le : {P Q : Type 0} (p : P ⊎ (P → ⊥)) (q : Q ⊎ (Q → ⊥)) → (Q → P) → one_if q ≤ one_if p
unfolding one_if
one_if-le (inl p) (inl q) h = omega arith
one_if-le (inl p) (inr m) h = omega arith
one_if-le (inr n) (inl q) h = absurd (n (h q))
one_if-le (inr n) (inr m) h = omega arith

-- and does not hold where the other does
one_if-lt : {P Q : Type 0} (p : P ⊎ (P → ⊥)) (q : Q ⊎ (Q → ⊥)) → P → (Q → ⊥) → one_if q < one_if p
unfolding one_if
one_if-lt (inl p) (inl q) h m = absurd (m q)
one_if-lt (inl p) (inr n) h m = omega arith
one_if-lt (inr n) q h m = absurd (n h)

module _ (P Q : ℕ → Type 0) (decide_P : (k : ℕ) → P k ⊎ (P k → ⊥)) (decide_Q : (k : ℕ) → Q k ⊎ (Q k → ⊥)) (less : (k : ℕ) → Q k → P k) where
  -- fewer pass
  count-le : (n : ℕ) → count Q decide_Q n ≤ count P decide_P n
  unfolding count
  count-le zero = omega arith
  count-le (suc n) = let last = one_if-le (decide_P n) (decide_Q n) (less n) in let before = count-le n in omega arith

  -- one fewer at least
  count-lt : (n k : ℕ) → k < n → P k → (Q k → ⊥) → count Q decide_Q n < count P decide_P n
  unfolding count
  count-lt zero k l p m = absurd (omega arith)
  count-lt (suc n) k l p m = elim (cases_lt k n) [
    | inl before ↦ let rest = count-lt n k before p m in let last = one_if-le (decide_P n) (decide_Q n) (less n) in omega arith
    | inr last ↦ let e : k ≡ n = omega arith in let one = one_if-lt (decide_P n) (decide_Q n) (subst P e p) (λ q. m (subst Q (sym e) q)) in let rest = count-le n in omega arith
  ]

-- how many strategies of player i are kept after n rounds
kept_count : Game → ℕ → ℕ → ℕ
kept_count g n i = count (IsKeptAfter g n i) (λ s. kept_or_not g n i s) (get_or g.strategies i 0)

-- a round removes some strategy of player i, or none
removes_or_none : (g : Game) (n i : ℕ) → (kept_count g (suc n) i < kept_count g n i) ⊎ ((s : ℕ) → IsKeptAfter g n i s → IsKeptAfter g (suc n) i s)
unfolding kept_count
removes_or_none g n i = elim (search_below (λ s. IsKeptAfter g n i s × (IsKeptAfter g (suc n) i s → ⊥)) (λ s. both _ _ (kept_or_not g n i s) (opposite _ (kept_or_not g (suc n) i s))) (get_or g.strategies i 0)) [
  | inl found ↦ inl (count-lt (IsKeptAfter g n i) (IsKeptAfter g (suc n) i) (λ s. kept_or_not g n i s) (λ s. kept_or_not g (suc n) i s) (λ s h. h.0) (get_or g.strategies i 0) found.0 found.1 found.2.0 found.2.1)
  | inr none ↦ inr (λ s k. yes_unless _ (kept_or_not g (suc n) i s) (λ not. none s (kept-within g n i s k) (k, not)))
]

-- no round keeps more
kept_count-le : (g : Game) (n i : ℕ) → kept_count g (suc n) i ≤ kept_count g n i
unfolding kept_count
kept_count-le g n i = count-le (IsKeptAfter g n i) (IsKeptAfter g (suc n) i) (λ s. kept_or_not g n i s) (λ s. kept_or_not g (suc n) i s) (λ s h. h.0) (get_or g.strategies i 0)

-- a round leaves fewer strategies, or it removes none
fewer_or_none : (g : Game) (n : ℕ) → (kept_count g (suc n) 0 + kept_count g (suc n) 1 < kept_count g n 0 + kept_count g n 1) ⊎ RemovesNone g n
fewer_or_none g n = elim (removes_or_none g n 0) [
  | inl less ↦ inl (omega (arith, less, kept_count-le g n 1))
  | inr first ↦ elim (removes_or_none g n 1) [ inl less ↦ inl (omega (arith, less, kept_count-le g n 0)) | inr second ↦ inr (none first second) ]
]
  where
    none : ((s : ℕ) → IsKeptAfter g n 0 s → IsKeptAfter g (suc n) 0 s) → ((s : ℕ) → IsKeptAfter g n 1 s → IsKeptAfter g (suc n) 1 s) → RemovesNone g n
    none first second zero s l h = first s h
    none first second (suc zero) s l h = second s h
    none first second (suc (suc i)) s l h = absurd (omega (arith, l))

-- from round n on, where so many strategies are kept at most, some round removes none
rounds_from : (g : Game) (most n : ℕ) → kept_count g n 0 + kept_count g n 1 ≤ most → (n : ℕ) × RemovesNone g n
rounds_from g zero n h = elim (fewer_or_none g n) [ inl less ↦ absurd (omega (arith, less, h)) | inr none ↦ (n, none) ]
rounds_from g (suc most) n h = elim (fewer_or_none g n) [ inl less ↦ rounds_from g most (suc n) (omega (arith, less, h)) | inr none ↦ (n, none) ]

-- some round removes none
pub rounds-end : RoundsEnd
rounds-end g = rounds_from g (kept_count g 0 0 + kept_count g 0 1) 0 (omega arith)

-- a strategy is kept or removed
pub is_kept_or_not : (g : Game) (i s : ℕ) → i < 2 → IsKept g i s ⊎ (IsKept g i s → ⊥)
is_kept_or_not g i s l =
    let end = rounds-end g in
    elim (kept_or_not g end.0 i s) [ inl h ↦ inl (last_round g end.0 end.1 i s l h) | inr n ↦ inr (λ h. n (h end.0)) ]
