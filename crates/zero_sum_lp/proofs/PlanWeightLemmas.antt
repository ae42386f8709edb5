-- Plans out of raw weights.
use Rattle.std.proofs.Common.{ℕ, zero, suc, pos, ◌+◌, ◌-◌, ◌<◌, ◌≤◌, ◌≡◌, ◌⊎◌, inl, inr, [], ◌∷◌, refl, sym, ap, ap₂, ◌∙◌, subst, arith}
use Rattle.std.proofs.lemmas.Int.{ints}
use Rattle.std.proofs.lemmas.Bool.{cases_lt}
use Rattle.rational.specs.Extremes.{IsLesser}
use Rattle.rational.specs.Rational.{ℚ, ◌+ℚ◌, ◌-ℚ◌, ◌≤ℚ◌, zero_ℚ, one_ℚ}
use Rattle.rational.specs.Sum.{sum_to}
use Rattle.rational.proofs.RationalRing.{rational_ring}
use Rattle.rational.proofs.Ring.{◌times◌is◌, combine, ring, num, ◌:+◌, ◌:-◌, A, B, C, D, E}
use Rattle.rational.proofs.Linear.{linear, at, lit, ◌⟨+⟩◌, ◌⟨-⟩◌, ◌⟨≤⟩◌, ◌⟨=⟩◌}
use Rattle.rational.proofs.Field.{le_antisymm, le_of_eq, le_trans}
use Rattle.rational.proofs.SumLemmas.{sum_to-first, sum_to-same}
use Rattle.linear_systems.proofs.LexRowLemmas.{below_cases}
use Rattle.sequence_forms.specs.Sides.{Side, first, sequences, IsOrderedSide, IsRealisationPlan}
use Rattle.sequence_forms.specs.Matrices.{AreNotNegative}
use Rattle.sequence_forms.proofs.SideLemmas.{first_up}
use Rattle.zero_sum_lp.specs.Plans.{IsRaised, IsTrimmed}

-- something that holds of the empty sequence, and of each set's where it holds of those before the set, holds of all
pub each_sequence : (d : Side) (P : ℕ → Type 0) → IsOrderedSide d → P 0 → ((j : ℕ) → j < d.sets → P (d.before j) → (a : ℕ) → a < d.count j → P (first d j + a)) → (n : ℕ) → n ≤ d.sets → (q : ℕ) → q < first d n → P q
each_sequence d P o base next zero h q l = subst P (let e : 0 ≡ q = omega arith in e) base
each_sequence d P o base next (suc n) h q l = elim (cases_lt q (first d n)) [
  | inl m ↦ each_sequence d P o base next n (omega arith) q m
  | inr m ↦ (let e : first d n + (q - first d n) ≡ q = omega arith in subst P e (next n (omega arith) (each_sequence d P o base next n (omega arith) (d.before n) (o.follows n (omega arith))) (q - first d n) (omega arith)))
]

-- ---- raised
module _ (d : Side) (o : IsOrderedSide d) (x z : ℕ → ℚ) (r : IsRaised d x z) (empty : x 0 ≤ℚ one_ℚ) (sets : (j : ℕ) → j < d.sets → sum_to (d.count j) (λ a. x (first d j + a)) ≤ℚ x (d.before j)) where
  -- no weight falls
  raised_set : (j : ℕ) → j < d.sets → x (d.before j) ≤ℚ z (d.before j) → (a : ℕ) → a < d.count j → x (first d j + a) ≤ℚ z (first d j + a)
  raised_set j h up zero l =
      let e : first d j ≡ first d j + 0 = omega arith in
      subst (λ q. x q ≤ℚ z q) e (linear (x (first d j) ∷ z (first d j) ∷ x (d.before j) ∷ z (d.before j) ∷ sum_to (d.count j) (λ a. x (first d j + a)) ∷ []) ((at 4 ⟨≤⟩ at 2) ∷ (at 2 ⟨≤⟩ at 3) ∷ (at 1 ⟨=⟩ (at 0 ⟨+⟩ (at 3 ⟨-⟩ at 4))) ∷ []) (at 0 ⟨≤⟩ at 1) (λ one z u v. omega (arith, ints)) (sets j h, (up, (r.first_action j h, tt))))
  raised_set j h up (suc a) l = le_of_eq (x (first d j + suc a)) (z (first d j + suc a)) (sym (r.others j (suc a) h (omega arith) l))

  pub raised_above : (q : ℕ) → q < sequences d → x q ≤ℚ z q
  raised_above = each_sequence d (λ q. x q ≤ℚ z q) o (subst (λ v. x 0 ≤ℚ v) (sym r.empty) empty) raised_set d.sets (omega arith)

  -- what a set lacked was added to its first action
  raised_splits : (j n : ℕ) → j < d.sets → d.count j ≡ suc n → sum_to (d.count j) (λ a. z (first d j + a)) ≡ z (d.before j)
  raised_splits j n h e =
      let here : first d j + 0 ≡ first d j = omega arith in
      let parts : (f : ℕ → ℚ) → sum_to (d.count j) (λ a. f (first d j + a)) ≡ f (first d j) +ℚ sum_to n (λ a. f (first d j + suc a)) = λ f. ap (λ k. sum_to k (λ a. f (first d j + a))) e ∙ sum_to-first n (λ a. f (first d j + a)) ∙ ap (λ q. f q +ℚ sum_to n (λ a. f (first d j + suc a))) here in
      combine rational_ring (sum_to (d.count j) (λ a. z (first d j + a)) ∷ z (first d j) ∷ sum_to n (λ a. x (first d j + suc a)) ∷ x (first d j) ∷ z (d.before j) ∷ []) ((num 1 times A is (B :+ C)) ∷ (num 1 times B is (D :+ (E :- (D :+ C)))) ∷ []) A E refl (
        parts z ∙ ap (λ u. z (first d j) +ℚ u) (sum_to-same n _ _ (λ a l. r.others j (suc a) h (omega arith) (omega arith))),
        (r.first_action j h ∙ ap (λ u. x (first d j) +ℚ (z (d.before j) -ℚ u)) (parts x), tt),
      )

  pub raised_plan : AreNotNegative (sequences d) x → IsRealisationPlan d z
  raised_plan sign =
      record {
        not_negative = λ q l. le_trans zero_ℚ (x q) (z q) (sign q l) (raised_above q l);
        empty_is_one = r.empty;
        splits = λ j h. some (d.count j) j refl h (o.some_action j h);
      }
    where
      some : (n : ℕ) (j : ℕ) → d.count j ≡ n → j < d.sets → 0 < n → sum_to (d.count j) (λ a. z (first d j + a)) ≡ z (d.before j)
      some zero j e h l = absurd (omega arith)
      some (suc n) j e h l = raised_splits j n h e

-- ---- trimmed
-- one number is the less of two
pub lesser_once : (a b c k : ℚ) → IsLesser a b c → IsLesser a b k → c ≡ k
lesser_once a b c k h g = le_antisymm c k (below a b c k h g.is_one) (below a b k c g h.is_one)
  where
    below : (a b c k : ℚ) → IsLesser a b c → (k ≡ a) ⊎ (k ≡ b) → c ≤ℚ k
    below a b c k h (inl e) = subst (λ u. c ≤ℚ u) (sym e) h.left
    below a b c k h (inr e) = subst (λ u. c ≤ℚ u) (sym e) h.right

-- after the first n actions of a set took their weights of w
record IsShared (w : ℚ) (x z : ℕ → ℚ) (n : ℕ) : Type 0 where
  pub rest : zero_ℚ ≤ℚ (w -ℚ sum_to n z)
  pub full : (w -ℚ sum_to n z ≡ zero_ℚ) ⊎ (sum_to n z ≡ sum_to n x)
  pub sign : (a : ℕ) → a < n → zero_ℚ ≤ℚ z a

share_next : (w : ℚ) (x z : ℕ → ℚ) (n : ℕ) → zero_ℚ ≤ℚ x n → (z n ≡ x n) ⊎ (z n ≡ w -ℚ sum_to n z) → z n ≤ℚ (w -ℚ sum_to n z) → IsShared w x z n → IsShared w x z (suc n)
share_next w x z n up (inl e) l s =
    record {
      rest = linear (w ∷ sum_to n z ∷ z n ∷ []) ((at 2 ⟨≤⟩ (at 0 ⟨-⟩ at 1)) ∷ []) (lit (pos 0) ⟨≤⟩ (at 0 ⟨-⟩ (at 1 ⟨+⟩ at 2))) (λ one z u v. omega (arith, ints)) (l, tt);
      full = elim s.full [
        | inl f ↦ inl (linear (w ∷ sum_to n z ∷ z n ∷ x n ∷ []) ((at 2 ⟨=⟩ at 3) ∷ (at 2 ⟨≤⟩ (at 0 ⟨-⟩ at 1)) ∷ ((at 0 ⟨-⟩ at 1) ⟨=⟩ lit (pos 0)) ∷ (lit (pos 0) ⟨≤⟩ at 3) ∷ []) ((at 0 ⟨-⟩ (at 1 ⟨+⟩ at 2)) ⟨=⟩ lit (pos 0)) (λ one z u v. omega (arith, ints)) (e, (l, (f, (up, tt)))))
        | inr f ↦ inr (ap₂ (λ u v. u +ℚ v) f e)
      ];
      sign = λ a l. elim (below_cases a n l) [ inl f ↦ subst (λ k. zero_ℚ ≤ℚ z k) (sym f) (subst (λ v. zero_ℚ ≤ℚ v) (sym e) up) | inr k ↦ s.sign a k ];
    }
share_next w x z n up (inr e) l s =
    let none : w -ℚ sum_to (suc n) z ≡ zero_ℚ = linear (w ∷ sum_to n z ∷ z n ∷ []) ((at 2 ⟨=⟩ (at 0 ⟨-⟩ at 1)) ∷ []) ((at 0 ⟨-⟩ (at 1 ⟨+⟩ at 2)) ⟨=⟩ lit (pos 0)) (λ one z u v. omega (arith, ints)) (e, tt) in
    record {
      rest = le_of_eq zero_ℚ (w -ℚ sum_to (suc n) z) (sym none);
      full = inl none;
      sign = λ a l. elim (below_cases a n l) [ inl f ↦ subst (λ k. zero_ℚ ≤ℚ z k) (sym f) (subst (λ v. zero_ℚ ≤ℚ v) (sym e) s.rest) | inr k ↦ s.sign a k ];
    }

shared : (w : ℚ) (x z : ℕ → ℚ) (n : ℕ) → zero_ℚ ≤ℚ w → ((a : ℕ) → a < n → zero_ℚ ≤ℚ x a) → ((a : ℕ) → a < n → IsLesser (x a) (w -ℚ sum_to a z) (z a)) → IsShared w x z n
shared w x z zero pos_w pos_x h = record { rest = subst (λ u. zero_ℚ ≤ℚ u) (ring rational_ring (w ∷ []) A (A :- num 0) refl) pos_w; full = inr refl; sign = λ a l. absurd (omega arith) }
shared w x z (suc n) pos_w pos_x h = let last = h n (omega arith) in share_next w x z n (pos_x n (omega arith)) last.is_one last.right (shared w x z n pos_w (λ a l. pos_x a (omega arith)) (λ a l. h a (omega arith)))

-- where there is enough, all is shared
shared_all : (w : ℚ) (x z : ℕ → ℚ) (n : ℕ) → w ≤ℚ sum_to n x → IsShared w x z n → sum_to n z ≡ w
shared_all w x z n enough s =
    elim s.full [
      | inl e ↦ linear (w ∷ sum_to n z ∷ []) (((at 0 ⟨-⟩ at 1) ⟨=⟩ lit (pos 0)) ∷ []) (at 1 ⟨=⟩ at 0) (λ one z u v. omega (arith, ints)) (e, tt)
      | inr e ↦ linear (w ∷ sum_to n z ∷ sum_to n x ∷ []) ((lit (pos 0) ⟨≤⟩ (at 0 ⟨-⟩ at 1)) ∷ (at 1 ⟨=⟩ at 2) ∷ (at 0 ⟨≤⟩ at 2) ∷ []) (at 1 ⟨=⟩ at 0) (λ one z u v. omega (arith, ints)) (s.rest, (e, (enough, tt)))
    ]

module _ (d : Side) (o : IsOrderedSide d) (x z : ℕ → ℚ) (c : IsTrimmed d x z) (sign : AreNotNegative (sequences d) x) (empty : one_ℚ ≤ℚ x 0) (sets : (j : ℕ) → j < d.sets → x (d.before j) ≤ℚ sum_to (d.count j) (λ a. x (first d j + a))) where
  pub trimmed_below : (q : ℕ) → q < sequences d → z q ≤ℚ x q
  trimmed_below = each_sequence d (λ q. z q ≤ℚ x q) o (subst (λ v. v ≤ℚ x 0) (sym c.empty) empty) (λ j h up a l. (c.shares j a h l).left) d.sets (omega arith)

  set_shared : (j : ℕ) → j < d.sets → zero_ℚ ≤ℚ z (d.before j) → IsShared (z (d.before j)) (λ a. x (first d j + a)) (λ a. z (first d j + a)) (d.count j)
  set_shared j h up =
      let last : first d j + d.count j ≤ sequences d = first_up d.count j d.sets h in
      shared (z (d.before j)) (λ a. x (first d j + a)) (λ a. z (first d j + a)) (d.count j) up (λ a l. sign (first d j + a) (omega arith)) (λ a l. c.shares j a h l)

  trimmed_sign : (q : ℕ) → q < sequences d → zero_ℚ ≤ℚ z q
  trimmed_sign = each_sequence d (λ q. zero_ℚ ≤ℚ z q) o (subst (λ v. zero_ℚ ≤ℚ v) (sym c.empty) (linear [] [] (lit (pos 0) ⟨≤⟩ lit (pos 1)) (λ one z u v. omega (arith, ints)) tt)) (λ j h up a l. (set_shared j h up).sign a l) d.sets (omega arith)

  pub trimmed_plan : IsRealisationPlan d z
  trimmed_plan =
      record {
        not_negative = trimmed_sign;
        empty_is_one = c.empty;
        splits = λ j h. (let low : d.before j < sequences d = before_in j h in shared_all (z (d.before j)) (λ a. x (first d j + a)) (λ a. z (first d j + a)) (d.count j) (le_trans _ _ _ (trimmed_below (d.before j) low) (sets j h)) (set_shared j h (trimmed_sign (d.before j) low)));
      }
    where
      before_in : (j : ℕ) → j < d.sets → d.before j < sequences d
      before_in j h = let b : d.before j < first d j = o.follows j h in let u : first d j + d.count j ≤ sequences d = first_up d.count j d.sets h in omega arith
