-- The ranks of points, as they are given in the order of the points
use Rattle.std.proofs.Common.{ℕ, ◌+◌, ◌<◌, ◌≤◌, ◌≡◌, ◌≢◌, ◌⊎◌, inl, inr, true, false, List, [], ◌∷◌, All, length, get_or, set, replicate, refl, sym, ap, ap₂, ◌∙◌, subst, arith}
use Rattle.std.specs.List.{range_with_len}
use Rattle.std.specs.declared.cmp.Ordering.{Ordering}
use Rattle.std.specs.declared.cmp.Ordering.TheVariants.{Less, Equal, Greater}
use Rattle.std.specs.Ordering.{is_eq, is_lt, nat_cmp, ordering_then, ordering_reverse}
use Rattle.std.specs.Cmp.{IsTotalOrder, nat_cmp_is}
use Rattle.std.specs.Cmp.Lexicographic.{slice_cmp}
use Rattle.std.proofs.lemmas.Bool.{cases_lt, cases_eq}
use Rattle.std.proofs.lemmas.Cmp.{nat_cmp_total, alike_right, tied_itself}
use Rattle.std.proofs.lemmas.Grind.{get_or_default_zero}
use Rattle.std.proofs.lemmas.List.{get_or-set_same, get_or-set_other, get_or_past, length-set, length-replicate}
use Rattle.std.proofs.lemmas.List.FromFn.{length-range_with_len, get_or-range_with_len}
use Rattle.std.proofs.lemmas.List.Sorted.{All-permutation, Contains-permutation}
use Rattle.lists.proofs.ElementLemmas.{get_or-copies}
use Rattle.rational.specs.Rational.{ℚ}
use Rattle.enummixed.specs.Order.{greater_first, place_order, pair_order, ArePlacesInOrder, AreRanks}
use Rattle.enummixed.proofs.LineOrderLemmas.{points-total}

-- ---- numbers that grow with what they rank
module _ {K : Type 0} (R : K → K → Ordering) (o : IsTotalOrder R) (x y z : K) (a r s : ℕ) where
  -- a number that compares with the last as they do, compares with the next as they do
  pub rank-after : nat_cmp a r ≡ R x y → a ≤ r → nat_cmp r s ≡ R y z → r ≤ s → nat_cmp a s ≡ R x z
  rank-after e h f l = elim (cases_lt a r) [
    | inl below ↦ elim (cases_lt r s) [
      | inl more ↦ sym (nat_cmp_is a s Less (omega (arith, below, more))) ∙ sym (o.trans x y z (sym e ∙ sym (nat_cmp_is a r Less below)) (sym f ∙ sym (nat_cmp_is r s Less more)))
      | inr same ↦
          let t : r ≡ s = omega (arith, same, l) in
          ap (nat_cmp a) (sym t) ∙ e ∙ alike_right o y z x (sym f ∙ sym (nat_cmp_is r s Equal t))
    ]
    | inr same ↦
        let t : a ≡ r = omega (arith, same, h) in
        ap (λ n. nat_cmp n s) t ∙ f ∙ sym (o.congr x y z (sym e ∙ sym (nat_cmp_is a r Equal t)))
  ]

-- a point that stands after another has a greater rank
pub next-greater : (x y : List ℚ) (o : Ordering) (r : ℕ) → o ≡ slice_cmp greater_first x y → is_eq o ≡ false → is_lt (slice_cmp greater_first y x) ≡ false → nat_cmp r (r + 1) ≡ slice_cmp greater_first x y
next-greater x y Less r e f g = sym (nat_cmp_is r (r + 1) Less (omega arith)) ∙ e
next-greater x y Equal r e f g = absurd (cc)
next-greater x y Greater r e f g =
    let back : true ≡ false = sym (ap is_lt (points-total.antisymm y x ∙ ap ordering_reverse (sym e))) ∙ g in
    absurd (cc)

-- ---- places in order
module _ (points : List (List ℚ)) (places : List ℕ) where
  -- a place that has its rank, as each of the first k has, or one outside
  abbrev Seen : ℕ → ℕ → Type 0
  Seen k i = (length points ≤ i) ⊎ ((a : ℕ) × (a < k) × (get_or places a 0 ≡ i))

  -- the first k places have their ranks, of which the last is the greatest
  pub record IsRanked (k : ℕ) (ranks : List ℕ) (previous rank : ℕ) : Type 0 where
    pub size : length ranks ≡ length points
    pub alike : (i j : ℕ) → Seen k i → Seen k j → nat_cmp (get_or ranks i 0) (get_or ranks j 0) ≡ place_order points i j
    pub last : Seen k previous
    pub last_rank : rank ≡ get_or ranks previous 0
    pub most : (i : ℕ) → get_or ranks i 0 ≤ rank
    pub few : rank ≤ k
    pub next : k < length places → is_lt (place_order points (get_or places k 0) previous) ≡ false

  no-entries : (x : List ℚ) → is_lt (slice_cmp greater_first x []) ≡ false
  no-entries [] = refl
  no-entries (y ∷ ys) = refl

  -- no place has its rank yet
  pub ranked-none : IsRanked 0 (replicate (length points) 0) (length points) 0
  ranked-none =
      let n = length points in
      let zeros : (i : ℕ) → ◌≡◌ {A = ℕ} (get_or (replicate n 0) i 0) 0 = λ i. get_or-copies n i 0 in
      record {
        size = length-replicate n 0;
        alike = unread;
        last = inl (omega arith);
        last_rank = sym (zeros n);
        most = λ i. omega (arith, zeros i);
        few = omega arith;
        next = λ _. ap (λ y. is_lt (slice_cmp greater_first (get_or points (get_or places 0 0) []) y)) (get_or_past points n [] (omega arith)) ∙ no-entries (get_or points (get_or places 0 0) []);
      }
    where
      unread : (i j : ℕ) → Seen 0 i → Seen 0 j → nat_cmp (get_or (replicate (length points) 0) i 0) (get_or (replicate (length points) 0) j 0) ≡ place_order points i j
      unread i j (inl h) (inl l) = ap₂ nat_cmp (get_or-copies (length points) i 0) (get_or-copies (length points) j 0) ∙ sym (nat_cmp_is 0 0 Equal refl) ∙ sym (ap₂ (slice_cmp greater_first) (get_or_past points i [] h) (get_or_past points j [] l))
      unread i j (inl h) (inr (a, l, _)) = absurd (omega (arith, l))
      unread i j (inr (a, l, _)) t = absurd (omega (arith, l))

  module _ (ordered : ArePlacesInOrder points places) where
    -- the places are those of the points
    pub places-within : All (λ place. place < length points) places
    places-within = All-permutation (λ place. place < length points) (range_with_len 0 (length points)) places ordered.permutation
        (λ k d l. let within : k < length points = omega (arith, length-range_with_len 0 (length points)) in omega (arith, get_or-range_with_len 0 (length points) k d within))

    -- each has its rank in the end
    pub ranked-all : (k : ℕ) (ranks : List ℕ) (previous rank : ℕ) → length places ≤ k → IsRanked k ranks previous rank → AreRanks points ranks
    ranked-all k ranks previous rank end s i j = s.alike i j (seen i) (seen j)
      where
        seen : (i : ℕ) → Seen k i
        seen i = elim (cases_lt i (length points)) [
          | inl l ↦
              let c = Contains-permutation (range_with_len 0 (length points)) places i ordered.permutation
              (i, omega (arith, l, length-range_with_len 0 (length points)), get_or-range_with_len 0 (length points) i i l ∙ omega arith) in
              inr (c.0, omega (arith, c.1, end), sym (get_or_default_zero places c.0 i c.1) ∙ c.2)
          | inr h ↦ inl h
        ]

    -- one more place has its rank
    pub ranked-next : (k : ℕ) (ranks : List ℕ) (previous rank place next : ℕ) → k < length places → place ≡ get_or places k 0
        → nat_cmp rank next ≡ place_order points previous place → rank ≤ next → next ≤ rank + 1
        → IsRanked k ranks previous rank → IsRanked (k + 1) (set ranks place next) place next
    ranked-next k ranks previous rank place next l is compare from up s = record {
      size = length-set ranks place next ∙ s.size;
      alike = λ i j p q. either i j (old-or-new i p) (old-or-new j q);
      last = inr (k, omega arith, sym is);
      last_rank = sym (new place refl);
      most = λ i. elim (cases_eq i place) [
        | inl e ↦ omega (arith, new i e)
        | inr e ↦ omega (arith, old i e, s.most i, from)
      ];
      few = omega (arith, s.few, up);
      next = λ h. subst (λ p. is_lt (place_order points (get_or places (k + 1) 0) p) ≡ false) (sym is) (ordered.sorted k 0 (omega arith) h);
    }
      where
        inside : place < length points
        inside = subst (λ p. p < length points) (sym is) (places-within k 0 l)

        new : (i : ℕ) → i ≡ place → get_or (set ranks place next) i 0 ≡ next
        new i e = ap (λ j. get_or (set ranks place next) j 0) e ∙ get_or-set_same ranks place next 0 (omega (arith, inside, s.size))

        old : (i : ℕ) → i ≢ place → get_or (set ranks place next) i 0 ≡ get_or ranks i 0
        old i e = get_or-set_other ranks place i next 0 e

        top : (i : ℕ) → Seen k i → nat_cmp (get_or ranks i 0) next ≡ place_order points i place
        top i t = rank-after (slice_cmp greater_first) points-total (get_or points i []) (get_or points previous []) (get_or points place []) (get_or ranks i 0) rank next (ap (nat_cmp (get_or ranks i 0)) s.last_rank ∙ s.alike i previous t s.last) (s.most i) compare from

        old-or-new : (i : ℕ) → Seen (k + 1) i → (i ≡ place) ⊎ ((i ≢ place) × Seen k i)
        old-or-new i (inl h) = inr (λ e. omega (arith, e, h, inside), inl h)
        old-or-new i (inr (a, h, e)) = elim (cases_lt a k) [
          | inl b ↦ elim (cases_eq i place) [ inl f ↦ inl f | inr f ↦ inr (f, inr (a, b, e)) ]
          | inr b ↦ let last : a ≡ k = omega (arith, h, b) in inl (sym e ∙ ap (λ m. get_or places m 0) last ∙ sym is)
        ]

        either : (i j : ℕ) → (i ≡ place) ⊎ ((i ≢ place) × Seen k i) → (j ≡ place) ⊎ ((j ≢ place) × Seen k j) → nat_cmp (get_or (set ranks place next) i 0) (get_or (set ranks place next) j 0) ≡ place_order points i j
        either i j (inl e) (inl f) = ap₂ nat_cmp (new i e) (new j f) ∙ sym (nat_cmp_is next next Equal refl) ∙ sym (ap₂ (place_order points) e f ∙ tied_itself points-total (get_or points place []))
        either i j (inl e) (inr (f, t)) = ap₂ nat_cmp (new i e) (old j f) ∙ nat_cmp_total.antisymm next (get_or ranks j 0) ∙ ap ordering_reverse (top j t) ∙ sym (points-total.antisymm (get_or points place []) (get_or points j [])) ∙ ap (λ m. place_order points m j) (sym e)
        either i j (inr (e, t)) (inl f) = ap₂ nat_cmp (old i e) (new j f) ∙ top i t ∙ ap (place_order points i) (sym f)
        either i j (inr (e, t)) (inr (f, u)) = ap₂ nat_cmp (old i e) (old j f) ∙ s.alike i j t u

-- ---- pairs
-- pairs are ordered by the ranks of their points as they are by these
pub pairs-ranked : (firsts seconds : List (List ℚ)) (first-ranks second-ranks : List ℕ) → AreRanks firsts first-ranks → AreRanks seconds second-ranks → (p q : ℕ × ℕ)
    → pair_order firsts seconds p q ≡ ordering_then (nat_cmp (get_or first-ranks p.0 0) (get_or first-ranks q.0 0)) (nat_cmp (get_or second-ranks p.1 0) (get_or second-ranks q.1 0))
pairs-ranked firsts seconds first-ranks second-ranks a b p q =
    ap (ordering_then (place_order firsts p.0 q.0)) (or-equal (place_order seconds p.1 q.1)) ∙ sym (ap₂ ordering_then (a p.0 q.0) (b p.1 q.1))
  where
    or-equal : (o : Ordering) → ordering_then o Equal ≡ o
    or-equal Less = refl
    or-equal Equal = refl
    or-equal Greater = refl
