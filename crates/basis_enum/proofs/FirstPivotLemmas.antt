-- Pivots sorted by their ranks, and the first to each basis among them
use Rattle.std.proofs.Common.{ℕ, ◌<◌, ◌≤◌, ◌≡◌, ◌+◌, ◌*◌, ◌^◌, refl, sym, ap, subst, subst₂, arith, List, length, get_or, Ordering, Less, Equal, Greater, nat_cmp}
use Rattle.std.specs.Cmp.{nat_cmp_is, ranks}
use Rattle.std.specs.Ordering.{MatchOrdering, ordering_then}
use Rattle.std.specs.List.{AllPairs, Contains, dedup}
use Rattle.std.specs.List.Sorted.{IsNonDecreasingBy, IsPermutation}
use Rattle.std.proofs.Math.ListN.{get_or-map}
use Rattle.std.proofs.lemmas.List.{length-map}
use Rattle.std.proofs.lemmas.List.Elements.{Contains-get_or}
use Rattle.std.proofs.lemmas.List.Kept.{Contains-from_dedup}
use Rattle.std.proofs.lemmas.List.Sorted.{Contains-permutation, IsPermutation-sym, IsNonDecreasingBy-from_default}
use Rattle.basis_enum.proofs.OrderLemmas.{is_tie, dedup_ascends, dedup_keeps}
use Rattle.basis_enum.specs.declared.found_pivots.FoundPivot.{FoundPivot}
use Rattle.basis_enum.specs.Next.{target_of, order_of, rank_of, no_found_pivot, AreSmall, IsNextOf}

-- numbers of two digits have the order of pairs
digits_ranked : (a b c d m n : ℕ) (r s : Ordering) → MatchOrdering r (a < c) (a ≡ c) (c < a) → MatchOrdering s (b < d) (b ≡ d) (d < b) → b < 2 ^ 32 → d < 2 ^ 32 → m ≡ a * 2 ^ 32 + b → n ≡ c * 2 ^ 32 + d → MatchOrdering (ordering_then r s) (m < n) (m ≡ n) (n < m)
digits_ranked a b c d m n Less s h k small below first second = omega arith
digits_ranked a b c d m n Greater s h k small below first second = omega arith
digits_ranked a b c d m n Equal Less h k small below first second = omega arith
digits_ranked a b c d m n Equal Equal h k small below first second = omega arith
digits_ranked a b c d m n Equal Greater h k small below first second = omega arith

-- the order of two pivots' keys is that of their ranks
pub keys_ranked : (k l : ℕ × ℕ × ℕ) (p q : FoundPivot) → k ≡ (p.target, p.parent, p.entering) → l ≡ (q.target, q.parent, q.entering) → k.1 < 2 ^ 32 → k.2 < 2 ^ 32 → l.1 < 2 ^ 32 → l.2 < 2 ^ 32 → ordering_then (ordering_then (nat_cmp k.0 l.0) (nat_cmp k.1 l.1)) (nat_cmp k.2 l.2) ≡ nat_cmp (rank_of p) (rank_of q)
keys_ranked k l p q e f a b c d =
    nat_cmp_is (rank_of p) (rank_of q) _
    (digits_ranked (k.0 * 2 ^ 32 + k.1) k.2 (l.0 * 2 ^ 32 + l.1) l.2 (rank_of p) (rank_of q) _ _
    (digits_ranked k.0 k.1 l.0 l.1 _ _ _ _ (ranks k.0 l.0) (ranks k.1 l.1) a c refl refl)
    (ranks k.2 l.2) b d (rank_is k p e) (rank_is l q f))
  where
    rank_is : (k : ℕ × ℕ × ℕ) (p : FoundPivot) → k ≡ (p.target, p.parent, p.entering) → rank_of p ≡ (k.0 * 2 ^ 32 + k.1) * 2 ^ 32 + k.2
    rank_is k p e = omega (arith, ap (λ x. x.0) e, ap (λ x. x.1) e, ap (λ x. x.2) e)

small_at : (found : List FoundPivot) (i : ℕ) → AreSmall found → i < length found → ((get_or found i no_found_pivot).parent < 2 ^ 32) × ((get_or found i no_found_pivot).entering < 2 ^ 32)
small_at found i s h = s (get_or found i no_found_pivot) (Contains-get_or found i no_found_pivot h)

-- sorted by their ranks they are sorted by the bases to which they lead
by_target : (sorted : List FoundPivot) → IsNonDecreasingBy rank_of sorted → AreSmall sorted → IsNonDecreasingBy target_of sorted
by_target sorted ranked small = IsNonDecreasingBy-from_default target_of sorted no_found_pivot (λ k i l h.
    let r : rank_of (get_or sorted k no_found_pivot) ≤ rank_of (get_or sorted i no_found_pivot) = ranked k i no_found_pivot l h in
    let a = small_at sorted i small h in
    let b : (get_or sorted i no_found_pivot).parent < 2 ^ 32 = a.0 in
    let c : (get_or sorted i no_found_pivot).entering < 2 ^ 32 = a.1 in
    omega arith)

small_sorted : (found sorted : List FoundPivot) → IsPermutation found sorted → AreSmall found → AreSmall sorted
small_sorted found sorted p s m c = s m (Contains-permutation sorted found m (IsPermutation-sym found sorted p) c)

pub next_of : (found sorted next : List FoundPivot) → IsPermutation found sorted → IsNonDecreasingBy rank_of sorted → AreSmall found → next ≡ dedup (is_tie target_of) sorted → IsNextOf found next
next_of found sorted next moved ranked small e = record {
  each = λ m c. Contains-permutation sorted found m (IsPermutation-sym found sorted moved) (Contains-from_dedup (is_tie target_of) sorted m (subst (λ xs. Contains xs m) e c));
  ascending = λ k h. (let l : k + 1 < length next = subst (λ n. k + 1 < n) (length-map next target_of) h in subst₂ (λ a b. a < b) (sym (get_or-map target_of next k no_found_pivot)) (sym (get_or-map target_of next (k + 1) no_found_pivot)) (rising k (k + 1) no_found_pivot (omega arith) l));
  all = λ m c. (let k = dedup_keeps target_of rank_of sorted m ranked (Contains-permutation found sorted m moved c) in (k.0, subst (λ xs. Contains xs k.0) (sym e) k.1, k.2, early k.0 m k.2 k.3));
}
  where
    rising : AllPairs (λ a b. target_of a < target_of b) next
    rising = subst (AllPairs (λ a b. target_of a < target_of b)) (sym e) (dedup_ascends target_of sorted (by_target sorted ranked (small_sorted found sorted moved small)))

    early : (k m : FoundPivot) → k.target ≡ m.target → rank_of k ≤ rank_of m → order_of k ≤ order_of m
    early k m same le = omega arith
