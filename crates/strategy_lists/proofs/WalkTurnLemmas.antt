-- The loop over the ends of the walk, and what it has seen at the end.
use Rattle.std.proofs.Common.{ℕ, ◌+◌, ◌<◌, ◌≡◌, Option, Some, None, List, [], ◌∷◌, ◌++◌, length, map, All, min, false, sym, ap, ◌∙◌, subst, subst₂, arith, append_assoc}
use Rattle.std.specs.Prelude.{MatchOption}
use Rattle.std.specs.List.Sorted.{IsPermutation, IsSorted}
use Rattle.std.specs.Ordering.{nat_cmp, is_lt}
use Rattle.std.specs.Cmp.Lexicographic.{slice_cmp}
use Rattle.std.proofs.lemmas.List.{append-nil, map-append, get_or-map, length-map}
use Rattle.std.proofs.lemmas.List.Sorted.{IsPermutation-map, All-permutation, Contains-permutation, length_permutation}
use Rattle.lists.specs.Orders.{AreAscending}
use Rattle.strategy_lists.specs.declared.decision.Decision.{Decision}
use Rattle.strategy_lists.specs.declared.walk.Walk.{Walk}
use Rattle.strategy_lists.specs.Reduced.{AreLinked, IsReducedBy, AreReducedBy}
use Rattle.strategy_lists.specs.Ends.{IsAt, ComesTo, later_ends, ends_from}
use Rattle.strategy_lists.proofs.EndListLemmas.{all_ends, all_ends-sound, all_ends-complete, all_ends-differ}
use Rattle.strategy_lists.proofs.AscendingOrderLemmas.{ascending_order, ascending_from_sort, AllPairs-permutation}
use Rattle.strategy_lists.proofs.WalkStepLemmas.{ends_from-end}

-- ---- one turn: forward to an end, and back
-- the ends that are left where the walk goes on with a decision
abbrev pub left : Walk → Option ℕ → List (List ℕ)
left walk None = []
left walk (Some n) = ends_from walk n

-- the walk is before that decision
abbrev pub IsAtNext : Walk → Option ℕ → Type 0
IsAtNext walk None = Unit {0}
IsAtNext walk (Some n) = IsAt walk n

-- a turn from decision n to the next one to go on with: one end is seen
pub record IsTurn (start : Walk) (n : ℕ) (choices : List ℕ) (next : Walk) (from : Option ℕ) : Type 0 where
  pub next_at : IsAtNext next from
  pub ends : ends_from start n ≡ choices ∷ left next from

-- a walk that goes forward to the end has its choices as the next end
pub end_there : (start there : Walk) (n : ℕ) → ComesTo start n there (length start.decisions.now) → ends_from start n ≡ there.choices.items ∷ later_ends there
end_there start there n c = sym c.ends ∙ ap (λ v. ends_from there (length v.now)) (sym c.same.decisions) ∙ ends_from-end there

-- forward and back is a turn
pub IsTurn-made : (start there next : Walk) (n : ℕ) (from : Option ℕ) → ComesTo start n there (length start.decisions.now) → MatchOption from (later_ends there ≡ []) (λ m. IsAt next m × (ends_from next m ≡ later_ends there)) → IsTurn start n there.choices.items next from
IsTurn-made start there next n None c h = record { next_at = tt; ends = end_there start there n c ∙ ap (λ v. there.choices.items ∷ v) h }
IsTurn-made start there next n (Some m) c h = record { next_at = h.0; ends = end_there start there n c ∙ ap (λ v. there.choices.items ∷ v) (sym h.1) }

-- ---- all turns
-- all ends have one length
all_ends-long : (decisions : List Decision) (actions : List ℕ) → AreLinked decisions actions → All (λ x. length x ≡ length actions) (all_ends decisions actions)
all_ends-long decisions actions w k d l = (all_ends-sound decisions actions w k d l).one_for_each

-- an ascending order of the ends has all reduced strategies
walks_in_order : (decisions : List Decision) (actions : List ℕ) (lists : List (List ℕ)) → AreLinked decisions actions → IsPermutation (all_ends decisions actions) lists → AreAscending lists → AreReducedBy decisions actions lists
walks_in_order decisions actions lists w p a =
    record {
      ascending = a;
      sound = All-permutation (IsReducedBy decisions actions) (all_ends decisions actions) lists p (all_ends-sound decisions actions w);
      complete = λ choices is. Contains-permutation (all_ends decisions actions) lists choices p (all_ends-complete decisions actions choices w is);
    }

-- the reduced strategies are as many as the ends
walks_of_ends : (decisions : List Decision) (actions : List ℕ) → AreLinked decisions actions → (lists : List (List ℕ)) × AreReducedBy decisions actions lists × (length lists ≡ length (all_ends decisions actions))
walks_of_ends decisions actions w =
    let order = ascending_order (length actions) (all_ends decisions actions) (all_ends-long decisions actions w) (all_ends-differ decisions actions w) in
    (order.0, walks_in_order decisions actions order.0 w order.2 order.1, length_permutation (all_ends decisions actions) order.0 order.2)

-- the ends in the order of a sort are the reduced strategies
walks_from_sort : (decisions : List Decision) (actions : List ℕ) (lists : List (List ℕ)) → AreLinked decisions actions → IsPermutation (all_ends decisions actions) lists → IsSorted (slice_cmp nat_cmp) lists → AreReducedBy decisions actions lists
walks_from_sort decisions actions lists w p s =
    walks_in_order decisions actions lists w p
    (ascending_from_sort (length actions) lists (All-permutation (λ x. length x ≡ length actions) (all_ends decisions actions) lists p (all_ends-long decisions actions w)) (AllPairs-permutation (all_ends decisions actions) lists p (all_ends-differ decisions actions w)) s)

-- a count of the ends up to a limit is one of the reduced strategies
pub walks_counted : (decisions : List Decision) (actions : List ℕ) (count limit : ℕ) → AreLinked decisions actions → count ≡ min (length (all_ends decisions actions)) limit → (lists : List (List ℕ)) × AreReducedBy decisions actions lists × (count ≡ min (length lists) limit)
walks_counted decisions actions count limit w e =
    let found = walks_of_ends decisions actions w in
    (found.0, found.1, e ∙ ap (λ v. min v limit) (sym found.2))

-- ---- the lists that are kept
-- one more list is kept
pub kept-more : {X : Type 0} (items : X → List ℕ) (whole : List (List ℕ)) (lists more : List X) (v : X) (x : List ℕ) (rest : List (List ℕ)) → whole ≡ map items lists ++ x ∷ rest → more ≡ lists ++ v ∷ [] → items v ≡ x → whole ≡ map items more ++ rest
kept-more items whole lists more v x rest e m same =
    e ∙ ap (λ w. map items lists ++ w ∷ rest) (sym same) ∙ sym (append_assoc (map items lists) (items v ∷ []) rest) ∙ ap (λ w. w ++ rest) (sym (ap (map items) m ∙ map-append items lists (v ∷ [])))

-- a sort of things by their lists sorts these
sorted-map : {X : Type 0} (items : X → List ℕ) (xs : List X) → IsSorted (λ a b. slice_cmp nat_cmp (items a) (items b)) xs → IsSorted (slice_cmp nat_cmp) (map items xs)
sorted-map items [] h = λ k d low l. absurd (omega arith)
sorted-map items (x ∷ xs) h = λ k d low l.
    let within : k + 1 < length (x ∷ xs) = omega (arith, length-map (x ∷ xs) items) in
    subst₂ (λ a b. is_lt (slice_cmp nat_cmp a b) ≡ false) (sym (get_or-map items (x ∷ xs) (k + 1) x d within)) (sym (get_or-map items (x ∷ xs) k x d (omega arith))) (h k x low within)

-- all ends, kept and sorted, are the reduced strategies
pub walks_kept : {X : Type 0} (items : X → List ℕ) (decisions : List Decision) (actions : List ℕ) (lists sorted : List X) → AreLinked decisions actions → all_ends decisions actions ≡ map items lists ++ [] → IsPermutation lists sorted → IsSorted (λ a b. slice_cmp nat_cmp (items a) (items b)) sorted
    → AreReducedBy decisions actions (map items sorted)
walks_kept items decisions actions lists sorted w e p s =
    let whole : map items lists ≡ all_ends decisions actions = sym (append-nil (map items lists)) ∙ sym e in
    walks_from_sort decisions actions (map items sorted) w (subst (λ v. IsPermutation v (map items sorted)) whole (IsPermutation-map items lists sorted p)) (sorted-map items sorted s)
