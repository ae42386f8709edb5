-- Strategies that a sort by completed lists puts in order.
use Rattle.std.proofs.Common.{ℕ, ◌-◌, ◌<◌, ◌≡◌, List, [], ◌∷◌, length, map, get_or, All, Contains, is_lt, sym, ap, ◌∙◌, subst, subst₂, arith}
use Rattle.std.specs.List.{AllPairs, range_with_len}
use Rattle.std.specs.List.Sorted.{IsPermutation, IsSorted}
use Rattle.std.specs.Ordering.{nat_cmp}
use Rattle.std.specs.Cmp.Lexicographic.{slice_cmp}
use Rattle.std.proofs.lemmas.Cmp.{nat_list_cmp_total}
use Rattle.std.proofs.lemmas.List.{length-map, map-id, get_or-map}
use Rattle.std.proofs.lemmas.List.Elements.{Contains-get_or}
use Rattle.std.proofs.lemmas.List.FromFn.{length-range_with_len, get_or-range_with_len, length-map-range_with_len, get_or-map-range_with_len}
use Rattle.std.proofs.lemmas.List.Sorted.{IsPermutation-map, All-permutation, Contains-permutation, length_permutation, ranks_by, sorted_far}
use Rattle.std.proofs.lemmas.Simd.{map-map}
use Rattle.lists.specs.Orders.{ComesBefore}
use Rattle.strategy_lists.proofs.AscendingOrderLemmas.{AllPairs-permutation, before_from_cmp}
use Rattle.strategy_lists.proofs.EndListLemmas.{Differ}
use Rattle.enumpure_trees.specs.Orders.{completed_list, completed_of}
use Rattle.enumpure_trees.specs.StrategyOrders.{AreToldApart, first_numbered, IsSortedOrder}

-- the list at a place, completed, is as long as all
length-completed : (list : List ℕ) → length (completed_list list) ≡ length list
length-completed list = length-map list (λ c. c - 1)

-- Things with a number and a list each: first those of the strategies in order, and then sorted by completed lists.
module _ {X : Type 0} (number : X → ℕ) (list : X → List ℕ) (strategies : List (List ℕ)) (first sorted : List X) (told : AreToldApart strategies) (are : map (λ x. (number x, list x)) first ≡ first_numbered strategies (length strategies)) (same : IsPermutation first sorted) (ascend : IsSorted (λ a b. slice_cmp nat_cmp (completed_list (list a)) (completed_list (list b))) sorted) where
  -- there are as many things as strategies
  length-first : length first ≡ length strategies
  length-first = sym (length-map first (λ x. (number x, list x))) ∙ ap length are ∙ length-map-range_with_len (λ d. (d, get_or strategies d [])) 0 (length strategies)

  length-sorted : length sorted ≡ length strategies
  length-sorted = length_permutation first sorted same ∙ length-first

  -- what stands at a place at first
  first-at : (d : ℕ) (x : X) → d < length first → ◌≡◌ {A = ℕ × List ℕ} (number (get_or first d x), list (get_or first d x)) (d, get_or strategies d [])
  first-at d x l =
      sym (get_or-map (λ x. (number x, list x)) first d x (0, []) l) ∙ ap (λ v. get_or v d (0, [])) are ∙ get_or-map-range_with_len (λ d. (d, get_or strategies d [])) 0 (length strategies) d d (0, []) (omega (arith, length-first)) (omega arith)

  -- the numbers at first are those of the strategies in order
  numbers-first : map number first ≡ range_with_len 0 (length strategies)
  numbers-first =
      sym (map-map (λ p. p.0) (λ x. (number x, list x)) first) ∙ ap (map (λ p. p.0)) are ∙ map-map (λ p. p.0) (λ d. (d, get_or strategies d [])) (range_with_len 0 (length strategies)) ∙ map-id (range_with_len 0 (length strategies))

  -- and the completed lists are those of the strategies in order
  completed-first : map (λ x. completed_list (list x)) first ≡ map (completed_of strategies) (range_with_len 0 (length strategies))
  completed-first =
      sym (map-map (λ p. completed_list p.1) (λ x. (number x, list x)) first) ∙ ap (map (λ p. completed_list p.1)) are ∙ map-map (λ p. completed_list p.1) (λ d. (d, get_or strategies d [])) (range_with_len 0 (length strategies))

  -- the sort keeps the numbers
  numbers-same : IsPermutation (range_with_len 0 (length strategies)) (map number sorted)
  numbers-same = subst (λ v. IsPermutation v (map number sorted)) numbers-first (IsPermutation-map number first sorted same)

  -- each thing has the list of the strategy with its number
  has-list : All (λ x. (number x < length strategies) × (list x ≡ get_or strategies (number x) [])) sorted
  has-list = All-permutation (λ x. (number x < length strategies) × (list x ≡ get_or strategies (number x) [])) first sorted same (λ d x l. let at = first-at d x l in (omega (arith, ap (λ p. p.0) at, length-first), ap (λ p. p.1) at ∙ ap (λ k. get_or strategies k []) (sym (ap (λ p. p.0) at))))

  -- the completed lists of the strategies differ
  told-differ : AllPairs Differ (map (completed_of strategies) (range_with_len 0 (length strategies)))
  told-differ d e x l h =
      let within : e < length strategies = omega (arith, length-map-range_with_len (completed_of strategies) 0 (length strategies)) in
      let one = get_or-map-range_with_len (completed_of strategies) 0 (length strategies) d d x (omega arith) (omega arith) in
      let other = get_or-map-range_with_len (completed_of strategies) 0 (length strategies) e e x within (omega arith) in
      λ q. let k : d ≡ e = told.tell d e (omega arith) within (sym one ∙ q ∙ other) in omega arith

  -- so do those of the sorted things
  sorted-differ : AllPairs Differ (map (λ x. completed_list (list x)) sorted)
  sorted-differ =
      AllPairs-permutation (map (λ x. completed_list (list x)) first) (map (λ x. completed_list (list x)) sorted) (IsPermutation-map (λ x. completed_list (list x)) first sorted same) (subst (AllPairs Differ) (sym completed-first) told-differ)

  -- the completed list of a thing is that of the strategy with its number
  completed-at : (d : ℕ) (x : X) → d < length sorted → completed_list (list (get_or sorted d x)) ≡ completed_of strategies (get_or (map number sorted) d 0)
  completed-at d x l =
      ap completed_list (has-list d x l).1 ∙ ap (completed_of strategies) (sym (get_or-map number sorted d x 0 l))

  -- all completed lists have one length
  long-at : (d : ℕ) (x : X) → d < length sorted → length (completed_list (list (get_or sorted d x))) ≡ told.long
  long-at d x l = length-completed (list (get_or sorted d x)) ∙ ap length (has-list d x l).1 ∙ told.are_long (number (get_or sorted d x)) (has-list d x l).0

  -- an earlier thing has the list that comes before
  sorted-before : (d e : ℕ) (x : X) → d < e → e < length sorted → ComesBefore (completed_list (list (get_or sorted d x))) (completed_list (list (get_or sorted e x)))
  sorted-before d e x l h =
      let differ = sorted-differ d e [] l (omega (arith, length-map sorted (λ x. completed_list (list x)))) in
      let one = get_or-map (λ x. completed_list (list x)) sorted d x [] (omega arith) in
      let other = get_or-map (λ x. completed_list (list x)) sorted e x [] h in
      before_from_cmp (completed_list (list (get_or sorted d x))) (completed_list (list (get_or sorted e x))) (long-at d x (omega arith) ∙ sym (long-at e x h)) (λ q. differ (one ∙ q ∙ sym other))
      (sorted_far (λ a b. is_lt (slice_cmp nat_cmp (completed_list (list a)) (completed_list (list b)))) (ranks_by nat_list_cmp_total (λ x. completed_list (list x))) sorted ascend d e x (omega arith) h)

  -- so have the numbers
  numbers-before : (x : X) (d e : ℕ) → d < e → e < length (map number sorted) → ComesBefore (completed_of strategies (get_or (map number sorted) d 0)) (completed_of strategies (get_or (map number sorted) e 0))
  numbers-before x d e l h =
      let within : e < length sorted = omega (arith, length-map sorted number) in
      subst₂ (λ v w. ComesBefore v w) (completed-at d x (omega arith)) (completed-at e x within) (sorted-before d e x l within)

  -- some thing
  some-thing : (e : ℕ) (xs : List X) → e < length xs → X
  some-thing e [] h = absurd (omega arith)
  some-thing e (x ∷ xs) h = x

  -- the sorted numbers are the order
  pub IsSortedOrder-sorted : IsSortedOrder strategies (map number sorted)
  IsSortedOrder-sorted = record {
    is_order = record {
      one_for_each = length-map sorted number ∙ length-sorted;
      are_numbers = All-permutation (λ k. k < length strategies) (range_with_len 0 (length strategies)) (map number sorted) numbers-same (λ k d l. let within : k < length strategies = omega (arith, length-range_with_len 0 (length strategies)) in omega (arith, get_or-range_with_len 0 (length strategies) k d within));
      all = λ k l. Contains-permutation (range_with_len 0 (length strategies)) (map number sorted) k numbers-same (subst (Contains (range_with_len 0 (length strategies))) (get_or-range_with_len 0 (length strategies) k 0 l ∙ omega arith) (Contains-get_or (range_with_len 0 (length strategies)) k 0 (omega (arith, length-range_with_len 0 (length strategies)))));
      ascending = λ d e l h. numbers-before (some-thing e sorted (omega (arith, length-map sorted number))) d e l h;
    };
    is_permutation = numbers-same;
  }
