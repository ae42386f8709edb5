-- Pieces that were claimed, put together and put in order.
use Rattle.std.proofs.Common.{◌≡◌, ◌<◌, ◌≤◌, ◌+◌, ◌-◌, ◌*◌, ◌/◌, ◌^◌, ◌∙◌, ◌==◌, ℕ, zero, suc, true, false, List, [], ◌∷◌, ◌++◌, length, length-append, arith, refl, sym, ap, ap₂, cond, nat_lt, get_or, map, inl, inr, ⊎_elim, subst}
use Rattle.std.specs.Prelude.{filter, All, OnOk}
use Rattle.std.specs.declared.result.Result.{Result}
use Rattle.std.specs.Fn.{FnReturns}
use Rattle.std.specs.Fork.{GivesEach}
use Rattle.std.specs.List.{enumerate_from}
use Rattle.std.specs.List.Sorted.{IsNonDecreasingBy, IsPermutation}
use Rattle.std.proofs.lemmas.List.{map-append, get_or-map, length-map, append-nil}
use Rattle.std.proofs.lemmas.List.Elements.{filter-append, All-append}
use Rattle.std.proofs.lemmas.List.FromFn.{length-enumerate_from, get_or-enumerate_from}
use Rattle.std.proofs.lemmas.List.Sorted.{sum_by-IsPermutation, IsPermutation-map, All-permutation, length_permutation}
use Rattle.std.proofs.lemmas.List.Sums.{length-filter, count_by-le-length}
use Rattle.std.proofs.lemmas.Bool.{cases_lt}
use Rattle.std.proofs.lemmas.Result.{on_ok_weaker}
use denote.Param.Members.{Shared}
use Rattle.atomic_table.specs.Seated.{TableId}
use Rattle.claims.specs.ClaimWord.{PassState, pass_state, times, one_below, HasEachBelow}
use Rattle.claims.specs.Pieces.{numbers, turn_limit, ArePiecesOf, AreDone, IsHelped}
use Rattle.claims.proofs.OccurrenceLemmas.{times-cons, times_above, some_fails, each_below_filter, length_of_each, times-first, one_below-none}

-- a number below the count is kept, and one that is not is dropped
keeps_below : (n count : ℕ) → n < count → filter (λ k. nat_lt k count) (n ∷ []) ≡ n ∷ []
keeps_below n count h = let e : nat_lt n count ≡ true = grind arith in rw e refl

drops_past : (n count : ℕ) → count ≤ n → filter (λ k. nat_lt k count) (n ∷ []) ≡ []
drops_past n count h = let e : nat_lt n count ≡ false = grind arith in rw e refl

pub few_claims : (workers count n : ℕ) → workers ≤ 64 → count < 2 ^ 32 → n ≤ workers * (count + 1) → n < 2 ^ 64
few_claims workers count n w c few = let m : workers * (count + 1) ≤ 64 * (2 ^ 32 + 1) = grind arith in omega (arith, few, m)

few_sum : (n m a b c : ℕ) → a ≤ n * c → b ≤ m * c → a + b ≤ (n + m) * c
few_sum n m a b c x y = grind arith

-- what two groups of workers claim, one of them a half
pub few_joined : (workers count : ℕ) (xs ys both : List ℕ) → both ≡ xs ++ ys → length xs ≤ (workers - workers / 2) * (count + 1) → length ys ≤ workers / 2 * (count + 1) → length both ≤ workers * (count + 1)
few_joined workers count xs ys both joined a b =
    let s = few_sum (workers - workers / 2) (workers / 2) (length xs) (length ys) (count + 1) a b in
    let all : workers - workers / 2 + workers / 2 ≡ workers = omega arith in
    let l = length-append xs ys in
    let t : length xs + length ys ≤ workers * (count + 1) = rw all at s in
    rw joined (omega (arith, l, t))

at_least : (x n m t : ℕ) → nat_lt x n ≡ false → 0 < t → t ≡ one_below m x → n < m
at_least x n m t fails some e = grind arith

module _ {F T : Type 0} (g : Shared F (ℕ × Unit {0}) T) (f : F) (count : ℕ) where
  pub ArePiecesOf-append : (xs ys : List ℕ) (ps qs : List (ℕ × T)) → ArePiecesOf g f count xs ps → ArePiecesOf g f count ys qs → ArePiecesOf g f count (xs ++ ys) (ps ++ qs)
  ArePiecesOf-append xs ys ps qs a b = record {
    numbers = map-append (λ p. p.0) ps qs ∙ ap₂ ◌++◌ a.numbers b.numbers ∙ sym (filter-append (λ k. nat_lt k count) xs ys);
    values = All-append (λ p. FnReturns g f (p.0, tt) p.1) ps qs a.values b.values;
  }

  -- one more piece
  pub ArePiecesOf-push : (xs : List ℕ) (ps : List (ℕ × T)) (n : ℕ) (v : T) → n < count → g.post f (n, tt) v → ArePiecesOf g f count xs ps → ArePiecesOf g f count (xs ++ n ∷ []) (ps ++ (n, v) ∷ [])
  ArePiecesOf-push xs ps n v less gives a = ArePiecesOf-append xs (n ∷ []) ps ((n, v) ∷ []) a (record {
    numbers = sym (keeps_below n count less);
    values = λ k d l. elim k as (λ (j : ℕ). j < 1 → FnReturns g f ((get_or ((n, v) ∷ []) j d).0, tt) (get_or ((n, v) ∷ []) j d).1) [
      | zero ↦ λ _. record { met = gives }
      | suc j ↦ λ h. absurd (omega (arith, h))
    ] l;
  })

  -- a claim that is no piece
  pub ArePiecesOf-past : (xs : List ℕ) (ps : List (ℕ × T)) (n : ℕ) → count ≤ n → ArePiecesOf g f count xs ps → ArePiecesOf g f count (xs ++ n ∷ []) ps
  ArePiecesOf-past xs ps n past a = record {
    numbers = a.numbers ∙ sym (filter-append (λ k. nat_lt k count) xs (n ∷ []) ∙ ap (λ l. filter (λ k. nat_lt k count) xs ++ l) (drops_past n count past) ∙ append-nil (filter (λ k. nat_lt k count) xs));
    values = a.values;
  }

  -- no more pieces than claims
  pub ArePiecesOf-fewer : (xs : List ℕ) (ps : List (ℕ × T)) → ArePiecesOf g f count xs ps → length ps ≤ length xs
  ArePiecesOf-fewer xs ps a =
      let n = length-map ps (λ (p : ℕ × T). p.0) in
      let e = ap (λ (l : List ℕ). length l) a.numbers in
      let l = length-filter (λ k. nat_lt k count) xs in
      let b = count_by-le-length (λ k. nat_lt k count) xs in
      omega (arith, n, e, l, b)

  pub AreDone-append : (xs ys : List ℕ) (ps qs : List (ℕ × T)) → AreDone g f count xs ps → AreDone g f count ys qs → AreDone g f count (xs ++ ys) (ps ++ qs)
  AreDone-append xs ys ps qs a b =
      let l = length-append xs ys in
      let k = length-append ps qs in
      let fewer = ArePiecesOf-fewer ys qs b.are_of in
      record {
        are_of = ArePiecesOf-append xs ys ps qs a.are_of b.are_of;
        past = ⊎_elim (λ h. inl (omega (arith, h, l))) (λ h. inr (omega (arith, h, l, k, fewer))) a.past;
      }

  -- what two workers did, where both did all
  pub both_done : {A B E : Type 0} (xs ys both : List ℕ) (ps qs : List (ℕ × T)) (r : Result A E) (s : Result B E) → both ≡ xs ++ ys → OnOk r (AreDone g f count xs ps) → OnOk s (AreDone g f count ys qs) → OnOk r (OnOk s (AreDone g f count both (ps ++ qs)))
  both_done xs ys both ps qs r s joined first second =
      let done : AreDone g f count xs ps → AreDone g f count ys qs → AreDone g f count both (ps ++ qs) = λ a b. rw joined (AreDone-append xs ys ps qs a b) in
      on_ok_weaker r (λ a. on_ok_weaker s (done a) second) first

  pub ArePiecesOf-each : (xs : List ℕ) (ps : List (ℕ × T)) → count < length xs → HasEachBelow (length xs) xs → ArePiecesOf g f count xs ps → HasEachBelow count (numbers ps)
  ArePiecesOf-each xs ps past each a = rw a.numbers (each_below_filter count (length xs) xs (omega (arith, past)) each)

  -- where each number was claimed once and nothing is left to claim, more than the count was claimed
  pub AreDone-past : (xs : List ℕ) (ps : List (ℕ × T)) → HasEachBelow (length xs) xs → AreDone g f count xs ps → count < length xs
  AreDone-past xs ps each done = ⊎_elim (λ h. h) (λ fewer.
      let n = length-map ps (λ (p : ℕ × T). p.0) in
      let e = ap (λ (l : List ℕ). length l) done.are_of.numbers in
      let some = some_fails (λ k. nat_lt k count) xs (omega (arith, n, e, fewer)) in
      at_least some.0 count (length xs) (times some.0 xs) some.1 some.2 (each some.0)) done.past

  -- what the pass with all the parts has when nothing is left to claim
  pub AreDone-all : (xs : List ℕ) (ps : List (ℕ × T)) → HasEachBelow (length xs) xs → AreDone g f count xs ps → (count < length xs) × HasEachBelow count (numbers ps) × (length ps ≡ count)
  AreDone-all xs ps each done =
      let past = AreDone-past xs ps each done in
      let numbered = ArePiecesOf-each xs ps past each done.are_of in
      let l = length_of_each count (numbers ps) numbered in
      let k = length-map ps (λ (p : ℕ × T). p.0) in
      (past, numbered, omega (arith, l, k))

  -- the values in order are what f gives at each number
  pub gives_each : (ps : List (ℕ × T)) (vs : List T) → length ps ≡ count → All (λ p. FnReturns g f (p.0, tt) p.1) ps → IsPermutation ps (enumerate_from 0 vs)
      → (length vs ≡ count) × GivesEach g f count vs
  gives_each ps vs len all perm =
      let P : ℕ × T → Type 0 = λ p. FnReturns g f (p.0, tt) p.1 in
      let n = length_permutation ps (enumerate_from 0 vs) perm in
      let m = length-enumerate_from 0 vs in (
        omega (arith, n, m, len),
        λ i d less.
            let here = All-permutation P ps (enumerate_from 0 vs) perm all i (0, d) (omega (arith, n, len, less)) in
            let e : get_or (enumerate_from 0 vs) i (0, d) ≡ (i, get_or vs i d) = get_or-enumerate_from 0 vs i (0, d) (omega (arith, n, m, len, less)) ∙ ap (λ (k : ℕ). (k, get_or vs i d)) (omega arith) in
            (refl, subst P e here),
      )

not_before : (from n m t : ℕ) → 0 < t → t + one_below from n ≡ one_below m n → from ≤ n
not_before from n m t some e = grind arith

stands_once : (from m t : ℕ) → from < m → t + one_below from from ≡ one_below m from → t ≡ 1
stands_once from m t less e = grind arith

rest_of : (from x m t : ℕ) → cond (from == x) 1 0 + t + one_below from x ≡ one_below m x → t + one_below (from + 1) x ≡ one_below m x
rest_of from x m t e = grind arith

first_is : (from n m : ℕ) (ns : List ℕ) → from < m → ((j : ℕ) → j < length ns → n ≤ get_or ns j 0) → ((x : ℕ) → times x (n ∷ ns) + one_below from x ≡ one_below m x) → n ≡ from
first_is from n m ns less least each =
    let low : from ≤ n = not_before from n m (times n (n ∷ ns)) (times-first n ns) (each n) in
    let once = stands_once from m (times from (n ∷ ns)) less (each from) in
    ⊎_elim (λ (late : from < n). absurd (
    let none = times_above from (n ∷ ns) (λ j l. elim j as (λ (i : ℕ). i < length (n ∷ ns) → from < get_or (n ∷ ns) i 0) [
      | zero ↦ λ _. late
      | suc i ↦ λ h. let k = least i (omega (arith, h)) in omega (arith, k, late)
    ] l) in omega (arith, once, none)))
    (λ (early : n ≤ from). omega (arith, low, early)) (cases_lt from n)

-- ascending pieces, whose numbers are each once those from `from` on, stand at the places of their numbers
pub ascending : {T : Type 0} (from : ℕ) (ps : List (ℕ × T)) → IsNonDecreasingBy (λ p. p.0) ps → ((x : ℕ) → times x (numbers ps) + one_below from x ≡ one_below (from + length ps) x)
    → enumerate_from from (map (λ p. p.1) ps) ≡ ps
ascending {T} from [] rises each = refl
ascending {T} from (p ∷ ps) rises each =
    let first : p.0 ≡ from = first_is from p.0 (from + suc (length ps)) (numbers ps) (omega arith)
    (λ j l. let k = length-map ps (λ (q : ℕ × T). q.0) in
    let in_ps : j < length ps = omega (arith, k, l) in
    rw (get_or-map (λ (q : ℕ × T). q.0) ps j p 0) (rises 0 (suc j) p (omega arith) (omega (arith, in_ps)))) each in
    ap₂ ◌∷◌ (ap (λ (k : ℕ). (k, p.1)) (sym first)) (ascending (from + 1) ps (λ i j d le l. rises (suc i) (suc j) d (omega (arith, le)) (omega (arith, l)))
    (λ x.
    let c : times x (numbers (p ∷ ps)) ≡ cond (from == x) 1 0 + times x (numbers ps) = times-cons x p.0 (numbers ps) ∙ ap (λ k. cond (k == x) 1 0 + times x (numbers ps)) first in
    let e : from + suc (length ps) ≡ from + 1 + length ps = omega arith in
    let r = rest_of from x (from + suc (length ps)) (times x (numbers ps)) (ap (λ t. t + one_below from x) (sym c) ∙ each x) in
    r ∙ ap (λ m. one_below m x) e))

-- pieces sorted by their numbers stand at the places of their numbers
pub sorted_in_order : {T : Type 0} (n : ℕ) (ps sorted : List (ℕ × T)) → n ≡ length ps → HasEachBelow n (numbers ps) → IsPermutation ps sorted → IsNonDecreasingBy (λ p. p.0) sorted
    → enumerate_from 0 (map (λ p. p.1) sorted) ≡ sorted
sorted_in_order {T} n ps sorted len each perm rises =
    let l = length_permutation ps sorted perm in
    let m : n ≡ 0 + length sorted = omega (arith, l, len) in
    ascending 0 sorted rises (λ x.
    let same : times x (numbers sorted) ≡ times x (numbers ps) = sum_by-IsPermutation (λ y. cond (y == x) 1 0) (numbers ps) (numbers sorted) (IsPermutation-map (λ p. p.0) ps sorted perm) in
    let none = one_below-none x in
    let e : times x (numbers sorted) ≡ one_below (0 + length sorted) x = same ∙ each x ∙ ap (λ k. one_below k x) m in
    omega (arith, e, none))

-- the claims of one turn are few
pub few_alone : (count own before after parts : ℕ) → 1 ≤ parts → own ≤ turn_limit count → after ≤ before + own → after + 1 * turn_limit count ≤ before + 2 * parts * turn_limit count
few_alone count own before after parts some few is = let p : 1 * turn_limit count ≤ parts * turn_limit count = grind arith in omega (arith, few, is, p)

taken_twice : (p q c : ℕ) → p * c + q * c ≡ (p + q) * c
taken_twice p q c = grind arith

-- the turns of two groups of workers, each with its parts
few_halved : (count parts theirs : ℕ) (olds xs ys both : List ℕ) → theirs ≤ parts → both ≡ xs ++ ys → length xs + 1 * turn_limit count ≤ length olds + 2 * (parts - theirs) * turn_limit count → length ys + 1 * turn_limit count ≤ 0 + 2 * theirs * turn_limit count
    → length both + 2 * turn_limit count ≤ length olds + 2 * parts * turn_limit count
few_halved count parts theirs olds xs ys both within joined a b =
    let l : length both ≡ length xs + length ys = rw joined (length-append xs ys) in
    let all : 2 * (parts - theirs) * turn_limit count + 2 * theirs * turn_limit count ≡ 2 * parts * turn_limit count = taken_twice (2 * (parts - theirs)) (2 * theirs) (turn_limit count) ∙ ap (λ k. k * turn_limit count) (let e : 2 * (parts - theirs) + 2 * theirs ≡ 2 * parts = omega arith in e) in
    omega (arith, l, a, b, all)

-- the turns are fewer than twice 64
few_helped : (count n : ℕ) → n + 1 * turn_limit count ≤ 0 + 2 * 64 * turn_limit count → n ≤ 127 * turn_limit count
few_helped count n few = omega (arith, few)

pub helped_below : (count n : ℕ) → count < 2 ^ 32 → n ≤ 127 * turn_limit count → n < 2 ^ 64
helped_below count n c few = omega (arith, c, few)

-- what two workers with a half of the parts each claimed
pub halves_few : (count theirs : ℕ) (claims : TableId) (old mine other after after_other : PassState) (both : List ℕ) → theirs ≤ old.parts → mine ≡ pass_state claims (old.parts - theirs) old.claimed → other ≡ pass_state claims theirs []
    → IsHelped count 1 mine after → IsHelped count 1 other after_other → both ≡ after.claimed ++ after_other.claimed → length both + 2 * turn_limit count ≤ length old.claimed + 2 * old.parts * turn_limit count
halves_few count theirs claims old mine other after after_other both within kept given first second joined = few_halved count old.parts theirs old.claimed after.claimed after_other.claimed both within joined
    (subst (λ (s : PassState). length after.claimed + 1 * turn_limit count ≤ length s.claimed + 2 * s.parts * turn_limit count) kept first.few)
    (subst (λ (s : PassState). length after_other.claimed + 1 * turn_limit count ≤ length s.claimed + 2 * s.parts * turn_limit count) given second.few)

-- what the workers claimed by a pass with all parts that had claimed nothing
pub all_few : (count : ℕ) (claims : TableId) (old after : PassState) → old ≡ pass_state claims 64 [] → IsHelped count 1 old after → length after.claimed ≤ 127 * turn_limit count
all_few count claims old after new helped = few_helped count (length after.claimed) (subst (λ (s : PassState). length after.claimed + 1 * turn_limit count ≤ length s.claimed + 2 * s.parts * turn_limit count) new helped.few)
