-- Counting the ways from the last decision to the first, up to a limit.
use Rattle.std.proofs.Common.{ℕ, suc, ◌+◌, ◌*◌, ◌<◌, ◌≤◌, ◌^◌, ◌≡◌, inl, inr, Bool, true, false, ◌&&◌, Option, Some, None, List, [], ◌∷◌, length, map, min, get_or, set, replicate, drop, take, refl, sym, ap, ap₂, ◌∙◌, subst, arith, mul-le-mul, mul_comm, mul-one, mul-zero, zero-mul}
use Rattle.std.specs.Prelude.{◌==◌, if◌then◌else◌, slice_get, slice_index, slice_index_or}
use Rattle.std.specs.List.{range_with_len, sum, sum_by}
use Rattle.std.proofs.Math.ListN as lists
use Rattle.std.proofs.Math.Seq.{drop-length}
use Rattle.std.proofs.lemmas.Bool.{cases_eq, cases_lt, ne_eqb, eq-eqb}
use Rattle.std.proofs.lemmas.List.{get_or-set_same, get_or-set_other, length-map, length-replicate, get_or-map, get_or-replicate, map-set}
use Rattle.std.proofs.lemmas.List.Sums.{sum_by-cons, sum_by_more}
use Rattle.std.proofs.lemmas.Option.{get_or_from_slice_get, slice_get_within}
use Rattle.lists.proofs.ElementLemmas.{part-read}
use Rattle.strategy_lists.specs.declared.decision.Decision.{Decision}
use Rattle.strategy_lists.specs.declared.decision.Edge.{Edge}
use Rattle.strategy_lists.specs.Reduced.{ComesFrom, AreLinked}
use Rattle.strategy_lists.proofs.StepLemmas.{drop-first}

-- whether an edge is this action, counted from 1, of decision n
abbrev pub leads_from : ℕ → ℕ → Option Edge → Bool
leads_from n action None = false
leads_from n action (Some edge) = (edge.decision == n) && (action == suc edge.action)

-- the product of the decisions' numbers over those to which a passing edge leads
abbrev pub product_where : (Option Edge → Bool) → List Decision → List ℕ → ℕ
product_where passes [] numbers = 1
product_where passes (d ∷ ds) [] = 1
product_where passes (d ∷ ds) (n ∷ numbers) = if passes d.before then n * product_where passes ds numbers else product_where passes ds numbers

-- In how many ways the walk goes on from each of these decisions, which are numbered from n: for each action the product of the
-- ways of the decisions to which it leads, and these added.
abbrev pub ways_from : List ℕ → ℕ → List Decision → List ℕ
ways_from actions n [] = []
ways_from actions n (d ∷ ds) =
    sum_by (λ a. product_where (leads_from n a) ds (ways_from actions (suc n) ds)) (range_with_len 1 (slice_index actions d.place)) ∷ ways_from actions (suc n) ds

-- the product of the ways of the decisions from number n on to which a passing edge leads
abbrev pub ways_where : List Decision → List ℕ → ℕ → (Option Edge → Bool) → ℕ
ways_where decisions actions n passes = product_where passes (drop n decisions) (ways_from actions n (drop n decisions))

-- For each decision and each action of its set the product of the ways of the decisions from number n on to which the action leads,
-- up to a limit.
pub record AreAfter (decisions : List Decision) (actions : List ℕ) (n limit : ℕ) (lists : List (List ℕ)) : Type 0 where
  pub one_for_each : length lists ≡ length decisions
  pub rooms : (j : ℕ) (d : Decision) → slice_get decisions j ≡ Some d → length (slice_index_or lists j []) ≡ slice_index actions d.place
  pub products : (j a : ℕ) (d : Decision) → slice_get decisions j ≡ Some d → a < slice_index actions d.place
      → slice_index (slice_index_or lists j []) a ≡ min (ways_where decisions actions n (leads_from j (suc a))) limit

-- whether nothing comes before a decision
abbrev pub is_first : Option Edge → Bool
is_first None = true
is_first (Some edge) = false

-- ---- numbers up to a limit
-- a product whose first factor is above the limit
above-limit : (x y limit : ℕ) → limit ≤ x → 0 < y → limit ≤ x * y
above-limit x y limit l positive = let le : limit * 1 ≤ x * y = mul-le-mul l positive in omega (arith, mul-one limit)

-- a product of numbers up to the limit
pub min-times : (x y limit : ℕ) → 0 < limit → min (min x limit * min y limit) limit ≡ min (x * y) limit
min-times x y limit positive = elim (cases_lt 0 x) [
  | inr none ↦
      let x_is : x ≡ 0 = omega arith in
      let least : min x limit ≡ 0 = omega arith in
      ap (λ v. min v limit) (ap (λ v. v * min y limit) least ∙ zero-mul (min y limit) ∙ sym (zero-mul y) ∙ ap (λ v. v * y) (sym x_is))
  | inl some ↦ elim (cases_lt 0 y) [
    | inr none ↦
        let y_is : y ≡ 0 = omega arith in
        let least : min y limit ≡ 0 = omega arith in
        ap (λ v. min v limit) (ap (λ v. min x limit * v) least ∙ mul-zero (min x limit) ∙ sym (mul-zero x) ∙ ap (λ v. x * v) (sym y_is))
    | inl also ↦ both some also
  ]
]
  where
    both : 0 < x → 0 < y → min (min x limit * min y limit) limit ≡ min (x * y) limit
    both some also = elim (cases_lt x limit) [
      | inl small ↦ elim (cases_lt y limit) [
        | inl too ↦ ap₂ (λ v w. min (v * w) limit) (omega arith) (omega arith)
        | inr large ↦ let one = above-limit (min y limit) (min x limit) limit (omega arith) (omega arith) in let two = above-limit y x limit large some in omega (arith, mul_comm x y, mul_comm (min x limit) (min y limit))
      ]
      | inr large ↦ let one = above-limit (min x limit) (min y limit) limit (omega arith) (omega arith) in let two = above-limit x y limit large also in omega arith
    ]

-- a sum of numbers up to the limit
sum-limited : (f : ℕ → ℕ) (numbers : List ℕ) (a limit : ℕ) → ((k : ℕ) → k < length numbers → get_or numbers k 0 ≡ min (f (a + k)) limit) → min (sum numbers) limit ≡ min (sum_by f (range_with_len a (length numbers))) limit
sum-limited f [] a limit h = refl
sum-limited f (x ∷ numbers) a limit h =
    let rest = sum-limited f numbers (a + 1) limit (λ k l. let e : a + suc k ≡ a + 1 + k = omega arith in h (suc k) (omega arith) ∙ ap (λ m. min (f m) limit) e) in
    let e : a + 0 ≡ a = omega arith in
    let here : x ≡ min (f a) limit = h 0 (omega arith) ∙ ap (λ m. min (f m) limit) e in
    omega (arith, rest, here, sum_by-cons (λ y. y) x numbers, sum_by-cons f a (range_with_len (a + 1) (length numbers)))

-- a sum up to the limit with one more number
pub sum-next : (numbers : List ℕ) (n so_far limit : ℕ) → limit < 2 ^ 64 → n < length numbers → so_far ≡ min (sum (take n numbers)) limit → min (min (so_far + get_or numbers n 0) 18446744073709551615) limit ≡ min (sum (take (n + 1) numbers)) limit
sum-next numbers n so_far limit fits within is = let more = sum_by_more (λ x. x) numbers n 0 within in omega (arith, fits, is, more)

-- ---- the products
-- the product with one more decision
ways_where-next : (decisions : List Decision) (actions : List ℕ) (n : ℕ) (d : Decision) (passes : Option Edge → Bool) → slice_get decisions n ≡ Some d
    → ways_where decisions actions n passes ≡ (if passes d.before then sum_by (λ a. ways_where decisions actions (suc n) (leads_from n a)) (range_with_len 1 (get_or actions d.place 0)) * ways_where decisions actions (suc n) passes else ways_where decisions actions (suc n) passes)
ways_where-next decisions actions n d passes at = ap (λ ds. product_where passes ds (ways_from actions n ds)) (drop-first decisions n d at)

-- with no decision left each product is 1
ways_where-end : (decisions : List Decision) (actions : List ℕ) (passes : Option Edge → Bool) → ways_where decisions actions (length decisions) passes ≡ 1
ways_where-end decisions actions passes = ap (λ ds. product_where passes ds (ways_from actions (length decisions) ds)) (drop-length decisions)

-- up to a limit
pub first-start : (decisions : List Decision) (actions : List ℕ) (limit : ℕ) (passes : Option Edge → Bool) → 0 < limit → 1 ≡ min (ways_where decisions actions (length decisions) passes) limit
first-start decisions actions limit passes positive = omega (arith, ways_where-end decisions actions passes)

-- a list of ones for each decision
pub AreAfter-ones : {V : Type 0} (items : V → List ℕ) (decisions : List Decision) (actions : List ℕ) (limit : ℕ) (rows : List V) → 0 < limit
    → map items rows ≡ map (λ d. replicate (get_or actions d.place 0) 1) decisions → AreAfter decisions actions (length decisions) limit (map items rows)
AreAfter-ones items decisions actions limit rows positive are = record {
  one_for_each = ap length are ∙ length-map decisions ones;
  rooms = λ j d at. ap length (row j d at) ∙ length-replicate (get_or actions d.place 0) 1;
  products = λ j a d at l. ap (λ v. get_or v a 0) (row j d at) ∙ get_or-replicate (get_or actions d.place 0) a 1 0 l ∙ first-start decisions actions limit (leads_from j (suc a)) positive;
}
  where
    ones : Decision → List ℕ
    ones d = replicate (get_or actions d.place 0) 1

    row : (j : ℕ) (d : Decision) → slice_get decisions j ≡ Some d → get_or (map items rows) j [] ≡ ones d
    row j d at =
        ap (λ v. get_or v j []) are ∙ get_or-map ones decisions j d [] (slice_get_within decisions j d at)
        ∙ ap ones (get_or_from_slice_get decisions j d d at)

-- the sum of a decision's numbers is that of its ways
pub sum-following : (decisions : List Decision) (actions : List ℕ) (n limit : ℕ) (rows : List (List ℕ)) (d : Decision) → AreAfter decisions actions (suc n) limit rows → slice_get decisions n ≡ Some d
    → min (sum (get_or rows n [])) limit ≡ min (sum_by (λ a. ways_where decisions actions (suc n) (leads_from n a)) (range_with_len 1 (get_or actions d.place 0))) limit
sum-following decisions actions n limit rows d b at =
    let ways : ℕ → ℕ = λ a. ways_where decisions actions (suc n) (leads_from n a) in
    sum-limited ways (get_or rows n []) 1 limit (λ k l. let e : suc k ≡ 1 + k = omega arith in b.products n k d at (omega (arith, l, b.rooms n d at)) ∙ ap (λ m. min (ways m) limit) e)
    ∙ ap (λ m. min (sum_by ways (range_with_len 1 m)) limit) (b.rooms n d at)

-- a decision with nothing before it changes no product
pub AreAfter-first : (decisions : List Decision) (actions : List ℕ) (n limit : ℕ) (rows : List (List ℕ)) (d : Decision) → slice_get decisions n ≡ Some d → d.before ≡ None → AreAfter decisions actions (suc n) limit rows → AreAfter decisions actions n limit rows
AreAfter-first decisions actions n limit rows d at before b = record {
  one_for_each = b.one_for_each;
  rooms = b.rooms;
  products = λ j a e there l. b.products j a e there l ∙ ap (λ v. min v limit) (sym (ways_where-next decisions actions n d (leads_from j (suc a)) at ∙ ap (λ o. if leads_from j (suc a) o then ways n * others j a else others j a) before));
}
  where
    ways : ℕ → ℕ
    ways m = sum_by (λ a. ways_where decisions actions (suc m) (leads_from m a)) (range_with_len 1 (get_or actions d.place 0))

    others : ℕ → ℕ → ℕ
    others j a = ways_where decisions actions (suc n) (leads_from j (suc a))

-- a decision after an action changes the product of that action alone
module _ (decisions : List Decision) (actions : List ℕ) (n limit : ℕ) (rows : List (List ℕ)) (d : Decision) (edge : Edge) (at : slice_get decisions n ≡ Some d) (before : d.before ≡ Some edge) (b : AreAfter decisions actions (suc n) limit rows) where
  -- the ways from the decision
  abbrev pub ways_on : ℕ
  ways_on = sum_by (λ a. ways_where decisions actions (suc n) (leads_from n a)) (range_with_len 1 (get_or actions d.place 0))

  -- the row of the decision before
  abbrev pub row_before : List ℕ
  row_before = get_or rows edge.decision []

  -- the products with the decision
  with_edge : (j a : ℕ) → ways_where decisions actions n (leads_from j (suc a)) ≡ (if leads_from j (suc a) (Some edge) then ways_on * ways_where decisions actions (suc n) (leads_from j (suc a)) else ways_where decisions actions (suc n) (leads_from j (suc a)))
  with_edge j a =
      ways_where-next decisions actions n d (leads_from j (suc a)) at
      ∙ ap (λ o. if leads_from j (suc a) o then ways_on * ways_where decisions actions (suc n) (leads_from j (suc a)) else ways_where decisions actions (suc n) (leads_from j (suc a))) before

  -- where the edge does not lead from there by this action the product stays
  without : (j a : ℕ) → leads_from j (suc a) (Some edge) ≡ false → ways_where decisions actions (suc n) (leads_from j (suc a)) ≡ ways_where decisions actions n (leads_from j (suc a))
  without j a fails = sym (with_edge j a ∙ ap (λ t. if t then ways_on * ways_where decisions actions (suc n) (leads_from j (suc a)) else ways_where decisions actions (suc n) (leads_from j (suc a))) fails)

  -- the new number of the action
  new_number : (ways : ℕ) → 0 < limit → ways ≡ min ways_on limit → (e : Decision) → slice_get decisions edge.decision ≡ Some e → edge.action < get_or actions e.place 0
      → min (get_or row_before edge.action 0 * ways) limit ≡ min (ways_where decisions actions n (leads_from edge.decision (suc edge.action))) limit
  new_number ways positive is e there l =
      let rest = ways_where decisions actions (suc n) (leads_from edge.decision (suc edge.action)) in
      let yes : leads_from edge.decision (suc edge.action) (Some edge) ≡ true = ap₂ (λ p q. p && q) (eq-eqb edge.decision edge.decision refl) (eq-eqb (suc edge.action) (suc edge.action) refl) in
      ap₂ (λ v w. min (v * w) limit) (b.products edge.decision edge.action e there l) is
      ∙ min-times rest ways_on limit positive
      ∙ ap (λ v. min v limit) (mul_comm rest ways_on ∙ ap (λ t. if t then ways_on * rest else rest) (sym yes) ∙ sym (with_edge edge.decision edge.action))

  -- the rows with the new number
  pub AreAfter-edge : (ways : ℕ) → 0 < limit → ways ≡ min ways_on limit → edge.decision < length rows → AreAfter decisions actions n limit (set rows edge.decision (set row_before edge.action (min (get_or row_before edge.action 0 * ways) limit)))
  AreAfter-edge ways positive is inside = record {
    one_for_each = lists.length-set rows edge.decision new ∙ b.one_for_each;
    rooms = λ j e there. elim (cases_eq j edge.decision) [
      | inl same ↦ ap length (here j same) ∙ lists.length-set row_before edge.action value ∙ ap (λ v. length (get_or rows v [])) (sym same) ∙ b.rooms j e there
      | inr other ↦ ap length (get_or-set_other rows edge.decision j new [] other) ∙ b.rooms j e there
    ];
    products = λ j a e there l. elim (cases_eq j edge.decision) [
      | inl same ↦ ap (λ v. get_or v a 0) (here j same) ∙ in_row j a e same there l
      | inr other ↦
          ap (λ v. get_or v a 0) (get_or-set_other rows edge.decision j new [] other) ∙ b.products j a e there l
          ∙ ap (λ v. min v limit) (without j a (ap (λ t. t && (suc a == suc edge.action)) (ne_eqb edge.decision j (λ same. other (sym same)))))
    ];
  }
    where
      value : ℕ
      value = min (get_or row_before edge.action 0 * ways) limit

      new : List ℕ
      new = set row_before edge.action value

      here : (j : ℕ) → j ≡ edge.decision → get_or (set rows edge.decision new) j [] ≡ new
      here j same = ap (λ v. get_or (set rows edge.decision new) v []) same ∙ get_or-set_same rows edge.decision new [] inside

      at_edge : (j : ℕ) (e : Decision) → j ≡ edge.decision → slice_get decisions j ≡ Some e → slice_get decisions edge.decision ≡ Some e
      at_edge j e same there = ap (slice_get decisions) (sym same) ∙ there

      in_row : (j a : ℕ) (e : Decision) → j ≡ edge.decision → slice_get decisions j ≡ Some e → a < get_or actions e.place 0 → get_or new a 0 ≡ min (ways_where decisions actions n (leads_from j (suc a))) limit
      in_row j a e same there l =
          let long : length row_before ≡ get_or actions e.place 0 = b.rooms edge.decision e (at_edge j e same there) in
          elim (cases_eq a edge.action) [
            | inl act ↦
                let room : edge.action < length row_before = omega (arith, long, act) in
                ap (λ v. get_or new v 0) act ∙ get_or-set_same row_before edge.action value 0 room ∙ new_number ways positive is e (at_edge j e same there) (omega (arith, long))
                ∙ ap₂ (λ v w. min (ways_where decisions actions n (leads_from v (suc w))) limit) (sym same) (sym act)
            | inr other ↦
                let fails : (suc a == suc edge.action) ≡ false = ne_eqb (suc a) (suc edge.action) (λ e. other (omega arith)) in
                get_or-set_other row_before edge.action a value 0 other ∙ ap (λ v. get_or (get_or rows v []) a 0) (sym same) ∙ b.products j a e there l
                ∙ ap (λ v. min v limit) (without j a (ap₂ (λ p q. p && q) (eq-eqb edge.decision j (sym same)) fails))
          ]

-- the product over the decisions with nothing before them, with such a decision, and with another
pub first-more : (decisions : List Decision) (actions : List ℕ) (n limit first ways : ℕ) (d : Decision) → 0 < limit → slice_get decisions n ≡ Some d → d.before ≡ None → ways ≡ min (sum_by (λ a. ways_where decisions actions (suc n) (leads_from n a)) (range_with_len 1 (get_or actions d.place 0))) limit
    → first ≡ min (ways_where decisions actions (suc n) is_first) limit → min (first * ways) limit ≡ min (ways_where decisions actions n is_first) limit
first-more decisions actions n limit first ways d positive at before ways_are is =
    let w = sum_by (λ a. ways_where decisions actions (suc n) (leads_from n a)) (range_with_len 1 (get_or actions d.place 0)) in
    let rest = ways_where decisions actions (suc n) is_first in
    ap₂ (λ v u. min (v * u) limit) is ways_are ∙ min-times rest w limit positive
    ∙ ap (λ v. min v limit) (mul_comm rest w ∙ sym (ways_where-next decisions actions n d is_first at ∙ ap (λ o. if is_first o then w * rest else rest) before))

pub first-stays : (decisions : List Decision) (actions : List ℕ) (n limit first : ℕ) (d : Decision) (edge : Edge) → slice_get decisions n ≡ Some d → d.before ≡ Some edge → first ≡ min (ways_where decisions actions (suc n) is_first) limit → first ≡ min (ways_where decisions actions n is_first) limit
first-stays decisions actions n limit first d edge at before is =
    is ∙ ap (λ v. min v limit) (sym (ways_where-next decisions actions n d is_first at
    ∙ ap (λ o. if is_first o then sum_by (λ a. ways_where decisions actions (suc n) (leads_from n a)) (range_with_len 1 (get_or actions d.place 0)) * ways_where decisions actions (suc n) is_first else ways_where decisions actions (suc n) is_first) before))

-- ---- the loop's turns
-- the limited sum of the row of a decision is that of its ways
pub ways-summed : {V : Type 0} (items : V → List ℕ) (decisions : List Decision) (actions : List ℕ) (n limit ways : ℕ) (rows : List V) (d : Decision) (v : V) (row : List ℕ) → AreAfter decisions actions (suc n) limit (map items rows) → slice_get decisions n ≡ Some d
    → v ≡ get_or rows n v → row ≡ items v → ways ≡ min (sum row) limit → ways ≡ min (sum_by (λ a. ways_where decisions actions (suc n) (leads_from n a)) (range_with_len 1 (get_or actions d.place 0))) limit
ways-summed items decisions actions n limit ways rows d v row b at is row_is ways_are =
    let within : n < length rows = omega (arith, slice_get_within decisions n d at, b.one_for_each, length-map rows items) in
    ways_are ∙ ap (λ w. min (sum w) limit) (row_is ∙ part-read items rows n v [] within is) ∙ sum-following decisions actions n limit (map items rows) d b at

-- the rows with one that was multiplied
pub AreAfter-multiplied : {V : Type 0} (items : V → List ℕ) (decisions : List Decision) (actions : List ℕ) (n limit ways : ℕ) (rows : List V) (d : Decision) (edge : Edge) (old new : V) → slice_get decisions n ≡ Some d → d.before ≡ Some edge → AreAfter decisions actions (suc n) limit (map items rows)
    → 0 < limit → ways ≡ min (sum_by (λ a. ways_where decisions actions (suc n) (leads_from n a)) (range_with_len 1 (get_or actions d.place 0))) limit → edge.decision < length rows → old ≡ get_or rows edge.decision old → items new ≡ set (items old) edge.action (min (get_or (items old) edge.action 0 * ways) limit)
    → AreAfter decisions actions n limit (map items (set rows edge.decision new))
AreAfter-multiplied items decisions actions n limit ways rows d edge old new at before b positive ways_are within old_is new_is =
    let row = part-read items rows edge.decision old [] within old_is in
    let all : map items (set rows edge.decision new) ≡ set (map items rows) edge.decision (set (get_or (map items rows) edge.decision []) edge.action (min (get_or (get_or (map items rows) edge.decision []) edge.action 0 * ways) limit)) =
    map-set items rows edge.decision new ∙ ap (set (map items rows) edge.decision) (new_is ∙ ap (λ w. set w edge.action (min (get_or w edge.action 0 * ways) limit)) row) in
    subst (AreAfter decisions actions n limit) (sym all) (AreAfter-edge decisions actions n limit (map items rows) d edge at before b ways positive ways_are (omega (arith, length-map rows items)))

-- the decision before another stands before it
pub edge-before : (decisions : List Decision) (actions : List ℕ) (n : ℕ) (d : Decision) (edge : Edge) → AreLinked decisions actions → slice_get decisions n ≡ Some d → d.before ≡ Some edge → edge.decision < n
edge-before decisions actions n d edge w at before = (subst (ComesFrom decisions n) before (w.come_from n d at)).0
