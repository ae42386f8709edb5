-- The ways to go on from each decision, and how many ends the walk has, where no set has two decisions.
use Rattle.std.proofs.Common.{ℕ, zero, suc, ◌+◌, ◌*◌, ◌<◌, ◌≤◌, ◌≡◌, ◌⊎◌, inl, inr, Bool, true, false, ◌&&◌, Option, Some, None, List, [], ◌∷◌, ◌++◌, length, get_or, set, replicate, refl, sym, ap, ap₂, ◌∙◌, arith, add-mul, zero-mul, mul_assoc, mul_left_comm}
use Rattle.std.specs.Prelude.{◌==◌, slice_get, if◌then◌else◌}
use Rattle.std.specs.List.{range_with_len, sum_by}
use Rattle.std.proofs.Math.ListN as lists
use Rattle.std.proofs.Math.Path.{fun_ext}
use Rattle.std.proofs.lemmas.Bool.{cases_eq, ne_eqb, eq-eqb}
use Rattle.std.proofs.lemmas.List.{get_or-set_same, get_or-set_other, length-replicate, get_or-replicate}
use Rattle.std.proofs.lemmas.List.Concat.{length-flat_map}
use Rattle.std.proofs.lemmas.List.Recursion.{is_sum_by}
use Rattle.std.proofs.lemmas.List.Sums.{sum_by-cons}
use Rattle.strategy_lists.specs.declared.decision.Decision.{Decision}
use Rattle.strategy_lists.specs.declared.decision.Edge.{Edge}
use Rattle.strategy_lists.specs.Reduced.{AreApart, AreLinked, ComesFrom}
use Rattle.strategy_lists.specs.Ends.{is_led_to, ends}
use Rattle.strategy_lists.proofs.WayCountLemmas.{is_first, leads_from, product_where, ways_from}
use Rattle.strategy_lists.proofs.ReachedDecisionLemmas.{last_entry, one_decision, place-within}
use Rattle.strategy_lists.proofs.EndListLemmas.{AreRest, AreRest-first, AreRest-later, AreRest-all, ends-nil, ends-branch, ends-pass, ends_with, all_ends}

-- a sum of products with one number
sum-times : (f : ℕ → ℕ) (y : ℕ) (xs : List ℕ) → sum_by (λ x. f x * y) xs ≡ sum_by f xs * y
sum-times f y xs = sym (is_sum_by (λ v. sum_by f v * y) (λ x. f x * y) (zero-mul y) (λ x v. ap (λ s. s * y) (sum_by-cons f x v) ∙ add-mul (f x) (sum_by f v) y) xs)

-- ---- products
-- of two tests one is that of the product, and the other does not pass
abbrev IsEither : (p q r : Option Edge → Bool) → Option Edge → Type 0
IsEither p q r before = ((p before ≡ q before) × (r before ≡ false)) ⊎ ((p before ≡ r before) × (q before ≡ false))

-- one more factor on the left, and on the right
factor-left : (b : Bool) (n x y : ℕ) → (if b then n * (x * y) else x * y) ≡ (if b then n * x else x) * y
factor-left true n x y = sym (mul_assoc n x y)
factor-left false n x y = refl

factor-right : (b : Bool) (n x y : ℕ) → (if b then n * (x * y) else x * y) ≡ x * (if b then n * y else y)
factor-right true n x y = mul_left_comm n x y
factor-right false n x y = refl

-- the product over the edges that pass one of two tests
product-either : (p q r : Option Edge → Bool) (ds : List Decision) (numbers : List ℕ) → ((k : ℕ) (d : Decision) → slice_get ds k ≡ Some d → IsEither p q r d.before) → product_where p ds numbers ≡ product_where q ds numbers * product_where r ds numbers
product-either p q r [] numbers h = refl
product-either p q r (d ∷ ds) [] h = refl
product-either p q r (d ∷ ds) (n ∷ numbers) h =
    let x = product_where q ds numbers in
    let y = product_where r ds numbers in
    let rest = product-either p q r ds numbers (λ k e at. h (suc k) e at) in
    elim (h 0 d refl) [
      | inl w ↦ ap₂ (λ b v. if b then n * v else v) w.0 rest ∙ factor-left (q d.before) n x y ∙ ap (λ b. (if q d.before then n * x else x) * (if b then n * y else y)) (sym w.1)
      | inr w ↦ ap₂ (λ b v. if b then n * v else v) w.0 rest ∙ factor-right (r d.before) n x y ∙ ap (λ b. (if b then n * x else x) * (if r d.before then n * y else y)) (sym w.1)
    ]

-- products over the same edges
pub product-same : (p q : Option Edge → Bool) (ds : List Decision) (numbers : List ℕ) → ((before : Option Edge) → p before ≡ q before) → product_where p ds numbers ≡ product_where q ds numbers
product-same p q [] numbers h = refl
product-same p q (d ∷ ds) [] h = refl
product-same p q (d ∷ ds) (n ∷ numbers) h = ap₂ (λ b v. if b then n * v else v) (h d.before) (product-same p q ds numbers h)

-- ---- edges
-- one more entry that is not set leads nowhere
entry-unset : (reach : List Bool) (k : ℕ) → get_or (reach ++ false ∷ []) k false ≡ get_or reach k false
entry-unset [] zero = refl
entry-unset [] (suc k) = refl
entry-unset (b ∷ reach) zero = refl
entry-unset (b ∷ reach) (suc k) = entry-unset reach k

led-unset : (reach : List Bool) (choices : List ℕ) (before : Option Edge) → is_led_to (reach ++ false ∷ []) choices before ≡ is_led_to reach choices before
led-unset reach choices None = refl
led-unset reach choices (Some edge) = ap (λ b. b && (get_or choices edge.place 0 == suc edge.action)) (entry-unset reach edge.decision)

-- another entry stays
entry-other : (reach : List Bool) (r : Bool) (k : ℕ) → (k ≡ length reach → ⊥) → get_or (reach ++ r ∷ []) k false ≡ get_or reach k false
entry-other [] r zero ne = absurd (ne refl)
entry-other [] r (suc k) ne = refl
entry-other (b ∷ reach) r zero ne = refl
entry-other (b ∷ reach) r (suc k) ne = entry-other reach r k (λ e. ne (ap suc e))

module _ (decisions : List Decision) (actions : List ℕ) (linked : AreLinked decisions actions) (apart : AreApart decisions) where
  -- the sets of the decisions from number n on have no action
  abbrev AreOpen : List ℕ → ℕ → Type 0
  AreOpen choices n = (k : ℕ) (d : Decision) → n ≤ k → slice_get decisions k ≡ Some d → get_or choices d.place 0 ≡ 0

  -- with an action at decision n an edge leads on from there by this action, or as before
  edge-split : (reach : List Bool) (choices : List ℕ) (n k a : ℕ) (d : Decision) (before : Option Edge) → slice_get decisions n ≡ Some d → length reach ≡ n → d.place < length choices → ComesFrom decisions k before
      → IsEither (is_led_to (reach ++ true ∷ []) (set choices d.place a)) (leads_from n a) (is_led_to reach choices) before
  edge-split reach choices n k a d None at long within c = inr (refl, refl)
  edge-split reach choices n k a d (Some edge) at long within c = elim (cases_eq edge.decision n) [
    | inl same ↦
        let earlier_is : d ≡ c.1 = one_decision decisions edge.decision n d c.1 same at c.2 in
        let place : edge.place ≡ d.place = c.3 ∙ sym (ap (λ (e : Decision). e.place) earlier_is) in
        let entry : get_or (reach ++ true ∷ []) edge.decision false ≡ true = last_entry reach true edge.decision (long ∙ sym same) in
        let unset : get_or reach edge.decision false ≡ false = lists.get_or-eq_default reach false (omega (arith, long, same)) in
        let chosen : get_or (set choices d.place a) edge.place 0 ≡ a = ap (λ v. get_or (set choices d.place a) v 0) place ∙ get_or-set_same choices d.place a 0 within in
        inl (ap₂ (λ b v. b && (v == suc edge.action)) (entry ∙ sym (eq-eqb edge.decision n same)) chosen, ap (λ b. b && (get_or choices edge.place 0 == suc edge.action)) unset)
    | inr other ↦
        let place : edge.place ≡ d.place → ⊥ = λ e. other (apart edge.decision n c.1 d c.2 at (sym c.3 ∙ e)) in
        inr (
          ap₂ (λ b v. b && (v == suc edge.action)) (entry-other reach true edge.decision (λ e. other (e ∙ long))) (get_or-set_other choices d.place edge.place a 0 place),
          ap (λ b. b && (a == suc edge.action)) (ne_eqb edge.decision n other),
        )
  ]

  -- the sets of later decisions stay without action
  AreOpen-set : (choices : List ℕ) (n a : ℕ) (d : Decision) → slice_get decisions n ≡ Some d → AreOpen choices n → AreOpen (set choices d.place a) (suc n)
  AreOpen-set choices n a d at none k e later there =
      let ne : e.place ≡ d.place → ⊥ = λ same. let number : k ≡ n = apart k n e d there at same in omega (arith, number) in
      get_or-set_other choices d.place e.place a 0 ne ∙ none k e (omega arith) there

  -- the ends over the decisions that are left are as many as the product of the ways of those to which an edge leads
  ends-counted : (ds : List Decision) (reach : List Bool) (choices : List ℕ) (n : ℕ) → AreRest decisions n ds → length reach ≡ n → length choices ≡ length actions → AreOpen choices n
      → length (ends actions ds reach choices) ≡ product_where (is_led_to reach choices) ds (ways_from actions n ds)
  ends-counted [] reach choices n rest long all none = ap length (ends-nil actions reach choices)
  ends-counted (d ∷ ds) reach choices n rest long all none =
      go (is_led_to reach choices d.before) refl
      (λ a. ends-counted ds (reach ++ true ∷ []) (set choices d.place a) (suc n) later (longer true) (lists.length-set choices d.place a ∙ all) (AreOpen-set choices n a d here none))
      (ends-counted ds (reach ++ false ∷ []) choices (suc n) later (longer false) all (λ k e h there. none k e (omega arith) there))
    where
      here : slice_get decisions n ≡ Some d
      here = AreRest-first decisions n d ds rest

      later : AreRest decisions (suc n) ds
      later = AreRest-later decisions n d ds rest

      longer : (b : Bool) → length (reach ++ b ∷ []) ≡ suc n
      longer b = omega (arith, lists.length-append reach (b ∷ []), long)

      within : d.place < length choices
      within = omega (arith, place-within decisions actions n d linked here, all)

      ways : List ℕ
      ways = ways_from actions (suc n) ds

      others : ℕ
      others = product_where (is_led_to reach choices) ds ways

      -- the ways by an action of this decision
      by_action : ℕ → ℕ
      by_action a = product_where (leads_from n a) ds ways

      -- the product with this decision, where it is led to or not
      with_decision : Bool → ℕ
      with_decision b = if b then sum_by by_action (range_with_len 1 (get_or actions d.place 0)) * others else others

      split : (a : ℕ) → product_where (is_led_to (reach ++ true ∷ []) (set choices d.place a)) ds ways ≡ by_action a * others
      split a =
          product-either (is_led_to (reach ++ true ∷ []) (set choices d.place a)) (leads_from n a) (is_led_to reach choices) ds ways
          (λ k e there. edge-split reach choices n (suc n + k) a d e.before here long within (linked.come_from (suc n + k) e (sym (later k) ∙ there)))

      go : (b : Bool) → is_led_to reach choices d.before ≡ b
          → ((a : ℕ) → length (ends actions ds (reach ++ true ∷ []) (set choices d.place a)) ≡ product_where (is_led_to (reach ++ true ∷ []) (set choices d.place a)) ds ways)
          → length (ends actions ds (reach ++ false ∷ []) choices) ≡ product_where (is_led_to (reach ++ false ∷ []) choices) ds ways
          → length (ends actions (d ∷ ds) reach choices) ≡ with_decision (is_led_to reach choices d.before)
      go true led each passed =
          ap length (ends-branch actions d ds reach choices (led, none n d (omega arith) here))
          ∙ length-flat_map (ends_with actions d ds reach choices) (range_with_len 1 (get_or actions d.place 0))
          ∙ ap (λ f. sum_by f (range_with_len 1 (get_or actions d.place 0))) (fun_ext (λ a. each a ∙ split a))
          ∙ sum-times by_action others (range_with_len 1 (get_or actions d.place 0))
          ∙ ap with_decision (sym led)
      go false led each passed =
          ap length (ends-pass actions d ds reach choices (λ h. let clash : true ≡ false = sym h ∙ led in cc))
          ∙ ap (λ b. length (ends actions ds (reach ++ b ∷ []) choices)) led
          ∙ passed
          ∙ product-same (is_led_to (reach ++ false ∷ []) choices) (is_led_to reach choices) ds ways (led-unset reach choices)
          ∙ ap with_decision (sym led)

  -- at the start an edge leads to the decisions with nothing before them
  led-first : (choices : List ℕ) (before : Option Edge) → is_led_to [] choices before ≡ is_first before
  led-first choices None = refl
  led-first choices (Some edge) = refl

  -- all ends are as many as the product of the ways of the decisions with nothing before them
  pub all_ends-counted : length (all_ends decisions actions) ≡ product_where is_first decisions (ways_from actions 0 decisions)
  all_ends-counted =
      let zeros = replicate (length actions) 0 in
      ends-counted decisions [] zeros 0 (AreRest-all decisions) refl (length-replicate (length actions) 0) (λ k d l at. get_or-replicate (length actions) d.place 0 0 (place-within decisions actions k d linked at))
      ∙ product-same (is_led_to [] zeros) is_first decisions (ways_from actions 0 decisions) (led-first zeros)
