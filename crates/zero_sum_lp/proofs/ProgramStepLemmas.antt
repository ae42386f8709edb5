-- The sums and gains of a form, one after another.
use Rattle.std.proofs.Common.{ℕ, zero, suc, Bool, true, false, true≢false, ◌<◌, ◌≤◌, ◌≡◌, ◌≢◌, ◌+◌, inl, inr, List, [], ◌∷◌, ◌++◌, Result, Ok, length, map, get_or, take, drop, refl, sym, ap, ap₂, ◌∙◌, subst, arith}
use Rattle.std.specs.Prelude.{IfOk, IfErr, OnOk, OnErr, not}
use Rattle.std.proofs.lemmas.Bool.{cases_eq}
use Rattle.std.proofs.lemmas.List.{get_or-map, get_or_default, length-map, length-drop, length-take-le, get_or-take}
use Rattle.std.proofs.lemmas.Grind.{get_or_after_one}
use Rattle.rational.specs.Rational.{ℚ, ◌-ℚ◌, ◌*ℚ◌, zero_ℚ}
use Rattle.frac128.specs.Steps.{MulFits, SubFits, step_of, Step, StepsGive}
use Rattle.frac128.specs.declared.steps.Op.TheVariants.{Sub, Mul}
use Rattle.frac128.proofs.StepRunLemmas.{one-fits, subtracted-gives, following-gives}
use Rattle.sequence_data.specs.declared.types.Cell.{Cell}
use Rattle.sequence_data.specs.declared.types.Leaf.{Leaf}
use Rattle.frac128.proofs.FirstUnfitLemmas.{split_here}
use Rattle.zero_sum_lp.specs.FormPrograms.{cell_gain, gain_steps, sum_at, AreFirstApart, is_constant}
use Rattle.rational.proofs.Decide.{eq_ℚ-decides}
use Rattle.rational.specs.Tests.{eq_ℚ}

-- ---- a gain
pub difference_gives : (least : ℚ) (c : Cell) (part : ℚ) (r : Result ℚ Step) → part ≡ least *ℚ c.weight → MulFits least c.weight
    → IfOk r (λ v. v ≡ c.one -ℚ part) → OnOk r (SubFits c.one part) → IfErr r (λ e. e ≡ step_of Sub c.one part) → OnErr r (SubFits c.one part → ⊥)
    → StepsGive (gain_steps least c) (cell_gain least c) r
difference_gives least c part r is product value fits step refused =
    following-gives (step_of Mul least c.weight ∷ []) (step_of Sub c.one (least *ℚ c.weight) ∷ []) (cell_gain least c) r (one-fits (step_of Mul least c.weight) product)
    (subst (λ p. StepsGive (step_of Sub c.one p ∷ []) (c.one -ℚ p) r) is (subtracted-gives c.one part r value fits step refused))

-- ---- the sums
module _ (leaves : List Leaf) (sums : List ℚ) (are : sums ≡ map sum_at leaves) where
  sum_of : (k : ℕ) (l : Leaf) → k < length leaves → get_or sums k zero_ℚ ≡ sum_at (get_or leaves k l)
  sum_of k l h = get_or_default sums k zero_ℚ (sum_at l) (subst (λ n. k < n) (sym (ap length are ∙ length-map leaves sum_at)) h) ∙ ap (λ xs. get_or xs k (sum_at l)) are ∙ get_or-map sum_at leaves k l (sum_at l) h

  sum_read : (k : ℕ) (v : ℚ) → k < length leaves → v ≡ get_or sums k v → v ≡ get_or sums k zero_ℚ
  sum_read k v h e = e ∙ sym (get_or_default sums k zero_ℚ v (subst (λ n. k < n) (sym (ap length are ∙ length-map leaves sum_at)) h))

  pub same_next : (k : ℕ) (v w : ℚ) → k < length leaves → v ≡ get_or sums k v → w ≡ get_or sums 0 w → v ≡ w → ((j : ℕ) → j < k → get_or sums j zero_ℚ ≡ get_or sums 0 zero_ℚ) → (j : ℕ) → j < k + 1 → get_or sums j zero_ℚ ≡ get_or sums 0 zero_ℚ
  same_next k v w h ev ew e all j l = elim (cases_eq j k) [
    | inl q ↦ subst (λ i. get_or sums i zero_ℚ ≡ get_or sums 0 zero_ℚ) (sym q) (sym (sum_read k v h ev) ∙ e ∙ sum_read 0 w (omega arith) ew)
    | inr n ↦ all j (omega (arith, l, n))
  ]

  pub all_same : ((j : ℕ) → j < length leaves → get_or sums j zero_ℚ ≡ get_or sums 0 zero_ℚ) → is_constant leaves (Ok tt)
  all_same h k d l j e m = sym (sum_of j e m) ∙ h j m ∙ sym (h k l) ∙ sum_of k d l

  pub first_apart : (k : ℕ) (leaf other : Leaf) (v w : ℚ) → 1 ≤ k → k < length leaves → leaf ≡ get_or leaves 0 leaf → other ≡ get_or leaves k other → v ≡ get_or sums k v → w ≡ get_or sums 0 w → v ≢ w → ((j : ℕ) → j < k → get_or sums j zero_ℚ ≡ get_or sums 0 zero_ℚ) → AreFirstApart leaves (record { first = leaf.place; second = other.place; first_sum = w; second_sum = v })
  first_apart k leaf other v w some h el eo ev ew differ all =
      record {
        leaf = leaf;
        same = drop 1 (take k leaves);
        other = other;
        rest = drop (suc k) leaves;
        are_there = split_here (λ _. []) leaves k other h eo ∙ ap (λ xs. xs ++ other ∷ drop (suc k) leaves) (begins k leaves leaf some h el);
        are_same = λ j d l. same_as j d l;
        differs = λ e. differ (value ∙ e ∙ sym first_value);
        stop_is = ap₂ (λ a b. record { first = leaf.place; second = other.place; first_sum = a; second_sum = b }) first_value value;
      }
    where
      value : v ≡ sum_at other
      value = sum_read k v h ev ∙ sum_of k other h ∙ ap sum_at (sym eo)

      first_value : w ≡ sum_at leaf
      first_value = sum_read 0 w (omega arith) ew ∙ sum_of 0 leaf (omega arith) ∙ ap sum_at (sym el)

      begins : (n : ℕ) (xs : List Leaf) (x : Leaf) → 1 ≤ n → n < length xs → x ≡ get_or xs 0 x → take n xs ≡ x ∷ drop 1 (take n xs)
      begins n [] x p q e = absurd (omega arith)
      begins (suc n) (y ∷ xs) x p q e = ap (λ z. z ∷ take n xs) (sym e)
      begins zero (y ∷ xs) x p q e = absurd (omega arith)

      below_taken : (n : ℕ) (xs : List Leaf) (j : ℕ) → n < length xs → j < length (drop 1 (take n xs)) → suc j < n
      below_taken n xs j p q = let e = length-drop 1 (take n xs) in let f = length-take-le n xs (omega arith) in omega (arith, q, e, f)

      taken_at : (n : ℕ) (xs : List Leaf) (j : ℕ) (d : Leaf) → suc j < n → n < length xs → get_or (drop 1 (take n xs)) j d ≡ get_or xs (suc j) d
      taken_at n xs j d p q = get_or_after_one (take n xs) j d ∙ ap (λ i. get_or (take n xs) i d) (let e : 1 + j ≡ suc j = omega arith in e) ∙ get_or-take n xs (suc j) d p

      same_as : (j : ℕ) (d : Leaf) → j < length (drop 1 (take k leaves)) → sum_at (get_or (drop 1 (take k leaves)) j d) ≡ sum_at leaf
      same_as j d l =
          let inside : suc j < k = below_taken k leaves j h l in
          ap sum_at (taken_at k leaves j d inside h) ∙ sym (sum_of (suc j) d (omega arith)) ∙ all (suc j) inside ∙ sum_of 0 leaf (omega arith) ∙ ap sum_at (sym el)

-- ---- tests
pub differ_by_test : (a b : ℚ) (r : Bool) → r ≡ not (eq_ℚ a b) → r ≡ true → a ≢ b
differ_by_test a b r is t e = true≢false (sym t ∙ is ∙ ap not ((eq_ℚ-decides a b).1 e))

pub same_by_test : (a b : ℚ) (r : Bool) → r ≡ not (eq_ℚ a b) → r ≡ false → a ≡ b
same_by_test a b r is f = go (eq_ℚ a b) refl
  where
    go : (t : Bool) → eq_ℚ a b ≡ t → a ≡ b
    go true e = (eq_ℚ-decides a b).0 e
    go false e = absurd (true≢false (ap not (sym e) ∙ sym is ∙ f))
