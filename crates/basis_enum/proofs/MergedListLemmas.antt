-- Two ascending lists with no number in common become one
use Rattle.std.proofs.Common.{ℕ, ◌<◌, ◌≤◌, ◌≡◌, ◌+◌, ◌⊎◌, ◌++◌, refl, sym, ap, ◌∙◌, subst, arith, inl, inr, List, [], ◌∷◌, length, get_or, eq-or-lt_of_le}
use Rattle.std.specs.List.{Contains}
use Rattle.std.specs.List.Sorted.{IsStrictlyIncreasing}
use Rattle.std.proofs.lemmas.List.{length-append}
use Rattle.std.proofs.lemmas.List.Elements.{Contains-append_left, Contains-append_right, Contains-append_cases, Contains-get_or}
use Rattle.lists.proofs.ElementLemmas.{index_of, first_in, in_cases}
use Rattle.lists.proofs.AscendingNumberLemmas.{increasing_push}
use Rattle.basis_enum.specs.Merged.{IsMerged, TakesFirst}

-- all has the first i numbers of xs and the first k of ys, which are below the others
pub record AreMerged (xs ys : List ℕ) (i k : ℕ) (all : List ℕ) : Type 0 where
  pub first_in : i ≤ length xs
  pub second_in : k ≤ length ys
  pub ascending : IsStrictlyIncreasing all
  pub size : length all ≡ i + k
  pub first : (n : ℕ) → n < i → Contains all (get_or xs n 0)
  pub second : (n : ℕ) → n < k → Contains all (get_or ys n 0)
  pub only : (v : ℕ) → Contains all v → Contains xs v ⊎ Contains ys v
  pub first_above : i < length xs → (v : ℕ) → Contains all v → v < get_or xs i 0
  pub second_above : k < length ys → (v : ℕ) → Contains all v → v < get_or ys k 0

pub merged_start : (xs ys : List ℕ) → AreMerged xs ys 0 0 []
merged_start xs ys =
    record {
      first_in = omega arith;
      second_in = omega arith;
      ascending = λ k h. absurd (omega arith);
      size = refl;
      first = λ n h. absurd (omega arith);
      second = λ n h. absurd (omega arith);
      only = λ v c. absurd (omega (arith, c.1));
      first_above = λ h v c. absurd (omega (arith, c.1));
      second_above = λ h v c. absurd (omega (arith, c.1));
    }

-- the two lists in the other order
pub merged_turned : (xs ys all : List ℕ) (i k : ℕ) → AreMerged xs ys i k all → AreMerged ys xs k i all
merged_turned xs ys all i k m =
    record {
      first_in = m.second_in;
      second_in = m.first_in;
      ascending = m.ascending;
      size = (let e : length all ≡ i + k = m.size in omega arith);
      first = m.second;
      second = m.first;
      only = λ v c. elim (m.only v c) [ inl a ↦ inr a | inr b ↦ inl b ];
      first_above = m.second_above;
      second_above = m.first_above;
    }

-- the next number of xs
pub merged_first : (xs ys all : List ℕ) (i k x : ℕ) → IsStrictlyIncreasing xs → ((v : ℕ) → Contains xs v → ¬ (Contains ys v)) → AreMerged xs ys i k all → TakesFirst xs ys i k → x ≡ get_or xs i 0 → AreMerged xs ys (i + 1) k (all ++ x ∷ [])
merged_first xs ys all i k x rises apart m t e =
    record {
      first_in = (let w : i < length xs = t.within in omega arith);
      second_in = m.second_in;
      ascending = increasing_push all x m.ascending (λ v c. subst (λ y. v < y) (sym e) (m.first_above t.within v c));
      size = length-append all (x ∷ []) ∙ (let s : length all ≡ i + k = m.size in omega arith);
      first = λ n h. elim (eq-or-lt_of_le (let l : n ≤ i = omega arith in l)) [
        | inl q ↦ subst (Contains (all ++ x ∷ [])) (e ∙ ap (λ j. get_or xs j 0) (sym q)) (Contains-append_right all (x ∷ []) x (first_in_one x))
        | inr l ↦ Contains-append_left all (x ∷ []) _ (m.first n l)
      ];
      second = λ n h. Contains-append_left all (x ∷ []) _ (m.second n h);
      only = λ v c. elim (Contains-append_cases all (x ∷ []) v c) [
        | inl a ↦ m.only v a
        | inr b ↦ inl (subst (Contains xs) (one x v b) here)
      ];
      first_above = λ h v c. let up : get_or xs i 0 < get_or xs (i + 1) 0 = rises i h in elim (Contains-append_cases all (x ∷ []) v c) [
        | inl a ↦ (let b : v < get_or xs i 0 = m.first_above t.within v a in omega arith)
        | inr b ↦ (let q : x ≡ v = one x v b in let p : x ≡ get_or xs i 0 = e in omega arith)
      ];
      second_above = λ h v c. elim (Contains-append_cases all (x ∷ []) v c) [
        | inl a ↦ m.second_above h v a
        | inr b ↦ subst (λ v. v < get_or ys k 0) (one x v b) (below h)
      ];
    }
  where
    first_in_one : (x : ℕ) → Contains (x ∷ []) x
    first_in_one x = first_in x []

    one : (x v : ℕ) → Contains (x ∷ []) v → x ≡ v
    one x v c = elim (in_cases x v [] c) [ inl q ↦ q | inr b ↦ absurd (omega (arith, b.1)) ]

    here : Contains xs x
    here = subst (Contains xs) (sym e) (Contains-get_or xs i 0 t.within)

    below : k < length ys → x < get_or ys k 0
    below h = elim (eq-or-lt_of_le (subst (λ y. y ≤ get_or ys k 0) (sym e) (t.least h))) [
      | inl q ↦ absurd (apart x here (subst (Contains ys) (sym q) (Contains-get_or ys k 0 h)))
      | inr l ↦ l
    ]

-- the next number of ys
pub merged_second : (xs ys all : List ℕ) (i k y : ℕ) → IsStrictlyIncreasing ys → ((v : ℕ) → Contains xs v → ¬ (Contains ys v)) → AreMerged xs ys i k all → TakesFirst ys xs k i → y ≡ get_or ys k 0 → AreMerged xs ys i (k + 1) (all ++ y ∷ [])
merged_second xs ys all i k y rises apart m t e =
    merged_turned ys xs (all ++ y ∷ []) (k + 1) i (merged_first ys xs all k i y rises (λ v b a. apart v a b) (merged_turned xs ys all i k m) t e)

pub merged_all : (xs ys all : List ℕ) (i k : ℕ) → length xs ≤ i → length ys ≤ k → AreMerged xs ys i k all → IsMerged xs ys all
merged_all xs ys all i k hi hk m =
    record {
      ascending = m.ascending;
      size = (let e : length all ≡ i + k = m.size in let a : i ≤ length xs = m.first_in in let b : k ≤ length ys = m.second_in in omega arith);
      first = λ v c. let p = index_of xs v c in subst (Contains all) p.2 (m.first p.0 (let w : p.0 < length xs = p.1 in omega arith));
      second = λ v c. let p = index_of ys v c in subst (Contains all) p.2 (m.second p.0 (let w : p.0 < length ys = p.1 in omega arith));
      only = m.only;
    }
