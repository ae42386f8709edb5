-- The strategies of a list that are not dominated, as they are found one after another.
use Rattle.std.proofs.Common.{ℕ, ◌+◌, ◌*◌, ◌<◌, ◌≤◌, ◌-◌, ◌≡◌, ◌⊎◌, inl, inr, All, List, [], ◌∷◌, ◌++◌, length, take, replicate, set, get_or, sum, sym, ap, ◌∙◌, subst, subst₂, arith}
use Rattle.std.specs.Prelude.{Contains}
use Rattle.std.specs.List.{range_with_len}
use Rattle.std.specs.List.Sorted.{IsStrictlyIncreasing}
use Rattle.std.proofs.lemmas.Bool.{cases_eq, cases_lt}
use Rattle.std.proofs.lemmas.List.{get_or-replicate, get_or-set_other, get_or-set_same, get_or-take, length-replicate, length-set, length-take-le, length_push, take_more}
use Rattle.std.proofs.lemmas.List.Elements.{Contains-get_or, Contains-append_left, Contains-push, Contains-push_cases}
use Rattle.std.proofs.lemmas.List.Kept.{AllPairs-from_increasing}
use Rattle.std.proofs.lemmas.List.FromFn.{get_or-range_with_len, length-range_with_len}
use Rattle.lists.proofs.ElementLemmas.{two-elements}
use Rattle.lists.proofs.AscendingNumberLemmas.{non_decreasing}
use Rattle.lists.proofs.NumberLemmas.{place-inside, place-tells}
use Rattle.game_core.specs.Table.{GameTable, IsTable, game_of, strategy_counts}
use Rattle.game_core.proofs.TableCountLemmas.{length-strategy_counts}
use Rattle.game_theory.specs.Profiles.{Game}
use Rattle.lists.specs.Listed.{AreListed}
use Rattle.extreme_equilibria.specs.Elimination.{IsDominated, AreKept, AreKeptAfter}
use Rattle.extreme_equilibria.proofs.RoundLemmas.{kept-within}
use Rattle.lists.proofs.ListedLemmas.{listed-push, listed-same}
use Rattle.extreme_equilibria.proofs.KeptListLemmas.{place}
use Rattle.kept_strategies.specs.Comparisons.{AreAhead, IsAheadAt, IsAheadBefore}
use Rattle.kept_strategies.specs.Kept.{most_strategies}

-- all numbers below a count
pub below-listed : (n : ℕ) → AreListed (λ s. s < n) (range_with_len 0 n)
below-listed n = record {
  ascending = λ k l.
      let lk : k < n = omega (arith, l, length-range_with_len 0 n) in
      let ln : k + 1 < n = omega (arith, l, length-range_with_len 0 n) in
      omega (arith, get_or-range_with_len 0 n k 0 lk, get_or-range_with_len 0 n (k + 1) 0 ln);
  sound = λ s c.
      let l : c.0 < n = omega (arith, c.1, length-range_with_len 0 n) in
      omega (arith, c.2, l, get_or-range_with_len 0 n c.0 s l);
  complete = λ s l. (s, omega (arith, l, length-range_with_len 0 n), omega (arith, get_or-range_with_len 0 n s s l));
}

-- the lists of a round are strategies of their players
pub within-all : (t : GameTable) (n i : ℕ) (xs ys : List ℕ) → AreKeptAfter (game_of t) n i xs → ys ≡ xs → All (λ s. s < get_or (strategy_counts t) i 0) ys
within-all t n i xs ys h e = subst (All (λ s. s < get_or (strategy_counts t) i 0)) (sym e) (λ k d l. kept-within (game_of t) n i (get_or xs k d) (h.sound (get_or xs k d) (Contains-get_or xs k d l)))

-- and so are those that are kept
pub kept-all : (t : GameTable) (i : ℕ) (xs ys : List ℕ) → AreKept (game_of t) i xs → ys ≡ xs → All (λ s. s < get_or (strategy_counts t) i 0) ys
kept-all t i xs ys h e = subst (All (λ s. s < get_or (strategy_counts t) i 0)) (sym e) (λ k d l. kept-within (game_of t) 0 i (get_or xs k d) (h.sound (get_or xs k d) (Contains-get_or xs k d l) 0))

-- the numbers of strategies of two players whose strategies together are few
pub few_of_two : (t : GameTable) → IsTable t → length t.players ≡ 2 → sum (strategy_counts t) ≤ most_strategies → get_or (strategy_counts t) 0 0 + get_or (strategy_counts t) 1 0 ≤ most_strategies
few_of_two t valid two few =
    let e = ap sum (two-elements (strategy_counts t) (length-strategy_counts t valid ∙ two)) in
    omega (arith, e, few)

-- ---- pairs of strategies
module _ (g : Game) (i : ℕ) (others firsts : List ℕ) (s r first : ℕ) where
  -- how many strategies the player has
  abbrev n : ℕ
  n = get_or g.strategies i 0

  -- a pair's number is kept anew
  pub ahead-set : AreAhead g i others firsts → s < n → r < n → IsAheadBefore g i others s r first → AreAhead g i others (set firsts (s * n + r) first)
  ahead-set h ls lr before = record {
    each_pair = length-set firsts (s * n + r) first ∙ h.each_pair;
    ahead = λ s' r' ls' lr'. elim (cases_eq (s' * n + r') (s * n + r)) [
      | inl same ↦
          let is = place-tells n s r s' r' lr lr' (sym same) in
          let here : get_or (set firsts (s * n + r) first) (s' * n + r') 0 ≡ first = ap (λ k. get_or (set firsts (s * n + r) first) k 0) same ∙ get_or-set_same firsts (s * n + r) first 0 (rw h.each_pair (place-inside n n s r ls lr)) in
          subst (IsAheadBefore g i others s' r') (sym here) (subst₂ (λ x y. IsAheadBefore g i others x y first) is.0 is.1 before)
      | inr apart ↦ subst (IsAheadBefore g i others s' r') (sym (get_or-set_other firsts (s * n + r) (s' * n + r') first 0 apart)) (h.ahead s' r' ls' lr')
    ];
  }

-- among fewer others no less is known
pub ahead-fewer : (g : Game) (i : ℕ) (others fewer firsts : List ℕ) → ((t : ℕ) → Contains fewer t → Contains others t) → AreAhead g i others firsts → AreAhead g i fewer firsts
ahead-fewer g i others fewer firsts less h = record { each_pair = h.each_pair; ahead = λ s r ls lr t c l. h.ahead s r ls lr t (less t c) l }

-- at first nothing is known
pub nothing-ahead : (g : Game) (i : ℕ) (others firsts : List ℕ) → firsts ≡ replicate (get_or g.strategies i 0 * get_or g.strategies i 0) 0 → AreAhead g i others firsts
nothing-ahead g i others firsts is = record {
  each_pair = ap length is ∙ length-replicate _ 0;
  ahead = λ s r ls lr t c l. absurd (omega (arith, l, ap (λ xs. get_or xs (s * get_or g.strategies i 0 + r) 0) is ∙ get_or-replicate _ _ 0 0 (place-inside _ _ s r ls lr)));
}

-- ---- the first that is not ahead
module _ (g : Game) (i : ℕ) (others : List ℕ) (s r from start : ℕ) (up : IsStrictlyIncreasing others) (known : IsAheadBefore g i others s r from) (below : (k : ℕ) → k < length others → get_or others k 0 < from ⊎ (start ≤ k)) where
  -- those before one place, where it is so from the start on
  pub ahead-before : (k : ℕ) → k < length others → ((j : ℕ) → start + j < k → IsAheadAt g i s r (get_or others (start + j) 0)) → IsAheadBefore g i others s r (get_or others k 0)
  ahead-before k l ahead t c less =
      let p = place others t 0 c in
      let before : p.0 < k = elim (cases_lt p.0 k) [ inl is ↦ is | inr not ↦ absurd (omega (arith, p.2, less, non_decreasing others up k p.0 0 (omega (arith, not)) p.1)) ] in
      at p.0 p.1 before t p.2
    where
      at : (j : ℕ) → j < length others → j < k → (t : ℕ) → get_or others j 0 ≡ t → IsAheadAt g i s r t
      at j m h t is = elim (below j m) [
        | inl early ↦ known t (subst (Contains others) is (Contains-get_or others j 0 m)) (subst (λ x. x < from) is early)
        | inr late ↦ let e : start + (j - start) ≡ j = omega arith in subst (IsAheadAt g i s r) (ap (λ x. get_or others x 0) e ∙ is) (ahead (j - start) (omega (arith, h, e)))
      ]

  -- or all of them
  pub ahead-all : ((j : ℕ) → start + j < length others → IsAheadAt g i s r (get_or others (start + j) 0)) → (t : ℕ) → Contains others t → IsAheadAt g i s r t
  ahead-all ahead t c =
      let p = place others t 0 c in
      elim (below p.0 p.1) [
        | inl early ↦ known t c (omega (arith, early, p.2))
        | inr late ↦ let e : start + (p.0 - start) ≡ p.0 = omega arith in subst (IsAheadAt g i s r) (ap (λ x. get_or others x 0) e ∙ p.2) (ahead (p.0 - start) (omega (arith, p.1, e)))
      ]

-- a round's list of a player
abbrev pub Round : Game → ℕ → List ℕ → List ℕ → List ℕ → Type 0
Round g i own others next = AreListed (λ s. Contains own s × (IsDominated g i (Contains own) (Contains others) s → ⊥)) next

-- where a round keeps all, none of the strategies is dominated
pub none-dominated : (D : ℕ → Type 0) (own next : List ℕ) → AreListed (λ s. Contains own s × (D s → ⊥)) next → (next ≡ own) ⊎ (length next < length own) → length next ≡ length own → (s : ℕ) → Contains own s → D s → ⊥
none-dominated D own next h (inl all) e s c = (h.sound s (subst (λ xs. Contains xs s) (sym all) c)).1
none-dominated D own next h (inr fewer) e s c = absurd (omega (arith, fewer, e))

module _ (D : ℕ → Type 0) (own : List ℕ) (up : IsStrictlyIncreasing own) (k : ℕ) (l : k < length own) (kept : List ℕ) where
  -- a strategy among the first ones, that is not dominated
  abbrev Stays : ℕ → ℕ → Type 0
  Stays n s = Contains (take n own) s × (D s → ⊥)

  -- the next strategy is greater than those before it
  after : (s : ℕ) → Stays k s → s < get_or own k 0
  after s h =
      let p = place (take k own) s 0 h.0 in
      let j : p.0 < k = omega (arith, p.1, length-take-le k own (omega arith)) in
      omega (arith, sym (get_or-take k own p.0 0 j) ∙ p.2, AllPairs-from_increasing own up p.0 k 0 j l)

  more : (s : ℕ) → Stays k s → Stays (k + 1) s
  more s h = (subst (λ xs. Contains xs s) (sym (take_more own k 0 l)) (Contains-append_left (take k own) (get_or own k 0 ∷ []) s h.0), h.1)

  back : (s : ℕ) → Stays (k + 1) s → Stays k s ⊎ (get_or own k 0 ≡ s)
  back s h = elim (Contains-push_cases (take k own) (get_or own k 0) s (subst (λ xs. Contains xs s) (take_more own k 0 l) h.0)) [ inl before ↦ inl (before, h.1) | inr last ↦ inr last ]

  -- the next strategy stays
  pub stays-listed : AreListed (Stays k) kept → (D (get_or own k 0) → ⊥) → AreListed (Stays (k + 1)) (kept ++ get_or own k 0 ∷ [])
  stays-listed h stays =
      listed-push (Stays k) (Stays (k + 1)) kept h more (get_or own k 0) after
      (subst (λ xs. Contains xs (get_or own k 0)) (sym (take_more own k 0 l)) (Contains-push (take k own) (get_or own k 0)), stays) back

  pub stays-count : (kept ≡ take k own) ⊎ (length kept < k) → (kept ++ get_or own k 0 ∷ [] ≡ take (k + 1) own) ⊎ (length (kept ++ get_or own k 0 ∷ []) < k + 1)
  stays-count (inl all) = inl (ap (λ xs. xs ++ get_or own k 0 ∷ []) all ∙ sym (take_more own k 0 l))
  stays-count (inr fewer) = inr (omega (arith, length_push kept (get_or own k 0), fewer))

  -- the next strategy is removed
  pub goes-listed : AreListed (Stays k) kept → D (get_or own k 0) → AreListed (Stays (k + 1)) kept
  goes-listed h goes = listed-same (Stays k) (Stays (k + 1)) kept h more (λ s q. elim (back s q) [ inl before ↦ before | inr last ↦ absurd (q.1 (subst D last goes)) ])

  pub goes-count : (kept ≡ take k own) ⊎ (length kept < k) → (kept ≡ take (k + 1) own) ⊎ (length kept < k + 1)
  goes-count (inl all) = inr (omega (arith, ap length all, length-take-le k own (omega arith)))
  goes-count (inr fewer) = inr (omega (arith, fewer))
