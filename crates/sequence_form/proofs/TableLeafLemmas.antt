-- The profiles of a table of two players as leaves.
use Rattle.std.proofs.Common.{ℕ, zero, suc, ◌*◌, ◌/◌, ◌%◌, ◌<◌, ◌≤◌, ◌≡◌, [], ◌∷◌, length, get_or, All, refl, sym, ap, ◌∙◌, subst, arith}
use Rattle.std.proofs.Math.Nat.{mod-eq_of_lt}
use Rattle.std.proofs.lemmas.List.{length-map, get_or-map}
use Rattle.std.proofs.lemmas.List.Elements.{All-get_or}
use Rattle.std.proofs.lemmas.List.FromFn.{length-map-range_with_len, get_or-map-range_with_len}
use Rattle.std.proofs.lemmas.Nat.{div_below, mod_below}
use Rattle.game_theory.specs.Profiles.{profile_count, profile_at}
use Rattle.lists.proofs.ElementLemmas.{two-elements}
use Rattle.rational.proofs.InverseLemmas.{zero_le_one}
use Rattle.game_core.specs.Table.{GameTable, IsTable, strategy_counts}
use Rattle.sequence_forms.specs.Sides.{first}
use Rattle.sequence_data.specs.Data.{LeafFits, IsSideData, side_of}
use Rattle.sequence_data.specs.declared.types.Leaf.{Leaf}
use Rattle.sequence_form.specs.Forms.{profile_leaf, table_leaves}
use Rattle.sequence_form.specs.Laws.{count_of_rows, count_of_columns}
use Rattle.sequence_form.specs.Sequences.{start_side}

module _ (t : GameTable) (valid : IsTable t) (two : length t.players ≡ 2) where
  pub two-strategies : strategy_counts t ≡ count_of_rows t ∷ count_of_columns t ∷ []
  two-strategies = two-elements (strategy_counts t) (length-map t.strategies length ∙ valid.strategies_of_each ∙ two)

  some-at : (i : ℕ) → i < 2 → 0 < get_or (strategy_counts t) i 0
  some-at i h =
      let within : i < length t.strategies = omega (arith, valid.strategies_of_each, two, h) in
      subst (λ n. 0 < n) (sym (get_or-map length t.strategies i [] 0 within)) (All-get_or (λ names. 0 < length names) t.strategies i [] within valid.some_strategy)

  pub some-rows : 0 < count_of_rows t
  some-rows = some-at 0 (omega arith)

  pub some-columns : 0 < count_of_columns t
  some-columns = some-at 1 (omega arith)

  -- how many profiles there are
  pub profiles-are : profile_count (strategy_counts t) ≡ count_of_rows t * count_of_columns t
  profiles-are = ap profile_count two-strategies ∙ omega arith

  pub payoffs-are : length t.payoffs ≡ 2 * profile_count (strategy_counts t)
  payoffs-are = valid.payoffs_of_each ∙ ap (λ n. n * profile_count (strategy_counts t)) two

  pub profiles-few : profile_count (strategy_counts t) ≤ 524288
  profiles-few = omega (arith, payoffs-are, valid.few_payoffs)

  pub rows-few : count_of_rows t ≤ 524288
  rows-few = let most = profiles-few in omega (arith, most, profiles-are, at_least (count_of_rows t) (count_of_columns t) some-columns)
    where
      at_least : (m n : ℕ) → 0 < n → m ≤ m * n
      at_least m (suc n) h = omega arith
      at_least m zero h = absurd (omega arith)

  pub columns-few : count_of_columns t ≤ 524288
  columns-few = let most = profiles-few in omega (arith, most, profiles-are, at_least (count_of_rows t) (count_of_columns t) some-rows)
    where
      at_least : (m n : ℕ) → 0 < m → n ≤ m * n
      at_least (suc m) n h = omega arith
      at_least zero n h = absurd (omega arith)

  -- a profile's strategies
  pub row-is : (k : ℕ) → get_or (profile_at (strategy_counts t) k) 0 0 ≡ k % count_of_rows t
  row-is k = ap (λ ns. get_or (profile_at ns k) 0 0) two-strategies

  pub column-below : (k : ℕ) → k < profile_count (strategy_counts t) → k / count_of_rows t < count_of_columns t
  column-below k l = div_below k (count_of_rows t) (count_of_columns t) some-rows (omega (arith, l, profiles-are))

  pub column-is : (k : ℕ) → k < profile_count (strategy_counts t) → get_or (profile_at (strategy_counts t) k) 1 0 ≡ k / count_of_rows t
  column-is k l = ap (λ ns. get_or (profile_at ns k) 1 0) two-strategies ∙ mod-eq_of_lt (column-below k l)

  -- the leaves fit the form
  pub profiles-fit : All (LeafFits (suc (count_of_rows t)) (suc (count_of_columns t))) (table_leaves t)
  profiles-fit = λ k d l. fits k d l
    where
      many : length (table_leaves t) ≡ profile_count (strategy_counts t)
      many = length-map-range_with_len (profile_leaf t) 0 (profile_count (strategy_counts t))

      here : (k : ℕ) → k < profile_count (strategy_counts t) → LeafFits (suc (count_of_rows t)) (suc (count_of_columns t)) (profile_leaf t k)
      here k l = record { not_negative = zero_le_one; row_within = omega (arith, row-is k, mod_below k (count_of_rows t) some-rows); column_within = omega (arith, column-is k l, column-below k l) }

      fits : (k : ℕ) (d : Leaf) → k < length (table_leaves t) → LeafFits (suc (count_of_rows t)) (suc (count_of_columns t)) (get_or (table_leaves t) k d)
      fits k d l =
          let below : k < profile_count (strategy_counts t) = omega (arith, l, many) in
          subst (LeafFits (suc (count_of_rows t)) (suc (count_of_columns t))) (sym (get_or-map-range_with_len (profile_leaf t) 0 (profile_count (strategy_counts t)) k k d below (omega arith))) (here k below)

  pub some-profile : 0 < length (table_leaves t)
  some-profile =
      let some = some_product (count_of_rows t) (count_of_columns t) some-rows some-columns in
      omega (arith, length-map-range_with_len (profile_leaf t) 0 (profile_count (strategy_counts t)), profiles-are, some)
    where
      some_product : (m n : ℕ) → 0 < m → 0 < n → 0 < m * n
      some_product (suc m) (suc n) h l = omega arith
      some_product zero n h l = absurd (omega arith)
      some_product (suc m) zero h l = absurd (omega arith)

-- ---- one set
one_place : (j : ℕ) → j < 1 → j ≡ 0
one_place j h = omega arith

pub start-is_side : (n : ℕ) → 0 < n → IsSideData (start_side n)
start-is_side n some = record {
  firsts_are = refl;
  sequences_are = omega arith;
  ordered = record {
    follows = λ j h. subst (λ i. (side_of (start_side n)).before i < first (side_of (start_side n)) i) (sym (one_place j h)) (omega arith);
    some_action = λ j h. subst (λ i. 0 < (side_of (start_side n)).count i) (sym (one_place j h)) some;
  };
}
