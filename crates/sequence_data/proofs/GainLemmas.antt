-- No gain over the least payoff and no cost under the greatest one is negative.
use Rattle.std.proofs.Common.{ℕ, ◌≡◌, ◌<◌, ◌∙◌, Bool, true, false, List, [], ◌∷◌, get_or, All, map, refl, sym, ap, ap₂, subst, subst₂}
use Rattle.std.specs.Prelude.{◌==◌, ◌&&◌, if◌then◌else◌}
use Rattle.std.proofs.lemmas.List.{length-map, get_or-map}
use Rattle.std.proofs.lemmas.List.Elements.{All-head, All-tail}
use Rattle.rational.specs.Rational.{ℚ, ◌+ℚ◌, ◌-ℚ◌, ◌*ℚ◌, ◌≤ℚ◌, zero_ℚ}
use Rattle.rational.proofs.Field.{le_refl, le-add, le-mul_left, le-sub}
use Rattle.rational.proofs.RationalRing.{*ℚ_comm, *ℚ-add}
use Rattle.rational.proofs.Rules.{*ℚ-zero}
use Rattle.sequence_forms.specs.Lists.{listed_at}
use Rattle.sequence_forms.specs.Prices.{costs, gains}
use Rattle.sequence_data.specs.declared.types.Cell.{Cell}
use Rattle.sequence_data.specs.declared.types.Leaf.{Leaf}
use Rattle.sequence_data.specs.Cells.{cell_at, chance_one, total}
use Rattle.sequence_data.specs.Data.{FormData, IsFormData, form}
use Rattle.rational.specs.Extremes.{IsGreatest}
use Rattle.sequence_data.proofs.CellSumLemmas.{cell_entries, cells-sum}

-- ---- sums over leaves
-- a multiple of a number that counts only here
counted-scale : (b : Bool) (c v : ℚ) → c *ℚ (if b then v else zero_ℚ) ≡ (if b then c *ℚ v else zero_ℚ)
counted-scale true c v = refl
counted-scale false c v = *ℚ-zero c

total-scale : (c : ℚ) (f : Leaf → ℚ) (leaves : List Leaf) (r q : ℕ) → c *ℚ total f leaves r q ≡ total (λ l. c *ℚ f l) leaves r q
total-scale c f [] r q = *ℚ-zero c
total-scale c f (l ∷ leaves) r q =
    *ℚ-add c (if r == l.row && q == l.column then f l else zero_ℚ) (total f leaves r q)
    ∙ ap₂ (λ a b. a +ℚ b) (counted-scale (r == l.row && q == l.column) c (f l)) (total-scale c f leaves r q)

counted-le : (b : Bool) (v w : ℚ) → v ≤ℚ w → (if b then v else zero_ℚ) ≤ℚ (if b then w else zero_ℚ)
counted-le true v w h = h
counted-le false v w h = le_refl zero_ℚ

total-le : (f g : Leaf → ℚ) (leaves : List Leaf) (r q : ℕ) → All (λ l. f l ≤ℚ g l) leaves → total f leaves r q ≤ℚ total g leaves r q
total-le f g [] r q h = le_refl zero_ℚ
total-le f g (l ∷ leaves) r q h =
    le-add (if r == l.row && q == l.column then f l else zero_ℚ) (if r == l.row && q == l.column then g l else zero_ℚ) (total f leaves r q) (total g leaves r q)
    (counted-le (r == l.row && q == l.column) (f l) (g l) (All-head (λ l. f l ≤ℚ g l) l leaves h)) (total-le f g leaves r q (All-tail (λ l. f l ≤ℚ g l) l leaves h))

-- ---- gains
module _ (f : FormData) (valid : IsFormData f) where
  -- no leaf pays less than the least payoff
  leaf_pays : All (λ l. (f.least_one *ℚ l.chance) ≤ℚ chance_one l) f.leaves
  leaf_pays k d h =
      let more = valid.of_leaves.least_one_is.least k d.one (subst (λ n. k < n) (sym (length-map f.leaves (λ l. l.one))) h) in
      pays_more (get_or f.leaves k d) (valid.leaves_fit k d h).not_negative (subst (λ v. f.least_one ≤ℚ v) (get_or-map (λ l. l.one) f.leaves k d d.one h) more)
    where
      pays_more : (l : Leaf) → zero_ℚ ≤ℚ l.chance → f.least_one ≤ℚ l.one → (f.least_one *ℚ l.chance) ≤ℚ chance_one l
      pays_more l positive least = subst (λ v. v ≤ℚ chance_one l) (*ℚ_comm l.chance f.least_one) (le-mul_left l.chance f.least_one l.one positive least)

  pub gains_positive : (r q : ℕ) → zero_ℚ ≤ℚ gains (form f) f.least_one r q
  gains_positive r q =
      (le-sub (f.least_one *ℚ (form f).weight r q) ((form f).pays 0 r q)).0
      (subst₂ (λ a b. (f.least_one *ℚ a) ≤ℚ b)
      (sym (cells-sum (λ l. l.chance) (λ c. c.weight) f.leaves f.cells valid.of_leaves.cells_are (λ c e. ap (λ d. d.weight) e) r q))
      (sym (cells-sum chance_one (λ c. c.one) f.leaves f.cells valid.of_leaves.cells_are (λ c e. ap (λ d. d.one) e) r q))
      (subst (λ v. v ≤ℚ total chance_one f.leaves r q) (sym (total-scale f.least_one (λ l. l.chance) f.leaves r q))
      (total-le (λ l. f.least_one *ℚ l.chance) chance_one f.leaves r q leaf_pays)))

-- ---- costs
module _ (f : FormData) (valid : IsFormData f) (payoff : Leaf → ℚ) (most : ℚ) (greatest : IsGreatest (map payoff f.leaves) most) where
  -- no leaf pays more than the greatest payoff
  leaf_costs : All (λ l. (l.chance *ℚ payoff l) ≤ℚ (most *ℚ l.chance)) f.leaves
  leaf_costs k d h =
      let less = greatest.greatest k (payoff d) (subst (λ n. k < n) (sym (length-map f.leaves payoff)) h) in
      pays_less (get_or f.leaves k d) (valid.leaves_fit k d h).not_negative (subst (λ v. v ≤ℚ most) (get_or-map payoff f.leaves k d (payoff d) h) less)
    where
      pays_less : (l : Leaf) → zero_ℚ ≤ℚ l.chance → payoff l ≤ℚ most → (l.chance *ℚ payoff l) ≤ℚ (most *ℚ l.chance)
      pays_less l positive least = subst (λ v. (l.chance *ℚ payoff l) ≤ℚ v) (*ℚ_comm l.chance most) (le-mul_left l.chance (payoff l) most positive least)

  costs_above : (pays : Cell → ℚ) → ((c : Cell) → c ≡ cell_at f.leaves c.row c.column → pays c ≡ total (λ l. l.chance *ℚ payoff l) f.leaves c.row c.column) → (r q : ℕ) → zero_ℚ ≤ℚ ((most *ℚ listed_at (cell_entries (λ c. c.weight) f.cells) r q) -ℚ listed_at (cell_entries pays f.cells) r q)
  costs_above pays is r q =
      (le-sub (listed_at (cell_entries pays f.cells) r q) (most *ℚ listed_at (cell_entries (λ c. c.weight) f.cells) r q)).0
      (subst₂ (λ a b. a ≤ℚ (most *ℚ b))
      (sym (cells-sum (λ l. l.chance *ℚ payoff l) pays f.leaves f.cells valid.of_leaves.cells_are is r q))
      (sym (cells-sum (λ l. l.chance) (λ c. c.weight) f.leaves f.cells valid.of_leaves.cells_are (λ c e. ap (λ d. d.weight) e) r q))
      (subst (λ v. total (λ l. l.chance *ℚ payoff l) f.leaves r q ≤ℚ v) (sym (total-scale most (λ l. l.chance) f.leaves r q))
      (total-le (λ l. l.chance *ℚ payoff l) (λ l. most *ℚ l.chance) f.leaves r q leaf_costs)))

pub costs_positive_one : (f : FormData) (r q : ℕ) → IsFormData f → zero_ℚ ≤ℚ costs (form f) 0 f.greatest_one r q
costs_positive_one f r q valid = costs_above f valid (λ l. l.one) f.greatest_one valid.of_leaves.greatest_one_is (λ c. c.one) (λ c e. ap (λ d. d.one) e) r q

pub costs_positive_two : (f : FormData) (r q : ℕ) → IsFormData f → zero_ℚ ≤ℚ costs (form f) 1 f.greatest_two r q
costs_positive_two f r q valid = costs_above f valid (λ l. l.two) f.greatest_two valid.of_leaves.greatest_two_is (λ c. c.two) (λ c e. ap (λ d. d.two) e) r q
