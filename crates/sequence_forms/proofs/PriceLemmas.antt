-- Prices bound what plans gain.
use Rattle.std.proofs.Common.{ℕ, suc, ◌+◌, ◌<◌, ◌≡◌, Bool, true, false, cond, [], ◌∷◌, refl, sym, ap, ap₂, ◌∙◌, subst, arith}
use Rattle.std.specs.Prelude.{◌==◌, if◌then◌else◌}
use Rattle.std.proofs.lemmas.Int.{ints}
use Rattle.rational.specs.Rational.{ℚ, ◌+ℚ◌, ◌-ℚ◌, ◌*ℚ◌, ◌≤ℚ◌, neg_ℚ, zero_ℚ, one_ℚ}
use Rattle.rational.specs.Sum.{sum_to}
use Rattle.rational.proofs.RationalRing.{rational_ring}
use Rattle.rational.proofs.Field.{le-mul_left, le_antisymm, le_trans}
use Rattle.rational.proofs.Linear.{linear, at, ◌⟨+⟩◌, ◌⟨-⟩◌, ◌⟨≤⟩◌, ◌⟨=⟩◌}
use Rattle.rational.proofs.SumLemmas.{sum_to-same, sum_to-sub, sum_to-le, sum_to-scale_right}
use Rattle.rational.proofs.Ring.{ring, num, ◌:+◌, ◌:*◌, ◌:-◌, :neg, A, B, C}
use Rattle.game_theory.specs.Mixed.{sure}
use Rattle.sequence_forms.specs.Sides.{Side, first, sequences, place, IsSide, IsRealisationPlan}
use Rattle.sequence_forms.specs.Forms.{SequenceForm, row_sum, column_sum, cell_sum, AreBestPlans, WeighsOne}
use Rattle.sequence_forms.specs.Prices.{prices_after, net_price, gains, costs, HasConstantSum}
use Rattle.sequence_forms.specs.PriceLaws.{PricesProveTheValue, ComplementaryPlansAreBest}
use Rattle.sequence_forms.proofs.GatheredSumLemmas.{gather, cell_sum-same, cell_sum-mix, cell_sum-columns}
use Rattle.sequence_forms.proofs.SideLemmas.{place-empty, place-set, sum_to-sets}

-- ---- one side
-- the prices of the sets, weighted by a plan's weights before them
abbrev before_sum : Side → (ℕ → ℚ) → (ℕ → ℚ) → ℚ
before_sum d prices z = sum_to d.sets (λ j. z (d.before j) *ℚ prices (suc j))

-- a plan weighs the prices of its sequences' sets
own_prices : (d : Side) (prices z : ℕ → ℚ) → IsRealisationPlan d z → sum_to (sequences d) (λ q. z q *ℚ prices (place d q)) ≡ prices 0 +ℚ before_sum d prices z
own_prices d prices z p =
    sum_to-sets d.count d.sets (λ q. z q *ℚ prices (place d q))
    ∙ ap₂ (λ u v. u +ℚ v) (ap₂ (λ u k. u *ℚ prices k) p.empty_is_one (place-empty d.count d.sets) ∙ ring rational_ring (prices 0 ∷ []) (num 1 :* A) A refl) (sum_to-same d.sets _ _ (λ j h. sum_to-same (d.count j) _ (λ a. z (first d j + a) *ℚ prices (suc j)) (λ a l. ap (λ k. z (first d j + a) *ℚ prices k) (place-set d.count d.sets j a h l)) ∙ sum_to-scale_right (d.count j) (prices (suc j)) (λ a. z (first d j + a)) ∙ ap (λ u. u *ℚ prices (suc j)) (p.splits j h)))

-- a price where the test holds
pub price_if : (b : Bool) (v : ℚ) → (if b then v else zero_ℚ) ≡ cond b one_ℚ zero_ℚ *ℚ v
price_if true v = ring rational_ring (v ∷ []) A (num 1 :* A) refl
price_if false v = ring rational_ring (v ∷ []) (num 0) (num 0 :* A) refl

-- and the prices of the sets after them
later_prices : (d : Side) (prices z : ℕ → ℚ) → IsSide d → sum_to (sequences d) (λ q. z q *ℚ prices_after d prices q) ≡ before_sum d prices z
later_prices d prices z s =
    sum_to-same (sequences d) _ _ (λ q l. ap (λ u. z q *ℚ u) (sum_to-same d.sets _ (λ j. sure (d.before j) q *ℚ prices (suc j)) (λ j h. price_if (q == d.before j) (prices (suc j)))))
    ∙ gather (sequences d) d.sets d.before z (λ j. prices (suc j)) s

-- a plan weighs the net prices to the first price
pub net_prices : (d : Side) (prices z : ℕ → ℚ) → IsSide d → IsRealisationPlan d z → sum_to (sequences d) (λ q. z q *ℚ net_price d prices q) ≡ prices 0
net_prices d prices z s p =
    sum_to-same (sequences d) _ (λ q. (z q *ℚ prices (place d q)) -ℚ (z q *ℚ prices_after d prices q)) (λ q l. ring rational_ring (z q ∷ prices (place d q) ∷ prices_after d prices q ∷ []) (A :* (B :- C)) (A :* B :- A :* C) refl)
    ∙ sum_to-sub (sequences d) (λ q. z q *ℚ prices (place d q)) (λ q. z q *ℚ prices_after d prices q)
    ∙ ap₂ (λ u v. u -ℚ v) (own_prices d prices z p) (later_prices d prices z s)
    ∙ ring rational_ring (prices 0 ∷ before_sum d prices z ∷ []) (A :+ B :- B) A refl

-- a plan gains at most the first price where no sequence gains more than its net price
pub gain_below : (d : Side) (prices gain z : ℕ → ℚ) → IsSide d → IsRealisationPlan d z → ((q : ℕ) → q < sequences d → gain q ≤ℚ net_price d prices q) → sum_to (sequences d) (λ q. z q *ℚ gain q) ≤ℚ prices 0
gain_below d prices gain z s p h =
    subst (λ u. sum_to (sequences d) (λ q. z q *ℚ gain q) ≤ℚ u) (net_prices d prices z s p) (sum_to-le (sequences d) _ _ (λ q l. le-mul_left (z q) (gain q) (net_price d prices q) (p.not_negative q l) (h q l)))

-- and at least the first price where none gains less
pub gain_above : (d : Side) (prices gain z : ℕ → ℚ) → IsSide d → IsRealisationPlan d z → ((q : ℕ) → q < sequences d → net_price d prices q ≤ℚ gain q) → prices 0 ≤ℚ sum_to (sequences d) (λ q. z q *ℚ gain q)
gain_above d prices gain z s p h =
    subst (λ u. u ≤ℚ sum_to (sequences d) (λ q. z q *ℚ gain q)) (net_prices d prices z s p) (sum_to-le (sequences d) _ _ (λ q l. le-mul_left (z q) (net_price d prices q) (gain q) (p.not_negative q l) (h q l)))

-- and the first price where each sequence with a weight gains its net price
pub gain_meets : (d : Side) (prices gain z : ℕ → ℚ) → IsSide d → IsRealisationPlan d z → ((q : ℕ) → q < sequences d → z q *ℚ (gain q -ℚ net_price d prices q) ≡ zero_ℚ) → sum_to (sequences d) (λ q. z q *ℚ gain q) ≡ prices 0
gain_meets d prices gain z s p h =
    sum_to-same (sequences d) _ _ (λ q l. equal (z q) (gain q) (net_price d prices q) (h q l)) ∙ net_prices d prices z s p
  where
    equal : (z g n : ℚ) → z *ℚ (g -ℚ n) ≡ zero_ℚ → z *ℚ g ≡ z *ℚ n
    equal z g n e = ring rational_ring (z ∷ g ∷ n ∷ []) (A :* B) (A :* (B :- C) :+ A :* C) refl ∙ ap (λ u. u +ℚ (z *ℚ n)) e ∙ ring rational_ring (z ∷ n ∷ []) (num 0 :+ A :* B) (A :* B) refl

-- ---- the value of a game with a constant sum
-- gains are payoffs less the least one
sum_of_gains : (f : SequenceForm) (least : ℚ) (x y : ℕ → ℚ) → WeighsOne f → IsRealisationPlan f.rows x → IsRealisationPlan f.columns y → cell_sum f (gains f least) x y ≡ cell_sum f (f.pays 0) x y -ℚ least
sum_of_gains f least x y one px py =
    cell_sum-same f (gains f least) (λ r q. (one_ℚ *ℚ f.pays 0 r q) +ℚ (neg_ℚ least *ℚ f.weight r q)) x y (λ r q l m. ring rational_ring (f.pays 0 r q ∷ least ∷ f.weight r q ∷ []) (A :- B :* C) (num 1 :* A :+ :neg B :* C) refl)
    ∙ cell_sum-mix f one_ℚ (neg_ℚ least) (f.pays 0) f.weight x y
    ∙ ap (λ u. (one_ℚ *ℚ cell_sum f (f.pays 0) x y) +ℚ (neg_ℚ least *ℚ u)) (one x y px py)
    ∙ ring rational_ring (cell_sum f (f.pays 0) x y ∷ least ∷ []) (num 1 :* A :+ :neg B :* num 1) (A :- B) refl

-- player 1's payoffs in a game with a constant sum
sum_of_others : (f : SequenceForm) (c : ℚ) (x y : ℕ → ℚ) → WeighsOne f → HasConstantSum f c → IsRealisationPlan f.rows x → IsRealisationPlan f.columns y → cell_sum f (f.pays 1) x y ≡ c -ℚ cell_sum f (f.pays 0) x y
sum_of_others f c x y one h px py =
    cell_sum-same f (f.pays 1) (λ r q. (c *ℚ f.weight r q) +ℚ (neg_ℚ one_ℚ *ℚ f.pays 0 r q)) x y (λ r q l m. ring rational_ring (f.pays 0 r q ∷ f.pays 1 r q ∷ []) B ((A :+ B) :+ :neg (num 1) :* A) refl ∙ ap (λ u. u +ℚ (neg_ℚ one_ℚ *ℚ f.pays 0 r q)) (h r q l m))
    ∙ cell_sum-mix f c (neg_ℚ one_ℚ) f.weight (f.pays 0) x y
    ∙ ap (λ u. (c *ℚ u) +ℚ (neg_ℚ one_ℚ *ℚ cell_sum f (f.pays 0) x y)) (one x y px py)
    ∙ ring rational_ring (c ∷ cell_sum f (f.pays 0) x y ∷ []) (A :* num 1 :+ :neg (num 1) :* B) (A :- B) refl

-- prices prove the value
pub prices_prove : PricesProveTheValue
prices_prove f least c x y P Q v rows columns one h p = record { best = best; value = value; row_gets = gets; column_leaves = leaves }
  where
    gets : (z : ℕ → ℚ) → IsRealisationPlan f.columns z → v ≤ℚ cell_sum f (f.pays 0) x z
    gets z pz =
        linear (v ∷ P 0 ∷ Q 0 ∷ least ∷ cell_sum f (f.pays 0) x z ∷ []) ((at 0 ⟨=⟩ (at 1 ⟨+⟩ at 3)) ∷ (at 1 ⟨=⟩ at 2) ∷ (at 2 ⟨≤⟩ (at 4 ⟨-⟩ at 3)) ∷ []) (at 0 ⟨≤⟩ at 4) (λ one z p h. omega (arith, ints))
        (p.value_is, (p.same_first, (subst (λ u. Q 0 ≤ℚ u) (sym (cell_sum-columns f (gains f least) x z) ∙ sum_of_gains f least x z one p.row_plan pz) (gain_above f.columns Q (column_sum f (gains f least) x) z columns pz p.column_gains), tt)))

    leaves : (z : ℕ → ℚ) → IsRealisationPlan f.rows z → cell_sum f (f.pays 0) z y ≤ℚ v
    leaves z pz =
        linear (v ∷ P 0 ∷ least ∷ cell_sum f (f.pays 0) z y ∷ []) ((at 0 ⟨=⟩ (at 1 ⟨+⟩ at 2)) ∷ ((at 3 ⟨-⟩ at 2) ⟨≤⟩ at 1) ∷ []) (at 3 ⟨≤⟩ at 0) (λ one z p h. omega (arith, ints))
        (p.value_is, (subst (λ u. u ≤ℚ P 0) (sum_of_gains f least z y one pz p.column_plan) (gain_below f.rows P (row_sum f (gains f least) y) z rows pz p.row_gains), tt))

    value : cell_sum f (f.pays 0) x y ≡ v
    value = le_antisymm (cell_sum f (f.pays 0) x y) v (leaves x p.row_plan) (gets y p.column_plan)

    best : AreBestPlans f x y
    best = record {
      row_plan = p.row_plan;
      column_plan = p.column_plan;
      best_row = λ z pz. le_trans _ v _ (leaves z pz) (gets y p.column_plan);
      best_column = λ z pz. linear (cell_sum f (f.pays 1) x z ∷ cell_sum f (f.pays 1) x y ∷ c ∷ cell_sum f (f.pays 0) x z ∷ cell_sum f (f.pays 0) x y ∷ v ∷ []) ((at 0 ⟨=⟩ (at 2 ⟨-⟩ at 3)) ∷ (at 1 ⟨=⟩ (at 2 ⟨-⟩ at 4)) ∷ (at 4 ⟨=⟩ at 5) ∷ (at 5 ⟨≤⟩ at 3) ∷ []) (at 0 ⟨≤⟩ at 1) (λ one z p h. omega (arith, ints))
          (sum_of_others f c x z one h p.row_plan pz, (sum_of_others f c x y one h p.row_plan p.column_plan, (value, (gets z pz, tt))));
    }

-- ---- the complementarity problem
-- costs are what payoffs lack of the greatest one
sum_of_costs : (f : SequenceForm) (i : ℕ) (greatest : ℚ) (x y : ℕ → ℚ) → WeighsOne f → IsRealisationPlan f.rows x → IsRealisationPlan f.columns y → cell_sum f (costs f i greatest) x y ≡ greatest -ℚ cell_sum f (f.pays i) x y
sum_of_costs f i greatest x y one px py =
    cell_sum-same f (costs f i greatest) (λ r q. (greatest *ℚ f.weight r q) +ℚ (neg_ℚ one_ℚ *ℚ f.pays i r q)) x y (λ r q l m. ring rational_ring (f.pays i r q ∷ greatest ∷ f.weight r q ∷ []) (B :* C :- A) (B :* C :+ :neg (num 1) :* A) refl)
    ∙ cell_sum-mix f greatest (neg_ℚ one_ℚ) f.weight (f.pays i) x y
    ∙ ap (λ u. (greatest *ℚ u) +ℚ (neg_ℚ one_ℚ *ℚ cell_sum f (f.pays i) x y)) (one x y px py)
    ∙ ring rational_ring (greatest ∷ cell_sum f (f.pays i) x y ∷ []) (A :* num 1 :+ :neg (num 1) :* B) (A :- B) refl

-- the least cost is the greatest payoff
least_cost : (g p q e : ℚ) → e ≡ g -ℚ p → e ≤ℚ g -ℚ q → q ≤ℚ p
least_cost g p q e h l = linear (g ∷ p ∷ q ∷ e ∷ []) ((at 3 ⟨=⟩ (at 0 ⟨-⟩ at 1)) ∷ (at 3 ⟨≤⟩ (at 0 ⟨-⟩ at 2)) ∷ []) (at 2 ⟨≤⟩ at 1) (λ one z u v. omega (arith, ints)) (h, (l, tt))

-- a solution's plans are best
pub complementary_best : ComplementaryPlansAreBest
complementary_best f g k x y P Q rows columns one p =
    record {
      row_plan = p.row_plan;
      column_plan = p.column_plan;
      best_row = λ z pz. least_cost g _ _ (P 0) (sym (gain_meets f.rows P (row_sum f (costs f 0 g) y) x rows p.row_plan p.rows_meet) ∙ sum_of_costs f 0 g x y one p.row_plan p.column_plan) (subst (λ u. P 0 ≤ℚ u) (sum_of_costs f 0 g z y one pz p.column_plan) (gain_above f.rows P (row_sum f (costs f 0 g) y) z rows pz p.row_costs));
      best_column = λ z pz. least_cost k _ _ (Q 0) (sym (gain_meets f.columns Q (column_sum f (costs f 1 k) x) y columns p.column_plan p.columns_meet) ∙ sym (cell_sum-columns f (costs f 1 k) x y) ∙ sum_of_costs f 1 k x y one p.row_plan p.column_plan) (subst (λ u. Q 0 ≤ℚ u) (sym (cell_sum-columns f (costs f 1 k) x z) ∙ sum_of_costs f 1 k x z one p.row_plan pz) (gain_above f.columns Q (column_sum f (costs f 1 k) x) z columns pz p.column_costs));
    }
