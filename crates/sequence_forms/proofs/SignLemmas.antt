-- The signs of the cells, and what is made along the paths.
use Rattle.std.proofs.Common.{ℕ, zero, suc, ◌+◌, ◌<◌, ◌≡◌, Bool, true, false, Option, Some, None, [], ◌∷◌, refl, sym, ap, ◌∙◌, subst, arith}
use Rattle.std.specs.Prelude.{◌==◌, ◌&&◌, if◌then◌else◌}
use Rattle.game_theory.specs.OwnSets.{own_sets}
use Rattle.game_theory.proofs.OwnSetLemmas.{own_sets-ascend}
use Rattle.rational.specs.Rational.{ℚ, ◌+ℚ◌, ◌-ℚ◌, ◌*ℚ◌, ◌≤ℚ◌, neg_ℚ, zero_ℚ, one_ℚ}
use Rattle.rational.proofs.RationalRing.{rational_ring, *ℚ_comm}
use Rattle.rational.proofs.Rules.{one-*ℚ}
use Rattle.rational.proofs.Field.{le_refl, le-sub, nonneg-mul}
use Rattle.rational.proofs.SumLemmas.{sum_to-same, sum_to-sub, sum_to-scale, sum_to-neg, sum_to-nonneg}
use Rattle.rational.proofs.Ring.{ring, num, ◌:+◌, ◌:*◌, ◌:-◌, :neg, A, B, C}
use Rattle.rational.proofs.InverseLemmas.{zero_le_one}
use Rattle.game_theory.specs.Profiles.{number_of}
use Rattle.game_theory.specs.Trees.{Tree, IsTree}
use Rattle.game_theory.specs.Behaviour.{branch_probability}
use Rattle.game_theory.proofs.PathLemmas.{along_paths}
use Rattle.sequence_forms.specs.Sides.{first_after}
use Rattle.sequence_forms.specs.Sequences.{own_action_count}
use Rattle.sequence_forms.specs.Forms.{at_leaf, row, column, leaves_at, chance_of_path, payoff_of_path, form_of_table}
use Rattle.sequence_forms.specs.Prices.{gains, costs}
use Rattle.sequence_forms.specs.TableLaws.{CellsOfTables}
use Rattle.sequence_forms.specs.TreeLaws.{LastSequencesRecur, PathsAddUp, CellsAreNotNegative}
use Rattle.sequence_forms.proofs.PlanBehaviourLemmas.{before-is}
use Rattle.sequence_forms.proofs.RealisedPayoffLemmas.{branch_at, chance-step, path_adds}
use Rattle.sequence_forms.proofs.SequenceLemmas.{last-own, last-other, last-below}
use Rattle.sequence_forms.proofs.SetOrderLemmas.{place_at}

-- ---- along the paths
-- the last own sequences
pub last_sequences : LastSequencesRecur
last_sequences t i w =
    record {
      root = refl;
      own = λ c s p l q e. last-own t i c s w p l q e;
      other = λ c s p l q e. last-other t i c s w p l q e;
      before = λ k s r l q e. before-is t i s k r e l q;
      within = last-below t i w;
      numbered = λ j a h. ap (λ n. first_after (own_action_count t i) n + a) (place_at 0 (own_sets t i) j (own_sets-ascend t i) h);
    }

-- chance and the payoffs
pub path_totals : PathsAddUp
path_totals t w =
    record {
      chance_at_root = refl;
      after_chance = λ c s p l q e. chance-step t c w p l ∙ ap (λ u. u *ℚ chance_of_path t (t.parent c)) (branch_at t (λ s a. one_ℚ) c s None q e) ∙ *ℚ_comm (t.chance s (t.branch c)) (chance_of_path t (t.parent c));
      after_player = λ c s i p l q e. chance-step t c w p l ∙ ap (λ u. u *ℚ chance_of_path t (t.parent c)) (branch_at t (λ s a. one_ℚ) c s (Some i) q e) ∙ one-*ℚ (chance_of_path t (t.parent c));
      payoff_at_root = λ i. refl;
      payoff_after = λ i c p l. (path_adds t i w).child c p l;
    }

-- no chance is negative
pub chance-not_negative : (t : Tree) → IsTree t → (k : ℕ) → k < t.size → zero_ℚ ≤ℚ chance_of_path t k
chance-not_negative t w k l = along_paths t (λ x. zero_ℚ ≤ℚ chance_of_path t x) w zero_le_one next k l
  where
    next : (c : ℕ) → 0 < c → c < t.size → zero_ℚ ≤ℚ chance_of_path t (t.parent c) → zero_ℚ ≤ℚ chance_of_path t c
    next c p m before =
        let led = w.led_to c p m in
        let after : t.parent c < c = w.after_parent c p m in
        subst (λ u. zero_ℚ ≤ℚ u) (sym (chance-step t c w p m)) (nonneg-mul (branch_probability t (λ s a. one_ℚ) c) (chance_of_path t (t.parent c)) (go led.0 led.1 led.2 (omega arith) (t.owner led.0) refl) before)
      where
        go : (s : ℕ) → t.set (t.parent c) ≡ Some s → t.branch c < t.actions s → t.parent c < t.size → (o : Option ℕ) → t.owner s ≡ o → zero_ℚ ≤ℚ branch_probability t (λ s a. one_ℚ) c
        go s q a inside None e = subst (λ u. zero_ℚ ≤ℚ u) (sym (branch_at t (λ s a. one_ℚ) c s None q e)) ((w.chance_distributions s (w.sets_within (t.parent c) s inside q) e).not_negative (t.branch c) a)
        go s q a inside (Some i) e = subst (λ u. zero_ℚ ≤ℚ u) (sym (branch_at t (λ s a. one_ℚ) c s (Some i) q e)) zero_le_one

-- ---- cells
-- a leaf in its cell
leaf-not_negative : (o : Option ℕ) (b : Bool) (v : ℚ) → (o ≡ None → zero_ℚ ≤ℚ v) → zero_ℚ ≤ℚ at_leaf o (if b then v else zero_ℚ)
leaf-not_negative None true v h = h refl
leaf-not_negative None false v h = le_refl zero_ℚ
leaf-not_negative (Some s) b v h = le_refl zero_ℚ

-- a cell of numbers that are not negative at the leaves
cell-not_negative : (t : Tree) (f : ℕ → ℚ) (r q : ℕ) → ((k : ℕ) → k < t.size → t.set k ≡ None → zero_ℚ ≤ℚ f k) → zero_ℚ ≤ℚ leaves_at t f r q
cell-not_negative t f r q h = sum_to-nonneg t.size _ (λ k l. leaf-not_negative (t.set k) (r == row t k && q == column t k) (f k) (h k l))

-- differences in cells
leaf-less : (o : Option ℕ) (b : Bool) (chance u g : ℚ) → at_leaf o (if b then chance *ℚ u else zero_ℚ) -ℚ (g *ℚ at_leaf o (if b then chance else zero_ℚ)) ≡ at_leaf o (if b then chance *ℚ (u -ℚ g) else zero_ℚ)
leaf-less None true chance u g = ring rational_ring (chance ∷ u ∷ g ∷ []) (A :* B :- C :* A) (A :* (B :- C)) refl
leaf-less None false chance u g = ring rational_ring (g ∷ []) (num 0 :- A :* num 0) (num 0) refl
leaf-less (Some s) b chance u g = ring rational_ring (g ∷ []) (num 0 :- A :* num 0) (num 0) refl

cell-less : (t : Tree) (g : ℚ) (u : ℕ → ℚ) (r q : ℕ) → leaves_at t (λ k. chance_of_path t k *ℚ u k) r q -ℚ (g *ℚ leaves_at t (chance_of_path t) r q) ≡ leaves_at t (λ k. chance_of_path t k *ℚ (u k -ℚ g)) r q
cell-less t g u r q =
    ap (λ z. leaves_at t (λ k. chance_of_path t k *ℚ u k) r q -ℚ z) (sym (sum_to-scale t.size g _))
    ∙ sym (sum_to-sub t.size _ _)
    ∙ sum_to-same t.size _ _ (λ k l. leaf-less (t.set k) (r == row t k && q == column t k) (chance_of_path t k) (u k) g)

-- a difference the other way round
turned : (a b : ℚ) → a -ℚ b ≡ neg_ℚ (b -ℚ a)
turned a b = ring rational_ring (a ∷ b ∷ []) (A :- B) (:neg (B :- A)) refl

-- the cells of a tree
pub cells_not_negative : CellsAreNotNegative
cells_not_negative t w =
    record {
      weights = λ r q. cell-not_negative t (chance_of_path t) r q (λ k l e. chance-not_negative t w k l);
      gains_are = λ least h r q. subst (λ u. zero_ℚ ≤ℚ u) (sym (cell-less t least (payoff_of_path t 0) r q)) (cell-not_negative t _ r q (λ k l e. nonneg-mul (chance_of_path t k) _ (chance-not_negative t w k l) ((le-sub least (payoff_of_path t 0 k)).0 (h k l e))));
      costs_are = λ i greatest h r q. subst (λ u. zero_ℚ ≤ℚ u) (sym (turned (greatest *ℚ leaves_at t (chance_of_path t) r q) _ ∙ ap neg_ℚ (cell-less t greatest (payoff_of_path t i) r q) ∙ back i greatest r q)) (cell-not_negative t _ r q (λ k l e. nonneg-mul (chance_of_path t k) _ (chance-not_negative t w k l) ((le-sub (payoff_of_path t i k) greatest).0 (h k l e))));
    }
  where
    back : (i : ℕ) (greatest : ℚ) (r q : ℕ) → neg_ℚ (leaves_at t (λ k. chance_of_path t k *ℚ (payoff_of_path t i k -ℚ greatest)) r q) ≡ leaves_at t (λ k. chance_of_path t k *ℚ (greatest -ℚ payoff_of_path t i k)) r q
    back i greatest r q = sym (sum_to-neg t.size _) ∙ sum_to-same t.size _ _ (λ k l. one (t.set k) (r == row t k && q == column t k) (chance_of_path t k) (payoff_of_path t i k))
      where
        one : (o : Option ℕ) (b : Bool) (chance u : ℚ) → neg_ℚ (at_leaf o (if b then chance *ℚ (u -ℚ greatest) else zero_ℚ)) ≡ at_leaf o (if b then chance *ℚ (greatest -ℚ u) else zero_ℚ)
        one None true chance u = ring rational_ring (chance ∷ u ∷ greatest ∷ []) (:neg (A :* (B :- C))) (A :* (C :- B)) refl
        one None false chance u = ring rational_ring [] (:neg (num 0)) (num 0) refl
        one (Some s) b chance u = ring rational_ring [] (:neg (num 0)) (num 0) refl

-- ---- tables
-- a cell in which a player has not chosen
none_less : (c : ℚ) → zero_ℚ ≡ zero_ℚ -ℚ (c *ℚ zero_ℚ)
none_less c = ring rational_ring (c ∷ []) (num 0) (num 0 :- A :* num 0) refl

less_none : (c : ℚ) → zero_ℚ ≡ (c *ℚ zero_ℚ) -ℚ zero_ℚ
less_none c = ring rational_ring (c ∷ []) (num 0) (A :* num 0 :- num 0) refl

pub table_cells : CellsOfTables
table_cells g m n = record { sums = sums; gains_are = least_is; costs_are = greatest_is }
  where
    at : ℕ → ℕ → ℕ → ℚ
    at i r q = g.pays i (number_of (m ∷ n ∷ []) (r ∷ q ∷ []))

    sums : (c : ℚ) → ((r q : ℕ) → r < m → q < n → at 0 r q +ℚ at 1 r q ≡ c) → (r q : ℕ) → r < 1 + m → q < 1 + n → (form_of_table g m n).pays 0 r q +ℚ (form_of_table g m n).pays 1 r q ≡ c *ℚ (form_of_table g m n).weight r q
    sums c h zero q l k = ring rational_ring (c ∷ []) (num 0 :+ num 0) (A :* num 0) refl
    sums c h (suc r) zero l k = ring rational_ring (c ∷ []) (num 0 :+ num 0) (A :* num 0) refl
    sums c h (suc r) (suc q) l k = h r q (omega arith) (omega arith) ∙ ring rational_ring (c ∷ []) A (A :* num 1) refl

    least_is : (least : ℚ) → ((r q : ℕ) → r < m → q < n → least ≤ℚ at 0 r q) → (r q : ℕ) → r < suc m → q < suc n → zero_ℚ ≤ℚ gains (form_of_table g m n) least r q
    least_is least h zero q l k = subst (λ u. zero_ℚ ≤ℚ u) (none_less least) (le_refl zero_ℚ)
    least_is least h (suc r) zero l k = subst (λ u. zero_ℚ ≤ℚ u) (none_less least) (le_refl zero_ℚ)
    least_is least h (suc r) (suc q) l k = subst (λ u. zero_ℚ ≤ℚ u) (ring rational_ring (at 0 r q ∷ least ∷ []) (A :- B) (A :- B :* num 1) refl) ((le-sub least (at 0 r q)).0 (h r q (omega arith) (omega arith)))

    greatest_is : (i : ℕ) (greatest : ℚ) → ((r q : ℕ) → r < m → q < n → at i r q ≤ℚ greatest) → (r q : ℕ) → r < suc m → q < suc n → zero_ℚ ≤ℚ costs (form_of_table g m n) i greatest r q
    greatest_is i greatest h zero q l k = subst (λ u. zero_ℚ ≤ℚ u) (less_none greatest) (le_refl zero_ℚ)
    greatest_is i greatest h (suc r) zero l k = subst (λ u. zero_ℚ ≤ℚ u) (less_none greatest) (le_refl zero_ℚ)
    greatest_is i greatest h (suc r) (suc q) l k = subst (λ u. zero_ℚ ≤ℚ u) (ring rational_ring (at i r q ∷ greatest ∷ []) (B :- A) (B :* num 1 :- A) refl) ((le-sub (at i r q) greatest).0 (h r q (omega arith) (omega arith)))
