-- The sequence form of a table.
use Rattle.std.proofs.Common.{ℕ, zero, suc, ◌+◌, ◌*◌, ◌<◌, ◌≡◌, [], ◌∷◌, length, refl, sym, ap, ap₂, ◌∙◌, subst, subst₂, arith}
use Rattle.std.specs.Prelude.{slice_index}
use Rattle.rational.specs.Rational.{ℚ, ◌+ℚ◌, ◌*ℚ◌, ◌≤ℚ◌, zero_ℚ, one_ℚ}
use Rattle.rational.specs.Sum.{sum_to}
use Rattle.rational.proofs.RationalRing.{rational_ring}
use Rattle.rational.proofs.MeanLemmas.{mean-constant}
use Rattle.rational.proofs.SumLemmas.{sum_to-first, sum_to-same, sum_to-scale, sum_to-exchange}
use Rattle.rational.proofs.Ring.{ring, num, ◌:+◌, ◌:*◌, A, B, C, D}
use Rattle.rational.proofs.InverseLemmas.{zero_le_one}
use Rattle.game_theory.specs.Profiles.{Game, number_of}
use Rattle.game_theory.specs.Mixed.{Mixed, later, mean, payoff, IsValid, sure, reply}
use Rattle.game_theory.proofs.PayoffLemmas.{mean-first}
use Rattle.game_theory.proofs.ReplyLemmas.{reply-at, reply-other, payoff-same}
use Rattle.game_theory.proofs.SureStrategyLemmas.{sure-not_negative, sum_to-sure}
use Rattle.sequence_forms.specs.Sides.{first, IsOrderedSide, sequences, IsRealisationPlan}
use Rattle.sequence_forms.specs.PlanBehaviour.{of_two}
use Rattle.sequence_forms.specs.Forms.{cell_sum, one_set, after_both, form_of_table, mixed_of_plans, WeighsOne}
use Rattle.sequence_forms.specs.TableLaws.{TablePlansPayTheCells, EveryTableHasAForm, BestPlansAreTableEquilibria}
use Rattle.sequence_forms.proofs.SideLemmas.{first_pos}

-- the sequences of one set: the empty one and the strategies
over_one_set : (n : ℕ) (f : ℕ → ℚ) → sum_to (sequences (one_set n)) f ≡ f 0 +ℚ sum_to n (λ a. f (suc a))
over_one_set n f = let e : 1 + n ≡ suc n = omega arith in ap (λ k. sum_to k f) e ∙ sum_to-first n f

-- the cells after both have chosen
over_both : (g : Game) (m n : ℕ) (c : ℕ → ℕ → ℚ) (x y : ℕ → ℚ) → cell_sum (form_of_table g m n) (after_both c) x y ≡ sum_to m (λ r. x (suc r) *ℚ sum_to n (λ q. y (suc q) *ℚ c r q))
over_both g m n c x y =
    over_one_set m (λ r. x r *ℚ sum_to (sequences (one_set n)) (λ q. y q *ℚ after_both c r q))
    ∙ ap₂ (λ u v. x 0 *ℚ u +ℚ v) (over_one_set n (λ q. y q *ℚ zero_ℚ) ∙ ap (λ u. (y 0 *ℚ zero_ℚ) +ℚ u) (sum_to-same n _ (λ q. zero_ℚ *ℚ y (suc q)) (λ q l. ring rational_ring (y (suc q) ∷ []) (A :* num 0) (num 0 :* A) refl) ∙ sum_to-scale n zero_ℚ (λ q. y (suc q)))) (sum_to-same m _ _ (λ r l. ap (λ u. x (suc r) *ℚ u) (over_one_set n (λ q. y q *ℚ after_both c (suc r) q))))
    ∙ ring rational_ring (x 0 ∷ y 0 ∷ sum_to n (λ q. y (suc q)) ∷ sum_to m (λ r. x (suc r) *ℚ ((y 0 *ℚ zero_ℚ) +ℚ sum_to n (λ q. y (suc q) *ℚ c r q))) ∷ []) (A :* (B :* num 0 :+ num 0 :* C) :+ D) D refl
    ∙ sum_to-same m _ _ (λ r l. ap (λ u. x (suc r) *ℚ u) (ring rational_ring (y 0 ∷ sum_to n (λ q. y (suc q) *ℚ c r q) ∷ []) (A :* num 0 :+ B) B refl))

-- the mean over the profiles of two players
mean_of_two : (m n : ℕ) (p : Mixed) (u : ℕ → ℚ) → mean (m ∷ n ∷ []) p u ≡ sum_to m (λ r. p 0 r *ℚ sum_to n (λ q. p 1 q *ℚ u (number_of (m ∷ n ∷ []) (r ∷ q ∷ []))))
mean_of_two m n p u =
    mean-first m (n ∷ []) p u
    ∙ mean-first n [] (later p) (λ j. sum_to m (λ i. p 0 i *ℚ u (m * j + i)))
    ∙ ring rational_ring (sum_to n (λ q. p 1 q *ℚ sum_to m (λ i. p 0 i *ℚ u (m * (n * 0 + q) + i))) ∷ []) (num 0 :+ num 1 :* A) A refl
    ∙ sum_to-same n _ _ (λ q l. sym (sum_to-scale m (p 1 q) (λ i. p 0 i *ℚ u (m * (n * 0 + q) + i))))
    ∙ sum_to-exchange n m (λ q i. p 1 q *ℚ (p 0 i *ℚ u (m * (n * 0 + q) + i)))
    ∙ sum_to-same m _ _ (λ r l. sum_to-same n _ (λ q. p 0 r *ℚ (p 1 q *ℚ u (number_of (m ∷ n ∷ []) (r ∷ q ∷ [])))) (λ q k. ap (λ z. p 1 q *ℚ (p 0 r *ℚ u z)) (place r q) ∙ ring rational_ring (p 1 q ∷ p 0 r ∷ u (number_of (m ∷ n ∷ []) (r ∷ q ∷ [])) ∷ []) (A :* (B :* C)) (B :* (A :* C)) refl) ∙ sum_to-scale n (p 0 r) (λ q. p 1 q *ℚ u (number_of (m ∷ n ∷ []) (r ∷ q ∷ []))))
  where
    swap : (a b : ℕ) → a + b ≡ b + a
    swap a b = omega arith

    place : (r q : ℕ) → m * (n * 0 + q) + r ≡ r + m * (q + n * 0)
    place r q = ap (λ z. m * z + r) (swap (n * 0) q) ∙ swap (m * (q + n * 0)) r

-- plans pay the cells
pub table_plans_pay : TablePlansPayTheCells
table_plans_pay g m n x y i e =
    ap (λ ns. mean ns (mixed_of_plans (of_two x y)) (g.pays i)) e ∙ mean_of_two m n (mixed_of_plans (of_two x y)) (g.pays i)
    ∙ sym (over_both g m n (λ r q. g.pays i (number_of (m ∷ n ∷ []) (r ∷ q ∷ []))) x y)

-- a plan's strategies
strategies_sum : (n : ℕ) (x : ℕ → ℚ) → IsRealisationPlan (one_set n) x → sum_to n (λ s. x (suc s)) ≡ one_ℚ
strategies_sum n x p = sum_to-same n _ _ (λ s l. let e : suc s ≡ 1 + s = omega arith in ap x e) ∙ p.splits 0 (omega arith) ∙ p.empty_is_one

-- the one set is in order where it has an action
in_order : (n : ℕ) → 0 < n → IsOrderedSide (one_set n)
in_order n p = record { follows = λ j h. first_pos (λ i. n) j; some_action = λ j h. p }

-- the form of a table
pub tables_have_forms : EveryTableHasAForm
tables_have_forms g m n = record { rows = λ j h. omega arith; columns = λ j h. omega arith; weigh_one = one; rows_in_order = in_order m; columns_in_order = in_order n }
  where
    one : WeighsOne (form_of_table g m n)
    one x y px py =
        over_both g m n (λ r q. one_ℚ) x y
        ∙ sum_to-same m _ _ (λ r l. ap (λ u. x (suc r) *ℚ u) (mean-constant n (λ q. y (suc q)) one_ℚ (strategies_sum n y py)))
        ∙ mean-constant m (λ r. x (suc r)) one_ℚ (strategies_sum m x px)

-- the plan of one strategy
unfoldable pub sure_plan : ℕ → ℕ → ℚ
sure_plan s zero = one_ℚ
sure_plan s (suc t) = sure s t

pub sure_is_plan : (n s : ℕ) → s < n → IsRealisationPlan (one_set n) (sure_plan s)
unfolding sure_plan
sure_is_plan n s h = record { not_negative = signs; empty_is_one = refl; splits = splits }
  where
    signs : (q : ℕ) → q < sequences (one_set n) → zero_ℚ ≤ℚ sure_plan s q
    signs zero l = zero_le_one
    signs (suc t) l = sure-not_negative s t

    splits : (j : ℕ) → j < 1 → sum_to n (λ t. sure_plan s (first (one_set n) j + t)) ≡ one_ℚ
    splits zero l = sum_to-same n _ (sure s) (λ t k. let e : 1 + t ≡ suc t = omega arith in ap (sure_plan s) e) ∙ sum_to-sure n s h
    splits (suc j) l = absurd (omega arith)

-- a reply plays the plan of its strategy
first_replies : (x y : ℕ → ℚ) (s j t : ℕ) → reply (mixed_of_plans (of_two x y)) 0 s j t ≡ mixed_of_plans (of_two (sure_plan s) y) j t
unfolding sure_plan
first_replies x y s zero t = reply-at (mixed_of_plans (of_two x y)) 0 s t
first_replies x y s (suc j) t = reply-other (mixed_of_plans (of_two x y)) 0 s (suc j) t (λ e. absurd (omega arith))

second_replies : (x y : ℕ → ℚ) (s j t : ℕ) → j < 2 → reply (mixed_of_plans (of_two x y)) 1 s j t ≡ mixed_of_plans (of_two x (sure_plan s)) j t
unfolding sure_plan
second_replies x y s zero t l = reply-other (mixed_of_plans (of_two x y)) 1 s 0 t (λ e. absurd (omega arith))
second_replies x y s (suc zero) t l = reply-at (mixed_of_plans (of_two x y)) 1 s t
second_replies x y s (suc (suc j)) t l = absurd (omega arith)

-- and pays what the plan pays
pub first_replies_pay : (g : Game) (m n : ℕ) (x y : ℕ → ℚ) (s i : ℕ) → g.strategies ≡ m ∷ n ∷ [] → payoff g (reply (mixed_of_plans (of_two x y)) 0 s) i ≡ cell_sum (form_of_table g m n) ((form_of_table g m n).pays i) (sure_plan s) y
first_replies_pay g m n x y s i e =
    payoff-same g (reply (mixed_of_plans (of_two x y)) 0 s) (mixed_of_plans (of_two (sure_plan s) y)) i (λ j t k h. first_replies x y s j t) ∙ table_plans_pay g m n (sure_plan s) y i e

pub second_replies_pay : (g : Game) (m n : ℕ) (x y : ℕ → ℚ) (s i : ℕ) → g.strategies ≡ m ∷ n ∷ [] → payoff g (reply (mixed_of_plans (of_two x y)) 1 s) i ≡ cell_sum (form_of_table g m n) ((form_of_table g m n).pays i) x (sure_plan s)
second_replies_pay g m n x y s i e =
    payoff-same g (reply (mixed_of_plans (of_two x y)) 1 s) (mixed_of_plans (of_two x (sure_plan s))) i (λ j t k h. second_replies x y s j t (subst (λ ns. j < length ns) e k)) ∙ table_plans_pay g m n x (sure_plan s) i e

-- best plans are an equilibrium
pub best_plans_are_table_equilibria : BestPlansAreTableEquilibria
best_plans_are_table_equilibria g m n x y e p =
    record { valid = subst (λ ns. IsValid ns (mixed_of_plans (of_two x y))) (sym e) (λ i l. record { not_negative = λ s. signs i s l; sum_is_one = sums i l }); no_better_reply = λ i s l b. better i s (subst (λ ns. i < length ns) e l) (subst (λ ns. s < slice_index ns i) e b) }
  where
    sign : (k : ℕ) (z : ℕ → ℚ) (s : ℕ) → IsRealisationPlan (one_set k) z → s < k → zero_ℚ ≤ℚ z (suc s)
    sign k z s pz h = pz.not_negative (suc s) (omega arith)

    signs : (i s : ℕ) → i < length (m ∷ n ∷ []) → s < slice_index (m ∷ n ∷ []) i → zero_ℚ ≤ℚ mixed_of_plans (of_two x y) i s
    signs zero s l b = sign m x s p.row_plan b
    signs (suc zero) s l b = sign n y s p.column_plan b
    signs (suc (suc i)) s l b = absurd (omega arith)

    sums : (i : ℕ) → i < length (m ∷ n ∷ []) → sum_to (slice_index (m ∷ n ∷ []) i) (mixed_of_plans (of_two x y) i) ≡ one_ℚ
    sums zero l = strategies_sum m x p.row_plan
    sums (suc zero) l = strategies_sum n y p.column_plan
    sums (suc (suc i)) l = absurd (omega arith)

    paid : (i : ℕ) → cell_sum (form_of_table g m n) ((form_of_table g m n).pays i) x y ≡ payoff g (mixed_of_plans (of_two x y)) i
    paid i = sym (table_plans_pay g m n x y i e)

    better : (i s : ℕ) → i < length (m ∷ n ∷ []) → s < slice_index (m ∷ n ∷ []) i → payoff g (reply (mixed_of_plans (of_two x y)) i s) i ≤ℚ payoff g (mixed_of_plans (of_two x y)) i
    better zero s l b = subst₂ (λ u v. u ≤ℚ v) (sym (first_replies_pay g m n x y s 0 e)) (paid 0) (p.best_row (sure_plan s) (sure_is_plan m s b))
    better (suc zero) s l b = subst₂ (λ u v. u ≤ℚ v) (sym (second_replies_pay g m n x y s 1 e)) (paid 1) (p.best_column (sure_plan s) (sure_is_plan n s b))
    better (suc (suc i)) s l b = absurd (omega arith)
