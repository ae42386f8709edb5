-- Under perfect recall no reply pays more than the best choices.
use Rattle.std.proofs.Common.{ℕ, zero, suc, ◌<◌, ◌≡◌, ◌≢◌, ◌⊎◌, inl, inr, Some, [], ◌∷◌, pos, refl, sym, ap, ap₂, ◌∙◌, subst, arith}
use Rattle.std.proofs.lemmas.Bool.{cases_lt}
use Rattle.std.proofs.lemmas.Int.{ints}
use Rattle.rational.specs.Rational.{ℚ, ◌*ℚ◌, ◌-ℚ◌, neg_ℚ, ◌≤ℚ◌, zero_ℚ, one_ℚ}
use Rattle.rational.specs.Sum.{sum_to}
use Rattle.rational.proofs.RationalRing.{rational_ring}
use Rattle.rational.proofs.Field.{nonneg-mul, le_of_eq, le-sub}
use Rattle.rational.proofs.Linear.{linear, at, lit, minus, ◌⟨-⟩◌, ◌⟨≤⟩◌, ◌⟨=⟩◌}
use Rattle.rational.proofs.SumLemmas.{sum_to-same, sum_to-zeros, sum_to-zero, sum_to-scale, sum_to-sub, sum_to-le, sum_to-single}
use Rattle.rational.proofs.MeanLemmas.{mean_le}
use Rattle.rational.proofs.Ring.{ring, num, ◌:*◌, ◌:-◌, :neg, A, B, C, D, E}
use Rattle.rational.proofs.InverseLemmas.{zero_le_one}
use Rattle.game_theory.specs.Mixed.{sure}
use Rattle.game_theory.proofs.SureStrategyLemmas.{sure-not_negative, sum_to-sure}
use Rattle.game_theory.specs.Trees.{Tree, IsTree}
use Rattle.game_theory.specs.Behaviour.{Behaviour, branch_probability, value, payoff, IsChoice, reply}
use Rattle.game_theory.specs.Recall.{own_history, HasPerfectRecall}
use Rattle.game_theory.proofs.ChildLemmas.{where_true}
use Rattle.game_theory.proofs.OwnSetLemmas.{is_index-decides}
use Rattle.game_theory.proofs.PathLemmas.{along_paths}
use Rattle.best_replies.specs.Reaching.{reach, weight}
use Rattle.best_replies.specs.Replies.{reply_value, is_member, follows, action_value, AreBestChoices, OthersBehaveAlike}
use Rattle.best_replies.specs.Laws.{BestChoicesPayMost, NoBehaviourPaysMore}
use Rattle.best_replies.proofs.NodeSumLemmas.{where_true-no, where_true-zero, where_true-same, where_true-scale, follows-decides, by_actions}
use Rattle.best_replies.proofs.DifferenceLemmas.{change, payoff-difference}
use Rattle.best_replies.proofs.WeightLemmas.{either, own_or_not, if_own, if_other, branch-own, branch-other, reply-alike, step-to, weight-own, own_probability, own_probability-step, reach-parts}

-- at the player's own sets the probabilities are not negative and sum to 1
pub record IsOwnValid (t : Tree) (i : ℕ) (b : Behaviour) : Type 0 where
  pub not_negative : (s a : ℕ) → s < t.sets → t.owner s ≡ Some i → a < t.actions s → zero_ℚ ≤ℚ b s a
  pub sum_is_one : (s : ℕ) → s < t.sets → t.owner s ≡ Some i → sum_to (t.actions s) (b s) ≡ one_ℚ

-- ---- nodes of a set
-- a node of the set among those below n, or none
member_below : (t : Tree) (s n : ℕ) → ((k : ℕ) × (k < n) × (t.set k ≡ Some s)) ⊎ ((k : ℕ) → k < n → t.set k ≡ Some s → ⊥)
member_below t s zero = inr (λ k l e. absurd (omega (arith, l)))
member_below t s (suc n) = elim (member_below t s n) [
  | inl found ↦ inl (found.0, omega (arith, found.1), found.2)
  | inr none ↦ elim (either (is_member t s n) (is_index-decides (t.set n) s)) [
    | inl e ↦ inl (n, omega arith, e)
    | inr not ↦ inr (λ k l e. elim (cases_lt k n) [ inl before ↦ none k before e | inr last ↦ let same : k ≡ n = omega arith in not (subst (λ x. t.set x ≡ Some s) same e) ])
  ]
]

-- ---- the player's part in how a node is reached
-- it is not negative
own_probability-nonneg : (t : Tree) (i : ℕ) (b : Behaviour) → IsTree t → IsOwnValid t i b → (k : ℕ) → k < t.size → zero_ℚ ≤ℚ own_probability b (own_history t i k)
own_probability-nonneg t i b w valid = along_paths t (λ k. zero_ℚ ≤ℚ own_probability b (own_history t i k)) w zero_le_one next
  where
    next : (c : ℕ) → 0 < c → c < t.size → zero_ℚ ≤ℚ own_probability b (own_history t i (t.parent c)) → zero_ℚ ≤ℚ own_probability b (own_history t i c)
    next c p l before =
        let led = w.led_to c p l in
        let step = step-to t c led.0 w p l led.1 in
        subst (λ x. zero_ℚ ≤ℚ x) (sym (own_probability-step t i b c led.0 w p l led.1)) (nonneg-mul _ _ before (elim (own_or_not t i led.0) [
          | inl o ↦ subst (λ x. zero_ℚ ≤ℚ x) (sym (if_own t i led.0 (b led.0 (t.branch c)) one_ℚ o)) (valid.not_negative led.0 (t.branch c) step.within o step.branch_below)
          | inr apart ↦ subst (λ x. zero_ℚ ≤ℚ x) (sym (if_other t i led.0 (b led.0 (t.branch c)) one_ℚ apart)) zero_le_one
        ]))

-- ---- another behaviour of the player, compared with the best choices
module _ (t : Tree) (b other : Behaviour) (i : ℕ) (choice : ℕ → ℕ) (w : IsTree t) (recall : HasPerfectRecall t i) (best : AreBestChoices t b i choice) (valid : IsOwnValid t i other) (alike : OthersBehaveAlike t i b other) where
  -- what the change of the behaviour adds at a node below the root
  abbrev adds : ℕ → ℚ
  adds c = reach t other (t.parent c) *ℚ change t (reply t b i choice) other i w c

  -- and at the nodes after a set
  abbrev set_adds : ℕ → ℚ
  set_adds s = sum_to (t.actions s) (λ a. sum_to t.size (λ c. where_true (follows t s a c) (adds c)))

  -- the difference of the probabilities of an action
  abbrev more : ℕ → ℕ → ℚ
  more s a = other s a -ℚ sure (choice s) a

  -- after another player's set nothing changes
  adds-other : (s a c : ℕ) → t.owner s ≢ Some i → c < t.size → (0 < c) × ((t.set (t.parent c) ≡ Some s) × (t.branch c ≡ a)) → adds c ≡ zero_ℚ
  adds-other s a c apart l leads =
      let step = step-to t c s w leads.0 l leads.1.0 in
      let same : branch_probability t other c ≡ branch_probability t (reply t b i choice) c =
      branch-other t i b other c s step.within step.branch_below alike leads.1.0 apart ∙ sym (branch-other t i b (reply t b i choice) c s step.within step.branch_below (reply-alike t i b choice) leads.1.0 apart) in
      ap (λ x. reach t other (t.parent c) *ℚ ((x -ℚ branch_probability t (reply t b i choice) c) *ℚ value t (reply t b i choice) i c)) same
      ∙ ring rational_ring (reach t other (t.parent c) ∷ branch_probability t (reply t b i choice) c ∷ value t (reply t b i choice) i c ∷ []) (A :* ((B :- B) :* C)) (num 0) refl

  -- after an own set the reply values count, by the player's part in how its nodes are reached, which by perfect recall is one for all
  adds-own : (s a c m : ℕ) → t.owner s ≡ Some i → m < t.size → t.set m ≡ Some s → c < t.size → (0 < c) × ((t.set (t.parent c) ≡ Some s) × (t.branch c ≡ a))
      → adds c ≡ (own_probability other (own_history t i m) *ℚ more s a) *ℚ reply_value t b i choice c
  adds-own s a c m o n e l leads =
      let step = step-to t c s w leads.0 l leads.1.0 in
      let reached : reach t other (t.parent c) ≡ weight t b i c *ℚ own_probability other (own_history t i m) =
      reach-parts t i b other w alike (t.parent c) step.parent_below
      ∙ ap₂ (λ x y. x *ℚ own_probability other y) (sym (weight-own t b i c s w leads.0 l leads.1.0 o)) (recall s o (t.parent c) m step.parent_below n leads.1.0 e) in
      let first : branch_probability t other c ≡ other s a = branch-own t other i c s leads.1.0 o ∙ ap (other s) leads.1.1 in
      let second : branch_probability t (reply t b i choice) c ≡ sure (choice s) a =
      branch-own t (reply t b i choice) i c s leads.1.0 o ∙ if_own t i s (sure (choice s) (t.branch c)) (b s (t.branch c)) o ∙ ap (sure (choice s)) leads.1.1 in
      ap₂ (λ x y. x *ℚ (y *ℚ value t (reply t b i choice) i c)) reached (ap₂ (λ x y. x -ℚ y) first second)
      ∙ ring rational_ring (weight t b i c ∷ own_probability other (own_history t i m) ∷ other s a ∷ sure (choice s) a ∷ value t (reply t b i choice) i c ∷ []) (A :* B :* ((C :- D) :* E)) (B :* (C :- D) :* (A :* E)) refl

  -- another player's set adds nothing
  set_adds-other : (s : ℕ) → t.owner s ≢ Some i → set_adds s ≡ zero_ℚ
  set_adds-other s apart =
      sum_to-zeros (t.actions s) _ (λ a n. sum_to-zeros t.size _ (λ c l. where_true-same (follows t s a c) (adds c) zero_ℚ (follows-decides t s a c) (λ leads. adds-other s a c apart l leads) ∙ where_true-zero (follows t s a c)))

  -- an own set adds the difference of a mean of what its actions are worth and the greatest of them, with a factor that is not negative
  set_adds-own : (s m : ℕ) → s < t.sets → t.owner s ≡ Some i → m < t.size → t.set m ≡ Some s
      → set_adds s ≡ own_probability other (own_history t i m) *ℚ (sum_to (t.actions s) (λ a. other s a *ℚ action_value t b i choice s a) -ℚ action_value t b i choice s (choice s))
  set_adds-own s m within o n e =
      let q = own_probability other (own_history t i m) in
      let worth = action_value t b i choice s in
      sum_to-same (t.actions s) _ _ (λ a k. sum_to-same t.size _ _ (λ c l. where_true-same (follows t s a c) (adds c) _ (follows-decides t s a c) (λ leads. adds-own s a c m o n e l leads) ∙ where_true-scale (follows t s a c) (q *ℚ more s a) (reply_value t b i choice c)) ∙ sum_to-scale t.size (q *ℚ more s a) _ ∙ ring rational_ring (q ∷ other s a ∷ sure (choice s) a ∷ worth a ∷ []) (A :* (B :- C) :* D) (A :* (B :* D :- C :* D)) refl)
      ∙ sum_to-scale (t.actions s) q (λ a. (other s a *ℚ worth a) -ℚ (sure (choice s) a *ℚ worth a))
      ∙ ap (λ x. q *ℚ x) (sum_to-sub (t.actions s) (λ a. other s a *ℚ worth a) (λ a. sure (choice s) a *ℚ worth a) ∙ ap (λ x. sum_to (t.actions s) (λ a. other s a *ℚ worth a) -ℚ x) (sum_to-single (t.actions s) (choice s) worth (best s within o).within))

  -- which is at most 0
  set_adds-nonpos : (s : ℕ) → s < t.sets → set_adds s ≤ℚ zero_ℚ
  set_adds-nonpos s within = elim (own_or_not t i s) [ inl o ↦ own o (member_below t s t.size) | inr apart ↦ le_of_eq (set_adds s) zero_ℚ (set_adds-other s apart) ]
    where
      own : t.owner s ≡ Some i → ((k : ℕ) × (k < t.size) × (t.set k ≡ Some s)) ⊎ ((k : ℕ) → k < t.size → t.set k ≡ Some s → ⊥) → set_adds s ≤ℚ zero_ℚ
      own o (inl found) =
          let q = own_probability other (own_history t i found.0) in
          let worth = action_value t b i choice s in
          let mean = sum_to (t.actions s) (λ a. other s a *ℚ worth a) in
          let below : mean ≤ℚ worth (choice s) = mean_le (t.actions s) (other s) worth (worth (choice s)) (λ a k. valid.not_negative s a within o k) (valid.sum_is_one s within o) (best s within o).greatest in
          let nonneg : zero_ℚ ≤ℚ (q *ℚ (worth (choice s) -ℚ mean)) = nonneg-mul q _ (own_probability-nonneg t i other w valid found.0 found.1) ((le-sub mean (worth (choice s))).0 below) in
          let turned : q *ℚ (mean -ℚ worth (choice s)) ≡ neg_ℚ (q *ℚ (worth (choice s) -ℚ mean)) = ring rational_ring (q ∷ mean ∷ worth (choice s) ∷ []) (A :* (B :- C)) (:neg (A :* (C :- B))) refl in
          subst (λ x. x ≤ℚ zero_ℚ) (sym (set_adds-own s found.0 within o found.1 found.2 ∙ turned)) (linear (q *ℚ (worth (choice s) -ℚ mean) ∷ []) ((lit (pos 0) ⟨≤⟩ at 0) ∷ []) (minus (at 0) ⟨≤⟩ lit (pos 0)) (λ one z p h. omega (arith, ints)) (nonneg, tt))
      own o (inr none) =
          le_of_eq (set_adds s) zero_ℚ (sum_to-zeros (t.actions s) _ (λ a n. sum_to-zeros t.size _ (λ c l. where_true-no (follows t s a c) (adds c) (follows-decides t s a c) (λ leads. let after : t.parent c < c = w.after_parent c leads.0 l in none (t.parent c) (omega arith) leads.1.0))))

  -- so no other behaviour of the player pays more
  pub pays-no_more : payoff t other i ≤ℚ payoff t (reply t b i choice) i
  pays-no_more =
      let total = payoff-difference t (reply t b i choice) other i w ∙ by_actions t adds w in
      let nonpos : sum_to t.sets set_adds ≤ℚ zero_ℚ = subst (λ x. sum_to t.sets set_adds ≤ℚ x) (sum_to-zero t.sets) (sum_to-le t.sets set_adds (λ s. zero_ℚ) set_adds-nonpos) in
      linear (payoff t other i ∷ payoff t (reply t b i choice) i ∷ sum_to t.sets set_adds ∷ []) (((at 0 ⟨-⟩ at 1) ⟨=⟩ at 2) ∷ (at 2 ⟨≤⟩ lit (pos 0)) ∷ []) (at 0 ⟨≤⟩ at 1) (λ one z p h. omega (arith, ints)) (total, (nonpos, tt))

-- a pure choice is valid at the player's own sets
reply-own_valid : (t : Tree) (b : Behaviour) (i : ℕ) (choice : ℕ → ℕ) → IsChoice t i choice → IsOwnValid t i (reply t b i choice)
reply-own_valid t b i choice c =
    record {
      not_negative = λ s a l o m. subst (λ x. zero_ℚ ≤ℚ x) (sym (if_own t i s (sure (choice s) a) (b s a) o)) (sure-not_negative (choice s) a);
      sum_is_one = λ s l o. sum_to-same (t.actions s) _ _ (λ a m. if_own t i s (sure (choice s) a) (b s a) o) ∙ sum_to-sure (t.actions s) (choice s) (c s l o);
    }

-- no pure reply pays more than the best choices
pub best_choices-pay_most : BestChoicesPayMost
best_choices-pay_most t b i choice other w recall best c =
    pays-no_more t b (reply t b i other) i choice w recall best (reply-own_valid t b i other c) (reply-alike t i b other)

-- and no other behaviour does
pub no_behaviour-pays_more : NoBehaviourPaysMore
no_behaviour-pays_more t b other i choice w recall best valid alike =
    pays-no_more t b other i choice w recall best (record { not_negative = λ s a l o m. (valid s i l o).not_negative a m; sum_is_one = λ s l o. (valid s i l o).sum_is_one }) alike
