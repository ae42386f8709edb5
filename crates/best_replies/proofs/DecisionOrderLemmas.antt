-- Best choices are decided from the last own set to the first: they exist, and there is one list of them.
use Rattle.std.proofs.Common.{ℕ, zero, suc, ◌+◌, ◌<◌, ◌≤◌, ◌≡◌, ◌≢◌, inl, inr, Some, refl, sym, ap, ◌∙◌, subst, arith, tests}
use Rattle.std.specs.Prelude.{◌==◌, if◌then◌else◌}
use Rattle.std.proofs.lemmas.Bool.{cases_eq}
use Rattle.rational.proofs.SumLemmas.{sum_to-same}
use Rattle.game_theory.specs.Trees.{Tree, IsTree}
use Rattle.game_theory.specs.Behaviour.{Behaviour}
use Rattle.best_replies.specs.Greatest.{IsFirstGreatest}
use Rattle.best_replies.specs.Order.{AscendOnPaths}
use Rattle.best_replies.specs.Replies.{follows, action_value, AreBestChoices}
use Rattle.best_replies.specs.Laws.{ReplyValuesDependOnLaterSets, ActionValuesDependOnLaterSets, BestChoicesExist, OneListOfBestChoices}
use Rattle.best_replies.proofs.FirstGreatestLemmas.{IsFirstGreatest-same, first_greatest-unique, first_greatest-exists}
use Rattle.best_replies.proofs.NodeSumLemmas.{where_true-same, follows-decides}
use Rattle.best_replies.proofs.ReplyValueLemmas.{reply_value-agree}
use Rattle.best_replies.proofs.SetOrderLemmas.{within-trans, above-le}
use Rattle.best_replies.proofs.WeightLemmas.{own_or_not}

-- after an own set reply values depend only on the choices at later sets
pub reply_value-later_sets : ReplyValuesDependOnLaterSets
reply_value-later_sets t b i choice other s k c w ascend o e l inside apart agree =
    reply_value-agree t b i choice other c w l (λ x r within below at own.
    let before : k ≤ c = above-le t w inside.0 k c l inside.1 in
    let next : c ≤ x = above-le t w within.0 c x below within.1 in
    let order : s < r = ascend k x s r below (within-trans t k c inside within.0 x within.1) (λ same. apart (omega arith)) e at o own in
    agree r (omega arith) (w.sets_within x r below at) own)

-- and so does what an action is worth
pub action_value-later_sets : ActionValuesDependOnLaterSets
action_value-later_sets t b i choice other s a w ascend o agree =
    sum_to-same t.size _ _ (λ c l. where_true-same (follows t s a c) _ _ (follows-decides t s a c) (λ at.
    let after : t.parent c < c = w.after_parent c at.0 l in
    reply_value-later_sets t b i choice other s (t.parent c) c w ascend o at.1.0 l (1, (at.0, refl)) (λ same. omega arith) agree))

-- ---- one list
-- the choices at the last d sets
last_choices-same : (t : Tree) (b : Behaviour) (i : ℕ) (choice other : ℕ → ℕ) → IsTree t → AscendOnPaths t i → AreBestChoices t b i choice → AreBestChoices t b i other
    → (d s : ℕ) → t.sets ≤ s + d → s < t.sets → t.owner s ≡ Some i → choice s ≡ other s
last_choices-same t b i choice other w ascend h g zero s n l o = absurd (omega arith)
last_choices-same t b i choice other w ascend h g (suc d) s n l o =
    first_greatest-unique (t.actions s) (action_value t b i other s) (choice s) (other s)
    (IsFirstGreatest-same (t.actions s) (action_value t b i choice s) (action_value t b i other s) (choice s) (λ a m. action_value-later_sets t b i choice other s a w ascend o (λ r p q own. last_choices-same t b i choice other w ascend h g d r (omega arith) q own)) (h s l o))
    (g s l o)

-- there is one list of best choices
pub best_choices-unique : OneListOfBestChoices
best_choices-unique t b i choice other w ascend h g s l o = last_choices-same t b i choice other w ascend h g t.sets s (omega arith) l o

-- ---- some list
-- at each own set of player i from set n on the choice is the first action that is worth most
abbrev AreDecidedFrom : Tree → Behaviour → ℕ → ℕ → (ℕ → ℕ) → Type 0
AreDecidedFrom t b i n choice = (s : ℕ) → n ≤ s → s < t.sets → t.owner s ≡ Some i → IsFirstGreatest (t.actions s) (action_value t b i choice s) (choice s)

-- the choices with action a at set n
abbrev with_choice : (ℕ → ℕ) → ℕ → ℕ → ℕ → ℕ
with_choice choice n a s = if s == n then a else choice s

-- the choice at the set
with_choice-at : (choice : ℕ → ℕ) (n a : ℕ) → with_choice choice n a n ≡ a
with_choice-at choice n a = grind (arith, tests)

-- and at any other
with_choice-other : (choice : ℕ → ℕ) (n a s : ℕ) → s ≢ n → with_choice choice n a s ≡ choice s
with_choice-other choice n a s apart = grind (arith, tests)

-- a set that is not own wants no decision
skip : (t : Tree) (b : Behaviour) (i n : ℕ) (choice : ℕ → ℕ) → t.owner n ≢ Some i → AreDecidedFrom t b i (suc n) choice → AreDecidedFrom t b i n choice
skip t b i n choice apart later s m l own = later s (elim (cases_eq s n) [ inl same ↦ absurd (apart (ap t.owner (sym same) ∙ own)) | inr other ↦ omega arith ]) l own

module _ (t : Tree) (b : Behaviour) (i : ℕ) (w : IsTree t) (ascend : AscendOnPaths t i) where
  -- a decision at set n leaves those from later sets on as they are
  decide : (n : ℕ) (choice : ℕ → ℕ) (a : ℕ) → n < t.sets → t.owner n ≡ Some i → IsFirstGreatest (t.actions n) (action_value t b i choice n) a → AreDecidedFrom t b i (suc n) choice → AreDecidedFrom t b i n (with_choice choice n a)
  decide n choice a l o h later s m k own = elim (cases_eq s n) [ inl same ↦ now same | inr apart ↦ before apart ]
    where
      worth : (c : ℕ) → action_value t b i choice s c ≡ action_value t b i (with_choice choice n a) s c
      worth c = action_value-later_sets t b i choice (with_choice choice n a) s c w ascend own (λ r p q own_r. sym (with_choice-other choice n a r (λ e. omega arith)))

      now : s ≡ n → IsFirstGreatest (t.actions s) (action_value t b i (with_choice choice n a) s) (with_choice choice n a s)
      now e =
          subst (IsFirstGreatest (t.actions s) (action_value t b i (with_choice choice n a) s)) (sym (ap (with_choice choice n a) e ∙ with_choice-at choice n a))
          (IsFirstGreatest-same (t.actions s) _ _ a (λ c p. worth c) (subst (λ x. IsFirstGreatest (t.actions x) (action_value t b i choice x) a) (sym e) h))

      before : s ≢ n → IsFirstGreatest (t.actions s) (action_value t b i (with_choice choice n a) s) (with_choice choice n a s)
      before apart =
          subst (IsFirstGreatest (t.actions s) (action_value t b i (with_choice choice n a) s)) (sym (with_choice-other choice n a s apart))
          (IsFirstGreatest-same (t.actions s) _ _ (choice s) (λ c p. worth c) (later s (omega arith) k own))

  -- the choices at the last d sets
  decide_last : (d n : ℕ) → n + d ≡ t.sets → (choice : ℕ → ℕ) × AreDecidedFrom t b i n choice
  decide_last zero n e = (λ s. 0, λ s m l o. absurd (omega arith))
  decide_last (suc d) n e =
      let later = decide_last d (suc n) (omega arith) in
      elim (own_or_not t i n) [
        | inl o ↦ let best = first_greatest-exists (t.actions n) (action_value t b i later.0 n) (w.some_action n (omega arith)) in (with_choice later.0 n best.place, decide n later.0 best.place (omega arith) o best.is_first later.1)
        | inr apart ↦ (later.0, skip t b i n later.0 apart later.1)
      ]

-- best choices exist
pub best_choices-exist : BestChoicesExist
best_choices-exist t b i w ascend =
    let all = decide_last t b i w ascend t.sets 0 (omega arith) in
    (all.0, λ s l o. all.1 s (omega arith) l o)
