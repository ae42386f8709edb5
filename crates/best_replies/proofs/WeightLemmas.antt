-- Weights, and how they make up the probability with which a node is reached.
use Rattle.std.proofs.Common.{ℕ, ◌<◌, ◌≡◌, ◌≢◌, ◌⊎◌, inl, inr, Bool, true, false, Decides, Option, Some, None, List, [], ◌∷◌, ◌++◌, refl, sym, ap, ap₂, ◌∙◌, subst, arith}
use Rattle.std.specs.Prelude.{if◌then◌else◌}
use Rattle.std.proofs.lemmas.Bool.Decides.{not_from_Decides}
use Rattle.rational.specs.Rational.{ℚ, ◌*ℚ◌, one_ℚ}
use Rattle.rational.proofs.RationalRing.{rational_ring, *ℚ_assoc, *ℚ-one}
use Rattle.rational.proofs.Rules.{one-*ℚ}
use Rattle.rational.proofs.Ring.{ring, ◌:*◌, A, B, C}
use Rattle.game_theory.specs.Mixed.{sure}
use Rattle.game_theory.specs.Trees.{Tree, IsTree}
use Rattle.game_theory.specs.Behaviour.{Behaviour, of_owner, action_probability, at_set, branch_probability, is_own, reply}
use Rattle.game_theory.specs.Recall.{own_edge, own_history}
use Rattle.game_theory.proofs.OwnSetLemmas.{is_own-decides}
use Rattle.game_theory.proofs.PathLemmas.{along_paths, own_history-step}
use Rattle.best_replies.specs.Reaching.{reach, own_as_one, weight}
use Rattle.best_replies.specs.Replies.{OthersBehaveAlike}
use Rattle.best_replies.specs.Laws.{WeightsAlongPaths}
use Rattle.best_replies.proofs.ReachLemmas.{reach-step}

-- ---- own sets and others
-- what a test decides holds or not
pub either : {P : Type 0} (b : Bool) → Decides b P → P ⊎ (P → ⊥)
either true d = inl (d.0 refl)
either false d = inr (not_from_Decides false d refl)

-- a set is player i's own or not
pub own_or_not : (t : Tree) (i s : ℕ) → (t.owner s ≡ Some i) ⊎ (t.owner s ≢ Some i)
own_or_not t i s = either (is_own t i s) (is_own-decides t i s)

-- what is chosen by the test of an own set, at an own set
pub if_own : {X : Type 0} (t : Tree) (i s : ℕ) (x y : X) → t.owner s ≡ Some i → (if is_own t i s then x else y) ≡ x
if_own t i s x y o = ap (λ b. if b then x else y) ((is_own-decides t i s).1 o)

-- and at another set
pub if_other : {X : Type 0} (t : Tree) (i s : ℕ) (x y : X) → t.owner s ≢ Some i → (if is_own t i s then x else y) ≡ y
if_other t i s x y other = go (is_own t i s) (is_own-decides t i s)
  where
    go : (b : Bool) → Decides b (t.owner s ≡ Some i) → (if b then x else y) ≡ y
    go true d = absurd (other (d.0 refl))
    go false d = refl

-- the probability of the action that leads to a child, by its set
pub branch-at : (t : Tree) (b : Behaviour) (c s : ℕ) → t.set (t.parent c) ≡ Some s → branch_probability t b c ≡ action_probability t b s (t.branch c)
branch-at t b c s e = ap (λ x. at_set t b x (t.branch c)) e

-- the probability of an action at a player's set
pub action-own : (t : Tree) (b : Behaviour) (i s a : ℕ) → t.owner s ≡ Some i → action_probability t b s a ≡ b s a
action-own t b i s a o = ap (λ x. of_owner x (t.chance s a) (b s a)) o

-- the probability of an action of chance or of an owner who behaves alike
of_owner-same : (o : Option ℕ) (chance x y : ℚ) → ((j : ℕ) → o ≡ Some j → x ≡ y) → of_owner o chance x ≡ of_owner o chance y
of_owner-same None chance x y alike = refl
of_owner-same (Some j) chance x y alike = alike j refl

-- another player's set
pub apart_from_other : (t : Tree) (i j s : ℕ) → t.owner s ≢ Some i → t.owner s ≡ Some j → j ≢ i
apart_from_other t i j s other o e = other (o ∙ ap Some e)

-- the probability of the action that leads to a child at an own node
pub branch-own : (t : Tree) (b : Behaviour) (i c s : ℕ) → t.set (t.parent c) ≡ Some s → t.owner s ≡ Some i → branch_probability t b c ≡ b s (t.branch c)
branch-own t b i c s e o = branch-at t b c s e ∙ action-own t b i s (t.branch c) o

-- and at another node, where the others behave alike
pub branch-other : (t : Tree) (i : ℕ) (b other : Behaviour) (c s : ℕ) → s < t.sets → t.branch c < t.actions s → OthersBehaveAlike t i b other → t.set (t.parent c) ≡ Some s → t.owner s ≢ Some i → branch_probability t other c ≡ branch_probability t b c
branch-other t i b other c s within below alike e apart =
    branch-at t other c s e
    ∙ of_owner-same (t.owner s) (t.chance s (t.branch c)) (other s (t.branch c)) (b s (t.branch c)) (λ j o. alike s j (t.branch c) within o (apart_from_other t i j s apart o) below)
    ∙ sym (branch-at t b c s e)

-- the others behave alike where own actions count 1
pub own_as_one-alike : (t : Tree) (i : ℕ) (b : Behaviour) → OthersBehaveAlike t i b (own_as_one t b i)
own_as_one-alike t i b s j a within o apart below = if_other t i s one_ℚ (b s a) (λ e. let same : Some j ≡ Some i = sym o ∙ e in apart (cc))

-- and in a reply
pub reply-alike : (t : Tree) (i : ℕ) (b : Behaviour) (choice : ℕ → ℕ) → OthersBehaveAlike t i b (reply t b i choice)
reply-alike t i b choice s j a within o apart below = if_other t i s (sure (choice s) a) (b s a) (λ e. let same : Some j ≡ Some i = sym o ∙ e in apart (cc))

-- ---- weights along a path
-- a child of a node, and the set at which it is chosen
pub record IsStep (t : Tree) (c s : ℕ) : Type 0 where
  pub later : 0 < c
  pub below : c < t.size
  pub at_set : t.set (t.parent c) ≡ Some s
  pub within : s < t.sets
  pub branch_below : t.branch c < t.actions s
  pub parent_below : t.parent c < t.size

-- the step to a node below the root
pub step-to : (t : Tree) (c s : ℕ) → IsTree t → 0 < c → c < t.size → t.set (t.parent c) ≡ Some s → IsStep t c s
step-to t c s w p l e =
    let led = w.led_to c p l in
    let after : t.parent c < c = w.after_parent c p l in
    let same : led.0 ≡ s = cc (led.1, e) in
    let inside : t.parent c < t.size = omega arith in
    record { later = p; below = l; at_set = e; within = w.sets_within (t.parent c) s inside e; branch_below = subst (λ x. t.branch c < t.actions x) same led.2; parent_below = inside }

-- an own action changes no weight
pub weight-own : (t : Tree) (b : Behaviour) (i c s : ℕ) → IsTree t → 0 < c → c < t.size → t.set (t.parent c) ≡ Some s → t.owner s ≡ Some i → weight t b i c ≡ weight t b i (t.parent c)
weight-own t b i c s w p l e o =
    reach-step t (own_as_one t b i) c w p l
    ∙ ap (λ x. weight t b i (t.parent c) *ℚ x) (branch-own t (own_as_one t b i) i c s e o ∙ if_own t i s one_ℚ (b s (t.branch c)) o)
    ∙ *ℚ-one _

-- any other action's probability is a factor
pub weight-other : (t : Tree) (b : Behaviour) (i c s : ℕ) → IsTree t → 0 < c → c < t.size → t.set (t.parent c) ≡ Some s → t.owner s ≢ Some i → weight t b i c ≡ weight t b i (t.parent c) *ℚ branch_probability t b c
weight-other t b i c s w p l e apart =
    let step = step-to t c s w p l e in
    reach-step t (own_as_one t b i) c w p l
    ∙ ap (λ x. weight t b i (t.parent c) *ℚ x) (branch-other t i b (own_as_one t b i) c s step.within step.branch_below (own_as_one-alike t i b) e apart)

-- the law of weights
pub weights-along_paths : WeightsAlongPaths
weights-along_paths = record { root = λ t b i. refl; own = weight-own; other = weight-other }

-- ---- the own part
-- the product of the probabilities of the actions of an own history
abbrev pub own_probability : Behaviour → List (ℕ × ℕ) → ℚ
own_probability b [] = one_ℚ
own_probability b (step ∷ history) = own_probability b history *ℚ b step.0 step.1

-- of a history in two parts
own_probability-append : (b : Behaviour) (xs ys : List (ℕ × ℕ)) → own_probability b (xs ++ ys) ≡ own_probability b xs *ℚ own_probability b ys
own_probability-append b [] ys = sym (one-*ℚ _)
own_probability-append b (x ∷ xs) ys =
    ap (λ y. y *ℚ b x.0 x.1) (own_probability-append b xs ys) ∙ ring rational_ring (own_probability b xs ∷ own_probability b ys ∷ b x.0 x.1 ∷ []) (A :* B :* C) (A :* C :* B) refl

-- of the step to a child
pub own_probability-step : (t : Tree) (i : ℕ) (b : Behaviour) (c s : ℕ) → IsTree t → 0 < c → c < t.size → t.set (t.parent c) ≡ Some s → own_probability b (own_history t i c) ≡ own_probability b (own_history t i (t.parent c)) *ℚ (if is_own t i s then b s (t.branch c) else one_ℚ)
own_probability-step t i b c s w p l e =
    ap (own_probability b) (own_history-step t i c w p l ∙ ap (λ x. own_history t i (t.parent c) ++ own_edge t i x (t.branch c)) e)
    ∙ own_probability-append b (own_history t i (t.parent c)) (own_edge t i (Some s) (t.branch c))
    ∙ ap (λ x. own_probability b (own_history t i (t.parent c)) *ℚ x) (go (is_own t i s))
  where
    go : (own : Bool) → own_probability b (if own then (s, t.branch c) ∷ [] else []) ≡ (if own then b s (t.branch c) else one_ℚ)
    go true = one-*ℚ _
    go false = refl

-- the probability with which a node is reached is its weight times the probability of the own history
pub reach-parts : (t : Tree) (i : ℕ) (b other : Behaviour) → IsTree t → OthersBehaveAlike t i b other → (k : ℕ) → k < t.size → reach t other k ≡ weight t b i k *ℚ own_probability other (own_history t i k)
reach-parts t i b other w alike = along_paths t (λ k. reach t other k ≡ weight t b i k *ℚ own_probability other (own_history t i k)) w (sym (one-*ℚ one_ℚ)) next
  where
    next : (c : ℕ) → 0 < c → c < t.size → reach t other (t.parent c) ≡ weight t b i (t.parent c) *ℚ own_probability other (own_history t i (t.parent c)) → reach t other c ≡ weight t b i c *ℚ own_probability other (own_history t i c)
    next c p l before = elim (own_or_not t i s) [ inl o ↦ own o | inr apart ↦ others apart ]
      where
        s : ℕ
        s = (w.led_to c p l).0

        e : t.set (t.parent c) ≡ Some s
        e = (w.led_to c p l).1

        step : IsStep t c s
        step = step-to t c s w p l e

        front : reach t other c ≡ (weight t b i (t.parent c) *ℚ own_probability other (own_history t i (t.parent c))) *ℚ branch_probability t other c
        front = reach-step t other c w p l ∙ ap (λ x. x *ℚ branch_probability t other c) before

        own : t.owner s ≡ Some i → reach t other c ≡ weight t b i c *ℚ own_probability other (own_history t i c)
        own o =
            front
            ∙ *ℚ_assoc _ _ _
            ∙ ap₂ (λ x y. x *ℚ y) (sym (weight-own t b i c s w p l e o)) (ap (λ x. own_probability other (own_history t i (t.parent c)) *ℚ x) (branch-own t other i c s e o ∙ sym (if_own t i s _ one_ℚ o)) ∙ sym (own_probability-step t i other c s w p l e))

        others : t.owner s ≢ Some i → reach t other c ≡ weight t b i c *ℚ own_probability other (own_history t i c)
        others apart =
            front
            ∙ ring rational_ring (weight t b i (t.parent c) ∷ own_probability other (own_history t i (t.parent c)) ∷ branch_probability t other c ∷ []) (A :* B :* C) (A :* C :* B) refl
            ∙ ap₂ (λ x y. x *ℚ y) (ap (λ x. weight t b i (t.parent c) *ℚ x) (branch-other t i b other c s step.within step.branch_below alike e apart) ∙ sym (weight-other t b i c s w p l e apart)) (sym (*ℚ-one _) ∙ ap (λ x. own_probability other (own_history t i (t.parent c)) *ℚ x) (sym (if_other t i s (other s (t.branch c)) one_ℚ apart)) ∙ sym (own_probability-step t i other c s w p l e))
