-- What behaviour pays that weights of sequences realise.
use Rattle.std.proofs.Common.{ℕ, zero, suc, ◌<◌, ◌≡◌, Option, Some, None, [], ◌∷◌, refl, sym, ap, ap₂, ◌∙◌, arith}
use Rattle.rational.specs.Rational.{ℚ, ◌+ℚ◌, ◌*ℚ◌, one_ℚ}
use Rattle.rational.specs.Sum.{sum_to}
use Rattle.rational.proofs.RationalRing.{rational_ring}
use Rattle.rational.proofs.Rules.{one-*ℚ}
use Rattle.rational.proofs.Ring.{ring, num, ◌:*◌, A, B, C, D}
use Rattle.game_theory.specs.Trees.{Tree, IsTree}
use Rattle.game_theory.specs.Behaviour.{Behaviour, IsValid, of_owner, at_set, action_probability, branch_probability, payoff}
use Rattle.sequence_forms.specs.Sequences.{sequence, last_sequence}
use Rattle.sequence_forms.specs.Forms.{over_leaves, chance_of_path, payoff_of_path, row, column}
use Rattle.sequence_forms.proofs.NodeSumLemmas.{IsReaching, AddsUp, Flows, payoff_of_nodes, leaves_of_nodes, leaves_weigh, reaching_flows}
use Rattle.game_theory.proofs.PathLemmas.{on_path-step}
use Rattle.sequence_forms.proofs.SequenceLemmas.{last-own, last-other}

-- Weights of player i's sequences that realise behaviour: 1 for the empty sequence, and after a node's own action the weight of the
-- node times the action's probability.
pub record Realises (t : Tree) (i : ℕ) (b : Behaviour) (x : ℕ → ℚ) : Type 0 where
  pub empty_is_one : x 0 ≡ one_ℚ
  pub after : (k s a : ℕ) → k < t.size → t.set k ≡ Some s → t.owner s ≡ Some i → a < t.actions s → x (sequence t i (Some (s, a))) ≡ b s a *ℚ x (last_sequence t i k)

-- the weight of a node: chance and both players' weights of the path to it
abbrev pub node_weight : Tree → (ℕ → ℚ) → (ℕ → ℚ) → ℕ → ℚ
node_weight t x y k = chance_of_path t k *ℚ (x (row t k) *ℚ y (column t k))

-- behaviour as the probability of an action
pub branch_at : (t : Tree) (b : Behaviour) (c s : ℕ) (o : Option ℕ) → t.set (t.parent c) ≡ Some s → t.owner s ≡ o → branch_probability t b c ≡ of_owner o (t.chance s (t.branch c)) (b s (t.branch c))
branch_at t b c s o q e = ap (λ x. at_set t b x (t.branch c)) q ∙ ap (λ x. of_owner x (t.chance s (t.branch c)) (b s (t.branch c))) e

-- chance on the path to a child
pub chance-step : (t : Tree) (c : ℕ) → IsTree t → 0 < c → c < t.size → chance_of_path t c ≡ branch_probability t (λ s a. one_ℚ) c *ℚ chance_of_path t (t.parent c)
chance-step t c w p l = on_path-step t one_ℚ (λ c chance. branch_probability t (λ s a. one_ℚ) c *ℚ chance) c w p l

-- the weights of the nodes are those of the behaviour
pub weights_reach : (t : Tree) (b : Behaviour) (x y : ℕ → ℚ) → IsTree t → t.players ≡ 2 → Realises t 0 b x → Realises t 1 b y → IsReaching t b (node_weight t x y)
weights_reach t b x y w two rx ry =
    record { root = ap₂ (λ u v. one_ℚ *ℚ (u *ℚ v)) rx.empty_is_one ry.empty_is_one ∙ ring rational_ring [] (num 1 :* (num 1 :* num 1)) (num 1) refl; child = child }
  where
    child : (c : ℕ) → 0 < c → c < t.size → node_weight t x y c ≡ branch_probability t b c *ℚ node_weight t x y (t.parent c)
    child c p l =
        let led = w.led_to c p l in
        let after : t.parent c < c = w.after_parent c p l in
        go led.0 led.1 led.2 (omega arith) (t.owner led.0) refl
      where
        go : (s : ℕ) → t.set (t.parent c) ≡ Some s → t.branch c < t.actions s → t.parent c < t.size → (o : Option ℕ) → t.owner s ≡ o → node_weight t x y c ≡ branch_probability t b c *ℚ node_weight t x y (t.parent c)
        go s q m inside None e =
            ap₂ (λ u v. u *ℚ v) (chance-step t c w p l ∙ ap (λ u. u *ℚ chance_of_path t (t.parent c)) (branch_at t (λ s a. one_ℚ) c s None q e)) (ap₂ (λ u v. x u *ℚ y v) (last-other t 0 c s w p l q (λ r. cc)) (last-other t 1 c s w p l q (λ r. cc)))
            ∙ ring rational_ring (t.chance s (t.branch c) ∷ chance_of_path t (t.parent c) ∷ x (row t (t.parent c)) ∷ y (column t (t.parent c)) ∷ []) (A :* B :* (C :* D)) (A :* (B :* (C :* D))) refl
            ∙ ap (λ u. u *ℚ node_weight t x y (t.parent c)) (sym (branch_at t b c s None q e))
        go s q m inside (Some zero) e =
            ap₂ (λ u v. u *ℚ v) (chance-step t c w p l ∙ ap (λ u. u *ℚ chance_of_path t (t.parent c)) (branch_at t (λ s a. one_ℚ) c s (Some 0) q e) ∙ one-*ℚ (chance_of_path t (t.parent c))) (ap₂ (λ u v. u *ℚ y v) (ap x (last-own t 0 c s w p l q e) ∙ rx.after (t.parent c) s (t.branch c) inside q e m) (last-other t 1 c s w p l q (λ r. cc)))
            ∙ ring rational_ring (b s (t.branch c) ∷ chance_of_path t (t.parent c) ∷ x (row t (t.parent c)) ∷ y (column t (t.parent c)) ∷ []) (B :* (A :* C :* D)) (A :* (B :* (C :* D))) refl
            ∙ ap (λ u. u *ℚ node_weight t x y (t.parent c)) (sym (branch_at t b c s (Some 0) q e))
        go s q m inside (Some (suc zero)) e =
            ap₂ (λ u v. u *ℚ v) (chance-step t c w p l ∙ ap (λ u. u *ℚ chance_of_path t (t.parent c)) (branch_at t (λ s a. one_ℚ) c s (Some 1) q e) ∙ one-*ℚ (chance_of_path t (t.parent c))) (ap₂ (λ u v. x u *ℚ v) (last-other t 0 c s w p l q (λ r. cc)) (ap y (last-own t 1 c s w p l q e) ∙ ry.after (t.parent c) s (t.branch c) inside q e m))
            ∙ ring rational_ring (b s (t.branch c) ∷ chance_of_path t (t.parent c) ∷ x (row t (t.parent c)) ∷ y (column t (t.parent c)) ∷ []) (B :* (C :* (A :* D))) (A :* (B :* (C :* D))) refl
            ∙ ap (λ u. u *ℚ node_weight t x y (t.parent c)) (sym (branch_at t b c s (Some 1) q e))
        go s q m inside (Some (suc (suc i))) e =
            let within : suc (suc i) < t.players = w.owners_within s (suc (suc i)) (w.sets_within (t.parent c) s inside q) e in absurd (omega arith)

-- where behaviour is valid, the probabilities at each set sum to 1
pub probabilities_sum : (t : Tree) (b : Behaviour) → IsTree t → IsValid t b → (s : ℕ) → s < t.sets → sum_to (t.actions s) (action_probability t b s) ≡ one_ℚ
probabilities_sum t b w v s l = go (t.owner s) refl
  where
    go : (o : Option ℕ) → t.owner s ≡ o → sum_to (t.actions s) (λ a. of_owner o (t.chance s a) (b s a)) ≡ one_ℚ
    go None e = (w.chance_distributions s l e).sum_is_one
    go (Some i) e = (v s i l e).sum_is_one

-- the payoffs of the paths add up
pub path_adds : (t : Tree) (i : ℕ) → IsTree t → AddsUp t (λ k. t.pays k i) (payoff_of_path t i)
path_adds t i w = record { root = refl; child = λ c p l. on_path-step t (t.pays 0 i) (λ c payoff. payoff +ℚ t.pays c i) c w p l }

-- the weights of the nodes split
flows : (t : Tree) (b : Behaviour) (x y : ℕ → ℚ) → IsTree t → t.players ≡ 2 → IsValid t b → Realises t 0 b x → Realises t 1 b y → Flows t (node_weight t x y)
flows t b x y w two v rx ry = reaching_flows t b (node_weight t x y) w (weights_reach t b x y w two rx ry) (probabilities_sum t b w v)

-- behaviour pays the leaves, weighted by what realises it
pub realised_payoff : (t : Tree) (b : Behaviour) (x y : ℕ → ℚ) (i : ℕ) → IsTree t → t.players ≡ 2 → IsValid t b → Realises t 0 b x → Realises t 1 b y
    → payoff t b i ≡ over_leaves t (λ k. node_weight t x y k *ℚ payoff_of_path t i k)
realised_payoff t b x y i w two v rx ry =
    payoff_of_nodes t b i (node_weight t x y) w (weights_reach t b x y w two rx ry)
    ∙ sym (leaves_of_nodes t (node_weight t x y) (λ k. t.pays k i) (payoff_of_path t i) w (flows t b x y w two v rx ry) (path_adds t i w))

-- the weights of the leaves sum to 1
pub realised_weight : (t : Tree) (b : Behaviour) (x y : ℕ → ℚ) → IsTree t → t.players ≡ 2 → IsValid t b → Realises t 0 b x → Realises t 1 b y → over_leaves t (node_weight t x y) ≡ one_ℚ
realised_weight t b x y w two v rx ry =
    leaves_weigh t (node_weight t x y) w (flows t b x y w two v rx ry) ∙ (weights_reach t b x y w two rx ry).root
