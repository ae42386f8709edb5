-- Own histories in a cut and in the tree.
use Rattle.std.proofs.Common.{ℕ, suc, ◌<◌, ◌≡◌, Bool, true, false, Some, List, [], ◌∷◌, ◌++◌, length, map, get_or, drop, refl, sym, ap, ap₂, ◌∙◌, subst, append_assoc, arith}
use Rattle.std.specs.Prelude.{All, if◌then◌else◌}
use Rattle.std.proofs.lemmas.List.{append-nil, append_cancel_left, map-append}
use Rattle.std.proofs.lemmas.List.Elements.{All-append, All-cons, All-head, All-nil, All-tail}
use Rattle.rational.specs.Rational.{ℚ}
use Rattle.game_theory.specs.Behaviour.{is_index, is_own}
use Rattle.game_theory.specs.Recall.{own_edge, own_history}
use Rattle.game_theory.specs.Trees.{Tree, IsTree}
use Rattle.game_theory.proofs.PathLemmas.{along_paths, own_history-step}
use Rattle.subgames.specs.CutGames.{IsCutGame}
use Rattle.subgames.specs.CutLaws.{CutsKeepRecall}
use Rattle.subgames.proofs.CutNodeLemmas.{cut-child, cut-first, cut-node}
use Rattle.subgames.proofs.CutValueLemmas.{cut-at_set}

-- ---- the sets of a history
-- a step is at a set of the tree
abbrev IsAtSet : Tree → ℕ × ℕ → Type 0
IsAtSet t step = step.0 < t.sets

module _ (t : Tree) (i : ℕ) (w : IsTree t) where
  -- an own edge is at a set of the tree
  edge-at_set : (s a : ℕ) → s < t.sets → All (IsAtSet t) (own_edge t i (Some s) a)
  edge-at_set s a inside = go (is_own t i s)
    where
      go : (own : Bool) → All (IsAtSet t) (if own then (s, a) ∷ [] else [])
      go true = All-cons (IsAtSet t) (s, a) [] inside (All-nil (IsAtSet t))
      go false = All-nil (IsAtSet t)

  -- so is each step of an own history
  history-at_sets : (k : ℕ) → k < t.size → All (IsAtSet t) (own_history t i k)
  history-at_sets = along_paths t (λ k. All (IsAtSet t) (own_history t i k)) w (All-nil (IsAtSet t))
      (λ c p l h.
      let o = w.led_to c p l in
      let parent_below = w.after_parent c p l in
      let edge = edge-at_set o.0 (t.branch c) (w.sets_within (t.parent c) o.0 (omega (arith, parent_below, l)) o.1) in
      subst (All (IsAtSet t)) (sym (own_history-step t i c w p l ∙ ap (λ x. own_history t i (t.parent c) ++ own_edge t i x (t.branch c)) o.1))
      (All-append (IsAtSet t) (own_history t i (t.parent c)) (own_edge t i (Some o.0) (t.branch c)) h edge))

-- ---- histories in both
-- a step with its set's number in the tree
abbrev in_tree : List ℕ → ℕ × ℕ → ℕ × ℕ
in_tree sets step = (get_or sets step.0 0, step.1)

module _ (t : Tree) (n : ℕ) (worth : ℕ → ℕ → ℚ) (nodes sets : List ℕ) (c : Tree) (i : ℕ) (w : IsTree t) (v : IsTree c) (below : n < t.size) (g : IsCutGame t n worth nodes sets c) where
  -- different steps of the cut are different in the tree
  steps-once : (xs ys : List (ℕ × ℕ)) → All (IsAtSet c) xs → All (IsAtSet c) ys → map (in_tree sets) xs ≡ map (in_tree sets) ys → xs ≡ ys
  steps-once [] [] p q e = refl
  steps-once [] (y ∷ ys) p q e = let long : 0 ≡ suc (length (map (in_tree sets) ys)) = ap length e in absurd (omega (arith, long))
  steps-once (x ∷ xs) [] p q e = let long : suc (length (map (in_tree sets) xs)) ≡ 0 = ap length e in absurd (omega (arith, long))
  steps-once (x ∷ xs) (y ∷ ys) p q e =
      let heads : in_tree sets x ≡ in_tree sets y = ap (λ steps. get_or steps 0 (in_tree sets x)) e in
      let one = g.sets_differ x.0 y.0 (All-head (IsAtSet c) x xs p) (All-head (IsAtSet c) y ys q) (ap (λ (step : ℕ × ℕ). step.0) heads) in
      ap₂ (λ step steps. step ∷ steps) (ap₂ (λ s a. (s, a)) one (ap (λ (step : ℕ × ℕ). step.1) heads)) (steps-once xs ys (All-tail (IsAtSet c) x xs p) (All-tail (IsAtSet c) y ys q) (ap (drop 1) e))

  -- an edge of the cut in the tree
  edge-in_tree : (j r a : ℕ) → j < c.size → c.set j ≡ Some r → own_edge t i (t.set (get_or nodes j 0)) a ≡ map (in_tree sets) (own_edge c i (c.set j) a)
  edge-in_tree j r a inside e =
      ap (λ o. own_edge t i o a) (cut-at_set t n worth nodes sets c w v g j r inside e).0
      ∙ ap (λ o. if is_index o i then (get_or sets r 0, a) ∷ [] else []) (sym (g.owners r (v.sets_within j r inside e)))
      ∙ go (is_own c i r) ∙ sym (ap (λ o. map (in_tree sets) (own_edge c i o a)) e)
    where
      go : (own : Bool) → (if own then (get_or sets r 0, a) ∷ [] else []) ≡ map (in_tree sets) (if own then (r, a) ∷ [] else [])
      go true = refl
      go false = refl

  -- the history of a node of the cut is, in the tree, that of the first node and then the one in the cut
  history-in_tree : (j : ℕ) → j < c.size → own_history t i (get_or nodes j 0) ≡ own_history t i n ++ map (in_tree sets) (own_history c i j)
  history-in_tree = along_paths c (λ j. own_history t i (get_or nodes j 0) ≡ own_history t i n ++ map (in_tree sets) (own_history c i j)) v
      (ap (own_history t i) (cut-first t n worth nodes sets c w v g below) ∙ sym (append-nil (own_history t i n)))
      (λ e p l h.
      let j = c.parent e in
      let here = v.after_parent e p l in
      let o = v.led_to e p l in
      let child = cut-child t n worth nodes sets c w v g j (c.branch e) e (p, l, refl, refl) in
      own_history-step t i (get_or nodes e 0) w child.0 child.1
      ∙ ap₂ (λ k a. own_history t i k ++ own_edge t i (t.set k) a) child.2 child.3
      ∙ ap₂ (λ x y. x ++ y) h (edge-in_tree j o.0 (c.branch e) (omega (arith, here, l)) o.1)
      ∙ append_assoc (own_history t i n) (map (in_tree sets) (own_history c i j)) (map (in_tree sets) (own_edge c i (c.set j) (c.branch e)))
      ∙ ap (λ x. own_history t i n ++ x) (sym (map-append (in_tree sets) (own_history c i j) (own_edge c i (c.set j) (c.branch e))) ∙ ap (map (in_tree sets)) (sym (own_history-step c i e v p l))))

-- a player who recalls in a tree recalls in its cuts
pub cuts_keep_recall : CutsKeepRecall
cuts_keep_recall t n worth nodes sets c i w v below g recall r own k l k_below l_below at_k at_l =
    let here = λ (j : ℕ) (inside : j < c.size). (cut-node t n worth nodes sets c w v g j inside).0 in
    let there = λ (j : ℕ) (inside : j < c.size) (e : c.set j ≡ Some r). (cut-at_set t n worth nodes sets c w v g j r inside e).0 in
    let whole = history-in_tree t n worth nodes sets c i w v below g in
    let same = recall (get_or sets r 0) (sym (g.owners r (v.sets_within k r k_below at_k)) ∙ own) (get_or nodes k 0) (get_or nodes l 0) (here k k_below) (here l l_below) (there k k_below at_k) (there l l_below at_l) in
    steps-once t n worth nodes sets c i w v below g (own_history c i k) (own_history c i l) (history-at_sets c i v k k_below) (history-at_sets c i v l l_below)
    (append_cancel_left (own_history t i n) _ _ (sym (whole k k_below) ∙ same ∙ whole l l_below))
