-- The paths of a tree, node by node: steps, values and leaves.
use Rattle.std.proofs.Common.{ℕ, zero, suc, ◌+◌, ◌<◌, ◌≤◌, ◌≡◌, true, false, Option, Some, None, List, [], ◌∷◌, ◌++◌, length, map, take, get_or, All, Result, Ok, Err, refl, sym, ap, ap₂, subst, ◌∙◌, add-one, zero-add, arith}
use Rattle.std.specs.List.{range_with_len}
use Rattle.std.specs.Prelude.{cond, filter, is_none, is_some}
use Rattle.std.proofs.lemmas.List.{append-nil, map-append, length_push, take_all}
use Rattle.std.proofs.lemmas.List.Elements.{All-map, All-filter, filter-append}
use Rattle.std.proofs.lemmas.List.FromFn.{get_or-range_with_len, length-range_with_len}
use Rattle.std.proofs.lemmas.Option.{none-some, same_Some}
use Rattle.lists.proofs.ElementLemmas.{range-last}
use Rattle.rational.specs.Rational.{ℚ, ◌+ℚ◌}
use Rattle.frac128.specs.FirstUnfit.{StepsFit}
use Rattle.frac128.specs.Steps.{step_of, Step, StepFits, IsFirstUnfit}
use Rattle.frac128.specs.declared.steps.Op.TheVariants.{Add, Mul}
use Rattle.frac128.proofs.FirstUnfitLemmas.{fits_next, first_unfit_here}
use Rattle.game_theory.specs.Trees.{Tree, IsTree}
use Rattle.sequence_forms.specs.Forms.{chance_of_path, payoff_of_path}
use Rattle.sequence_forms.specs.Lists.{leaves}
use Rattle.sequence_forms.specs.Sequences.{side_of}
use Rattle.sequence_forms.specs.Sides.{sequences}
use Rattle.sequence_forms.proofs.SequenceLemmas.{last-below}
use Rattle.sequence_forms.proofs.SignLemmas.{chance-not_negative, path_totals}
use Rattle.sequence_data.specs.Data.{LeafFits}
use Rattle.sequence_data.specs.Steps.{fit_at}
use Rattle.sequence_data.specs.declared.stop.SeqStop.{SeqStop}
use Rattle.sequence_data.specs.declared.types.Leaf.{Leaf}
use Rattle.sequence_data.proofs.StepStageLemmas.{fit_at-following, fit_at-more}
use Rattle.sequence_form.specs.Paths.{leaf_at, tree_leaves, chance_step, chance_steps, payoff_step, child_steps, node_steps, paths_in}

-- ---- a node
module _ (t : Tree) (k : ℕ) where
  -- the chance comes first
  abbrev firsts : List Step
  firsts = chance_steps t k (t.set (t.parent k))

  pub chance-stop : (stop : SeqStop) → fit_at k firsts (Err stop) → fit_at k (child_steps t k) (Err stop)
  chance-stop stop h = fit_at-more k firsts (payoff_step t k 0 ∷ payoff_step t k 1 ∷ []) stop h

  -- then the payoff of the first player
  pub one-stop : (stop : SeqStop) → All StepFits firsts → fit_at k (payoff_step t k 0 ∷ []) (Err stop) → fit_at k (child_steps t k) (Err stop)
  one-stop stop fit h = fit_at-following k firsts (payoff_step t k 0 ∷ payoff_step t k 1 ∷ []) (Err stop) fit (fit_at-more k (payoff_step t k 0 ∷ []) (payoff_step t k 1 ∷ []) stop h)

  -- and that of the second player
  pub two-answer : (answer : Result (Unit {0}) SeqStop) → All StepFits firsts → All StepFits (payoff_step t k 0 ∷ []) → fit_at k (payoff_step t k 1 ∷ []) answer → fit_at k (child_steps t k) answer
  two-answer answer fit one h = fit_at-following k firsts (payoff_step t k 0 ∷ payoff_step t k 1 ∷ []) answer fit (fit_at-following k (payoff_step t k 0 ∷ []) (payoff_step t k 1 ∷ []) answer one h)

-- the step of chance by the numbers of which it is made
pub chance-is : (t : Tree) (k s : ℕ) (a b : ℚ) → t.set (t.parent k) ≡ Some s → t.owner s ≡ None → a ≡ chance_of_path t (t.parent k) → b ≡ t.chance s (t.branch k) → (step_of Mul a b ∷ []) ≡ chance_steps t k (t.set (t.parent k))
chance-is t k s a b at none left right =
    ap₂ (λ u v. step_of Mul u v ∷ []) left right ∙ ap (chance_step t k s) (sym none) ∙ ap (chance_steps t k) (sym at)

-- a step by the numbers of which it is made
pub step-is : (t : Tree) (k i : ℕ) (a b : ℚ) → a ≡ payoff_of_path t i (t.parent k) → b ≡ t.pays k i → (step_of Add a b ∷ []) ≡ (payoff_step t k i ∷ [])
step-is t k i a b left right = ap₂ (λ u v. step_of Add u v ∷ []) left right

-- the sum of that step
pub payoff-is : (t : Tree) (k i : ℕ) (a b v : ℚ) → IsTree t → 0 < k → k < t.size → a ≡ payoff_of_path t i (t.parent k) → b ≡ t.pays k i → v ≡ a +ℚ b → v ≡ payoff_of_path t i k
payoff-is t k i a b v w h l left right is = is ∙ ap₂ (λ x y. x +ℚ y) left right ∙ sym ((path_totals t w).payoff_after i k h l)

-- a leaf with these parts
pub same_leaf : (k r q m n : ℕ) (a b c d e f : ℚ) → r ≡ m → q ≡ n → a ≡ b → c ≡ d → e ≡ f → let x : Leaf = record { place = k; row = r; column = q; chance = a; one = c; two = e } in let y : Leaf = record { place = k; row = m; column = n; chance = b; one = d; two = f } in x ≡ y
same_leaf k r q m n a b c d e f rows columns chance one two = λ i. record { place = k; row = rows i; column = columns i; chance = chance i; one = one i; two = two i }

-- ---- the parent's set
module _ (t : Tree) (k p : ℕ) (w : IsTree t) (later : 0 < k) (below : k < t.size) (above : p ≡ t.parent k) where
  pub parent-below : p < t.size
  parent-below = let before = w.after_parent k later below in omega (arith, before, above, below)

  pub parent-chooses : (o : Option ℕ) → o ≡ t.set p → o ≡ None → ⊥
  parent-chooses o is none = let led = w.led_to k later below in none-some led.0 (sym none ∙ is ∙ ap t.set above ∙ led.1)

  pub parent-set : (o : Option ℕ) (s : ℕ) → o ≡ t.set p → o ≡ Some s → t.set (t.parent k) ≡ Some s
  parent-set o s is some = sym (ap t.set above) ∙ sym is ∙ some

  pub set-below : (o : Option ℕ) (s : ℕ) → o ≡ t.set p → o ≡ Some s → s < t.sets
  set-below o s is some = w.sets_within p s parent-below (sym is ∙ some)

  pub branch-below : (o : Option ℕ) (s b : ℕ) → o ≡ t.set p → o ≡ Some s → b ≡ t.branch k → b < t.actions s
  branch-below o s b is some branch =
      let led = w.led_to k later below in
      let same : led.0 ≡ s = same_Some led.0 s (sym led.1 ∙ parent-set o s is some) in
      subst (λ x. b < t.actions x) same (subst (λ x. x < t.actions led.0) (sym branch) led.2)

-- ---- all nodes
-- the steps at a node after the root
pub node-child : (t : Tree) (k : ℕ) → 0 < k → node_steps t k ≡ child_steps t k
node-child t zero h = absurd (omega arith)
node-child t (suc k) h = refl

module _ (t : Tree) where
  abbrev nodes : List ℕ
  nodes = range_with_len 0 t.size

  module _ (k : ℕ) (l : k < t.size) (fit : All (StepsFit (node_steps t)) (take k nodes)) where
    within : k < length nodes
    within = omega (arith, l, length-range_with_len 0 t.size)

    here : k ≡ get_or nodes k k
    here = omega (arith, get_or-range_with_len 0 t.size k k l)

    -- the steps of one node more fit
    pub path-fit : 0 < k → All StepFits (child_steps t k) → All (StepsFit (node_steps t)) (take (k + 1) nodes)
    path-fit h f = fits_next (node_steps t) nodes k k within here fit (subst (All StepFits) (sym (node-child t k h)) f)

    -- what stops a node stops all
    pub path-stop : 0 < k → (stop : SeqStop) → fit_at k (child_steps t k) (Err stop) → paths_in t (Err stop)
    path-stop h stop (step, u, told) =
        ((k, step), first_unfit_here (node_steps t) nodes k k within here step fit (subst (λ s. IsFirstUnfit s step) (sym (node-child t k h)) u), told)

  -- the steps of all nodes fit
  pub path-all : (n : ℕ) → t.size ≤ n → All (StepsFit (node_steps t)) (take n nodes) → paths_in t (Ok tt)
  path-all n l fit = subst (All (StepsFit (node_steps t))) (take_all n nodes (omega (arith, l, length-range_with_len 0 t.size))) fit

-- ---- the leaves
-- the leaves below n
abbrev pub first_leaves : Tree → ℕ → List ℕ
first_leaves t n = filter (λ k. is_none (t.set k)) (range_with_len 0 n)

-- with one more node
leaves-next : (t : Tree) (n : ℕ) (o : Option ℕ) → o ≡ t.set n → first_leaves t (suc n) ≡ first_leaves t n ++ cond (is_none o) (n ∷ []) []
leaves-next t n o is =
    ap (filter (λ k. is_none (t.set k))) (range-last n) ∙ filter-append (λ k. is_none (t.set k)) (range_with_len 0 n) (n ∷ [])
    ∙ ap (λ x. first_leaves t n ++ cond (is_none x) (n ∷ []) []) (sym is)

-- with one more leaf
leaves-leaf : (t : Tree) (n : ℕ) → t.set n ≡ None → map (leaf_at t) (first_leaves t (suc n)) ≡ map (leaf_at t) (first_leaves t n) ++ leaf_at t n ∷ []
leaves-leaf t n none = ap (map (leaf_at t)) (leaves-next t n None (sym none)) ∙ map-append (leaf_at t) (first_leaves t n) (n ∷ [])

pub leaves-more : (t : Tree) (n : ℕ) (o : Option ℕ) → o ≡ t.set n → is_some o ≡ false → map (leaf_at t) (first_leaves t (n + 1)) ≡ map (leaf_at t) (first_leaves t n) ++ leaf_at t n ∷ []
leaves-more t n None is h = ap (λ m. map (leaf_at t) (first_leaves t m)) (add-one n) ∙ leaves-leaf t n (sym is)
leaves-more t n (Some s) is h = cc

-- with a node that is none
pub leaves-same : (t : Tree) (n : ℕ) (o : Option ℕ) → o ≡ t.set n → is_some o ≡ true → map (leaf_at t) (first_leaves t (n + 1)) ≡ map (leaf_at t) (first_leaves t n)
leaves-same t n None is h = cc
leaves-same t n (Some s) is h = ap (map (leaf_at t)) (ap (first_leaves t) (add-one n) ∙ leaves-next t n (Some s) is ∙ append-nil (first_leaves t n))

-- the leaves fit the form
pub leaves-fit : (t : Tree) → IsTree t → All (LeafFits (sequences (side_of t 0)) (sequences (side_of t 1))) (tree_leaves t)
leaves-fit t w = All-map (LeafFits (sequences (side_of t 0)) (sequences (side_of t 1))) (leaf_at t) (leaves t) (All-filter (λ k. is_none (t.set k)) Fits (range_with_len 0 t.size) (λ j d l. let within : j < t.size = omega (arith, l, length-range_with_len 0 t.size) in subst Fits (sym (get_or-range_with_len 0 t.size j d within ∙ zero-add j)) (fits j within)))
  where
    Fits : ℕ → Type 0
    Fits k = LeafFits (sequences (side_of t 0)) (sequences (side_of t 1)) (leaf_at t k)

    fits : (k : ℕ) → k < t.size → Fits k
    fits k l = record { not_negative = chance-not_negative t w k l; row_within = last-below t 0 w k l; column_within = last-below t 1 w k l }

-- the last node is a leaf
last-leaf : (t : Tree) → IsTree t → (n : ℕ) → t.size ≡ suc n → t.set n ≡ None
last-leaf t w n is = go (t.set n) refl
  where
    go : (o : Option ℕ) → t.set n ≡ o → o ≡ None
    go None e = refl
    go (Some s) e =
        let within : n < t.size = omega arith in
        let child = w.some_child n s 0 within e (w.some_action s (w.sets_within n s within e)) in
        let c : ℕ = child.0 in
        absurd (omega (arith, is, child.1.1, ap (λ x. x) child.1.2, w.after_parent c child.1.0 child.1.1))

-- so there is one
pub some-leaf : (t : Tree) → IsTree t → 0 < length (tree_leaves t)
some-leaf t w = go t.size refl w.some_node
  where
    go : (n : ℕ) → t.size ≡ n → 0 < n → 0 < length (map (leaf_at t) (first_leaves t n))
    go zero is some = absurd (omega arith)
    go (suc n) is some =
        let push = leaves-leaf t n (last-leaf t w n is) in
        omega (arith, ap length push, length_push (map (leaf_at t) (first_leaves t n)) (leaf_at t n))
