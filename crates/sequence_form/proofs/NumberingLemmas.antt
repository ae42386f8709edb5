-- The sequences of a player's own sets, by the numbers of the sets.
use Rattle.std.proofs.Common.{ℕ, zero, suc, ◌+◌, ◌*◌, ◌<◌, ◌≤◌, ◌≡◌, inl, inr, Bool, true, false, Decides, Option, Some, None, List, [], ◌∷◌, ◌++◌, length, map, get_or, slice_get, refl, sym, ap, subst, ◌∙◌, arith}
use Rattle.std.specs.Prelude.{if◌then◌else◌}
use Rattle.std.proofs.lemmas.List.{append-nil, length_push}
use Rattle.std.proofs.lemmas.List.FromFn.{get_or-map-range_with_len, length-map-range_with_len}
use Rattle.std.proofs.lemmas.Option.{none-some, same_Some, slice_get_within, get_or_from_slice_get}
use Rattle.game_theory.specs.Trees.{Tree, IsTree as is_game_tree}
use Rattle.game_theory.specs.Behaviour.{is_own}
use Rattle.game_theory.specs.Recall.{own_history}
use Rattle.game_core.specs.Tree.{GameTree, IsGameTree}
use Rattle.game_core.specs.TreeGame.{game_of_tree}
use Rattle.game_theory.specs.OwnSets.{own_sets, numbers_with}
use Rattle.game_theory.proofs.OwnSetLemmas.{is_own-decides}
use Rattle.strategy_lists.proofs.ActionCountLemmas.{actions-below}
use Rattle.game_theory.proofs.IndexLemmas.{numbers_with-at, numbers_with-next}
use Rattle.sequence_forms.specs.Sequences.{last_edge, history_before, sequence, sequence_before, side_of}
use Rattle.sequence_forms.specs.Sides.{first, sequences}
use Rattle.sequence_forms.proofs.SequenceLemmas.{history_before-cases, side_of-is}
use Rattle.sequence_forms.proofs.SignLemmas.{last_sequences}
use Rattle.perfect_recall.specs.Found.{IsRecallOf, edge_before}
use Rattle.perfect_recall.proofs.HistoryLemmas.{HasHistory, has_history, edge-none, edge-some}
use Rattle.sequence_data.specs.Data.{SideData}
use Rattle.sequence_data.specs.declared.types.SetRow.{SetRow}
use Rattle.sequence_form.specs.Sequences.{next_sequence, sequence_count_of, AreFirsts, own_set_row, tree_side}

module _ (t : Tree) (i : ℕ) where
  -- ---- the place of an own set
  own-at : (s : ℕ) → s < t.sets → t.owner s ≡ Some i → slice_get (own_sets t i) (length (numbers_with t.owner i s)) ≡ Some s
  own-at s below own = numbers_with-at t.owner i s t.sets below own

  own-is : (s : ℕ) → s < t.sets → t.owner s ≡ Some i → get_or (own_sets t i) (length (numbers_with t.owner i s)) 0 ≡ s
  own-is s below own = get_or_from_slice_get (own_sets t i) (length (numbers_with t.owner i s)) s 0 (own-at s below own)

  own-within : (s : ℕ) → s < t.sets → t.owner s ≡ Some i → length (numbers_with t.owner i s) < length (own_sets t i)
  own-within s below own = slice_get_within (own_sets t i) (length (numbers_with t.owner i s)) s (own-at s below own)

  -- ---- the next sequence
  -- with one more set
  pub next-more : (n : ℕ) → n < t.sets → next_sequence t i (suc n) ≡ next_sequence t i n + sequence_count_of t i n
  next-more n below = ap (λ xs. first (side_of t i) (length xs)) (numbers_with-next t.owner i n) ∙ go (is_own t i n) (is_own-decides t i n)
    where
      go : (b : Bool) → Decides b (t.owner n ≡ Some i) → first (side_of t i) (length (numbers_with t.owner i n ++ (if b then n ∷ [] else []))) ≡ next_sequence t i n + (if b then t.actions n else 0)
      go true d =
          let long : length (numbers_with t.owner i n ++ n ∷ []) ≡ suc (length (numbers_with t.owner i n)) = length_push (numbers_with t.owner i n) n ∙ omega arith in
          ap (first (side_of t i)) long ∙ ap (λ s. next_sequence t i n + t.actions s) (own-is n below (d.0 refl))
      go false d = ap (λ xs. first (side_of t i) (length xs)) (append-nil (numbers_with t.owner i n)) ∙ omega arith

  -- the sequence of an own set's action
  pub sequence-is : (s a : ℕ) → is_game_tree t → s < t.sets → t.owner s ≡ Some i → sequence t i (Some (s, a)) ≡ next_sequence t i s + a
  sequence-is s a w below own = ap (λ x. sequence t i (Some (x, a))) (sym (own-is s below own)) ∙ (last_sequences t i w).numbered (length (numbers_with t.owner i s)) a (own-within s below own)

  -- the sequence before an own set
  pub before-below : (s : ℕ) → is_game_tree t → s < t.sets → t.owner s ≡ Some i → sequence_before t i s < sequences (side_of t i)
  before-below s w below own = subst (λ x. sequence_before t i x < sequences (side_of t i)) (own-is s below own) (side_of-is t i w (length (numbers_with t.owner i s)) (own-within s below own))

  -- ---- a list of the next sequences
  pub firsts-length : (firsts : List ℕ) → AreFirsts t i firsts → length firsts ≡ suc t.sets
  firsts-length firsts are = ap length are ∙ length-map-range_with_len (next_sequence t i) 0 (suc t.sets)

  pub first-at : (firsts : List ℕ) (s : ℕ) → AreFirsts t i firsts → s < suc t.sets → get_or firsts s 0 ≡ next_sequence t i s
  first-at firsts s are below = ap (λ xs. get_or xs s 0) are ∙ get_or-map-range_with_len (next_sequence t i) 0 (suc t.sets) s s 0 below (omega arith)

  -- ---- the step before an own set
  pub own-step : (s r a : ℕ) → is_game_tree t → last_edge (history_before t i s) ≡ Some (r, a) → (r < t.sets) × (t.owner r ≡ Some i)
  own-step s r a w h = elim (history_before-cases t i s) [
    | inl found ↦ go found.0 found.1 (has_history t i found.0 w found.1) (sym (ap last_edge found.3) ∙ h)
    | inr none ↦ absurd (none-some (r, a) (sym (ap last_edge none.0) ∙ h))
  ]
    where
      go : (k : ℕ) → k < t.size → HasHistory t i k → last_edge (own_history t i k) ≡ Some (r, a) → (r < t.sets) × (t.owner r ≡ Some i)
      go k below (inl empty) e = absurd (none-some (r, a) (sym (edge-none t i k empty) ∙ e))
      go k below (inr has) e =
          let same : has.set ≡ r = ap (λ (x : ℕ × ℕ). x.0) (same_Some (has.set, has.action) (r, a) (sym (edge-some t i k has) ∙ e)) in
          (subst (λ x. x < t.sets) same (w.sets_within has.node has.set (omega (arith, has.before)) has.chooses.at_set), subst (λ x. t.owner x ≡ Some i) same has.chooses.own)

  -- the recall of a tree has it
  pub recall-length : (before : List (Option (ℕ × ℕ))) → IsRecallOf t before → length before ≡ t.sets
  recall-length before h = ap length h.before_is ∙ length-map-range_with_len (λ s. edge_before t s (t.owner s)) 0 t.sets

  pub recall-at : (before : List (Option (ℕ × ℕ))) (s : ℕ) → IsRecallOf t before → s < t.sets → t.owner s ≡ Some i → get_or before s None ≡ last_edge (history_before t i s)
  recall-at before s h below own = ap (λ xs. get_or xs s None) h.before_is ∙ get_or-map-range_with_len (λ r. edge_before t r (t.owner r)) 0 t.sets s s None below (omega arith) ∙ ap (edge_before t s) own

  -- ---- with one more set
  pub next-push : (n : ℕ) → n < t.sets → next_sequence t i (n + 1) ≡ next_sequence t i n + sequence_count_of t i n
  next-push n below = let one : n + 1 ≡ suc n = omega arith in ap (next_sequence t i) one ∙ next-more n below

-- ---- they fit 32 bits
pub actions-few : (t : GameTree) (i s : ℕ) → IsGameTree t → s < length t.sets → sequence_count_of (game_of_tree t) i s < 65536
actions-few t i s valid below = go (is_own (game_of_tree t) i s) (actions-below t s valid below)
  where
    go : (b : Bool) → (game_of_tree t).actions s < length t.nodes → (if b then (game_of_tree t).actions s else 0) < 65536
    go true few = omega (arith, few, valid.few_nodes)
    go false few = omega arith

next-below : (t : GameTree) (i n : ℕ) → IsGameTree t → n ≤ length t.sets → next_sequence (game_of_tree t) i n ≤ 1 + 65535 * n
next-below t i zero valid few = omega arith
next-below t i (suc n) valid few =
    let before = next-below t i n valid (omega arith) in
    omega (arith, before, next-more (game_of_tree t) i n (omega arith), actions-few t i n valid (omega arith))

pub next-few : (t : GameTree) (i n : ℕ) → IsGameTree t → n ≤ length t.sets → next_sequence (game_of_tree t) i n < 4294967296
next-few t i n valid few = omega (arith, next-below t i n valid few, valid.few_sets, valid.few_nodes)

pub sequences-few : (t : GameTree) (i : ℕ) → IsGameTree t → sequences (side_of (game_of_tree t) i) < 4294967296
sequences-few t i valid = next-few t i (length t.sets) valid (omega arith)

-- ---- the sequence before an own set as it is computed
pub before-none : (t : Tree) (i s : ℕ) → last_edge (history_before t i s) ≡ None → sequence_before t i s ≡ 0
before-none t i s none = ap (sequence t i) none

pub before-some : (t : Tree) (i s r a : ℕ) → is_game_tree t → last_edge (history_before t i s) ≡ Some (r, a) → sequence_before t i s ≡ next_sequence t i r + a
before-some t i s r a w some = let own = own-step t i s r a w some in ap (sequence t i) some ∙ sequence-is t i r a w own.0 own.1

pub before-by_firsts : (t : Tree) (i s r a : ℕ) (firsts : List ℕ) → is_game_tree t → AreFirsts t i firsts → last_edge (history_before t i s) ≡ Some (r, a) → get_or firsts r 0 + a ≡ sequence_before t i s
before-by_firsts t i s r a firsts w are some = let own = own-step t i s r a w some in ap (λ n. n + a) (first-at t i firsts r are (omega (arith, own.0))) ∙ sym (before-some t i s r a w some)

-- how many actions a set has fits
pub actions-cast : (t : GameTree) (s n : ℕ) → IsGameTree t → s < length t.sets → n ≡ (game_of_tree t).actions s → n < 65536
actions-cast t s n valid below is = let few = actions-below t s valid below in subst (λ x. x < 65536) (sym is) (omega (arith, few, valid.few_nodes))

-- a row of a set
pub same_row : (a b c d e f : ℕ) → a ≡ b → c ≡ d → e ≡ f → let x : SetRow = record { before = a; first = c; count = e } in let y : SetRow = record { before = b; first = d; count = f } in x ≡ y
same_row a b c d e f h g k = λ i. record { before = h i; first = g i; count = k i }

-- the sequence of an action, by the next sequences
pub action-by_firsts : (t : Tree) (i s a : ℕ) (firsts : List ℕ) → is_game_tree t → AreFirsts t i firsts → s < t.sets → t.owner s ≡ Some i → get_or firsts s 0 + a ≡ sequence t i (Some (s, a))
action-by_firsts t i s a firsts w are below own = ap (λ n. n + a) (first-at t i firsts s are (omega (arith, below))) ∙ sym (sequence-is t i s a w below own)

-- a side with these parts
pub same_side : (t : Tree) (i n : ℕ) (rows : List SetRow) → n ≡ sequences (side_of t i) → rows ≡ map (own_set_row t i) (own_sets t i) → (let side : SideData = record { sequences = n; sets = rows } in side) ≡ tree_side t i
same_side t i n rows sequences_are rows_are = λ k. record { sequences = sequences_are k; sets = rows_are k }
