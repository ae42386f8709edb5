-- The last moves of players above a node, one step up or down a tree.
use Rattle.std.proofs.Common.{ℕ, suc, ◌<◌, ◌≡◌, ◌≢◌, inl, inr, Option, Some, None, List, [], ◌∷◌, ◌++◌, length, get_or, set, refl, sym, ap, ◌∙◌, subst, arith}
use Rattle.std.proofs.lemmas.Bool.{cases_eq, cases_lt, false_from_ne_true}
use Rattle.std.proofs.lemmas.List.{append-nil, get_or_append_left, get_or_push, length-set, length_push, get_or-set_same, get_or-set_other}
use Rattle.std.proofs.lemmas.Option.{same_Some}
use Rattle.game_theory.specs.OwnSets.{Chooses, NobodyChooses}
use Rattle.game_theory.specs.Recall.{own_edge, own_history}
use Rattle.game_theory.specs.Trees.{Tree, IsTree}
use Rattle.game_theory.proofs.OwnSetLemmas.{is_own-decides}
use Rattle.game_theory.proofs.PathLemmas.{own_history-step}
use Rattle.game_theory.proofs.SubtreeOrderLemmas.{within-after, within-parent}
use Rattle.game_core.specs.LastMoves.{AreLastMoves, AreMovesBefore, IsLastAbove, IsLastMove, IsMoveBefore}

-- one player alone chooses at a node
pub one_chooses : (t : Tree) (k i s j r : ℕ) → Chooses t k i s → Chooses t k j r → i ≡ j
one_chooses t k i s j r h g =
    let same : s ≡ r = same_Some s r (sym h.at_set ∙ g.at_set) in same_Some i j (sym h.own ∙ ap t.owner same ∙ g.own)

-- a player who chooses is one of the players
pub chooses-within : (t : Tree) (k i s : ℕ) → IsTree t → k < t.size → Chooses t k i s → i < t.players
chooses-within t k i s w below h = w.owners_within s i (w.sets_within k s below h.at_set) h.own

-- the edge from a node at which the player chooses
edge-own : (t : Tree) (i k s a : ℕ) → Chooses t k i s → own_edge t i (t.set k) a ≡ (s, a) ∷ []
edge-own t i k s a h = rw (h.at_set, (is_own-decides t i s).1 h.own) refl

-- the edge from another node
edge-other : (t : Tree) (i k a : ℕ) → ((s : ℕ) → Chooses t k i s → ⊥) → own_edge t i (t.set k) a ≡ []
edge-other t i k a other = go (t.set k) refl
  where
    go : (set : Option ℕ) → t.set k ≡ set → own_edge t i set a ≡ []
    go None is = refl
    go (Some s) is = rw (false_from_ne_true _ (λ e. other s (record { at_set = is; own = (is_own-decides t i s).0 e }))) refl

-- ---- one player
module _ (t : Tree) (i k : ℕ) (valid : IsTree t) (later : 0 < k) (below : k < t.size) where
  -- below a node at which the player chooses the last move is there
  last-here : (above s action : ℕ) → above ≡ t.parent k → action ≡ t.branch k → Chooses t above i s → IsLastMove t i k above s action
  last-here above s action parent branch chooses =
      let edge : own_edge t i (t.set (t.parent k)) (t.branch k) ≡ (s, action) ∷ [] = rw (← parent, ← branch) (edge-own t i above s action chooses) in
      let before = valid.after_parent k later below in
      record {
        above = omega (arith, parent, before);
        on_path = (0, parent);
        is_move = chooses;
        history_is = own_history-step t i k valid later below ∙ ap (λ x. own_history t i (t.parent k) ++ x) edge ∙ ap (λ x. own_history t i x ++ (s, action) ∷ []) (sym parent);
      }

  module _ (other : (s : ℕ) → Chooses t (t.parent k) i s → ⊥) where
    -- past another node the own history stays
    history-past : own_history t i (t.parent k) ≡ own_history t i k
    history-past = sym (own_history-step t i k valid later below ∙ ap (λ x. own_history t i (t.parent k) ++ x) (edge-other t i (t.parent k) (t.branch k) other) ∙ append-nil _)

    -- below another node the last move is that above the node
    last-down : (last : Option (ℕ × ℕ × ℕ)) → IsLastAbove t i (t.parent k) last → IsLastAbove t i k last
    last-down None h = sym history-past ∙ h
    last-down (Some move) h =
        let before = valid.after_parent k later below in
        record {
          above = omega (arith, h.above, before);
          on_path = (suc h.on_path.0, (omega (arith, h.above), h.on_path.1));
          is_move = h.is_move;
          history_is = sym history-past ∙ h.history_is;
        }

    -- and the other way
    last-up : (last : Option (ℕ × ℕ × ℕ)) → IsLastAbove t i k last → IsLastAbove t i (t.parent k) last
    last-up None h = history-past ∙ h
    last-up (Some move) h =
        let before = valid.after_parent k later below in
        let apart : move.0 ≢ t.parent k = λ same. other move.1 (subst (λ a. Chooses t a i move.1) same h.is_move) in
        let low = within-after t valid move.0 (t.parent k) (omega (arith, before, below)) h.on_path in
        let less : move.0 < t.parent k = omega (arith, low, apart) in
        record {
          above = less;
          on_path = (within-parent t valid move.0 (t.parent k) (omega (arith, less)) apart).0 h.on_path;
          is_move = h.is_move;
          history_is = history-past ∙ h.history_is;
        }

-- ---- all players
-- the last moves with another one of one player
module _ (t : Tree) (from to i : ℕ) (last : List (Option (ℕ × ℕ × ℕ))) (move : Option (ℕ × ℕ × ℕ)) (inside : i < t.players) (h : AreLastMoves t from last) where
  pub one-changed : IsLastAbove t i to move → ((j : ℕ) → (j ≡ i → ⊥) → IsLastAbove t j from (get_or last j None) → IsLastAbove t j to (get_or last j None)) → AreLastMoves t to (set last i move)
  one-changed is others = record {
    one_for_each = length-set last i move ∙ h.one_for_each;
    are_last = λ j l. elim (cases_eq j i) [
      | inl same ↦ subst (λ x. IsLastAbove t x to (get_or (set last i move) x None)) (sym same) (subst (IsLastAbove t i to) (sym (get_or-set_same last i move None (omega (arith, inside, h.one_for_each)))) is)
      | inr other ↦ subst (IsLastAbove t j to) (sym (get_or-set_other last i j move None other)) (others j other (h.are_last j l))
    ];
  }

module _ (t : Tree) (k : ℕ) (last : List (Option (ℕ × ℕ × ℕ))) (valid : IsTree t) (later : 0 < k) (below : k < t.size) where
  parent-below : t.parent k < t.size
  parent-below = omega (arith, valid.after_parent k later below, below)

  -- up to a node at which nobody moves
  pub up-nobody : NobodyChooses t (t.parent k) → AreLastMoves t k last → AreLastMoves t (t.parent k) last
  up-nobody nobody h = record {
    one_for_each = h.one_for_each;
    are_last = λ i l. last-up t i k valid later below (nobody i) (get_or last i None) (h.are_last i l);
  }

  -- and down from it
  pub down-nobody : NobodyChooses t (t.parent k) → AreLastMoves t (t.parent k) last → AreLastMoves t k last
  down-nobody nobody h = record {
    one_for_each = h.one_for_each;
    are_last = λ i l. last-down t i k valid later below (nobody i) (get_or last i None) (h.are_last i l);
  }

  module _ (i s : ℕ) (chooses : Chooses t (t.parent k) i s) where
    -- the player who moves there is one of the players
    pub chooser-inside : i < t.players
    chooser-inside = chooses-within t (t.parent k) i s valid parent-below chooses

    -- another player does not move there
    apart : (j : ℕ) → (j ≡ i → ⊥) → (r : ℕ) → Chooses t (t.parent k) j r → ⊥
    apart j other r moves = other (one_chooses t (t.parent k) j r i s moves chooses)

    -- up to a node at which a player moves
    pub up-player : (move : Option (ℕ × ℕ × ℕ)) → IsLastAbove t i (t.parent k) move → AreLastMoves t k last → AreLastMoves t (t.parent k) (set last i move)
    up-player move is h = one-changed t k (t.parent k) i last move chooser-inside h is (λ j other. last-up t j k valid later below (apart j other) (get_or last j None))

    -- and down from it
    pub down-player : (above action : ℕ) → above ≡ t.parent k → action ≡ t.branch k → AreLastMoves t (t.parent k) last → AreLastMoves t k (set last i (Some (above, s, action)))
    down-player above action parent branch h =
        one-changed t (t.parent k) k i last (Some (above, s, action)) chooser-inside h
        (last-here t i k valid later below above s action parent branch (subst (λ x. Chooses t x i s) (sym parent) chooses))
        (λ j other. last-down t j k valid later below (apart j other) (get_or last j None))

-- ---- one more node
-- the moves before the nodes below n, and before node n
pub moves-more : (t : Tree) (n : ℕ) (moves all : List (Option (ℕ × ℕ × ℕ))) (move : Option (ℕ × ℕ × ℕ)) → length moves ≡ n → all ≡ moves ++ move ∷ [] → AreMovesBefore t moves → IsMoveBefore t n move → AreMovesBefore t all
moves-more t n moves all move long is h here k inside = elim (cases_lt k n) [
  | inl earlier ↦ (
      let before : k < length moves = omega (arith, earlier, long) in
      subst (IsMoveBefore t k) (sym (ap (λ xs. get_or xs k None) is ∙ get_or_append_left moves (move ∷ []) None k before)) (h k before))
  | inr past ↦ (
      let same : k ≡ n = omega (arith, past, inside, ap length is, length_push moves move, long) in
      subst (IsMoveBefore t k) (sym (ap (λ xs. get_or xs k None) is ∙ get_or_push moves move None k (long ∙ sym same)))
      (subst (λ m. IsMoveBefore t m move) (sym same) here))
]
