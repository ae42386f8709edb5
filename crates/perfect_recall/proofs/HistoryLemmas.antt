-- Where the player's earlier sets are alike, own histories with the same last edge are equal.
use Rattle.std.proofs.Common.{◌≡◌, ◌<◌, ◌≤◌, ◌∙◌, sym, ap, subst, refl, ℕ, ◌⊎◌, inl, inr, Bool, true, false, Decides, Option, Some, None, List, [], ◌∷◌, ◌++◌, length, get_or, arith}
use Rattle.std.proofs.lemmas.Bool.{cases_lt, cases_eq}
use Rattle.std.proofs.lemmas.Bool.Decides.{not_from_Decides}
use Rattle.std.proofs.lemmas.Option.{none-some, same_Some}
use Rattle.game_theory.proofs.OwnSetLemmas.{is_own-decides}
use Rattle.game_theory.specs.FirstNodes.{AreNumberedByFirstNodes}
use Rattle.game_theory.specs.Trees.{Tree, IsTree}
use Rattle.game_theory.specs.Behaviour.{is_own}
use Rattle.game_theory.specs.Recall.{own_history, HasPerfectRecall, HaveOneHistory}
use Rattle.game_theory.proofs.PathLemmas.{along_paths}
use Rattle.sequence_forms.specs.Sequences.{last_edge}
use Rattle.sequence_forms.proofs.SequenceLemmas.{history-own, history-other, last_edge-append, history_before-is}
use Rattle.perfect_recall.specs.LastEdges.{AreLastEdges}
use Rattle.game_theory.specs.OwnSets.{Chooses}
use Rattle.perfect_recall.specs.Members.{edge_of, HaveSameEdge, IsOtherMember}
use Rattle.perfect_recall.specs.Found.{EarlierHaveOneHistory, IsFirstNode, IsFirstOther, edge_before}
use Rattle.perfect_recall.proofs.MemberLemmas.{AreMembers}

-- the last node above node k at which player i chooses, and the action there
pub record HasLastChoice (t : Tree) (i k : ℕ) : Type 0 where
  pub node : ℕ
  pub before : node < k
  pub set : ℕ
  pub action : ℕ
  pub chooses : Chooses t node i set
  pub history_is : own_history t i k ≡ own_history t i node ++ (set, action) ∷ []

-- there is one, or the history is empty
abbrev pub HasHistory : Tree → ℕ → ℕ → Type 0
HasHistory t i k = (own_history t i k ≡ []) ⊎ HasLastChoice t i k

pub has_history : (t : Tree) (i k : ℕ) → IsTree t → k < t.size → HasHistory t i k
has_history t i k w l = along_paths t (HasHistory t i) w (inl refl) next k l
  where
    next : (c : ℕ) → 0 < c → c < t.size → HasHistory t i (t.parent c) → HasHistory t i c
    next c p m h =
        let led = w.led_to c p m in
        let after : t.parent c < c = w.after_parent c p m in
        go led.0 led.1 (is_own t i led.0) (is_own-decides t i led.0) after h
      where
        go : (s : ℕ) → t.set (t.parent c) ≡ Some s → (b : Bool) → Decides b (t.owner s ≡ Some i) → t.parent c < c → HasHistory t i (t.parent c) → HasHistory t i c
        go s q true d a h = inr (record { node = t.parent c; before = a; set = s; action = t.branch c; chooses = record { at_set = q; own = d.0 refl }; history_is = history-own t i c s w p m q (d.0 refl) })
        go s q false d a (inl e) = inl (history-other t i c s w p m q (not_from_Decides false d refl) ∙ e)
        go s q false d a (inr x) = inr (record { node = x.node; before = omega (arith, x.before); set = x.set; action = x.action; chooses = x.chooses; history_is = history-other t i c s w p m q (not_from_Decides false d refl) ∙ x.history_is })

-- the last edge of an empty history, and of another
pub edge-none : (t : Tree) (i k : ℕ) → own_history t i k ≡ [] → last_edge (own_history t i k) ≡ None
edge-none t i k e = ap last_edge e

pub edge-some : (t : Tree) (i k : ℕ) (h : HasLastChoice t i k) → last_edge (own_history t i k) ≡ Some (h.set, h.action)
edge-some t i k h = ap last_edge h.history_is ∙ last_edge-append (h.set, h.action) (own_history t i h.node)

module _ (t : Tree) (i s f : ℕ) (w : IsTree t) (order : AreNumberedByFirstNodes t) (earlier : EarlierHaveOneHistory t i s) (first : IsFirstNode t s f) where
  -- the set of the choice before the first node comes before the set
  set-before : (h : HasLastChoice t i f) → h.set < s
  set-before h =
      let within : h.node < t.size = omega (arith, h.before, first.within) in
      elim (cases_lt h.set s) [
        | inl l ↦ l
        | inr m ↦ elim (cases_eq h.set s) [
          | inl e ↦ absurd (first.none_before h.node h.before (h.chooses.at_set ∙ ap Some e))
          | inr n ↦ (let found = order h.node h.set s within h.chooses.at_set (omega (arith, m, n)) in absurd (first.none_before found.0 (omega (arith, found.1, h.before)) found.2))
        ]
      ]

  -- a node with the same last edge as the first one has the same history
  pub same-history : (k : ℕ) → k < t.size → last_edge (own_history t i k) ≡ last_edge (own_history t i f) → own_history t i k ≡ own_history t i f
  same-history k l same = go (has_history t i k w l) (has_history t i f w first.within)
    where
      go : HasHistory t i k → HasHistory t i f → own_history t i k ≡ own_history t i f
      go (inl a) (inl b) = a ∙ sym b
      go (inl a) (inr b) = absurd (none-some (b.set, b.action) (sym (edge-none t i k a) ∙ same ∙ edge-some t i f b))
      go (inr a) (inl b) = absurd (none-some (a.set, a.action) (sym (edge-none t i f b) ∙ sym same ∙ edge-some t i k a))
      go (inr a) (inr b) =
          let edge = same_Some (a.set, a.action) (b.set, b.action) (sym (edge-some t i k a) ∙ same ∙ edge-some t i f b) in
          let sets : a.set ≡ b.set = ap (λ (x : ℕ × ℕ). x.0) edge in
          let alike = earlier b.set (set-before b) b.chooses.own in
          let before = alike a.node b.node (omega (arith, a.before, l)) (omega (arith, b.before, first.within)) (a.chooses.at_set ∙ ap Some sets) b.chooses.at_set in
          a.history_is ∙ ap (λ x. own_history t i a.node ++ x ∷ []) edge ∙ ap (λ x. x ++ (b.set, b.action) ∷ []) before ∙ sym b.history_is

-- the first member is the set's first node
pub first_member : (t : Tree) (s : ℕ) (members : List ℕ) → AreMembers t s members → IsFirstNode t s (get_or members 0 0)
first_member t s members h =
    let here = h.are_nodes 0 h.some in
    record {
      within = here.0;
      in_set = here.1;
      none_before = λ l before is.
          let found = h.are_all l (omega (arith, here.0, before)) is in
          elim (cases_lt 0 found.0) [
            | inl p ↦ absurd (omega (arith, h.ascend 0 found.0 p found.1, found.2, before))
            | inr z ↦ (let zeroth : found.0 ≡ 0 = omega arith in absurd (omega (arith, ap (λ j. get_or members j 0) zeroth, found.2, before)))
          ];
    }

module _ (t : Tree) (i s : ℕ) (members : List ℕ) (edges : List (Option (ℕ × ℕ))) (w : IsTree t) (order : AreNumberedByFirstNodes t) (own : t.owner s ≡ Some i)
    (earlier : EarlierHaveOneHistory t i s) (nodes : AreMembers t s members) (long : length edges ≡ t.size) (are_edges : AreLastEdges t edges) where
  -- the edge before a member
  edge-is : (j : ℕ) → j < length members → edge_of members edges j ≡ last_edge (own_history t i (get_or members j 0))
  edge-is j l =
      let here = nodes.are_nodes j l in
      (are_edges (get_or members j 0) (omega (arith, here.0, long))).of_player i s (record { at_set = here.1; own = own })

  -- members with the same edge have the same history
  histories : (n : ℕ) → n ≤ length members → HaveSameEdge members edges n → (j : ℕ) → j < n → own_history t i (get_or members j 0) ≡ own_history t i (get_or members 0 0)
  histories n few h j l =
      same-history t i s (get_or members 0 0) w order earlier (first_member t s members nodes) (get_or members j 0) (nodes.are_nodes j (omega arith)).0 (sym (edge-is j (omega arith)) ∙ h j l ∙ edge-is 0 nodes.some)

  -- where all have the same edge, the set is alike
  pub alike : HaveSameEdge members edges (length members) → HaveOneHistory t i s
  alike h k l in_k in_l at_k at_l =
      let a = nodes.are_all k in_k at_k in
      let b = nodes.are_all l in_l at_l in
      let ha = histories (length members) (omega arith) h a.0 a.1 in
      let hb = histories (length members) (omega arith) h b.0 b.1 in
      ap (own_history t i) (sym a.2) ∙ ha ∙ sym hb ∙ ap (own_history t i) b.2

  -- a member with another edge has another history, and is the first
  pub first_other : (node : ℕ) → IsOtherMember members edges node → IsFirstOther t i s (get_or members 0 0) node
  first_other node h =
      let here = nodes.are_nodes h.place h.within in
      record {
        within = subst (λ k. k < t.size) (sym h.node_is) here.0;
        in_set = ap t.set h.node_is ∙ here.1;
        other = λ same. h.other (edge-is h.place h.within ∙ ap (λ k. last_edge (own_history t i k)) (sym h.node_is) ∙ ap last_edge same ∙ sym (edge-is 0 nodes.some));
        same_before = λ m before is.
            let within : m < t.size = omega (arith, here.0, h.node_is, before) in
            let found = nodes.are_all m within is in
            elim (cases_lt found.0 h.place) [
              | inl l ↦ ap (own_history t i) (sym found.2) ∙ histories h.place (omega (arith, h.within)) h.same_before found.0 l
              | inr g ↦ elim (cases_eq h.place found.0) [
                | inl e ↦ absurd (omega (arith, ap (λ j. get_or members j 0) e, found.2, h.node_is, before))
                | inr n ↦ absurd (omega (arith, nodes.ascend h.place found.0 (omega (arith, g, n)) found.1, found.2, h.node_is, before))
              ]
            ];
      }

-- ---- the edge before a set
-- under perfect recall it is that before the first member
pub before_set : (t : Tree) (s : ℕ) (members : List ℕ) (edges : List (Option (ℕ × ℕ))) → ((i : ℕ) → HasPerfectRecall t i) → AreMembers t s members → length edges ≡ t.size → AreLastEdges t edges → edge_of members edges 0 ≡ edge_before t s (t.owner s)
before_set t s members edges recall nodes long are_edges = go (t.owner s) refl
  where
    here : (get_or members 0 0 < t.size) × (t.set (get_or members 0 0) ≡ Some s)
    here = nodes.are_nodes 0 nodes.some

    go : (o : Option ℕ) → t.owner s ≡ o → edge_of members edges 0 ≡ edge_before t s o
    go None e = (are_edges (get_or members 0 0) (omega (arith, here.0, long))).of_nobody (λ i r g. none-some i (sym e ∙ ap t.owner (same_Some s r (sym here.1 ∙ g.at_set)) ∙ g.own))
    go (Some i) e =
        (are_edges (get_or members 0 0) (omega (arith, here.0, long))).of_player i s (record { at_set = here.1; own = e }) ∙ ap last_edge (sym (history_before-is t i s (get_or members 0 0) (recall i) e here.0 here.1))
