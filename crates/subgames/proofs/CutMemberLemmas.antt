-- Each set that a node has stands in some cut, and a player's set in one.
use Rattle.std.proofs.Common.{ℕ, ◌<◌, ◌≡◌, inl, inr, refl, sym, ◌∙◌, subst, arith}
use Rattle.std.proofs.lemmas.Bool.{cases_eq}
use Rattle.game_theory.specs.OwnSets.{Chooses}
use Rattle.game_theory.specs.Trees.{Tree, IsTree, IsWithin}
use Rattle.game_theory.proofs.PathLemmas.{along_paths}
use Rattle.game_theory.proofs.SubtreeOrderLemmas.{above-ordered, within-root}
use Rattle.subgames.specs.CutGames.{IsGivenEnd, IsInCut}
use Rattle.subgames.specs.CutLaws.{SetsStandInOneCut}
use Rattle.subgames.specs.Roots.{IsSubgameRoot}
use Rattle.subgames.proofs.CutWalkLemmas.{cut-after, cut-down, cut-root}
use Rattle.subgames.proofs.RootTestLemmas.{root_or_not}

-- ---- in some cut
-- node k stands in the cut at node n, and is no given end there
abbrev pub IsInnerNode : Tree → ℕ → ℕ → Type 0
IsInnerNode t n k = IsInCut t n k × (IsGivenEnd t n k → ⊥)

module _ (t : Tree) (w : IsTree t) where
  -- a node where a subgame begins does so in its own cut
  pub inner-root : (n : ℕ) → n < t.size → IsInnerNode t n n
  inner-root n below = (cut-root t w n below, λ end. end.1 refl)

  -- each node does so in the cut at some node where a subgame begins: its own, or its parent's
  pub inner-somewhere : (k : ℕ) → k < t.size → (n : ℕ) × (n < t.size) × IsSubgameRoot t n × IsInnerNode t n k
  inner-somewhere = along_paths t (λ k. (n : ℕ) × (n < t.size) × IsSubgameRoot t n × IsInnerNode t n k) w
      (0, w.some_node, inl refl, inner-root 0 w.some_node)
      (λ k later below up. elim (root_or_not t w k below) [
        | inl root ↦ (k, below, root, inner-root k below)
        | inr other ↦
            let before = w.after_parent k later below in
            let after = cut-after t w up.0 (t.parent k) up.3.0 in
            (up.0, up.1, up.2, (cut-down t w up.0 k below (omega (arith, before, after)) up.3.0 up.3.1, λ end. other end.0))
      ])

-- ---- in no other
module _ (t : Tree) (w : IsTree t) where
  -- where a subgame begins, the players' sets are whole
  pub root-whole : (n c d i s : ℕ) → IsSubgameRoot t n → c < t.size → d < t.size → Chooses t c i s → Chooses t d i s → IsWithin t n c → IsWithin t n d
  root-whole n c d i s (inl first) inside_c inside_d at_c at_d h = subst (λ n. IsWithin t n d) (sym first) (within-root t w d inside_d)
  root-whole n c d i s (inr root) inside_c inside_d at_c at_d h = root.1 c d i s inside_c inside_d at_c at_d h

-- above a node of a cut that is no given end no other subgame begins below the cut's root
pub inner-once : (t : Tree) (n m k : ℕ) → IsSubgameRoot t m → IsInnerNode t n k → IsWithin t n m → IsWithin t m k → m ≡ n
inner-once t n m k root inner from to = elim (inner.0.2 m root from to) [
  | inl same ↦ same
  | inr own ↦ elim (cases_eq m n) [ inl same ↦ same | inr other ↦ absurd (inner.1 (subst (IsSubgameRoot t) own root, λ e. other (own ∙ e))) ]
]

-- so each set stands in some cut, and each player's set in one
pub sets_stand_in_one_cut : SetsStandInOneCut
sets_stand_in_one_cut = record {
  some = λ t k s w below at. let home = inner-somewhere t w k below in (home.0, home.1, home.2, (k, home.3.0, home.3.1, at));
  one = λ t n m s i w root_n root_m own here there.
      let c = here.0 in
      let d = there.0 in
      let at_c : Chooses t c i s = record { at_set = here.3; own = own } in
      let at_d : Chooses t d i s = record { at_set = there.3; own = own } in
      let n_above = root-whole t w n c d i s root_n here.1.0 there.1.0 at_c at_d here.1.1 in
      let m_above = root-whole t w m d c i s root_m there.1.0 here.1.0 at_d at_c there.1.1 in
      elim (above-ordered t n_above.0 there.1.1.0 n m d n_above.1 there.1.1.1) [
        | inl from ↦ sym (inner-once t n m c root_m (here.1, here.2) from m_above)
        | inr from ↦ inner-once t m n d root_n (there.1, there.2) from n_above
      ];
}
