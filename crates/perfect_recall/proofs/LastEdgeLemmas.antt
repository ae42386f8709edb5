-- The last own edges before nodes are those of the last moves.
use Rattle.std.proofs.Common.{◌≡◌, ◌∙◌, subst, sym, ap, refl, ℕ, inl, inr, Option, Some, None, List, [], ◌∷◌, ◌++◌, length, get_or, option_map, arith}
use Rattle.std.proofs.lemmas.Bool.{cases_lt}
use Rattle.std.proofs.lemmas.List.{get_or_append_left, get_or_push, length_push}
use Rattle.game_theory.specs.Recall.{own_history}
use Rattle.game_theory.specs.Trees.{Tree}
use Rattle.game_core.specs.LastMoves.{IsLastAbove, IsMoveBefore}
use Rattle.sequence_forms.specs.Sequences.{last_edge}
use Rattle.sequence_forms.proofs.SequenceLemmas.{last_edge-append}
use Rattle.perfect_recall.specs.LastEdges.{AreLastEdges, IsEdgeBefore}

-- the edge of a player's last move is the last one of the own history
edge-is : (t : Tree) (i k : ℕ) (last : Option (ℕ × ℕ × ℕ)) → IsLastAbove t i k last → option_map (λ move. (move.1, move.2)) last ≡ last_edge (own_history t i k)
edge-is t i k None h = sym (ap last_edge h)
edge-is t i k (Some move) h = sym (ap last_edge h.history_is ∙ last_edge-append (move.1, move.2) (own_history t i move.0))

-- the edge before a node is that of the last move
pub edge-before : (t : Tree) (k : ℕ) (last : Option (ℕ × ℕ × ℕ)) → IsMoveBefore t k last → IsEdgeBefore t k (option_map (λ move. (move.1, move.2)) last)
edge-before t k last h = record {
  of_player = λ i s chooses. edge-is t i k last (h.of_player i s chooses);
  of_nobody = λ nobody. ap (option_map (λ move. (move.1, move.2))) (h.of_nobody nobody);
}

-- one edge more
pub AreLastEdges-push : (t : Tree) (edges : List (Option (ℕ × ℕ))) (edge : Option (ℕ × ℕ)) → AreLastEdges t edges → IsEdgeBefore t (length edges) edge → AreLastEdges t (edges ++ edge ∷ [])
AreLastEdges-push t edges edge h here k l = elim (cases_lt k (length edges)) [
  | inl m ↦ subst (IsEdgeBefore t k) (sym (get_or_append_left edges (edge ∷ []) None k m)) (h k m)
  | inr g ↦ (
      let same : length edges ≡ k = omega (arith, g, l, length_push edges edge) in
      subst (λ i. IsEdgeBefore t i (get_or (edges ++ edge ∷ []) i None)) same (subst (IsEdgeBefore t (length edges)) (sym (get_or_push edges edge None (length edges) refl)) here))
]
