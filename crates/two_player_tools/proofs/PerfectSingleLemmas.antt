-- What is found subgame by subgame is single.
use Rattle.std.proofs.Common.{ℕ, zero, suc, ◌+◌, ◌<◌, ◌≤◌, ◌≡◌, ◌∙◌, inl, inr, sym, ap, subst, arith, length, Ok, Err}
use Rattle.std.proofs.lemmas.Bool.{cases_lt}
use Rattle.answers.specs.Answers.{IsSingle, ◌>>=◌, ◌>>◌, only, refused_by}
use Rattle.answers.proofs.AnswerLemmas.{bind-single, only-single, refused_by-single}
use Rattle.rational.specs.Rational.{ℚ}
use Rattle.rational.proofs.Decide.{eq_or_ne}
use Rattle.game_theory.specs.Behaviour.{Behaviour}
use Rattle.game_theory.specs.Lines.{line_text}
use Rattle.game_theory.specs.Trees.{IsTree}
use Rattle.game_core.specs.Tree.{GameTree, IsGameTree}
use Rattle.game_core.specs.TreeGame.{game_of_tree}
use Rattle.game_core.specs.declared.game.Game.TheVariants.{Extensive}
use Rattle.perfect_recall.specs.Found.{recall_of}
use Rattle.verdicts.proofs.AlikeBehaviourLemmas.{AreAlike, tree_entries-alike}
use Rattle.subgames.specs.CutLaws.{SetsStandInOneCut, StandsInCut}
use Rattle.subgames.specs.CutTrees.{AgreeAtEnds}
use Rattle.subgames.specs.Roots.{IsSubgameRoot}
use Rattle.subgames.proofs.CutWalkLemmas.{cut-after}
use Rattle.refusals.specs.Told.{recall_refusal}
use Rattle.refusals.specs.declared.refusal.Refusal.{Refusal}
use Rattle.two_player_tools.specs.Perfect.{AreCutsSolvedFrom, IsSolvedAt, IsStoppedAt, perfect_in, perfect_text}
use Rattle.two_player_tools.specs.TwoPlayers.{two_players}
use Rattle.two_player_tools.specs.declared.forms.Method.{Method}
use Rattle.two_player_tools.proofs.FormSingleLemmas.{RecallsAreSingle, two_players-single}
use Rattle.two_player_tools.proofs.KeptPropertyLemmas.{TreesAreGames}
use Rattle.two_player_tools.proofs.SolvedCutLemmas.{set-in_cut, set-in_some_cut, solved-alike, solved-or_stopped, solved-worth, stopped-same}

module _ (method : Method) (t : GameTree) (law : SetsStandInOneCut) (laws : TreesAreGames) (recalls : RecallsAreSingle) (w : IsGameTree t) where
  -- the tree is one as a game
  tree : IsTree (game_of_tree t)
  tree = laws.game_tree t w

  module _ (worth other : ℕ → ℕ → ℚ) (b d : Behaviour) (n : ℕ) (h : AreCutsSolvedFrom method t worth b (suc n)) (k : AreCutsSolvedFrom method t other d (suc n)) where
    -- where all later cuts are solved in two ways, later nodes are worth the same ..
    later-worth : (m q : ℕ) → length t.nodes ≤ m + q → n < q → q < length t.nodes → IsSubgameRoot (game_of_tree t) q → (i : ℕ) → i < length t.players → worth q i ≡ other q i
    later-worth zero q enough later inside root i player = absurd (omega (arith, enough, inside))
    later-worth (suc m) q enough later inside root i player =
        let ends : AgreeAtEnds t q worth other = λ e j among stands given. (let after = cut-after (game_of_tree t) tree q e stands in later-worth m e (omega (arith, enough, after, given.1)) (omega (arith, later, after)) stands.0 given.0 j among) in
        solved-worth method t laws recalls w worth other q inside ends b d (h q (omega (arith, later)) inside root) (k q (omega (arith, later)) inside root) (λ first. omega (arith, later, first)) i player

    -- .. and so are the ends of each cut from here on
    ends-agree : (q : ℕ) → n ≤ q → AgreeAtEnds t q worth other
    ends-agree q from e i player stands given =
        let after = cut-after (game_of_tree t) tree q e stands in
        later-worth (length t.nodes) e (omega arith) (omega (arith, from, after, given.1)) stands.0 given.0 i player

    -- so no cut from here on both stops and has a solution
    not-both : (q : ℕ) (r : Refusal) → n ≤ q → q < length t.nodes → IsSolvedAt method t worth b q → IsStoppedAt method t other q r → ⊥
    not-both q r from inside = solved-or_stopped method t laws recalls w worth other q inside (ends-agree q from) b r

  -- behaviours that solve all cuts are the same at the players' sets
  solved-same : (worth other : ℕ → ℕ → ℚ) (b d : Behaviour)
      → AreCutsSolvedFrom method t worth b 0 → AreCutsSolvedFrom method t other d 0 → AreAlike (game_of_tree t) b d
  solved-same worth other b d h k s i a below owned action = elim (eq_or_ne (b s a) (d s a)) [ inl same ↦ same | inr apart ↦ absurd (set-in_some_cut t s law laws w below (none apart)) ]
    where
      none : (b s a ≡ d s a → ⊥) → (n : ℕ) → n < length t.nodes → IsSubgameRoot (game_of_tree t) n → ¬ StandsInCut (game_of_tree t) n s
      none apart n inside root stands =
          let one = h n (omega arith) inside root in
          let g = one.is_cut.is_cut.is_cut in
          let at = set-in_cut (game_of_tree t) n worth one.cut.nodes one.cut.sets (game_of_tree one.cut.tree) s g stands in
          let ends = ends-agree worth other b d 0 (λ m _ below root. h m (omega arith) below root) (λ m _ below root. k m (omega arith) below root) n (omega arith) in
          let alike = solved-alike method t laws recalls w worth other n inside ends b d one (k n (omega arith) inside root) in
          apart (subst (λ s. b s a ≡ d s a) at.2 (alike at.0 i a at.1 (g.owners at.0 at.1 ∙ ap (game_of_tree t).owner at.2 ∙ owned) (subst (λ m. a < m) (sym (g.actions at.0 at.1 ∙ ap (game_of_tree t).actions at.2)) action)))

  -- the entries, or why there are none
  perfect_in-single : IsSingle (perfect_in method t)
  perfect_in-single (Ok one) (Ok two) (worth, b, h, e) (other, d, k, f) = ap Ok (e ∙ tree_entries-alike (game_of_tree t) b d tree (solved-same worth other b d h k) ∙ sym f)
  perfect_in-single (Ok one) (Err r) (worth, b, h, e) (other, d, n, inside, root, k, stopped) =
      absurd (not-both worth other b d n (λ m _ below root. h m (omega arith) below root) k n r (omega arith) inside (h n (omega arith) inside root) stopped)
  perfect_in-single (Err r) (Ok one) (other, d, n, inside, root, k, stopped) (worth, b, h, e) =
      absurd (not-both worth other b d n (λ m _ below root. h m (omega arith) below root) k n r (omega arith) inside (h n (omega arith) inside root) stopped)
  perfect_in-single (Err r) (Err q) (worth, b, n, inside, root, h, stopped) (other, d, m, within, begins, k, stopped_too) = elim (cases_lt n m) [
    | inl before ↦ absurd (not-both worth other b d m (λ c l. h c (omega (arith, l, before))) k m q (omega arith) within (h m (omega (arith, before)) within begins) stopped_too)
    | inr late ↦ elim (cases_lt m n) [
      | inl before ↦ absurd (not-both other worth d b n (λ c l. k c (omega (arith, l, before))) h n r (omega arith) inside (k n (omega (arith, before)) inside root) stopped)
      | inr early ↦
          let same : m ≡ n = omega arith in
          ap Err (stopped-same method t laws recalls w worth other n inside (ends-agree worth other b d n h (λ c l. k c (omega (arith, l, same))) n (omega arith)) r q stopped (subst (λ c. IsStoppedAt method t other c q) same stopped_too))
    ]
  ]

  -- the text, or why there is none
  pub perfect_text-single : IsSingle (perfect_text method t)
  perfect_text-single =
      bind-single (two_players (Extensive t)) (λ _. refused_by recall_refusal (recall_of t) >> (perfect_in method t >>= λ entries. only (line_text entries))) (two_players-single (Extensive t))
      (λ _ _. bind-single (refused_by recall_refusal (recall_of t)) (λ _. perfect_in method t >>= λ entries. only (line_text entries)) (refused_by-single recall_refusal (recall_of t) (recalls t w))
      (λ _ _. bind-single (perfect_in method t) (λ entries. only (line_text entries)) perfect_in-single (λ entries _. only-single (line_text entries))))
