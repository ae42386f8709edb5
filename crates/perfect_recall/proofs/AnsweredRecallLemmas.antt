-- A tree has a recall, or a player who forgets first.
use Rattle.std.proofs.Common.{◌≡◌, ◌<◌, ◌∙◌, sym, refl, ℕ, inl, inr, Some, get_or, Ok, Err}
use Rattle.answers.specs.Answered.{IsAnswered}
use Rattle.lists.proofs.DeniedLemmas.{all_or_first_below}
use Rattle.lists.proofs.ElementLemmas.{element}
use Rattle.game_theory.specs.Trees.{Tree, IsTree as is_game_tree}
use Rattle.game_theory.specs.Recall.{own_history, HasPerfectRecall, HaveOneHistory}
use Rattle.game_core.specs.Tree.{GameTree, IsGameTree}
use Rattle.game_core.specs.TreeGame.{game_of_tree}
use Rattle.perfect_recall.specs.declared.recall.RecallStop.TheVariants as stops
use Rattle.perfect_recall.specs.Found.{EarlierHaveOneHistory, IsFirstOther, recall_of}
use Rattle.perfect_recall.proofs.HistoryLemmas.{first_member}
use Rattle.perfect_recall.proofs.MemberLemmas.{members-are}
use Rattle.perfect_recall.proofs.OneRecallLaws.{owner-at}

module _ (t : Tree) (i : ℕ) where
  -- a player whose own sets each have one history recalls
  all_alike-recalls : is_game_tree t → EarlierHaveOneHistory t i t.sets → HasPerfectRecall t i
  all_alike-recalls w all s own k l in_k in_l at_k at_l = all s (w.sets_within k s in_k at_k) own k l in_k in_l at_k at_l

  -- a player who does not recall has a first own set with more than one
  first_set : is_game_tree t → ¬ (HasPerfectRecall t i) → ¬ ((s : ℕ) → s < t.sets → t.owner s ≡ Some i → ¬ (HaveOneHistory t i s) → ¬ (EarlierHaveOneHistory t i s))
  first_set w fails none =
      all_or_first_below (λ s. t.owner s ≡ Some i → HaveOneHistory t i s) t.sets (λ found. elim found [
        | inl all ↦ fails (all_alike-recalls w all)
        | inr first ↦ first.2 (λ own. absurd (none first.0 first.1 own (λ alike. first.2 (λ _. alike)) first.3))
      ])

  -- in such a set there is a first node with another history than a given node
  first_other : (s k : ℕ) → ¬ (HaveOneHistory t i s) → ¬ ((l : ℕ) → ¬ (IsFirstOther t i s k l))
  first_other s k fails none =
      all_or_first_below (λ l. t.set l ≡ Some s → own_history t i l ≡ own_history t i k) t.size (λ found. elim found [
        | inl all ↦ fails (λ l m in_l in_m at_l at_m. all l in_l at_l ∙ sym (all m in_m at_m))
        | inr first ↦ first.2 (λ at. absurd (none first.0 (record { within = first.1; in_set = at; other = λ same. first.2 (λ _. same); same_before = first.3 })))
      ])

pub recall-answered : (t : GameTree) → IsGameTree t → is_game_tree (game_of_tree t) → IsAnswered (recall_of t)
recall-answered t valid w none =
    let g = game_of_tree t in
    all_or_first_below (HasPerfectRecall g) g.players (λ found. elim found [
      | inl all ↦ none (Ok _) (record { all_recall = all; before_is = refl })
      | inr first ↦ first_set g first.0 w first.2 (λ s below own fails earlier.
          let at = element t.sets s below in
          let node = get_or at.0.members 0 0 in
          first_other g first.0 s node fails (λ other is_other.
          none (Err (stops.Forgets (record { player = first.0; set = at.0.label; first_node = node; second_node = other }))) (record {
            players_before = first.3;
            forgets = record {
              number = s;
              set = at.0;
              stands_at = at.1;
              own = sym (owner-at t s at.0 at.1) ∙ own;
              sets_before = earlier;
              label_is = refl;
              first_is = first_member g s at.0.members (members-are t s at.0 valid at.1);
              second_is = is_other;
            };
          })))
    ])
