-- The lines of all pure profiles of a tree have one length.
use Rattle.std.proofs.Common.{ℕ, ◌≡◌, ◌≢◌, ◌⊎◌, inl, inr, List, length, map, sym, ap, ◌∙◌}
use Rattle.std.specs.List.{sum_by}
use Rattle.std.proofs.lemmas.Bool.{cases_eq}
use Rattle.game_theory.specs.TreeEntries.{tree_entries}
use Rattle.game_theory.specs.Profiles.{IsProfile}
use Rattle.game_theory.specs.Lines.{line_text}
use Rattle.game_theory.specs.Trees.{Tree, IsTree}
use Rattle.game_theory.specs.Behaviour.{pure, IsWholeChoice}
use Rattle.reduced_strategies.specs.StrategicForm.{AreStrategies, completed}
use Rattle.enumpure.proofs.LineLengthLemmas.{length-line_none, length-line_text}
use Rattle.enumpure.proofs.ProfilePartLemmas.{HaveStrategies-profile}
use Rattle.enumpure_trees.specs.TreeEquilibria.{profile_line}
use Rattle.enumpure_trees.proofs.EquilibriumLineLemmas.{completed-actions}
use Rattle.game_theory.specs.OwnSets.{player_sets}
use Rattle.game_theory.proofs.PlayerSetLemmas.{IsProfile-whole, tree_entries-profile}

-- the lines of two choices of actions are of one length
lengths-same : (t : Tree) (f g : ℕ → ℕ) → IsWholeChoice t f → IsWholeChoice t g → length (line_text (tree_entries t (pure f))) ≡ length (line_text (tree_entries t (pure g)))
lengths-same t f g a b = go (cases_eq (sum_by (λ n. n) counts) 0)
  where
    counts : List ℕ
    counts = map t.actions (player_sets t)

    go : (sum_by (λ n. n) counts ≡ 0) ⊎ (sum_by (λ n. n) counts ≢ 0) → length (line_text (tree_entries t (pure f))) ≡ length (line_text (tree_entries t (pure g)))
    go (inl e) =
        let some = HaveStrategies-profile counts (map f (player_sets t)) (IsProfile-whole t f a) in
        ap (λ v. length (line_text v)) (tree_entries-profile t f) ∙ length-line_none counts (map f (player_sets t)) some e ∙ sym (length-line_none counts (map g (player_sets t)) some e) ∙ ap (λ v. length (line_text v)) (sym (tree_entries-profile t g))
    go (inr e) =
        let some = HaveStrategies-profile counts (map f (player_sets t)) (IsProfile-whole t f a) in
        ap (λ v. length (line_text v)) (tree_entries-profile t f) ∙ length-line_text counts (map f (player_sets t)) some e ∙ sym (length-line_text counts (map g (player_sets t)) some e) ∙ ap (λ v. length (line_text v)) (sym (tree_entries-profile t g))

-- so are those of two profiles
pub line_lengths-same : (t : Tree) (strategies : List (List (List ℕ))) (one other : List ℕ) → IsTree t → AreStrategies t strategies → IsProfile (map length strategies) one → IsProfile (map length strategies) other
    → length (line_text (profile_line t strategies one)) ≡ length (line_text (profile_line t strategies other))
line_lengths-same t strategies one other w a f g =
    lengths-same t (completed t strategies one) (completed t strategies other) (completed-actions t strategies one w a f) (completed-actions t strategies other w a g)
