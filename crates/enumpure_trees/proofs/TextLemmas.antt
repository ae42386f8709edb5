-- The text of the listed lines is that of the tree's equilibria, and its length.
use Rattle.std.proofs.Common.{ℕ, ◌*◌, ◌/◌, ◌<◌, ◌≤◌, ◌≡◌, Bool, List, length, map, ap, subst, ◌∙◌, arith}
use Rattle.std.specs.List.{count_by}
use Rattle.std.proofs.Math.Nat.{mul-le-mul_right}
use Rattle.game_theory.specs.Profiles.{IsProfile, profile_count}
use Rattle.game_theory.specs.Lines.{line_text, lines_text}
use Rattle.game_theory.specs.Trees.{IsTree}
use Rattle.game_core.specs.Table.{GameTable, game_of}
use Rattle.game_core.specs.Tree.{GameTree}
use Rattle.game_core.specs.TreeGame.{game_of_tree}
use Rattle.reduced_form.specs.ReducedForm.{ReducedForm, IsReducedForm}
use Rattle.enumpure.specs.Replies.{plays_best, AreMutualBestReplies}
use Rattle.game_theory.specs.Ranks.{ranked}
use Rattle.enumpure_trees.specs.Ranks.{lines_below}
use Rattle.enumpure_trees.specs.TreeEquilibria.{profile_line, IsTreeEquilibriaText}
use Rattle.enumpure_trees.proofs.ListedLineLemmas.{AreTreeEquilibria-lines_below}
use Rattle.enumpure_trees.proofs.OrderedProfileLemmas.{IsProfile-ordered}
use Rattle.game_theory.proofs.RankLemmas.{IsProfile-ranked}
use Rattle.enumpure_trees.specs.StrategyOrders.{AreSortedOrders}
use Rattle.enumpure_trees.proofs.ListedCountLemmas.{length-lines_below}
use Rattle.enumpure_trees.proofs.FormSizeLemmas.{form-counts}
use Rattle.enumpure_trees.proofs.SortedOrderLemmas.{AreOrders-sorted, orders-counts, AllHaveNumbers-sorted}
use Rattle.enumpure_trees.proofs.MutualReplyLemmas.{AreEquilibria-all_best}

-- orders of a tree's strategies, and best replies of the passing profiles of its reduced form
pub record AreListed (t : GameTree) (form : ReducedForm) (orders : List (List ℕ)) (best_replies : List Bool) : Type 0 where
  pub is_tree : IsTree (game_of_tree t)
  pub is_form : IsReducedForm t form
  pub are_sorted : AreSortedOrders form.choices orders
  pub are_mutual : AreMutualBestReplies (game_of form.table) best_replies

-- the best replies are those of the form's table
pub AreListed-made : (t : GameTree) (form : ReducedForm) (orders : List (List ℕ)) (best_replies : List Bool) (table : GameTable) → IsTree (game_of_tree t) → IsReducedForm t form → AreSortedOrders form.choices orders → AreMutualBestReplies (game_of table) best_replies → table ≡ form.table → AreListed t form orders best_replies
AreListed-made t form orders best_replies table w f s h e = record { is_tree = w; is_form = f; are_sorted = s; are_mutual = subst (λ x. AreMutualBestReplies (game_of x) best_replies) e h }

-- there is a entry for each profile
pub length-best_replies : (t : GameTree) (form : ReducedForm) (best_replies : List Bool) → IsReducedForm t form → AreMutualBestReplies (game_of form.table) best_replies → length best_replies ≡ profile_count (map length form.choices)
length-best_replies t form best_replies f h = h.of_each ∙ ap profile_count (form-counts t form f)

-- the listed lines are those of the equilibria
pub IsTreeEquilibriaText-listed : (t : GameTree) (form : ReducedForm) (orders : List (List ℕ)) (best_replies : List Bool) (text : List ℕ) → AreListed t form orders best_replies → text ≡ lines_text (lines_below (game_of_tree t) form.choices orders (plays_best best_replies) (length best_replies))
    → IsTreeEquilibriaText (game_of_tree t) form.choices text
IsTreeEquilibriaText-listed t form orders best_replies text h e = record {
  lines = lines_below (game_of_tree t) form.choices orders (plays_best best_replies) (profile_count (map length form.choices));
  are_lines = AreTreeEquilibria-lines_below (game_of_tree t) form.choices orders (plays_best best_replies) h.is_tree h.is_form.are_strategies (AreOrders-sorted form.choices orders h.are_sorted) (AreEquilibria-all_best t form best_replies h.is_form h.are_mutual);
  is_text = e ∙ ap (λ n. lines_text (lines_below (game_of_tree t) form.choices orders (plays_best best_replies) n)) (length-best_replies t form best_replies h.is_form h.are_mutual);
}

-- the lines of all profiles are so long
abbrev pub HaveLength : GameTree → ReducedForm → ℕ → Type 0
HaveLength t form n = (profile : List ℕ) → IsProfile (map length form.choices) profile → length (line_text (profile_line (game_of_tree t) form.choices profile)) ≡ n

-- so the text has that length for each entry
pub length-listed : (t : GameTree) (form : ReducedForm) (orders : List (List ℕ)) (best_replies : List Bool) (n : ℕ) → AreListed t form orders best_replies → HaveLength t form n → length (lines_text (lines_below (game_of_tree t) form.choices orders (plays_best best_replies) (length best_replies))) ≡ count_by (λ b. b) best_replies * n
length-listed t form orders best_replies n h each =
    let are = AreOrders-sorted form.choices orders h.are_sorted in
    let long = length-best_replies t form best_replies h.is_form h.are_mutual in
    length-lines_below (game_of_tree t) form.choices orders best_replies n (orders-counts form.choices orders are) (AllHaveNumbers-sorted form.choices orders h.are_sorted) long (λ r l. each _ (IsProfile-ordered form.choices orders (ranked (map length form.choices) r) are (IsProfile-ranked (map length form.choices) r (omega arith))))

-- ---- the limit
-- lines for which it has room
pub below_limit : (most n count : ℕ) → 0 < n → count ≤ most / n → count * n ≤ most
below_limit most n count p l = let room : count * n ≤ (most / n) * n = mul-le-mul_right n l in omega arith
