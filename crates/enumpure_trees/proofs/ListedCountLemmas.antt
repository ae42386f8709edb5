-- The text of listed lines of one length has that length for each entry.
use Rattle.std.proofs.Common.{ℕ, ◌*◌, ◌<◌, ◌≡◌, Bool, List, length, map, sym, ap, ◌∙◌}
use Rattle.std.specs.List.{count_by}
use Rattle.game_theory.specs.Profiles.{profile_count, number_of, strategies_at}
use Rattle.game_theory.specs.Lines.{line_text, lines_text}
use Rattle.game_theory.specs.Trees.{Tree}
use Rattle.enumpure.specs.Replies.{plays_best}
use Rattle.enumpure.proofs.TotalLemmas.{total, one_if, total-best_replies}
use Rattle.game_theory.specs.Ranks.{ranked}
use Rattle.enumpure_trees.specs.Ranks.{rank_line, ranked_plays_best, lines_below}
use Rattle.enumpure.proofs.ListedLineLemmas.{length-listed_ones}
use Rattle.enumpure_trees.proofs.RankSumLemmas.{AllHaveNumbers, total-ordered}

-- the text of all listed lines, where each is of one length, has that length for each entry
pub length-lines_below : (t : Tree) (strategies : List (List (List ℕ))) (orders : List (List ℕ)) (best_replies : List Bool) (n : ℕ) → map length orders ≡ map length strategies → AllHaveNumbers orders → length best_replies ≡ profile_count (map length strategies)
    → ((r : ℕ) → r < length best_replies → length (line_text (rank_line t strategies orders r)) ≡ n)
    → length (lines_text (lines_below t strategies orders (plays_best best_replies) (length best_replies))) ≡ count_by (λ b. b) best_replies * n
length-lines_below t strategies orders best_replies n same h long each =
    length-listed_ones (rank_line t strategies orders) (ranked_plays_best strategies orders (plays_best best_replies)) n (length best_replies) each
    ∙ ap (λ v. v * n) (ap (λ v. total v (λ q. one_if (ranked_plays_best strategies orders (plays_best best_replies) q))) (long ∙ ap profile_count (sym same)) ∙ sums ∙ ap (λ v. total v (λ k. one_if (plays_best best_replies k))) (sym (long ∙ ap profile_count (sym same))) ∙ total-best_replies best_replies)
  where
    sums : total (profile_count (map length orders)) (λ q. one_if (ranked_plays_best strategies orders (plays_best best_replies) q)) ≡ total (profile_count (map length orders)) (λ k. one_if (plays_best best_replies k))
    sums = ap (λ ns. total (profile_count (map length orders)) (λ q. one_if (plays_best best_replies (number_of ns (strategies_at orders (ranked ns q)))))) (sym same) ∙ total-ordered orders (λ k. one_if (plays_best best_replies k)) h
