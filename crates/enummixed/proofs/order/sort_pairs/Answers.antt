use Rattle.std.proofs.Common.{ℕ, ◌+◌, ◌∙◌, List, get_or, map, rules, ap}
use Rattle.std.specs.Ordering.{is_lt}
use Rattle.std.proofs.lemmas.Fn.{always_returns_same}
use Rattle.enummixed.proofs.RankLemmas.{pairs-ranked}
use Rattle.enummixed.proofs.order.sort_pairs.Goals as goal

pub returns-clause-sorted : goal.returns-clause-sorted
returns-clause-sorted c = λ k d z l.
    let firsts = map (λ v. v.items) c.args.firsts.now in
    let seconds = map (λ v. v.items) c.args.seconds.now in
    let first-ranks = c.in_ok-first_ranks.first_ranks.items in
    let second-ranks = c.in_ok-second_ranks.second_ranks.items in
    let sorted = c.sort_unstable_by_key.ensures.sorted (λ p. (get_or first-ranks p.0 0, get_or second-ranks p.1 0)) (always_returns_same _ _ _ (λ a r q k. search rules)) in
    let pairs : List (ℕ × ℕ) = c.sort_unstable_by_key.new.self in
    ap is_lt (pairs-ranked firsts seconds first-ranks second-ranks c.in_ok-first_ranks.ensures c.in_ok-second_ranks.ensures (get_or pairs (k + 1) d) (get_or pairs k d)) ∙ sorted k d z l
