use Rattle.std.proofs.Common.{◌≡◌, ◌+◌, ◌++◌, ℕ, List, map, length, sym, ap, ◌∙◌, subst, arith}
use Rattle.game_theory.specs.Profiles.{IsProfile, profile_count, number_of}
use Rattle.game_theory.specs.Lines.{line_text, lines_text}
use Rattle.game_core.specs.TreeGame.{game_of_tree}
use Rattle.enumpure.specs.Replies.{plays_best}
use Rattle.enumpure_trees.specs.Listing.{Listing}
use Rattle.enumpure_trees.specs.Ranks.{lines_below, rank_line, ranked_plays_best}
use Rattle.enumpure_trees.specs.TreeEquilibria.{profile_line}
use Rattle.enumpure.proofs.ListedLineLemmas.{text-none, text-push, text-skip}
use Rattle.enumpure_trees.proofs.SortedOrderLemmas.{orders-counts, IsRanked-ordered}
use Rattle.enumpure_trees.proofs.listing.Lines.push.Goals as goal
use Rattle.enumpure_trees.proofs.listing.Lines.push.Goals.{then-is_mutual+in_ok-behaviour+in_ok-push_line, else-is_mutual}

-- the lines with ranks below n, after a text, of one listing and the other
below_same : (text : List ℕ) {l k : Listing} → l ≡ k → (n : ℕ) → text ++ lines_text (lines_below (game_of_tree l.tree) l.reduced.choices l.orders (plays_best l.all_best) n) ≡ text ++ lines_text (lines_below (game_of_tree k.tree) k.reduced.choices k.orders (plays_best k.all_best) n)
below_same text e n = ap (λ l. text ++ lines_text (lines_below (game_of_tree l.tree) l.reduced.choices l.orders (plays_best l.all_best) n)) e

pub loop-rank-init : goal.loop-rank-init
loop-rank-init c =
    let l = c.args.self.now in
    text-none (rank_line (game_of_tree l.tree) l.reduced.choices l.orders) (ranked_plays_best l.reduced.choices l.orders (plays_best l.all_best)) c.args.text.now.items

pub set_ordered-requires-clause-profiles : goal.set_ordered-requires-clause-profiles
set_ordered-requires-clause-profiles c =
    let orders = map (λ v. v.items) c.self.inside.orders.now in
    c.self.invariant.best_replies ∙ ap profile_count (sym (orders-counts c.self.inside.reduced.now.choices orders c.self.invariant.orders))

pub is_mutual-requires : goal.is_mutual-requires
is_mutual-requires c =
    let orders = map (λ v. v.items) c.self.inside.orders.now in
    subst (λ l. IsProfile (map length l.reduced.choices) c.set_ordered.new.profile) c.self.view_is
    (IsRanked-ordered c.self.inside.reduced.now.choices orders c.loop-rank.rank c.set_ordered.new.profile c.self.invariant.orders (omega (arith, c.self.invariant.best_replies)) c.set_ordered.ensures).is_profile

pub from_reduced-requires-clause-profile : goal.from_reduced-requires-clause-profile
from_reduced-requires-clause-profile c =
    let orders = map (λ v. v.items) c.self.inside.orders.now in
    (IsRanked-ordered c.self.inside.reduced.now.choices orders c.loop-rank.rank c.set_ordered.new.profile c.self.invariant.orders (omega (arith, c.self.invariant.best_replies)) c.set_ordered.ensures).is_profile

pub loop-rank-preserved : goal.loop-rank-preserved
loop-rank-preserved c =
    let t = game_of_tree c.self.inside.tree.now in
    let strategies = c.self.inside.reduced.now.choices in
    let orders = map (λ v. v.items) c.self.inside.orders.now in
    let best_replies = c.self.inside.all_best.now in
    let r = c.loop-rank.rank in
    let text = c.loop-rank.text.items in
    let is = IsRanked-ordered strategies orders r c.set_ordered.new.profile c.self.invariant.orders (omega (arith, c.self.invariant.best_replies)) c.set_ordered.ensures in
    let below = below_same c.args.text.now.items in
    let listed_ones = (c.is_mutual.ensures ∙ sym (ap (λ l. plays_best l.all_best (number_of (map length l.reduced.choices) c.set_ordered.new.profile)) c.self.view_is)) ∙ ap (λ p. plays_best best_replies (number_of (map length strategies) p)) is.profile_is in
    elim c.if-is_mutual.branch [
      | then-is_mutual+in_ok-behaviour+in_ok-push_line w ↦
          let entries = w.entries.ensures ∙ w.in_ok-behaviour.ensures {u = tt} ∙ ap (profile_line t strategies) is.profile_is in
          let pushed = ap (λ v. v.items) w.text-is ∙ w.in_ok-push_line.ensures.line ∙ ap (λ v. text ++ line_text v) entries in
          pushed ∙ text-push (rank_line t strategies orders) (ranked_plays_best strategies orders (plays_best best_replies)) r c.args.text.now.items text (c.loop-rank.invariant ∙ sym (below c.self.view_is r)) (sym listed_ones ∙ w.if-is_mutual.true)
          ∙ below c.self.view_is (r + 1)
      | else-is_mutual w ↦ ap (λ v. v.items) w.text-is ∙ text-skip (rank_line t strategies orders) (ranked_plays_best strategies orders (plays_best best_replies)) r c.args.text.now.items text (c.loop-rank.invariant ∙ sym (below c.self.view_is r)) (sym listed_ones ∙ w.if-is_mutual.false)
          ∙ below c.self.view_is (r + 1)
    ]
