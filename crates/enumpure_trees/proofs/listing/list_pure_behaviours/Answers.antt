use Rattle.std.proofs.Common.{◌*◌, ◌≡◌, inr, length, map, refl, sym, ap, ap₂, ◌∙◌, subst, arith, rules}
use Rattle.std.proofs.Math.ListN.{replicate}
use Rattle.std.specs.List.{count_by}
use Rattle.lists.proofs.NumberLemmas.{above_quotient}
use Rattle.game_core.specs.Limits.{most_text}
use Rattle.game_theory.specs.Profiles.{IsProfile}
use Rattle.game_theory.specs.Lines.{lines_text}
use Rattle.game_core.specs.Table.{game_of}
use Rattle.game_core.specs.TreeGame.{game_of_tree}
use Rattle.enumpure.specs.Replies.{plays_best, AreMutualBestReplies}
use Rattle.enumpure.proofs.OneTextLaws.{text-kept, text-refused}
use Rattle.enumpure_trees.specs.TreeEquilibria.{IsTreeEquilibriaText}
use Rattle.enumpure_trees.specs.Orders.{AreOrders}
use Rattle.enumpure_trees.specs.Ranks.{lines_below}
use Rattle.enumpure_trees.proofs.FormSizeLemmas.{IsProfile-first}
use Rattle.enumpure_trees.proofs.SortedOrderLemmas.{AreOrders-sorted}
use Rattle.enumpure_trees.proofs.TextLemmas.{AreListed-made, length-best_replies, IsTreeEquilibriaText-listed, length-listed, below_limit}
use Rattle.enumpure_trees.proofs.listing.list_pure_behaviours.Goals as goal

pub line_length-requires-clause-profile : goal.line_length-requires-clause-profile
line_length-requires-clause-profile c =
    let tree = c.args.tree.now in
    let valid = c.trees_are_game_trees.ensures tree c.players.ensures.valid in
    let zeros = c.deref.ensures.value ∙ c.in_ok-profile.ensures {u = tt} ∙ ap (λ names. replicate (length names) 0) c.players.ensures.players in
    subst (IsProfile (map length c.args.reduced.now.choices)) (sym zeros) (IsProfile-first tree c.args.reduced.now valid c.requires.form)

pub invariant_of-lines : goal.invariant_of-lines
invariant_of-lines c =
    let best_replies = c.in_ok-all_best.all_best.items in
    let all_best = subst (λ t. AreMutualBestReplies (game_of t) best_replies) c.table.ensures (c.in_ok-all_best.ensures {u = tt}) in
    record {
      form = c.requires.form;
      orders = subst (λ os. AreOrders c.args.reduced.now.choices (map (λ v. v.items) os)) (sym c.deref-3.ensures.value) (AreOrders-sorted c.args.reduced.now.choices (map (λ v. v.items) c.in_ok-orders.orders.items) (c.in_ok-orders.ensures {u = tt}));
      best_replies = ap length c.deref-4.ensures.value ∙ length-best_replies c.args.tree.now c.args.reduced.now best_replies c.requires.form all_best;
    }

pub returns-then-count-each : goal.returns-then-count-each
returns-then-count-each c =
    let tree = c.args.tree.now in
    let form = c.args.reduced.now in
    let orders = map (λ v. v.items) c.in_ok-orders.orders.items in
    let best_replies = c.in_ok-all_best.all_best.items in
    let listed = AreListed-made tree form orders best_replies c.table.result.now (c.trees_are_game_trees.ensures tree c.players.ensures.valid) c.requires.form (c.in_ok-orders.ensures {u = tt}) (c.in_ok-all_best.ensures {u = tt}) c.table.ensures in
    let counted : c.count-count.result ≡ count_by (λ b. b) c.deref-2.result.now = search rules in
    let long = length-listed tree form orders best_replies c.in_ok-each.each listed (c.in_ok-each.ensures {u = tt}).each in
    let above = above_quotient most_text c.in_ok-each.each c.count-count.result (c.in_ok-each.ensures {u = tt}).some c.if-count-each.true in
    let same = ap (λ n. n * c.in_ok-each.each) (counted ∙ ap (count_by (λ b. b)) c.deref-2.ensures.value) in
    let text = lines_text (lines_below (game_of_tree tree) form.choices orders (plays_best best_replies) (length best_replies)) in
    inr (text-refused (IsTreeEquilibriaText (game_of_tree tree) form.choices) text _ (IsTreeEquilibriaText-listed tree form orders best_replies _ listed refl) (omega (arith, long, above, same)) c.too_long_text.ensures)

pub returns : goal.returns
returns c =
    let tree = c.args.tree.now in
    let form = c.args.reduced.now in
    let orders = map (λ v. v.items) c.in_ok-orders.orders.items in
    let best_replies = c.in_ok-all_best.all_best.items in
    let listed = AreListed-made tree form orders best_replies c.table.result.now (c.trees_are_game_trees.ensures tree c.players.ensures.valid) c.requires.form (c.in_ok-orders.ensures {u = tt}) (c.in_ok-all_best.ensures {u = tt}) c.table.ensures in
    let text = c.in_ok-text.ensures {u = tt} ∙ ap₂ (λ os fs. lines_text (lines_below (game_of_tree tree) form.choices (map (λ v. v.items) os) (plays_best fs) (length fs))) c.deref-3.ensures.value c.deref-4.ensures.value in
    let counted : c.count-count.result ≡ count_by (λ b. b) c.deref-2.result.now = search rules in
    let long = length-listed tree form orders best_replies c.in_ok-each.each listed (c.in_ok-each.ensures {u = tt}).each in
    let below = below_limit most_text c.in_ok-each.each c.count-count.result (c.in_ok-each.ensures {u = tt}).some c.if-count-each.false in
    let same = ap (λ n. n * c.in_ok-each.each) (counted ∙ ap (count_by (λ b. b)) c.deref-2.ensures.value) in
    text-kept (IsTreeEquilibriaText (game_of_tree tree) form.choices) c.in_ok-text.field-0.items (IsTreeEquilibriaText-listed tree form orders best_replies c.in_ok-text.field-0.items listed text) (omega (arith, ap length text, long, below, same))
