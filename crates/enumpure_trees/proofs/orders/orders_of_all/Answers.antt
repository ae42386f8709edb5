use Rattle.std.proofs.Common.{ℕ, ◌+◌, ◌<◌, ◌≡◌, ◌++◌, List, [], ◌∷◌, length, map, get_or, sym, ap, ◌∙◌, subst, arith}
use Rattle.std.proofs.lemmas.List.{length-map, length_push, map-append}
use Rattle.game_core.specs.Table.{IsTable}
use Rattle.game_core.specs.TreeGame.{game_of_tree}
use Rattle.enumpure_trees.specs.StrategyOrders.{AreToldApart, IsSortedOrder}
use Rattle.enumpure_trees.proofs.FormSizeLemmas.{few_strategies}
use Rattle.enumpure_trees.proofs.SortedOrderLemmas.{sorted-push, seen-at}
use Rattle.enumpure_trees.proofs.CompletedListLemmas.{AreToldApart-strategies}
use Rattle.enumpure_trees.proofs.orders.orders_of_all.Goals as goal
use Rattle.enumpure_trees.proofs.orders.orders_of_all.Goals.{After-deref}

-- the loop's player is one of the tree's
inside : (c : After-deref) → c.loop-player.player < length c.args.tree.now.players
inside c = omega (arith, ap length c.players-player-end.ensures.players, ap (λ t. length t.players) c.table.ensures, ap length c.requires.form.players_are)

-- the strategies are the player's
strategies-seen : (c : After-deref) → map (λ w. w.items) c.deref.result.now ≡ get_or c.args.reduced.now.choices c.loop-player.player []
strategies-seen c =
    ap (map (λ w. w.items)) c.deref.ensures.value ∙ seen-at (λ v. map (λ w. w.items) v.items) c.lists.result.now c.args.reduced.now.choices c.loop-player.player c.index-lists-player.result [] (c.lists.ensures ∙ c.choices.ensures) (omega (arith, inside c, c.requires.form.are_strategies.one_for_each)) c.index-lists-player.is

pub order_of-requires-clause-few : goal.order_of-requires-clause-few
order_of-requires-clause-few c =
    let valid = c.trees_are_game_trees.ensures c.args.tree.now c.players.ensures.valid in
    omega (arith, ap length (strategies-seen c), length-map c.deref.result.now (λ w. w.items), few_strategies c.args.tree.now c.args.reduced.now c.loop-player.player valid c.requires.form (subst IsTable c.table.ensures c.players-player-end.ensures.valid) (inside c))

pub order_of-requires-clause-told : goal.order_of-requires-clause-told
order_of-requires-clause-told c =
    let valid = c.trees_are_game_trees.ensures c.args.tree.now c.players.ensures.valid in
    subst AreToldApart (sym (strategies-seen c)) (AreToldApart-strategies (game_of_tree c.args.tree.now) c.args.reduced.now.choices c.loop-player.player valid c.requires.form.are_strategies (inside c))

pub loop-player-preserved : goal.loop-player-preserved
loop-player-preserved c =
    let choices = c.args.reduced.now.choices in
    let player = c.loop-player.player in
    let items = (c.in_ok-push.ensures {u = tt}).items in
    let last = c.in_ok-order_of.field-0.items in
    let orders = map (λ v. v.items) c.loop-player.orders.items in
    let seen : map (λ v. v.items) c.push.new.self.items ≡ orders ++ last ∷ [] = ap (map (λ v. v.items)) items ∙ map-append (λ v. v.items) c.loop-player.orders.items (c.in_ok-order_of.field-0 ∷ []) in
    let long : length orders ≡ player = length-map c.loop-player.orders.items (λ v. v.items) ∙ c.loop-player.invariant.one_for_each in
    let inside : player < length choices = omega (arith, ap length c.players-player-end.ensures.players, ap (λ t. length t.players) c.table.ensures, ap length c.requires.form.players_are, c.requires.form.are_strategies.one_for_each) in
    let strategies = ap (map (λ w. w.items)) c.deref.ensures.value ∙ seen-at (λ v. map (λ w. w.items) v.items) c.lists.result.now choices player c.index-lists-player.result [] (c.lists.ensures ∙ c.choices.ensures) inside c.index-lists-player.is in
    let here : IsSortedOrder (get_or choices player []) last = subst (λ (x : List (List ℕ)). IsSortedOrder x last) strategies (c.in_ok-order_of.ensures {u = tt}) in
    record {
      one_for_each = ap length items ∙ length_push c.loop-player.orders.items c.in_ok-order_of.field-0 ∙ ap (λ k. k + 1) c.loop-player.invariant.one_for_each;
      are_sorted = λ i l. subst (λ (x : List (List ℕ)). IsSortedOrder (get_or choices i []) (get_or x i [])) (sym seen) (sorted-push choices orders last player long c.loop-player.invariant.are_sorted here i l);
    }

pub returns : goal.returns
returns c =
    let long = length-map c.loop-player.orders.items (λ v. v.items) ∙ c.loop-player.invariant.one_for_each in
    let all : c.loop-player.player ≡ length c.args.reduced.now.choices = omega (arith, ap length c.players-player-end.ensures.players, ap (λ t. length t.players) c.table.ensures, ap length c.requires.form.players_are, c.requires.form.are_strategies.one_for_each) in
    record { one_for_each = long ∙ all; are_sorted = λ i l. c.loop-player.invariant.are_sorted i (omega arith) }
