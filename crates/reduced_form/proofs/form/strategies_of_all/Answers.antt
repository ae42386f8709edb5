use Rattle.std.proofs.Common.{ℕ, ◌+◌, ◌≡◌, List, [], ◌∷◌, ◌++◌, length, map, get_or, sym, ap, ◌∙◌, subst, arith}
use Rattle.std.proofs.lemmas.List.{length-map, length_push, map-append}
use Rattle.std.proofs.lemmas.Option.{get_or_from_slice_get, slice_get_within}
use Rattle.game_core.specs.TreeGame.{game_of_tree}
use Rattle.reduced_strategies.specs.Choices.{AreReducedStrategies}
use Rattle.reduced_strategies.specs.StrategicForm.{AreStrategies}
use Rattle.reduced_form.proofs.FormCountLemmas.{reduced-push}
use Rattle.reduced_form.proofs.form.strategies_of_all.Goals as goal

pub loop-player-preserved : goal.loop-player-preserved
loop-player-preserved c =
    let t = game_of_tree c.args.decisions.now in
    let lists = map (λ v. map (λ w. w.items) v.items) c.loop-player.strategies.items in
    let last = map (λ w. w.items) c.in_ok-list.field-0.items in
    let items = (c.in_ok-push.ensures {u = tt}).items in
    let seen : map (λ v. map (λ w. w.items) v.items) c.push.new.self.items ≡ lists ++ last ∷ [] = ap (map (λ v. map (λ w. w.items) v.items)) items ∙ map-append (λ v. map (λ w. w.items) v.items) c.loop-player.strategies.items (c.in_ok-list.field-0 ∷ []) in
    let long : length lists ≡ c.loop-player.player = length-map c.loop-player.strategies.items (λ v. map (λ w. w.items) v.items) ∙ c.loop-player.invariant.one_for_each in
    let here : AreReducedStrategies t (length lists) last = subst (λ k. AreReducedStrategies t k last) (sym long) (c.in_ok-list.ensures {u = tt}) in
    record {
      one_for_each = ap length items ∙ length_push c.loop-player.strategies.items c.in_ok-list.field-0 ∙ ap (λ k. k + 1) c.loop-player.invariant.one_for_each;
      are_reduced = λ i l. subst (λ (x : List (List (List ℕ))). AreReducedStrategies t i (get_or x i [])) (sym seen) (reduced-push t lists last c.loop-player.invariant.are_reduced here i (omega (arith, ap length seen, length_push lists last)));
    }

pub returns : goal.returns
returns c =
    let t = game_of_tree c.args.decisions.now in
    let lists = map (λ v. map (λ w. w.items) v.items) c.loop-player.strategies.items in
    let long : length lists ≡ c.loop-player.player = length-map c.loop-player.strategies.items (λ v. map (λ w. w.items) v.items) ∙ c.loop-player.invariant.one_for_each in
    subst (AreStrategies t) (sym c.new.ensures) (record {
      one_for_each = omega (arith, long, ap length c.players-players.ensures.players, ap (λ t. length t.players) c.tree.ensures);
      are_reduced = λ i list h. subst (AreReducedStrategies t i) (get_or_from_slice_get lists i list [] h) (c.loop-player.invariant.are_reduced i (slice_get_within lists i list h));
    })
