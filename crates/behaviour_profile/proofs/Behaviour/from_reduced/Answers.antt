use Rattle.std.proofs.Common.{◌<◌, ◌≡◌, ◌∙◌, sym, ap, subst, length, map, arith}
use Rattle.std.proofs.lemmas.List.{length-map}
use Rattle.game_theory.specs.Profiles.{IsProfile}
use Rattle.game_theory.proofs.ProfileNumberLemmas.{length-profile}
use Rattle.game_core.specs.TreeGame.{game_of_tree}
use Rattle.reduced_strategies.specs.StrategicForm.{AreStrategies, list_of}
use Rattle.behaviour_profile.proofs.BehaviourEntryLemmas.{number-within, strategy-is, list_of-long, entries_below-push}
use Rattle.behaviour_profile.proofs.Behaviour.from_reduced.Goals as goal
use Rattle.behaviour_profile.proofs.Behaviour.from_reduced.Goals.{After-lists, After-deref}

-- the player is one of the tree's
is_player : (c : After-lists) → c.loop-player.player < length c.args.tree.now.players
is_player c = omega (arith, ap length c.players-player-end.ensures.players)

-- the lists that are read are the players' reduced strategies
are_strategies : (c : After-lists) → AreStrategies (game_of_tree c.args.tree.now) (map (λ v. map (λ w. w.items) v.items) c.lists.result.now)
are_strategies c = subst (AreStrategies (game_of_tree c.args.tree.now)) (sym (c.lists.ensures ∙ c.choices.ensures)) c.requires.form.are_strategies

-- and the profile is one of theirs
is_profile : (c : After-lists) → IsProfile (map length (map (λ v. map (λ w. w.items) v.items) c.lists.result.now)) c.args.profile.now
is_profile c = subst (λ x. IsProfile (map length x) c.args.profile.now) (sym (c.lists.ensures ∙ c.choices.ensures)) c.requires.profile

pub bounds-profile-player : goal.bounds-profile-player
bounds-profile-player c = omega (arith, length-profile (map length c.args.reduced.now.choices) c.args.profile.now c.requires.profile, length-map c.args.reduced.now.choices length, c.requires.form.are_strategies.one_for_each, ap length c.players-player-end.ensures.players)

pub index-strategy-requires : goal.index-strategy-requires
index-strategy-requires c =
    let b = (goal.at.index-strategy-requires c).After-lists in
    rw c.index-lists-player.result.ok.0 (number-within (λ v. v.items) (λ w. w.items) (game_of_tree c.args.tree.now) c.lists.result.now c.args.profile.now c.loop-player.player c.index-lists-player.result (are_strategies b) (is_profile b) (is_player b) c.index-lists-player.is)

-- the strategy that is read is the player's in the profile
is_strategy : (c : After-deref) → c.deref.result.now ≡ list_of c.args.reduced.now.choices c.args.profile.now c.loop-player.player
is_strategy c =
    let b = (goal.at.After-deref c).After-lists in
    c.deref.ensures.value
    ∙ sym (strategy-is (λ v. v.items) (λ w. w.items) (game_of_tree c.args.tree.now) c.lists.result.now c.args.profile.now c.loop-player.player c.index-lists-player.result (are_strategies b) (is_profile b) (is_player b) c.index-lists-player.is c.index-strategy.result.now c.index-strategy.ensures)
    ∙ ap (λ x. list_of x c.args.profile.now c.loop-player.player) (c.lists.ensures ∙ c.choices.ensures)

pub push_player-requires : goal.push_player-requires
push_player-requires c =
    let b = (goal.at.push_player-requires c).After-lists in
    ap length (is_strategy c) ∙ list_of-long (game_of_tree c.args.tree.now) c.args.reduced.now.choices c.args.profile.now c.loop-player.player c.requires.form.are_strategies c.requires.profile (is_player b)

pub loop-player-preserved : goal.loop-player-preserved
loop-player-preserved c =
    entries_below-push (game_of_tree c.args.tree.now) c.args.reduced.now.choices c.args.profile.now c.deref.result.now _ c.loop-player.entries.items c.loop-player.player (is_strategy (goal.at.loop-player-preserved c).After-deref) c.loop-player.invariant (c.in_ok-push_player.ensures {u = tt})
