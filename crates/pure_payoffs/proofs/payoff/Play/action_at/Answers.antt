use Rattle.std.proofs.Common.{ℕ, ◌-◌, ◌≡◌, ◌∙◌, ◌<◌, List, [], sym, ap, map, get_or, length, subst, arith}
use Rattle.std.proofs.lemmas.List.{length-map, get_or-map, get_or_default}
use Rattle.reduced_strategies.specs.StrategicForm.{list_of}
use Rattle.pure_payoffs.specs.Choices.{AreActions, AreChoices, AreReduced, chosen_by}
use Rattle.pure_payoffs.specs.Plays.{game_of}
use Rattle.pure_payoffs.proofs.PlaceLemmas.{owner-plays, owner-strategies, strategy-within, place-within, completed-read, strategy-read}
use Rattle.pure_payoffs.proofs.payoff.Play.action_at.Goals as goal
use Rattle.pure_payoffs.proofs.payoff.Play.action_at.Goals.{After-index-strategies-owner, After-index-strategy, In-Reduced}

-- ---- a profile of reduced strategies
-- the players' strategies
abbrev lists : In-Reduced → List (List (List ℕ))
lists c = map (λ v. map (λ w. w.items) v.items) c.in-Reduced.strategies.now

reduced : (c : In-Reduced) → AreReduced (game_of c.args.self.now) c.in-Reduced.places.now (lists c) c.in-Reduced.profile.now
reduced c = subst (AreChoices (game_of c.args.self.now)) c.in-Reduced.is c.requires.play.choices_are

pub bounds-profile-owner : goal.bounds-profile-owner
bounds-profile-owner c =
    let here = (goal.at.bounds-profile-owner c).In-Reduced in
    owner-plays _ _ _ _ c.requires.play.tree (reduced here) _ _ c.requires.set c.requires.owner

-- the owner has strategies
inside : (c : In-Reduced) → c.args.owner < length c.in-Reduced.strategies.now
inside c = omega (arith, owner-strategies _ _ _ _ c.requires.play.tree (reduced c) _ _ c.requires.set c.requires.owner, length-map c.in-Reduced.strategies.now (λ v. map (λ w. w.items) v.items))

pub bounds-strategies-owner : goal.bounds-strategies-owner
bounds-strategies-owner c = inside (goal.at.bounds-strategies-owner c).In-Reduced

pub bounds-places-set : goal.bounds-places-set
bounds-places-set c =
    let here = (goal.at.bounds-places-set c).In-Reduced in
    omega (arith, (reduced here).places_are.one_for_each)

-- the number of the owner's strategy is that of one
number-within : (c : After-index-strategies-owner) → get_or c.in-Reduced.profile.now c.args.owner 0 < length (get_or c.in-Reduced.strategies.now c.args.owner c.index-strategies-owner.result).items
number-within c =
    let here = (goal.at.After-index-strategies-owner c).In-Reduced in
    let list = get_or c.in-Reduced.strategies.now c.args.owner c.index-strategies-owner.result in
    let same = get_or-map (λ v. map (λ w. w.items) v.items) c.in-Reduced.strategies.now c.args.owner c.index-strategies-owner.result [] (inside here) in
    let within = strategy-within _ _ _ _ c.requires.play.tree (reduced here) _ _ c.requires.set c.requires.owner in
    omega (arith, within, ap length same, length-map list.items (λ w. w.items))

pub index-strategy-requires : goal.index-strategy-requires
index-strategy-requires c =
    let within = subst (λ v. get_or c.in-Reduced.profile.now c.args.owner 0 < length v.items) (sym c.index-strategies-owner.is) (number-within (goal.at.index-strategy-requires c).After-index-strategies-owner) in
    rw c.index-strategies-owner.result.ok.0 within

-- the strategy is the owner's in the profile
strategy-is : (c : After-index-strategy) → list_of (map (λ v. map (λ w. w.items) v.items) c.in-Reduced.strategies.now) c.in-Reduced.profile.now c.args.owner ≡ c.index-strategy.result.now.items
strategy-is c =
    let before = (goal.at.After-index-strategy c).After-index-strategies-owner in
    strategy-read (λ v. v.items) (λ w. w.items) c.in-Reduced.strategies.now c.args.owner _ c.index-strategies-owner.result c.index-strategy.result.now (inside (goal.at.After-index-strategy c).In-Reduced) (number-within before)
    (c.index-strategy.ensures ∙ ap (λ v. get_or v.items (get_or c.in-Reduced.profile.now c.args.owner 0) c.index-strategy.result.now) c.index-strategies-owner.is)

-- the set's place is one of the strategy's
at-place : (c : After-index-strategy) → get_or c.in-Reduced.places.now c.args.set 0 < length c.index-strategy.result.now.items
at-place c =
    let here = (goal.at.After-index-strategy c).In-Reduced in
    rw (strategy-is c) at (place-within _ _ _ _ c.requires.play.tree (reduced here) _ _ c.requires.set c.requires.owner)

pub index-requires : goal.index-requires
index-requires c = rw c.index-strategy.result.now.ok.0 (at-place (goal.at.index-requires c).After-index-strategy)

pub returns-in-Reduced : goal.returns-in-Reduced
returns-in-Reduced c =
    let here = (goal.at.returns-in-Reduced c).In-Reduced in
    let before = (goal.at.returns-in-Reduced c).After-index-strategy in
    let place = get_or c.in-Reduced.places.now c.args.set 0 in
    c.saturating_sub.ensures
    ∙ ap (λ x. x - 1) (c.index.ensures ∙ get_or_default c.index-strategy.result.now.items place c.index.result.now 0 (at-place before) ∙ ap (λ v. get_or v place 0) (sym (strategy-is before)))
    ∙ sym (completed-read _ _ _ _ c.requires.play.tree (reduced here) _ _ c.requires.set c.requires.owner)
    ∙ ap (λ choices. chosen_by (game_of c.args.self.now) choices c.args.set) (sym c.in-Reduced.is)

-- ---- actions
pub bounds-actions-set : goal.bounds-actions-set
bounds-actions-set c =
    let are : AreActions (game_of c.args.self.now) c.in-Actions.actions.now = subst (AreChoices (game_of c.args.self.now)) c.in-Actions.is c.requires.play.choices_are in
    omega (arith, are.one_for_each)

pub returns-in-Actions : goal.returns-in-Actions
returns-in-Actions c = ap (λ choices. chosen_by (game_of c.args.self.now) choices c.args.set) (sym c.in-Actions.is)
